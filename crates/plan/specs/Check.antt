-- The check of a plan, in document 01's own order.
use Rattle.std.specs.Prelude.{ℕ, ◌+◌, Bool, List, [], ◌∷◌, eqb, get_or, set, replicate, if◌then◌else◌, Result, Ok, Err}
use Rattle.base.specs.Pick.{pick}
use Rattle.bits.specs.Owners.{owned}
use Rattle.records.specs.declared.record.Fault.{Fault}
use Rattle.records.specs.declared.record.Record.{Record}
use Rattle.records.specs.Views.{by_fault, on_tx, on_destination}
use Rattle.records.specs.Kinds.{stage_of}
use Rattle.records.specs.Records.{records}
use Rattle.plan.specs.Limits.{most_tx}
use Rattle.plan.specs.declared.verdict.Reason.{Reason}
use Rattle.plan.specs.declared.verdict.Reason.TheVariants.{Short, Kind, Place, Count, Range, Order, Data, Owner, Indicator}
use Rattle.plan.specs.declared.verdict.BadRecord.{BadRecord}
use Rattle.plan.specs.declared.verdict.PlanCounts.{PlanCounts}
use Rattle.plan.specs.declared.progress.RowSoFar.{RowSoFar}
use Rattle.plan.specs.declared.progress.Progress.{Progress}
use Rattle.plan.specs.Progress.{row_after, after, start}
use Rattle.plan.specs.Tests.{followed, is_kind, is_whole, may_stand, can_first, has_room, in_range, fits_node, rises, in_data, is_free}
use Rattle.plan.specs.Tests.{indicator_in_data, indicator_is_free}

-- a plan that is refused for a reason, at a record
abbrev pub refused_at : {A : Type 0} → Reason → ℕ → Result A BadRecord
refused_at reason number = Err (record { reason = reason; record_number = number })

-- a plan that is good, with so many nodes, Tx frames and Rx frames
abbrev pub good_with : ℕ → ℕ → ℕ → Result PlanCounts BadRecord
good_with nodes tx rx = Ok (record { nodes = nodes; tx = tx; rx = rx })

-- a test that must be passed
abbrev pub required : Bool → Reason → ℕ → Result (Unit {0}) BadRecord
required test reason number = if test then Ok tt else refused_at reason number

-- and what comes after it
unfoldable pub need : Bool → Reason → ℕ → Result Progress BadRecord → Result Progress BadRecord
need test reason number rest = pick test rest (refused_at reason number)

-- "then 2, 1, 3, 4, 5, 6, 7, 8. At a destination, 7 and 8 for itself, then 9 and 8 for the failure bit, all naming the destination."
unfoldable pub placed : Progress → List ℕ → List ℕ → Record → Result Progress BadRecord
placed p sizes sets r =
    need (may_stand p.stage r) Place p.number
    (need (can_first p.counts r) Place p.number
    (need (has_room p.counts p.row r) Count p.number
    (need (in_range p.counts.nodes r) Range p.number
    (need (fits_node p.counts r) Range p.number
    (need (rises p.row r) Order p.number
    (need (in_data p.counts p.row sizes r) Data p.number
    (need (is_free p.row sets r) Owner p.number
    (need (indicator_in_data p.row sizes r) Indicator p.number
    (need (indicator_is_free p.row sets r) Owner p.number
    (Ok (after p r)))))))))))

-- "At each record, or the end, the missing-follower half of 9 is tried first and names the Rx frame's record; then 2, 1, .."
unfoldable pub judged : Progress → List ℕ → List ℕ → Record → Result Progress BadRecord
judged p sizes sets r =
    need (followed p.row (stage_of r)) Indicator p.row.source
    (need (is_kind r) Kind p.number
    (need (is_whole r) Short p.number
    (placed p sizes sets r)))

-- of the two, the one that a fault has
unfoldable pub fault_reason : Fault → Reason
fault_reason fault = by_fault Kind Kind (λ kind. Short) fault

-- the Tx frames' sizes after a record
unfoldable pub sizes_after : ℕ → List ℕ → Record → List ℕ
sizes_after tx sizes r = on_tx sizes (λ frame. set sizes tx frame.size) r

-- "A destination owns its bits in the Tx frame. An enabled failure indicator owns one bit, at its position, in the Tx frame of the first
-- destination of its frame's first signal."
unfoldable pub sets_after : RowSoFar → List ℕ → Record → List ℕ
sets_after row sets r =
    on_destination sets
    (λ body.
    set sets body.tx.0
    (pick (eqb row.awaits 0)
    (owned (get_or sets body.tx.0 0) body.position row.size)
    (owned (owned (get_or sets body.tx.0 0) body.position row.size) row.position 1)))
    r

-- at the end: "the input is empty", or the plan is good
unfoldable pub ended : Progress → Result PlanCounts BadRecord
ended p =
    pick (followed p.row 0)
    (pick (eqb p.number 0) (refused_at Short 0) (good_with p.counts.nodes p.counts.tx p.counts.rx))
    (refused_at Indicator p.row.source)

-- a refusal ends the check
unfoldable pub verdict_of : Result Progress BadRecord → Result PlanCounts BadRecord → Result PlanCounts BadRecord
verdict_of (Ok q) rest = rest
verdict_of (Err bad) rest = Err bad

-- "The first bad record decides."
unfoldable pub check_on : Progress → List ℕ → List ℕ → List Record → Result PlanCounts BadRecord
check_on p sizes sets [] = ended p
check_on p sizes sets (r ∷ rs) =
    verdict_of (judged p sizes sets r) (check_on (after p r) (sizes_after p.counts.tx sizes r) (sets_after p.row sets r) rs)

unfoldable pub check_plan : List ℕ → Result PlanCounts BadRecord
check_plan plan = check_on start (replicate most_tx 0) (replicate most_tx 0) (records plan)

-- where a record is refused, the sets of owned bits stay as they are
unfoldable pub sets_unless : Result Progress BadRecord → List ℕ → List ℕ → List ℕ
sets_unless (Ok q) sets rest = rest
sets_unless (Err bad) sets rest = sets

-- the sets of owned bits when the check ends
unfoldable pub sets_on : Progress → List ℕ → List ℕ → List Record → List ℕ
sets_on p sizes sets [] = sets
sets_on p sizes sets (r ∷ rs) =
    sets_unless (judged p sizes sets r) sets (sets_on (after p r) (sizes_after p.counts.tx sizes r) (sets_after p.row sets r) rs)

unfoldable pub sets_of : List ℕ → List ℕ
sets_of plan = sets_on start (replicate most_tx 0) (replicate most_tx 0) (records plan)

-- the sets that all records leave, where none is refused: the first one has number n, and row is the Rx frame before it
unfoldable pub sets_fold : ℕ → RowSoFar → List ℕ → List Record → List ℕ
sets_fold n row sets [] = sets
sets_fold n row sets (r ∷ rs) = sets_fold (n + 1) (row_after n row r) (sets_after row sets r) rs
