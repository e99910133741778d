-- Demand 3: after any calls on any area, every kept payload bit equals the bit worked out afresh from the history since the last successful
-- opening, every table still says what the plan says, and each call alters only its own bits.
use mathlib.Core.Path.{◌≡◌, ◌∙◌}
use mathlib.Core.List.{List, [], ◌++◌}
use mathlib.Core.Option.{some}
use Prim.Native.Nat.{ℕ, ◌<◌}
use native.Mathlib.Omega.{arith}
use lib.ListN.{length}
use Rattle.records.specs.Records.{records}
use Rattle.plan.specs.Rows.{tx_of, order_in}
use Rattle.facts.specs.Good.{GoodPlan}
use Rattle.area.specs.Claims.{RxEvent}
use Rattle.tables.specs.Reads.{initial, Reads, Begun}
use Rattle.model.specs.Calls.{Step}
use Rattle.history.specs.Calls.{stepped, after_in}
use Rattle.history.specs.Past.{told, past_of}
use Rattle.history.specs.Fresh.{owner, fresh}
use Rattle.history.specs.Statements.{kept_bit, EveryBitFresh, PlanStays, CallsAlterTheirs}
use Rattle.history.proofs.Later.{Later}
use Rattle.history.proofs.Replay.{turned, replay, replay_fresh}
use Rattle.history.proofs.Always.{Held, always}
use Rattle.history.proofs.Owned.{bit_turns}
use Rattle.history.proofs.Steps.{turns_on}
use Rattle.history.proofs.Only.{only_theirs}

-- each bit is what the events since the opening have made of it, one after the other
abbrev Replayed : List ℕ → List RxEvent → List ℕ → Type 0
Replayed plan log a =
    (t b : ℕ) → t < length (tx_of plan) → b < 64
    → kept_bit plan a t b ≡ replay (turned (order_in (records plan)) (owner plan t b)) log (initial plan t b)

begins : (plan a : List ℕ) → GoodPlan plan → Reads plan a → Begun plan a → Replayed plan [] a
unfolding replay
begins plan a good reads begun t b h l = rw reads.header.order at (begun.payload t b h l)

goes_on :
    (plan : List ℕ) → GoodPlan plan → (log : List RxEvent) (c : Step) → Later c → (a : List ℕ) → Reads plan a → Replayed plan log a
    → Replayed plan (log ++ told (some plan) c a) (stepped a c)
goes_on plan good log c later a reads bits t b h l =
    turns_on good (bit_turns plan good t b (omega (arith, good.counts.tx)) l) (initial plan t b) log c later a reads (bits t b h l)

known :
    (a : List ℕ) (calls : List Step) (plan : List ℕ) → (past_of calls a).plan ≡ some plan
    → Held Replayed plan (past_of calls a).log (after_in a calls)
known = always Replayed begins goes_on

-- ---- the theorems

pub plan_stays : PlanStays
plan_stays a calls plan is = (known a calls plan is).reads

pub every_bit_fresh : EveryBitFresh
unfolding fresh
every_bit_fresh a calls plan is t b h l = (known a calls plan is).holds t b h l ∙ replay_fresh _ _ _ _

pub calls_alter_theirs : CallsAlterTheirs
calls_alter_theirs a calls plan is t b h l =
    let k = known a calls plan is in only_theirs plan k.good (after_in a calls) k.reads t b h l
