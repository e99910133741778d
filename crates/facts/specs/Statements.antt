-- What is proved of the check: a plan is good exactly where it has the facts of `GoodPlan`, and what others may use of it.
use Rattle.std.specs.Prelude.{◌≡◌, List, [], ◌∷◌, ◌++◌, ℕ, ◌+◌, ◌≤◌, ◌<◌, length, get_or, replicate, Result, Ok}
use Rattle.records.specs.declared.record.Record.{Record}
use Rattle.records.specs.Records.{records}
use Rattle.plan.specs.declared.verdict.Reason.{Reason}
use Rattle.plan.specs.declared.progress.Progress.{Progress}
use Rattle.plan.specs.declared.verdict.BadRecord.{BadRecord}
use Rattle.plan.specs.Progress.{after, start}
use Rattle.plan.specs.Check.{good_with, refused_at, judged, sizes_after, sets_after, check_plan}
use Rattle.plan.specs.Rows.{width_of, Claim, Row, rows_of, claims_of, tx_of, nodes_in}
use Rattle.facts.specs.Good.{Each, Holds, GoodPlan}
use Rattle.facts.specs.PlanCases.{plan_cases, VerdictsHold}

-- the counts that a good verdict gives are those of the plan's nodes, Tx frames and rows
pub record Answered (plan : List ℕ) (n t r : ℕ) : Type 0 where
  pub nodes : n ≡ nodes_in (records plan)
  pub tx : t ≡ length (tx_of plan)
  pub rx : r ≡ length (rows_of plan)

-- ---- a plan that the check calls good has all the facts

abbrev pub GoodFacts : Type 0
GoodFacts = (plan : List ℕ) (n t r : ℕ) → check_plan plan ≡ good_with n t r → GoodPlan plan × Answered plan n t r

-- ---- and a plan that has all the facts is good, so that nothing else is refused

abbrev pub FactsGood : Type 0
FactsGood = (plan : List ℕ) → GoodPlan plan → check_plan plan ≡ good_with (nodes_in (records plan)) (length (tx_of plan)) (length (rows_of plan))

-- ---- so a plan that is refused lacks one of them

abbrev pub RefusedLacks : Type 0
RefusedLacks = (plan : List ℕ) (reason : Reason) (number : ℕ) → check_plan plan ≡ refused_at reason number → GoodPlan plan → ⊥

-- ---- "The first bad record decides."

-- where the check stands: its progress, and the Tx frames' sizes and owned bits
pub record State : Type 0 where
  pub progress : Progress
  pub sizes : List ℕ
  pub sets : List ℕ

abbrev pub begun : State
begun = record { progress = start; sizes = replicate 256 0; sets = replicate 256 0 }

abbrev pub judged_in : State → Record → Result Progress BadRecord
judged_in s r = judged s.progress s.sizes s.sets r

abbrev pub stepped : State → Record → State
stepped s r =
    record {
      progress = after s.progress r;
      sizes = sizes_after s.progress.counts.tx s.sizes r;
      sets = sets_after s.progress.row s.sets r;
    }

unfoldable pub state_after : State → List Record → State
state_after s [] = s
state_after s (r ∷ rs) = state_after (stepped s r) rs

-- each of some records passes
unfoldable pub AllGo : State → List Record → Type 0
AllGo s [] = Unit {0}
AllGo s (r ∷ rs) = (judged_in s r ≡ Ok (after s.progress r)) × AllGo (stepped s r) rs

-- where the records before one pass and it does not, the verdict is its refusal, whatever comes after it
abbrev pub FirstBad : Type 0
FirstBad =
    (plan : List ℕ) (before rest : List Record) (r : Record) (reason : Reason) (number : ℕ) → records plan ≡ before ++ r ∷ rest
    → AllGo begun before → judged_in (state_after begun before) r ≡ refused_at reason number → check_plan plan ≡ refused_at reason number

-- ---- bounds of a good plan

-- a claim lies in the 64 bits of one of 256 Tx frames
pub record Small (c : Claim) : Type 0 where
  pub frame : c.tx < 256
  pub bits : c.at + width_of c.from ≤ 64

pub record Bounds (plan : List ℕ) (n t r : ℕ) : Type 0 where
  pub nodes : n ≤ 16
  pub tx : t ≤ 256
  pub rx : r ≤ 256
  pub short : length plan ≤ 19490
  pub claims : Each Small (claims_of plan)

abbrev pub GoodBounds : Type 0
GoodBounds = (plan : List ℕ) (n t r : ℕ) → check_plan plan ≡ good_with n t r → Bounds plan n t r

-- ---- "No bit has two owners": claims that hold one bit are one claim

abbrev pub OneOwner : Type 0
OneOwner =
    (plan : List ℕ) → GoodPlan plan → (d : Claim) (i j t b : ℕ) → i < length (claims_of plan) → j < length (claims_of plan)
    → Holds (get_or (claims_of plan) i d) t b → Holds (get_or (claims_of plan) j d) t b → i ≡ j

-- ---- row k has number k, in any plan

abbrev pub RowNumbers : Type 0
RowNumbers = (plan : List ℕ) (d : Row) (k : ℕ) → k < length (rows_of plan) → (get_or (rows_of plan) k d).number ≡ k

-- ---- the small plans of every refusal, document 01's cases 10, 11 and 12, and its listing

abbrev pub PlanCasesHold : Type 0
PlanCasesHold = VerdictsHold plan_cases
