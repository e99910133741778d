-- "Opening checks the plan and fills the area: .. payloads and timers initial, long counters at the long count, queues empty, tick counter 0. It
-- answers the counts of nodes, Tx and Rx frames."
use Rattle.std.specs.Prelude.{ℕ, List, [], ◌∷◌, leb, replicate, Result, Ok, Err}
use Rattle.base.specs.Pick.{pick}
use Rattle.records.specs.Records.{eight_bytes}
use Rattle.plan.specs.declared.verdict.PlanCounts.{PlanCounts}
use Rattle.plan.specs.declared.verdict.BadRecord.{BadRecord}
use Rattle.plan.specs.Shortest.{shortest_area}
use Rattle.answers.specs.declared.Refusal.TheVariants.{Plan as BadPlan, ShortArea}
use Rattle.answers.specs.declared.RefusedPlan.{RefusedPlan}
use Rattle.model.specs.Plan.{Plan}
use Rattle.model.specs.State.{State}

unfoldable pub mapped {ℓ κ} : {A : Type ℓ} {B : Type κ} → (A → B) → List A → List B
mapped f [] = []
mapped f (x ∷ xs) = f x ∷ mapped f xs

unfoldable pub begun : Plan → State
begun p =
    record {
      number = 0;
      kept = mapped (λ x. eight_bytes x.payload) p.tx;
      tx_timers = mapped (λ x. x.initial) p.tx;
      rx_timers = mapped (λ x. x.frame.initial) p.rows;
      longs = mapped (λ x. x.frame.long) p.rows;
      queues = replicate p.nodes [];
    }

-- 1 to 9 by the check; then 10: "the plan is good and the area is shorter than 32,768 bytes". "Refusal 10 carries record number 0." The number is
-- the area's length.
unfoldable pub open_answer : ℕ → Result PlanCounts BadRecord → Result PlanCounts RefusedPlan
open_answer room (Ok counts) = pick (leb shortest_area room) (Ok counts) (Err (record { why = ShortArea; record_number = 0 }))
open_answer room (Err bad) = Err (record { why = BadPlan bad.reason; record_number = bad.record_number })
