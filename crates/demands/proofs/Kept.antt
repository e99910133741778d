-- What no call alters: the area's length, its mark once it is there, and the bytes from 32,768 on.
use mathlib.Core.Path.{◌≡◌, refl, ◌∙◌}
use mathlib.Core.Bool.{true}
use mathlib.Core.List.{List}
use Prim.Native.Nat.{ℕ, ◌%◌, ◌≤◌}
use native.Mathlib.Omega.{arith}
use borrow.Author.Tests.{leb-true, ltb-true}
use lib.Dec.{leb, ltb}
use lib.ListN.{length}
use Rattle.std.specs.Prelude.{Result, Ok, Err}
use Rattle.base.specs.Numbers.{byte_at, Bytes}
use Rattle.base.proofs.Picks.{both, cases}
use Rattle.base.proofs.Ranges.{at_most-le}
use Rattle.plan.specs.declared.verdict.PlanCounts.{PlanCounts}
use Rattle.plan.specs.declared.verdict.BadRecord.{BadRecord}
use Rattle.plan.specs.Check.{check_plan}
use Rattle.facts.proofs.Bounds.{good_bounds}
use Rattle.area.specs.Layout.{area_length, node_count_byte, marked, order, node_count, claims}
use Rattle.area.proofs.Kept.{Kept, Kept-refl, Kept-then, Kept-dequeued, Kept-all_done, in_plan, marked_kept}
use Rattle.area.proofs.NarrowLaws.{narrow_claims}
use Rattle.answers.specs.declared.RefusedPlan.{RefusedPlan}
use Rattle.opening.specs.Opened.{opened_answer, opened_area}
use Rattle.opening.proofs.OpenedLaws.{opened-length, opened_past_area, opened-marked}
use Rattle.reception.proofs.ReceptionLaws.{kept_received}
use Rattle.polling.specs.Polling.{accepted_area, responded_area, silent_area}
use Rattle.polling.proofs.Accepted.{Kept-again}
use Rattle.ticking.specs.Tick.{tick_answer}
use Rattle.ticking.proofs.Positions.{bytes_positions}
use Rattle.ticking.proofs.TickFrame.{Same-expired, Kept-ticked}
use Rattle.ticking.proofs.TickLaws.{by_answer}
use Rattle.taking.specs.Taken.{oldest_area, taken_area}
use Rattle.model.specs.Calls.{Step, opening, reception, response, no_response, tick, take, fullness, call}
use Rattle.history.specs.Calls.{area_after, stepped}
use Rattle.history.proofs.Responses.{by_responded, by_silent}
use Rattle.refines.proofs.Worlds.{marks, is_marked}
use Rattle.demands.specs.Demand1.{Stays}

-- where only places of the state change, all three stay
kept_stays : (c : Step) (a : List ℕ) → Kept a (stepped a c) → Stays c a
kept_stays c a k =
    record { size = k.len; mark = λ m. is_marked _ (marked_kept k ∙ marks m); past = λ j h. k.at j (in_plan j (omega arith)) }

Kept-taken : (a : List ℕ) (n : ℕ) → Kept a (taken_area a n)
unfolding taken_area oldest_area
Kept-taken a n =
    both (Kept a) (marked a) _ _
    (cases (Kept a) (ltb n (node_count a)) _ _
    (λ t. let h = ltb-true n (node_count a) t in both (Kept a) _ _ _ (Kept-refl a) (Kept-dequeued a n (omega (arith, at_most-le 16 (byte_at a node_count_byte)))))
    (λ t. Kept-refl a))
    (Kept-refl a)

-- an accepted response, and a timeout
module _ (a : List ℕ) (b : Bytes a) where
  Kept-responded : (n id : ℕ) (payload : List ℕ) (sum : ℕ) → Kept a (responded_area a n id payload sum)
  unfolding accepted_area
  Kept-responded n id payload sum =
      by_responded a n id payload sum (λ x c. Kept a c) (λ x d. Kept-refl a)
      (λ k r f. Kept-then (Kept-again a (r.0 % 256) (omega arith)) (Kept-all_done (order a) _ (claims a (r.0 % 256)) _ (narrow_claims a (r.0 % 256) b)))

  Kept-silent : (n id : ℕ) → Kept a (silent_area a n id)
  Kept-silent n id =
      by_silent a n id (λ x c. Kept a c) (λ why. Kept-refl a)
      (λ k r f.
      let q = bytes_positions a b (r.0 % 256) (omega arith) in
      Same-expired a (r.0 % 256) (λ p. p.low (omega arith) (omega arith)) (λ t l p. p.high (omega arith) (omega arith)))

-- an opening writes where the plan is good and the area long enough
opening_stays : (plan a : List ℕ) → Stays (opening plan) a
unfolding area_after stepped opened_answer opened_area
opening_stays plan a = let p = go (check_plan plan) refl in record { size = p.0; mark = λ m. is_marked _ (p.1 (marks m)); past = p.2 }
  where
    P : Result PlanCounts RefusedPlan → Type 0
    P x =
        (length (opened_area x plan a) ≡ length a) × (marked a ≡ true → marked (opened_area x plan a) ≡ true)
        × ((j : ℕ) → area_length ≤ j → byte_at (opened_area x plan a) j ≡ byte_at a j)

    go : (v : Result PlanCounts BadRecord) → check_plan plan ≡ v → P (opened_answer v (length a))
    go (Ok counts) e =
        let bounds = good_bounds plan counts.nodes counts.tx counts.rx e in
        cases P (leb area_length (length a)) _ _
        (λ l.
        (opened-length plan a, (λ m. opened-marked plan a (leb-true _ _ l)), opened_past_area plan a (omega (arith, bounds.short))))
        (λ l. (refl, (λ m. m), (λ j h. refl)))
    go (Err bad) e = (refl, (λ m. m), (λ j h. refl))

pub step_stays : (c : Step) (a : List ℕ) → Bytes a → Stays c a
unfolding area_after stepped
step_stays (opening plan) a b = opening_stays plan a
step_stays (call (reception n id payload)) a b = kept_stays _ a (kept_received a b n id payload)
step_stays (call (response n id payload sum)) a b = kept_stays _ a (Kept-responded a b n id payload sum)
step_stays (call (no_response n id)) a b = kept_stays _ a (Kept-silent a b n id)
step_stays (call (tick report)) a b =
    kept_stays _ a (by_answer (Kept a) (tick_answer a report) a (Kept-ticked a (bytes_positions a b)) (Kept-refl a))
step_stays (call (take n)) a b = kept_stays _ a (Kept-taken a n)
step_stays (call (fullness t)) a b = kept_stays _ a (Kept-refl a)
