-- What an opening answers: refused exactly by the refusal table, then for a short area, and else it succeeds.
use mathlib.Core.Path.{◌≡◌, refl, sym, ap, ◌∙◌}
use mathlib.Core.Logic.{inl, inr}
use mathlib.Core.Bool.{Bool, true, false}
use mathlib.Core.List.{List}
use Prim.Native.Nat.{ℕ}
use lib.Dec.{leb}
use lib.ListN.{length}
use borrow.Author.Tests.{le-leb, lt-leb, leb-true, leb-false}
use Rattle.std.specs.Prelude.{Result, Ok, Err}
use Rattle.base.proofs.Picks.{picks, passes}
use Rattle.records.specs.Records.{records}
use Rattle.plan.specs.declared.verdict.PlanCounts.{PlanCounts}
use Rattle.plan.specs.declared.verdict.Reason.{Reason}
use Rattle.plan.specs.declared.verdict.BadRecord.{BadRecord}
use Rattle.plan.specs.Refusals.{number_of}
use Rattle.plan.specs.Check.{good_with, refused_at, check_plan}
use Rattle.plan.proofs.Verdicts.{same_refusal}
use Rattle.facts.specs.Good.{count_of}
use Rattle.area.specs.Layout.{area_length}
use Rattle.refusals.specs.Table.{Refuses, Unrefused}
use Rattle.refusals.proofs.Exactly.{refused_exactly, good_exactly, good_unrefused}
use Rattle.answers.specs.declared.Refusal.{Refusal}
use Rattle.answers.specs.declared.Refusal.TheVariants.{Plan as BadPlan, ShortArea}
use Rattle.answers.specs.declared.RefusedPlan.{RefusedPlan}
use Rattle.opening.specs.Opened.{opened_answer}
use Rattle.model.proofs.Decide.{one_reason}
use Rattle.history.specs.Calls.{open_answer}
use Rattle.demands.specs.Demand1.{OpeningAnswers}
use Rattle.demands.proofs.NotOpened.{no}

abbrev Answer : Type 0
Answer = Result PlanCounts RefusedPlan

-- what an answer holds; of one that does not hold it, anything
abbrev why_in : Answer → Refusal
why_in (Ok counts) = ShortArea
why_in (Err refused) = refused.why

abbrev number_in : Answer → ℕ
number_in (Ok counts) = 0
number_in (Err refused) = refused.record_number

abbrev counts_in : Answer → PlanCounts
counts_in (Ok counts) = counts
counts_in (Err refused) = record { nodes = 0; tx = 0; rx = 0 }

module _ (plan a : List ℕ) where
  -- ---- a plan that the check refuses

  module _ (why : Reason) (k : ℕ) (e : check_plan plan ≡ refused_at why k) where
    refused : Refuses plan (number_of why) k
    refused = (refused_exactly plan (number_of why) k).1 (why, e, refl)

    answers : open_answer plan a ≡ Err (record { why = BadPlan why; record_number = k })
    unfolding opened_answer
    answers = rw e

    one : (reason : Reason) (at : ℕ) → Refuses plan (number_of reason) at → ◌≡◌ {A = Answer} (Err (record { why = BadPlan why; record_number = k })) (Err (record { why = BadPlan reason; record_number = at }))
    one reason at r =
        let x = (refused_exactly plan (number_of reason) at).0 r in
        let y = one_reason x.0 reason x.2 in
        let same = same_refusal (sym e ∙ x.1) in
        let u : why ≡ reason = same.0 ∙ y in
        rw (u, same.1)

    of_refused : OpeningAnswers plan a
    of_refused =
        record {
          bad = λ reason at. (
            λ d. let f : ◌≡◌ {A = Answer} (Err (record { why = BadPlan why; record_number = k })) (Err (record { why = BadPlan reason; record_number = at })) = sym answers ∙ d in same reason at f,
            λ r. answers ∙ one reason at r,
          );
          short = λ at. (λ d. let f : ShortArea ≡ BadPlan why = sym (ap why_in (sym answers ∙ d)) in absurd (no cc), λ h. absurd (h.0 (number_of why) k refused));
          good = λ n t r. (λ d. let f = sym answers ∙ d in absurd (no cc), λ h. absurd (h.good (number_of why) k refused));
          nothing_else = λ x at d. inl (why, sym (ap why_in (sym answers ∙ d)));
        }
      where
        same : (reason : Reason) (at : ℕ) → ◌≡◌ {A = Answer} (Err (record { why = BadPlan why; record_number = k })) (Err (record { why = BadPlan reason; record_number = at })) → Refuses plan (number_of reason) at
        same reason at f =
            let w : BadPlan why ≡ BadPlan reason = ap why_in f in
            let x : why ≡ reason = cc in
            let y : k ≡ at = ap number_in f in
            rw (← x, ← y) refused

  -- ---- a plan that it calls good

  module _ (u : Unrefused plan) (e : check_plan plan ≡ good_with (count_of 2 (records plan)) (count_of 3 (records plan)) (count_of 4 (records plan))) where
    of_good : (t : Bool) → leb area_length (length a) ≡ t → OpeningAnswers plan a
    unfolding opened_answer
    of_good true l =
        let x : open_answer plan a ≡ Ok (record { nodes = count_of 2 (records plan); tx = count_of 3 (records plan); rx = count_of 4 (records plan) }) = rw e (picks _ _ _ l) in
        record {
          bad = λ reason at. (λ d. let f = sym x ∙ d in absurd (no cc), λ r. absurd (u (number_of reason) at r));
          short = λ at. (λ d. let f = sym x ∙ d in absurd (no cc), λ h. absurd (no (false-true (sym (lt-leb area_length (length a) h.1) ∙ l))));
          good = λ n t r. (
            (λ d.
                let f = ap counts_in (sym x ∙ d) in
                record { good = u; long = leb-true _ _ l; nodes = sym (ap (λ c. c.nodes) f); tx = sym (ap (λ c. c.tx) f); rx = sym (ap (λ c. c.rx) f) }),
            (λ h. x ∙ rw (h.nodes, h.tx, h.rx)),
          );
          nothing_else = λ y at d. let f = sym x ∙ d in absurd (no cc);
        }
      where
        false-true : ◌≡◌ {A = Bool} false true → ◌≡◌ {A = ℕ} 0 1
        false-true z = cc
    of_good false l =
        let x : open_answer plan a ≡ Err (record { why = ShortArea; record_number = 0 }) = rw e (passes _ _ _ l) in
        record {
          bad = λ reason at. (λ d. let f : ShortArea ≡ BadPlan reason = ap why_in (sym x ∙ d) in absurd (no cc), λ r. absurd (u (number_of reason) at r));
          short = λ at. (
            (λ d. (u, leb-false _ _ l, sym (ap number_in (sym x ∙ d)))),
            (λ h. x ∙ rw h.2),
          );
          good = λ n t r. (λ d. let f = sym x ∙ d in absurd (no cc), λ h. let g = sym (le-leb area_length (length a) h.long) ∙ l in absurd (no cc));
          nothing_else = λ y at d. inr (sym (ap why_in (sym x ∙ d)));
        }

  pub opening_answers : OpeningAnswers plan a
  opening_answers = go (check_plan plan) refl
    where
      go : (v : Result PlanCounts BadRecord) → check_plan plan ≡ v → OpeningAnswers plan a
      go (Err bad) e = of_refused bad.reason bad.record_number e
      go (Ok counts) e =
          let u = good_unrefused plan counts.nodes counts.tx counts.rx e in of_good u ((good_exactly plan).1 u) (leb area_length (length a)) refl
