-- The check refuses exactly what the table refuses, with its number and its record, and all else is good.
use mathlib.Core.Path.{◌≡◌, sym, ap, ◌∙◌}
use mathlib.Core.Logic.{⊎_elim}
use mathlib.Core.List.{List}
use Prim.Native.Nat.{ℕ}
use Rattle.std.specs.Prelude.{Result}
use Rattle.base.proofs.Apart.{differ}
use Rattle.plan.specs.declared.verdict.Reason.{Reason}
use Rattle.plan.specs.declared.verdict.PlanCounts.{PlanCounts}
use Rattle.plan.specs.declared.verdict.BadRecord.{BadRecord}
use Rattle.plan.specs.Refusals.{number_of}
use Rattle.plan.specs.Check.{good_with, refused_at, check_plan}
use Rattle.plan.proofs.Verdicts.{same_refusal}
use Rattle.refusals.specs.Table.{Refuses, Unrefused}
use Rattle.refusals.specs.Statements.{RefusedExactly, GoodExactly, OneRefusal}
use Rattle.refusals.proofs.Outcome.{refused, decided}

no_good : {v : Result PlanCounts BadRecord} {n t r : ℕ} {reason : Reason} {named : ℕ} → v ≡ good_with n t r → v ≡ refused_at reason named → ⊥
no_good e f = differ cc

pub one_refusal : OneRefusal
one_refusal plan number named number' named' v w =
    let a = refused plan number named v in
    let b = refused plan number' named' w in
    let same = same_refusal (sym a.1 ∙ b.1) in
    (sym a.2 ∙ ap number_of same.0 ∙ b.2, same.1)

pub refused_exactly : RefusedExactly
refused_exactly plan number named = (refused plan number named, λ w. ⊎_elim (to w) (λ good. absurd (no_good good w.1)) (decided plan))
  where
    to : (reason : Reason) × (check_plan plan ≡ refused_at reason named) × (number_of reason ≡ number)
        → (n : ℕ) × (m : ℕ) × Refuses plan n m → Refuses plan number named
    to w (n, m, v) =
        let a = refused plan n m v in
        let same = same_refusal (sym a.1 ∙ w.1) in
        let e : n ≡ number = sym a.2 ∙ ap number_of same.0 ∙ w.2 in
        let f : m ≡ named = same.1 in
        rw (← e, ← f) v

pub good_exactly : GoodExactly
good_exactly plan = (
  (λ good number named w. no_good good (refused plan number named w).1),
  (λ none. ⊎_elim (λ w. absurd (none w.0 w.1 w.2)) (λ good. good) (decided plan)),
)

pub good_unrefused : (plan : List ℕ) (n t r : ℕ) → check_plan plan ≡ good_with n t r → Unrefused plan
good_unrefused plan n t r good number named w = no_good good (refused plan number named w).1
