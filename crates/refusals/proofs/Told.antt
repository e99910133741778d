-- What a record leads to: the check goes on and no line of the table applies to it, or it is refused with the number of the first line that applies,
-- and names the record that this line names.
use mathlib.Core.Path.{◌≡◌, refl, sym, ap, ◌∙◌}
use mathlib.Core.Logic.{◌⊎◌, inl, inr, ⊎_elim}
use mathlib.Core.Bool.{Bool, true, false, not, true≢false}
use mathlib.Core.List.{List, [], ◌∷◌}
use Prim.Native.Nat.{ℕ}
use native.Mathlib.Omega.{arith}
use lib.Dec.{eqb}
use lib.ListN.{length}
use borrow.Author.Tests.{eq-eqb, eqb-true, not-false}
use Rattle.std.specs.Prelude.{Result, Ok, Err}
use Rattle.base.specs.Pick.{pick}
use Rattle.records.specs.declared.record.Record.{Record}
use Rattle.records.specs.declared.record.Record.TheVariants.{Broken}
use Rattle.records.specs.declared.record.Fault.TheVariants.{End}
use Rattle.records.specs.Kinds.{stage_of}
use Rattle.plan.specs.declared.progress.Progress.{Progress}
use Rattle.plan.specs.declared.verdict.BadRecord.{BadRecord}
use Rattle.plan.specs.declared.verdict.Reason.{Reason}
use Rattle.plan.specs.declared.verdict.Reason.TheVariants.{Short, Indicator}
use Rattle.plan.specs.Refusals.{number_of}
use Rattle.plan.specs.Progress.{after}
use Rattle.plan.specs.Tests.{followed}
use Rattle.plan.specs.Check.{refused_at, need, placed, judged}
use Rattle.facts.specs.Statements.{State, judged_in}
use Rattle.refusals.specs.Table.{Line, First, table, end_table}
use Rattle.refusals.proofs.Passing.{whole}
use Rattle.refusals.proofs.SoFar.{SoFar}
use Rattle.refusals.proofs.Fails.{Fails}
use Rattle.refusals.proofs.KindLines.{follower, follower_names, known, cut_short}
use Rattle.refusals.proofs.PlaceLine.{place, can_place}
use Rattle.refusals.proofs.CountLine.{room}
use Rattle.refusals.proofs.RangeLine.{range, lin_range}
use Rattle.refusals.proofs.OrderLine.{order}
use Rattle.refusals.proofs.DataLines.{data_fits, owner}
use Rattle.refusals.proofs.FailureLines.{failure_fits, failure_owner}

abbrev pub RefusesWith : Result Progress BadRecord → ℕ → ℕ → Type 0
RefusesWith next number named = (reason : Reason) × (next ≡ refused_at reason named) × (number_of reason ≡ number)

pub record Told (next : Result Progress BadRecord) (go : Progress) (lines : List Line) : Type 1 where
  pub goes : (next ≡ Ok go) ⊎ ((reason : Reason) × (named : ℕ) × (next ≡ refused_at reason named))
  pub passes : next ≡ Ok go → (number named : ℕ) → First lines number named → ⊥
  pub says : (reason : Reason) (named : ℕ) → next ≡ refused_at reason named → First lines (number_of reason) named
  pub back : (number named : ℕ) → First lines number named → RefusesWith next number named

-- ---- what a record leads to is one thing

is_go : Result Progress BadRecord → ℕ
is_go (Ok q) = 1
is_go (Err bad) = 0

pub not_both : {x : Result Progress BadRecord} {go : Progress} {reason : Reason} {named : ℕ} → x ≡ Ok go → x ≡ refused_at reason named → ⊥
unfolding is_go
not_both e f = let z : ◌≡◌ {A = ℕ} 1 0 = ap is_go (sym e ∙ f) in omega arith

reason_of : Result Progress BadRecord → Reason
reason_of (Ok q) = Short
reason_of (Err bad) = bad.reason

named_by : Result Progress BadRecord → ℕ
named_by (Ok q) = 0
named_by (Err bad) = bad.record_number

-- ---- the lines, from the last to the first

Told-none : (go : Progress) → Told (Ok go) go []
unfolding First
Told-none go =
    record {
      goes = inl refl;
      passes = λ e number named w. w;
      says = λ reason named e. absurd (not_both refl e);
      back = λ number named w. absurd w;
    }

Told-need : (t : Bool) (why : Reason) (at : ℕ) {rest : Result Progress BadRecord} {go : Progress} (line : Line) {lines : List Line} → Fails t line.when
    → number_of why ≡ line.number → ((w : line.when) → line.names w ≡ at) → (t ≡ true → Told rest go lines)
    → Told (need t why at rest) go (line ∷ lines)
unfolding need pick First reason_of named_by
Told-need true why at line f n names more =
    let h = more refl in
    record {
      goes = h.goes;
      passes = λ e number named w. ⊎_elim (λ v. true≢false (f.back v.0)) (λ v. h.passes e number named v.1) w;
      says = λ reason named e. inr ((λ b. true≢false (f.back b)), h.says reason named e);
      back = λ number named w. ⊎_elim (λ v. absurd (true≢false (f.back v.0))) (λ v. h.back number named v.1) w;
    }
Told-need false why at line f n names more =
    let w = f.says refl in
    record {
      goes = inr (why, at, refl);
      passes = λ e number named v. not_both e refl;
      says = λ reason named e. inl (w, ap number_of (ap reason_of (sym e)) ∙ n, ap named_by (sym e) ∙ sym (names w));
      back = λ number named v. ⊎_elim (λ v. (why, rw (v.2 ∙ names v.0), n ∙ sym v.1)) (λ v. absurd (v.0 w)) v;
    }

-- ---- a record

pub told : (before : List Record) (s : State) → SoFar before s → (r : Record) → Told (judged_in s r) (after s.progress r) (table before r)
unfolding judged placed number_of
told before s h r =
    let n : length before ≡ s.progress.number = sym h.number in
    Told-need _ _ _ _ (follower before s h r) refl (follower_names before s h r) λ f.
    Told-need _ _ _ _ (known r) refl (λ w. n) λ k.
    Told-need _ _ _ _ (cut_short r) refl (λ w. n) λ c.
    Told-need _ _ _ _ (place before s h r (whole r k c)) refl (λ w. n) λ m.
    Told-need _ _ _ _ (can_place before s h r (whole r k c)) refl (λ w. n) λ e.
    Told-need _ _ _ _ (room before s h r (whole r k c) m) refl (λ w. n) λ e.
    Told-need _ _ _ _ (range before s h r (whole r k c)) refl (λ w. n) λ i.
    Told-need _ _ _ _ (lin_range before s h r (whole r k c) i) refl (λ w. n) λ e.
    Told-need _ _ _ _ (order before s h r (whole r k c) i) refl (λ w. n) λ e.
    Told-need _ _ _ _ (data_fits before s h r (whole r k c) m) refl (λ w. n) λ d.
    Told-need _ _ _ _ (owner before s h r (whole r k c) m) refl (λ w. n) λ e.
    Told-need _ _ _ _ (failure_fits before s h r (whole r k c) f d) refl (λ w. n) λ e.
    Told-need _ _ _ _ (failure_owner before s h r (whole r k c) f) refl (λ w. n) λ e.
    Told-none (after s.progress r)

-- ---- the end, as a record of its own

abbrev pub next_at_end : Progress → Result Progress BadRecord
next_at_end p = need (followed p.row 0) Indicator p.row.source (need (not (eqb p.number 0)) Short 0 (Ok p))

empty : (before : List Record) (s : State) → SoFar before s → Fails (not (eqb s.progress.number 0)) (before ≡ [])
empty before s h =
    record {
      says = λ e. none before (sym h.number ∙ eqb-true s.progress.number 0 (not-false _ e));
      back = λ e. ap not (eq-eqb s.progress.number 0 (h.number ∙ ap length e));
    }
  where
    none : (rs : List Record) → length rs ≡ 0 → rs ≡ []
    none [] e = refl
    none (r ∷ rs) e = absurd (omega arith)

pub Told-end : (before : List Record) (s : State) → SoFar before s → Told (next_at_end s.progress) s.progress (end_table before)
unfolding number_of stage_of
Told-end before s h =
    Told-need _ _ _ _ (follower before s h (Broken End)) refl (follower_names before s h (Broken End)) λ f.
    Told-need _ _ _ _ (empty before s h) refl (λ w. refl) λ e.
    Told-none s.progress
