-- What the table refuses the check refuses; and every plan is refused by the table, or is good.
use mathlib.Core.Path.{◌≡◌, refl, sym, ◌∙◌}
use mathlib.Core.Logic.{◌⊎◌, inl, inr, ⊎_elim}
use mathlib.Core.Bool.{Bool, true, false, not}
use mathlib.Core.List.{List, [], ◌∷◌, ◌++◌, append-nil, append_assoc}
use Prim.Native.Nat.{ℕ}
use lib.Dec.{eqb}
use Rattle.std.specs.Prelude.{Ok}
use Rattle.base.specs.Pick.{pick}
use Rattle.records.specs.declared.record.Record.{Record}
use Rattle.records.specs.Records.{records}
use Rattle.plan.specs.declared.progress.Progress.{Progress}
use Rattle.plan.specs.declared.verdict.Reason.{Reason}
use Rattle.plan.specs.declared.verdict.Reason.TheVariants.{Short, Indicator}
use Rattle.plan.specs.Refusals.{number_of}
use Rattle.plan.specs.Progress.{after}
use Rattle.plan.specs.Tests.{followed}
use Rattle.plan.specs.Check.{good_with, refused_at, need, ended, verdict_of, check_on, check_plan}
use Rattle.facts.specs.Good.{count_of}
use Rattle.facts.specs.Statements.{begun, judged_in, state_after, AllGo}
use Rattle.facts.proofs.First.{check_past, first_bad}
use Rattle.refusals.specs.Table.{table, NoneBad, Refuses, at_record, at_end}
use Rattle.refusals.proofs.Passing.{all_front, all_since, all_joined}
use Rattle.refusals.proofs.SoFar.{so_far}
use Rattle.refusals.proofs.Told.{Told, told, next_at_end, Told-end}

-- ---- no record is bad exactly where all pass

Told-at : (before : List Record) → AllGo begun before → (r : Record)
    → Told (judged_in (state_after begun before) r) (after (state_after begun before).progress r) (table before r)
Told-at before g r = told before (state_after begun before) (so_far before g) r

none_bad : (rs : List Record) → AllGo begun rs → NoneBad rs
unfolding AllGo
none_bad rs g before r rest e =
    let g' : AllGo begun (before ++ r ∷ rest) = rw e at g in
    (Told-at before (all_front before (r ∷ rest) begun g') r).passes (all_since before (r ∷ rest) begun g').0

-- one record more
all_more :
    (before : List Record) (r : Record) → AllGo begun before
    → judged_in (state_after begun before) r ≡ Ok (after (state_after begun before).progress r) → AllGo begun (before ++ r ∷ [])
unfolding AllGo
all_more before r g e = all_joined before (r ∷ []) begun g (e, tt)

pub all_go : (rest before : List Record) → AllGo begun before → NoneBad (before ++ rest) → AllGo begun (before ++ rest)
all_go [] before g n = rw (append-nil before) g
all_go (r ∷ rest) before g n =
    let t = Told-at before g r in
    let e = ⊎_elim (λ e. e) (λ w. absurd (n before r rest refl _ _ (t.says w.0 w.1 w.2))) t.goes in
    let assoc = append_assoc before (r ∷ []) rest in
    rw assoc at (all_go rest (before ++ r ∷ []) (all_more before r g e) (rw assoc n))

-- ---- the end

ended_at : (p : Progress) → ended p ≡ verdict_of (next_at_end p) (good_with p.counts.nodes p.counts.tx p.counts.rx)
unfolding ended need verdict_of
ended_at p = go (followed p.row 0) (eqb p.number 0)
  where
    go : (x y : Bool)
        → pick x (pick y (refused_at Short 0) (good_with p.counts.nodes p.counts.tx p.counts.rx)) (refused_at Indicator p.row.source)
        ≡ verdict_of (need x Indicator p.row.source (need (not y) Short 0 (Ok p))) (good_with p.counts.nodes p.counts.tx p.counts.rx)
    go true true = unfold pick in refl
    go true false = unfold pick in refl
    go false y = unfold pick in refl

module _ (plan : List ℕ) where
  end : Progress
  end = (state_after begun (records plan)).progress

  -- where all records pass the end decides
  verdict_end : AllGo begun (records plan) → check_plan plan ≡ verdict_of (next_at_end end) (good_with end.counts.nodes end.counts.tx end.counts.rx)
  unfolding check_plan check_on end
  verdict_end g = rw (append-nil (records plan)) at (check_past begun (records plan) [] g) ∙ ended_at end

  -- ---- what the table refuses the check refuses

  pub refused :
      (number named : ℕ) → Refuses plan number named
      → (reason : Reason) × (check_plan plan ≡ refused_at reason named) × (number_of reason ≡ number)
  unfolding AllGo verdict_of end
  refused number named (at_record before r rest e n w) =
      let g = all_go before [] tt n in
      let b = (Told-at before g r).back number named w in
      (b.0, first_bad plan before rest r b.0 named e g b.1, b.2)
  refused number named (at_end n w) =
      let g = all_go (records plan) [] tt n in
      let b = (Told-end (records plan) (state_after begun (records plan)) (so_far (records plan) g)).back number named w in
      (b.0, verdict_end g ∙ rw b.1, b.2)

  -- ---- and one of the two is so: the table refuses the plan, or the check calls it good

  counted_good :
      AllGo begun (records plan) → next_at_end end ≡ Ok end
      → check_plan plan ≡ good_with (count_of 2 (records plan)) (count_of 3 (records plan)) (count_of 4 (records plan))
  unfolding verdict_of end
  counted_good g e =
      let h = so_far (records plan) g in
      verdict_end g ∙ rw (e, h.nodes, h.tx, h.rx)

  abbrev pub Outcome : Type 0
  Outcome =
      ((number : ℕ) × (named : ℕ) × Refuses plan number named)
      ⊎ (check_plan plan ≡ good_with (count_of 2 (records plan)) (count_of 3 (records plan)) (count_of 4 (records plan)))

  Outcome-end : AllGo begun (records plan) → Outcome
  unfolding end
  Outcome-end g =
      let t = Told-end (records plan) (state_after begun (records plan)) (so_far (records plan) g) in
      ⊎_elim (λ e. inr (counted_good g e))
      (λ w. inl (number_of w.0, w.1, at_end (none_bad (records plan) g) (t.says w.0 w.1 w.2)))
      t.goes

  outcome : (rest before : List Record) → records plan ≡ before ++ rest → AllGo begun before → Outcome
  outcome [] before e g = Outcome-end (rw (e, append-nil before) g)
  outcome (r ∷ rest) before e g =
      let t = Told-at before g r in
      ⊎_elim
      (λ goes. outcome rest (before ++ r ∷ []) (e ∙ sym (append_assoc before (r ∷ []) rest)) (all_more before r g goes))
      (λ w. inl (number_of w.0, w.1, at_record before r rest e (none_bad before g) (t.says w.0 w.1 w.2)))
      t.goes

  pub decided : Outcome
  unfolding AllGo
  decided = outcome (records plan) [] refl tt
