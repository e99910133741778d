-- The check is good exactly where every record passes every test at the progress of the records before it, and the end passes.
use mathlib.Core.Path.{◌≡◌, refl}
use mathlib.Core.Bool.{Bool, true, false}
use mathlib.Core.List.{List, [], ◌∷◌}
use Prim.Native.Nat.{ℕ, ◌<◌}
use native.Mathlib.Omega.{arith}
use borrow.Author.Tests.{eqb-false, ne_eqb}
use Rattle.std.specs.Prelude.{Result, Ok, Err}
use Rattle.base.proofs.Apart.{differ}
use Rattle.base.specs.Pick.{pick}
use Rattle.records.specs.declared.record.Record.{Record}
use Rattle.plan.specs.declared.verdict.Reason.{Reason}
use Rattle.plan.specs.declared.verdict.PlanCounts.{PlanCounts}
use Rattle.plan.specs.declared.progress.Counts.{Counts}
use Rattle.plan.specs.declared.progress.Progress.{Progress}
use Rattle.plan.specs.declared.verdict.BadRecord.{BadRecord}
use Rattle.plan.specs.Progress.{counted, after}
use Rattle.plan.specs.Tests.{followed}
use Rattle.plan.proofs.CheckLaws.{Passed, passed}
use Rattle.plan.specs.Check.{good_with, refused_at, need, placed, judged, sizes_after, sets_after, ended, verdict_of, check_on}

-- ---- every record passes all its tests

-- from a progress on, and the end
unfoldable pub Passes : Progress → List ℕ → List ℕ → List Record → Type 0
Passes p sizes sets [] = (followed p.row 0 ≡ true) × (0 < p.number)
Passes p sizes sets (r ∷ rs) = Passed p sizes sets r × Passes (after p r) (sizes_after p.counts.tx sizes r) (sets_after p.row sets r) rs

-- the counts and the Tx frames' sizes at the end
unfoldable pub finally : Counts → List Record → Counts
finally c [] = c
finally c (r ∷ rs) = finally (counted c r) rs

unfoldable pub sizes_finally : Counts → List ℕ → List Record → List ℕ
sizes_finally c sizes [] = sizes
sizes_finally c sizes (r ∷ rs) = sizes_finally (counted c r) (sizes_after c.tx sizes r) rs

-- ---- a good verdict says that all passed

module _ (n t r : ℕ) where
  judged_good :
      (p : Progress) (sizes sets : List ℕ) (x : Record) (rest : Result PlanCounts BadRecord) → verdict_of (judged p sizes sets x) rest ≡ good_with n t r
      → Passed p sizes sets x × (rest ≡ good_with n t r)
  unfolding verdict_of
  judged_good p sizes sets x rest e = go (judged p sizes sets x) refl e
    where
      go : (y : Result Progress BadRecord) → judged p sizes sets x ≡ y → verdict_of y rest ≡ good_with n t r → Passed p sizes sets x × (rest ≡ good_with n t r)
      go (Ok q) is e = ((passed p sizes sets x q is).0, e)
      go (Err bad) is e = absurd (differ cc)

  -- a choice that is good, where one side is a refusal
  pick_good : (b : Bool) (v : Result PlanCounts BadRecord) (a : Reason) (k : ℕ) → pick b v (refused_at a k) ≡ good_with n t r → (b ≡ true) × (v ≡ good_with n t r)
  unfolding pick
  pick_good true v a k e = (refl, e)
  pick_good false v a k e = absurd (differ cc)

  pick_left : (b : Bool) (v : Result PlanCounts BadRecord) (a : Reason) (k : ℕ) → pick b (refused_at a k) v ≡ good_with n t r → (b ≡ false) × (v ≡ good_with n t r)
  unfolding pick
  pick_left true v a k e = absurd (differ cc)
  pick_left false v a k e = (refl, e)

  ended_good : (p : Progress) → ended p ≡ good_with n t r → (followed p.row 0 ≡ true) × (0 < p.number)
  unfolding ended
  ended_good p e =
      let a = pick_good _ _ _ _ e in
      let b = pick_left _ _ _ _ a.1 in
      let d = eqb-false p.number 0 b.0 in
      (a.0, omega arith)

  pub good_passes : (rs : List Record) (p : Progress) (sizes sets : List ℕ) → check_on p sizes sets rs ≡ good_with n t r → Passes p sizes sets rs
  unfolding check_on Passes
  good_passes [] p sizes sets e = ended_good p e
  good_passes (x ∷ rs) p sizes sets e = let h = judged_good p sizes sets x _ e in (h.0, good_passes rs _ _ _ h.1)

-- ---- and where all passed the verdict is good

passed_judged : (p : Progress) (sizes sets : List ℕ) (r : Record) → Passed p sizes sets r → judged p sizes sets r ≡ Ok (after p r)
unfolding judged placed need pick
passed_judged p sizes sets r h =
    rw (h.follows, h.known, h.whole, h.stands, h.first, h.room, h.range, h.fits, h.order, h.inside, h.free, h.indicated, h.indicator)

pub passes_good :
    (rs : List Record) (p : Progress) (sizes sets : List ℕ) → Passes p sizes sets rs
    → check_on p sizes sets rs ≡ good_with (finally p.counts rs).nodes (finally p.counts rs).tx (finally p.counts rs).rx
unfolding check_on Passes finally ended pick verdict_of after
passes_good [] p sizes sets h = let m = h.1 in rw (h.0, ne_eqb p.number 0 (omega arith))
passes_good (r ∷ rs) p sizes sets h = rw (passed_judged p sizes sets r h.0) (passes_good rs _ _ _ h.1)
