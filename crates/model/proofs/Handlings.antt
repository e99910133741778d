-- What a tick answers, and what it takes off a timer.
use mathlib.Core.Path.{◌≡◌, refl, sym, subst, ap, ◌∙◌}
use mathlib.Core.Logic.{◌≢◌}
use mathlib.Core.List.{List, []}
use Prim.Native.Nat.{ℕ, ◌+◌, ◌%◌, ◌≤◌, ◌<◌}
use native.Mathlib.Omega.{arith}
use native.Mathlib.Decide.{ℕ_discrete}
use lib.ListN.{length}
use borrow.Author.Tests.{eq-eqb, ne_eqb, le-leb, lt-leb}
use Rattle.std.specs.Prelude.{Ok, Err}
use Rattle.base.proofs.Picks.{picks, passes, both}
use Rattle.answers.specs.declared.Refusal.{Refusal}
use Rattle.model.specs.Plan.{Plan}
use Rattle.model.specs.State.{State}
use Rattle.model.specs.Calls.{tick, Answer, received, responded, silent, ticked, taken, full}
use Rattle.model.specs.TickRules.{Falls}
use Rattle.model.specs.Timers.{handling_of}

-- ---- what a tick answers

unfoldable IsDone : Answer → Type 0
IsDone (ticked (Ok done) given) = Unit {0}
IsDone (ticked (Err why) given) = ⊥
IsDone (received x) = ⊥
IsDone (responded x) = ⊥
IsDone (silent x) = ⊥
IsDone (taken x payload) = ⊥
IsDone (full x) = ⊥

unfoldable given_in : Answer → List ℕ
given_in (ticked x given) = given
given_in (received x) = []
given_in (responded x) = []
given_in (silent x) = []
given_in (taken x payload) = []
given_in (full x) = []

pub one_given : {x : Answer} {u v : List ℕ} → x ≡ ticked (Ok tt) u → x ≡ ticked (Ok tt) v → u ≡ v
unfolding given_in
one_given e f = ap given_in (sym e ∙ f)

pub not_refused : {x : Answer} {u v : List ℕ} {why : Refusal} → x ≡ ticked (Ok tt) u → x ≡ ticked (Err why) v → ⊥
unfolding IsDone
not_refused e f = subst IsDone (sym e ∙ f) tt

-- ---- how often a tick handles a timer

module _ (p : Plan) (prescaler : ℕ) (s : State) (report : List ℕ) where
  pub handled_once : length p.rows ≤ length report → s.number % prescaler ≡ 0 → handling_of p prescaler s (tick report) ≡ 1
  unfolding handling_of
  handled_once l e = picks _ _ _ (le-leb _ _ l) ∙ picks _ _ _ (eq-eqb _ 0 e)

  unhandled : s.number % prescaler ≢ 0 → handling_of p prescaler s (tick report) ≡ 0
  unfolding handling_of
  unhandled n = both (λ (k : ℕ). k ≡ 0) _ _ _ (passes _ _ _ (ne_eqb _ 0 n)) refl

  pub undone : length report < length p.rows → handling_of p prescaler s (tick report) ≡ 0
  unfolding handling_of
  undone l = passes _ _ _ (lt-leb _ _ l)

  -- what a timer holds that more than this tick's handling is left of
  pub fallen : (reload old new : ℕ) → length p.rows ≤ length report → Falls (s.number % prescaler ≡ 0) reload old new
      → handling_of p prescaler s (tick report) < old → new + handling_of p prescaler s (tick report) ≡ old
  fallen reload old new l f k = go (ℕ_discrete (s.number % prescaler) 0)
    where
      go : Dec (s.number % prescaler ≡ 0) → new + handling_of p prescaler s (tick report) ≡ old
      go (yes e) = let one = handled_once l e in omega (arith, f.falls e (omega arith))
      go (no n) = omega (arith, unhandled n, f.unhandled n)
