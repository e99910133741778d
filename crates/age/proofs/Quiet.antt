-- Ticks at which a source's failure bit is not set, in numbers: e is its failure enable, r its reload value and p its prescaler.
use mathlib.Core.Path.{◌≡◌, refl}
use Prim.Native.Nat.{ℕ, zero, suc, ◌-◌, ◌*◌, ◌%◌, ◌<◌}
use native.Mathlib.Omega.{arith}
use lib.Dec.{eqb}
use borrow.Author.Tests.{eq-eqb, ne_eqb}
use Rattle.base.specs.Pick.{pick}
use Rattle.base.proofs.Picks.{picks, passes, alike}
use Rattle.clock.specs.Timer.{lowered}
use Rattle.model.specs.TickRules.{Falls}
use Rattle.model.proofs.MeetsTick.{falls}
use Rattle.age.proofs.Due.{Due, due_later, Due-falls}

-- what a timer that held v holds after tick n
unfoldable pub fell : ℕ → ℕ → ℕ → ℕ → ℕ
fell r p n v = pick (eqb (n % p) 0) (lowered r v) v

-- tick n sets the failure bit
pub record Sets (e p n v : ℕ) : Type 0 where
  pub on : e ≡ 1
  pub handled : n % p ≡ 0
  pub last : v ≡ 1

-- none of k ticks does, the first of them tick n
unfoldable pub Quiet : ℕ → ℕ → ℕ → ℕ → ℕ → ℕ → Type 0
Quiet e r p zero n v = Unit {0}
Quiet e r p (suc k) n v = (Sets e p n v → ⊥) × Quiet e r p k (suc n) (fell r p n v)

-- ---- an indicator that is off

pub off_quiet : (r p k n v : ℕ) → Quiet 0 r p k n v
unfolding Quiet
off_quiet r p zero n v = tt
off_quiet r p (suc k) n v = (λ s. omega arith, off_quiet r p k (suc n) (fell r p n v))

-- ---- a timer that holds 0

pub stopped_quiet : (e r p k n : ℕ) → Quiet e r p k n 0
unfolding Quiet
stopped_quiet e r p zero n = tt
stopped_quiet e r p (suc k) n =
    let stays : fell r p n 0 ≡ 0 = unfold fell lowered pick in alike (eqb (n % p) 0) 0 in
    (λ s. omega arith, rw stays (stopped_quiet e r p k (suc n)))

-- ---- a timer that expires later

module _ (e r p : ℕ) (above : 0 < p) where
  fell_falls : (n v : ℕ) → Falls (n % p ≡ 0) r v (fell r p n v)
  unfolding fell
  fell_falls n v = falls r v _ (λ d. passes _ _ _ (ne_eqb _ 0 d)) (λ h. picks _ _ _ (eq-eqb _ 0 h))

  due_quiet : (k n v : ℕ) → Due p n v (suc k) → Quiet e r p k n v
  unfolding Quiet
  due_quiet zero n v d = tt
  due_quiet (suc k) n v d = (
    (λ s. due_later p above n v k d s.handled s.last),
    due_quiet k (suc n) (fell r p n v) (Due-falls p above n v k r (fell r p n v) d (fell_falls n v)),
  )

  -- a timer that is loaded after tick 0, which handles every timer, and before tick 1
  Due-loaded_then : (v ticks : ℕ) → 0 < v → ticks ≡ v * p → Due p 1 v ticks
  Due-loaded_then zero ticks l m = absurd (omega arith)
  Due-loaded_then (suc rest) ticks l m =
      record { rest = rest; gap = p - 1; near = omega arith; times = 1; divides = omega arith; holds = refl; all = omega arith }

  pub loaded_quiet : (k : ℕ) → 0 < r → suc k ≡ r * p → Quiet e r p k 1 r
  loaded_quiet k l m = due_quiet k 1 r (Due-loaded_then r (suc k) l m)
