-- How many expiries are left until those in a row are a multiple of the long count: one exactly where the next makes one.
use mathlib.Core.Path.{◌≡◌, ◌∙◌}
use mathlib.Core.Logic.{◌↔◌}
use mathlib.Core.List.{List, [], ◌∷◌}
use Prim.Native.Nat.{ℕ, zero, suc, ◌+◌, ◌-◌, ◌*◌, ◌≤◌, ◌<◌}
use native.Mathlib.Nat.{mul-le-mul_right}
use native.Mathlib.Omega.{arith}
use native.Mathlib.Decide.{ℕ_discrete, dec_lt}
use lib.Dec.{eqb}
use borrow.Author.Tests.{eq-eqb, ne_eqb}
use Rattle.base.specs.Pick.{pick}
use Rattle.base.proofs.Picks.{picks, passes}
use Rattle.clock.specs.Timer.{lowered}
use Rattle.area.specs.Claims.{RxEvent, accepted, expired}
use Rattle.history.specs.LongTimeouts.{in_a_row, Multiple}
use Rattle.history.proofs.Pairs.{pairs}
use Rattle.history.proofs.Replay.{replay}
use Rattle.history.proofs.Longs.{turned_long}

-- ---- how many are left, where n came in a row

record Rest (size n v : ℕ) : Type 0 where
  rounds : ℕ
  whole : n + v ≡ rounds * size
  above : 0 < v
  most : v ≤ size

pub record Left (size n v : ℕ) : Type 0 where
  none : size ≡ 0 → v ≡ 0
  some : 0 < size → Rest size n v

begun : (size : ℕ) → Left size 0 size
begun size = record { none = λ e. e; some = λ h. record { rounds = 1; whole = omega arith; above = h; most = omega arith } }

lowers : (size n v : ℕ) → Left size n v → Left size (suc n) (lowered size v)
unfolding lowered
lowers size n v w =
    record {
      none = λ e. picks _ _ _ (eq-eqb v 0 (w.none e));
      some = λ h. go h (w.some h) (ℕ_discrete v 1);
    }
  where
    go : 0 < size → Rest size n v → Dec (v ≡ 1) → Rest size (suc n) (pick (eqb v 0) 0 (pick (eqb v 1) size (v - 1)))
    go h x (yes e) =
        let z : pick (eqb v 0) 0 (pick (eqb v 1) size (v - 1)) ≡ size =
        passes _ _ _ (ne_eqb v 0 (λ f. omega arith)) ∙ picks _ _ _ (eq-eqb v 1 e) in
        rw z (record { rounds = suc x.rounds; whole = omega (arith, x.whole); above = h; most = omega arith })
    go h x (no d) =
        let z : pick (eqb v 0) 0 (pick (eqb v 1) size (v - 1)) ≡ v - 1 =
        passes _ _ _ (ne_eqb v 0 (λ f. omega (arith, x.above))) ∙ passes _ _ _ (ne_eqb v 1 d) in
        rw z (record { rounds = x.rounds; whole = omega (arith, x.whole, x.above); above = omega (arith, x.above); most = omega (arith, x.most) })

-- after some events, the oldest first
module _ (r size : ℕ) where
  after : (log : List RxEvent) (n v : ℕ) → Left size n v → Left size (in_a_row r n log) (replay (turned_long r size) log v)
  unfolding in_a_row replay turned_long
  after [] n v w = w
  after (accepted q payload ∷ log) n v w = after log _ _ (pairs (Left size) (eqb q r) (λ e. begun size) (λ e. w))
  after (expired q ∷ log) n v w = after log _ _ (pairs (Left size) (eqb q r) (λ e. lowers size n v w) (λ e. w))

pub Left-after : (r size : ℕ) (log : List RxEvent) → Left size (in_a_row r 0 log) (replay (turned_long r size) log size)
Left-after r size log = after r size log 0 size (begun size)

-- ---- the last one

module _ (size n v : ℕ) (w : Left size n v) where
  above : v ≡ 1 → 0 < size
  above e = go (ℕ_discrete size 0)
    where
      go : Dec (size ≡ 0) → 0 < size
      go (yes z) = absurd (omega (arith, w.none z))
      go (no d) = omega arith

  one_left : 0 < size → Multiple (suc n) size → v ≡ 1
  one_left h (k, e) = go (w.some h) (dec_lt k (w.some h).rounds)
    where
      go : (x : Rest size n v) → Dec (k < x.rounds) → v ≡ 1
      go x (yes l) =
          let m : suc k * size ≤ x.rounds * size = mul-le-mul_right size l in
          absurd (omega (arith, x.whole, x.most))
      go x (no d) =
          let m : x.rounds * size ≤ k * size = mul-le-mul_right size (omega arith) in
          omega (arith, x.whole, x.above)

  pub last_left : (v ≡ 1) ↔ ((0 < size) × Multiple (suc n) size)
  last_left = ((λ e. let x = w.some (above e) in (above e, (x.rounds, omega (arith, x.whole)))), λ x. one_left x.0 x.1)

pub too_few : (size n : ℕ) → suc n < size → Multiple (suc n) size → ⊥
too_few size n l (zero, e) = omega arith
too_few size n l (suc k, e) = omega arith
