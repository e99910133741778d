-- Laws of numbers brought into range, and of numbers with the low byte first.
use mathlib.Core.Path.{◌≡◌, refl, sym, ◌∙◌}
use mathlib.Core.Logic.{◌≢◌}
use mathlib.Core.List.{List}
use Prim.Native.Nat.{ℕ, ◌+◌, ◌<◌, ◌≤◌, ◌%◌}
use native.Mathlib.Decide.{dec_lt}
use native.Mathlib.Omega.{arith}
use lib.Dec.{ltb}
use lib.ListN.{length, set, length-set}
use lib.Seq.{get_or-set_same, get_or-set_other}
use borrow.Author.Tests.{ltb-true, ltb-false}
use Rattle.base.specs.Numbers.{low_at, set_low, at_most}
use Rattle.base.proofs.Picks.{cases, both}

pub at_most-le : (most n : ℕ) → at_most most n ≤ most
unfolding at_most
at_most-le most n = cases (λ x. x ≤ most) (ltb n most) n most (λ e. omega (arith, ltb-true n most e)) (λ e. omega arith)

-- a number in range stays
pub at_most_is : (most n : ℕ) → n ≤ most → at_most most n ≡ n
unfolding at_most
at_most_is most n h = cases (λ x. x ≡ n) (ltb n most) n most (λ e. refl) (λ e. omega (arith, ltb-false n most e))

-- it is no more than it was
pub at_most_fewer : (most n : ℕ) → at_most most n ≤ n
unfolding at_most
at_most_fewer most n = cases (λ x. x ≤ n) (ltb n most) n most (λ e. omega arith) (λ e. omega (arith, ltb-false n most e))

-- and takes in what is below both
pub at_most_above : (most n k : ℕ) → k < n → k < most → k < at_most most n
unfolding at_most
at_most_above most n k h l = both (λ x. k < x) (ltb n most) n most h l

-- a number out of range is the most
pub at_most_over : (most n : ℕ) → most ≤ n → at_most most n ≡ most
unfolding at_most
at_most_over most n h = cases (λ x. x ≡ most) (ltb n most) n most (λ e. omega (arith, ltb-true n most e)) (λ e. refl)

-- the narrower range decides
pub at_most_twice : (most more n : ℕ) → most ≤ more → at_most most (at_most more n) ≡ at_most most n
at_most_twice most more n h = go (dec_lt n more)
  where
    go : Dec (n < more) → at_most most (at_most more n) ≡ at_most most n
    go (yes l) = rw (at_most_is more n (omega arith))
    go (no l) = rw (at_most_over more n (omega arith)) (at_most_over most more h ∙ sym (at_most_over most n (omega arith)))

-- what is read of a stored number
pub low_same : (a : List ℕ) (i v : ℕ) → i + 2 ≤ length a → v < 65536 → low_at (set_low a i v) i ≡ v
low_same a i v h l =
    let x : i ≢ i + 1 = λ e. omega arith in
    let y : i < length a = omega arith in
    let z : i + 1 < length (set a i (v % 256)) = rw length-set (omega arith) in
    rw (get_or-set_same, get_or-set_other, get_or-set_same) (omega arith)
