-- A range of bits as a number, (2 ^ s - 1) * 2 ^ p: a set clashes with it where the two have a common digit, and otherwise joins it by an or.
use mathlib.Core.Path.{◌≡◌, refl, sym, ap, ◌∙◌}
use mathlib.Core.Logic.{◌≢◌}
use mathlib.Core.Bool.{Bool, true, false}
use Prim.Native.Nat.{ℕ, zero, suc, ◌+◌, ◌-◌, ◌*◌, ◌/◌, ◌%◌, ◌^◌, ◌≤◌, ◌<◌, min}
use native.Mathlib.Nat.{pow-suc, mul_comm, add-mul, min-le_left, min-zero, zero-min}
use native.Mathlib.Decide.{dec_lt}
use native.Mathlib.Omega.{arith}
use lib.Bits.{bit_and, bit_or, and_step, and_le_l, or_disjoint}
use lib.Dec.{eqb}
use lib.Pow.{pow-add, ones_split, ones_lt, high, shl_exact}
use Rattle.bits.specs.Digit.{digit, set_digit}
use Rattle.bits.specs.Owners.{owned, clash}
use Rattle.bits.proofs.DigitLaws.{digit-zero, digit-suc, same_digits}
use Rattle.bits.proofs.ShiftLaws.{none_at, digit_up, digit_under}
use Rattle.bits.proofs.CopyLaws.{neither}
use Rattle.bits.proofs.OwnerLaws.{owned_other, clash_exactly, clash_none}

-- bits p to p + s - 1
abbrev pub range : ℕ → ℕ → ℕ
range s p = (2 ^ s - 1) * 2 ^ p

-- ---- the digits of a range, and of an and

ones_half : (s : ℕ) → (2 ^ suc s - 1) / 2 ≡ 2 ^ s - 1
ones_half s = omega (arith, pow-suc 2 s, ones_lt s)

pub ones_in : (s k : ℕ) → k < s → digit (2 ^ s - 1) k ≡ 1
ones_in zero k l = absurd (omega arith)
ones_in (suc s) zero l = rw digit-zero (omega (arith, pow-suc 2 s, ones_lt s))
ones_in (suc s) (suc k) l = rw (digit-suc, ones_half) (ones_in s k (omega arith))

pub ones_above : (s e : ℕ) → s ≤ e → digit (2 ^ s - 1) e ≡ 0
ones_above zero e h = none_at e
ones_above (suc s) zero h = absurd (omega arith)
ones_above (suc s) (suc e) h = rw (digit-suc, ones_half) (ones_above s e (omega arith))

-- each bit of the range is in it, and no other
pub range_in : (s p k : ℕ) → k < s → digit (range s p) (p + k) ≡ 1
range_in s p k l = digit_up (2 ^ s - 1) p k ∙ ones_in s k l

pub range_above : (s p e : ℕ) → p + s ≤ e → digit (range s p) e ≡ 0
range_above s p e h = let i : p + (e - p) ≡ e = omega arith in rw i at (digit_up (2 ^ s - 1) p (e - p) ∙ ones_above s (e - p) (omega arith))

pub range_below : (s p e : ℕ) → e < p → digit (range s p) e ≡ 0
range_below s p e h = digit_under (2 ^ s - 1) p e h

pub digit_and : (a b e : ℕ) → digit (bit_and a b) e ≡ min (digit a e) (digit b e)
digit_and a b zero = rw (digit-zero, digit-zero a, digit-zero b) (omega (arith, and_step a b, min-le_left (a % 2) (b % 2)))
digit_and a b (suc e) =
    rw (digit-suc, digit-suc a e, digit-suc b e)
    (ap (λ (x : ℕ). digit x e) (omega (arith, and_step a b, min-le_left (a % 2) (b % 2))) ∙ digit_and (a / 2) (b / 2) e)

-- ---- a set clashes with a range where the two have a common digit

module _ (set p s : ℕ) where
  common : (k : ℕ) → k < s → digit set (p + k) ≡ 1 → bit_and set (range s p) ≢ 0
  common k l d none =
      let one : digit (bit_and set (range s p)) (p + k) ≡ 1 = digit_and set (range s p) (p + k) ∙ rw (d, range_in s p k l) in
      let zero : digit (bit_and set (range s p)) (p + k) ≡ 0 = rw none (none_at (p + k)) in
      absurd (omega arith)

  apart : clash set p s ≡ false → (e : ℕ) → digit (bit_and set (range s p)) e ≡ 0
  apart c e = digit_and set (range s p) e ∙ at (dec_lt e p) (dec_lt e (p + s))
    where
      outside : digit (range s p) e ≡ 0 → min (digit set e) (digit (range s p) e) ≡ 0
      outside z = rw (z, min-zero)

      at : Dec (e < p) → Dec (e < p + s) → min (digit set e) (digit (range s p) e) ≡ 0
      at (yes a) b = outside (range_below s p e a)
      at (no a) (no b) = outside (range_above s p e (omega arith))
      at (no a) (yes b) =
          let i : p + (e - p) ≡ e = omega arith in
          let z : digit set e ≡ 0 = rw i at (clash_none set p s (e - p) c (omega arith)) in
          rw (z, zero-min)

  pub free_apart : (w : ℕ) → set < 2 ^ w → clash set p s ≡ false → bit_and set (range s p) ≡ 0
  free_apart w h c =
      same_digits w (bit_and set (range s p)) 0 (omega (arith, and_le_l set (range s p))) (omega (arith, and_le_l set (range s p)))
      (λ e l. apart c e ∙ sym (none_at e))

  pub apart_free : bit_and set (range s p) ≡ 0 → clash set p s ≡ false
  apart_free z = at (clash set p s) refl
    where
      at : (b : Bool) → clash set p s ≡ b → clash set p s ≡ false
      at false e = e
      at true e = let w = (clash_exactly set p s).0 e in absurd (common w.0 w.1 w.2 z)

  pub clash_common : (w : ℕ) → set < 2 ^ w → bit_and set (range s p) ≢ 0 → clash set p s ≡ true
  clash_common w h d = at (clash set p s) refl
    where
      at : (b : Bool) → clash set p s ≡ b → clash set p s ≡ true
      at true e = e
      at false e = absurd (d (free_apart w h e))

-- ---- and joins it by an or

range_more : (s p : ℕ) → range (suc s) p ≡ range s p + 2 ^ (p + s)
range_more s p =
    let double : 2 ^ suc s - 1 ≡ 2 ^ s - 1 + 2 ^ s = omega (arith, pow-suc 2 s, ones_lt s) in
    rw (double, add-mul, pow-add, mul_comm (2 ^ p) (2 ^ s))

owned_sum : (set p s : ℕ) → clash set p s ≡ false → owned set p s ≡ set + range s p
unfolding owned clash set_digit
owned_sum set p zero c = omega arith
owned_sum set p (suc s) c =
    let free : digit (owned set p s) (p + s) ≡ 0 =
    owned_other set p s (p + s) (λ k l. omega arith) ∙ clash_none set p (suc s) s c (omega arith) in
    rw free (omega (arith, range_more s p, owned_sum set p s (neither (eqb (digit set (p + s)) 1) (clash set p s) c).1))

pub owned_or : (set p s : ℕ) → bit_and set (range s p) ≡ 0 → bit_or set (range s p) ≡ owned set p s
owned_or set p s z = or_disjoint set (range s p) z ∙ sym (owned_sum set p s (apart_free set p s z))

-- ---- as the code makes it: all of 64 ones, pushed down to s and up by p

pub range_made : (s p : ℕ) → p + s ≤ 64 → 18446744073709551615 / 2 ^ (64 - s) * 2 ^ p % 18446744073709551616 ≡ range s p
range_made s p h =
    let split : 18446744073709551615 ≡ (2 ^ s - 1) * 2 ^ (64 - s) + (2 ^ (64 - s) - 1) =
    let e : s + (64 - s) ≡ 64 = omega arith in rw e at (ones_split s (64 - s)) in
    rw (split, high (2 ^ s - 1) (64 - s) (ones_lt (64 - s))) (shl_exact s p 64 (ones_lt s) (omega arith))
