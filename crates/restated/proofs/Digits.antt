-- The digits of a number's parts.
use mathlib.Core.Path.{◌≡◌, sym, ap, ◌∙◌}
use Prim.Native.Nat.{ℕ, ◌+◌, ◌-◌, ◌/◌, ◌%◌, ◌^◌, ◌<◌}
use native.Mathlib.Nat.{zero-div, mod-lt}
use native.Mathlib.Omega.{arith}
use lib.Pow.{pow_pos, shr-shr, field, mod-mod-pow}
use Rattle.bits.specs.Digit.{digit}
use Rattle.bits.proofs.DigitLaws.{same_digits}

pub digit_none : (e : ℕ) → digit 0 e ≡ 0
unfolding digit
digit_none e = rw (zero-div (2 ^ e))

-- of the low w digits, and of those above them
pub digit_low : (w n e : ℕ) → e < w → digit (n % 2 ^ w) e ≡ digit n e
unfolding digit
digit_low w n e h =
    let j = w - e - 1 in
    let split : w ≡ j + 1 + e = omega arith in
    rw (split, field n (j + 1) e) (mod-mod-pow (n / 2 ^ e) j 1)

pub digit_high : (w n e : ℕ) → digit (n / 2 ^ w) e ≡ digit n (w + e)
unfolding digit
digit_high w n e = ap (λ x. x % 2) (shr-shr n w e)

-- two fields of s digits are one number exactly where their digits are the same
module _ (s d e m n : ℕ) where
  pub same_field : ((k : ℕ) → k < s → digit m (d + k) ≡ digit n (e + k)) → m / 2 ^ d % 2 ^ s ≡ n / 2 ^ e % 2 ^ s
  same_field h =
      same_digits s (m / 2 ^ d % 2 ^ s) (n / 2 ^ e % 2 ^ s) (mod-lt _ (pow_pos s)) (mod-lt _ (pow_pos s))
      (λ k l. digit_low s (m / 2 ^ d) k l ∙ digit_high d m k ∙ h k l ∙ sym (digit_low s (n / 2 ^ e) k l ∙ digit_high e n k))

  pub field_same : m / 2 ^ d % 2 ^ s ≡ n / 2 ^ e % 2 ^ s → (k : ℕ) → k < s → digit m (d + k) ≡ digit n (e + k)
  field_same h k l =
      sym (digit_low s (m / 2 ^ d) k l ∙ digit_high d m k) ∙ ap (λ x. digit x k) h ∙ digit_low s (n / 2 ^ e) k l ∙ digit_high e n k
