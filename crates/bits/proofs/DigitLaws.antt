-- Laws of a number's digits, over every number and every digit. Each goes by induction on the digit, from two laws of one step: digit e + 1 of
-- n is digit e of n / 2, and to replace it is to replace digit e of n / 2 and keep n's lowest digit.
use mathlib.Core.Path.{◌≡◌, refl, sym, ap, ◌∙◌}
use mathlib.Core.Logic.{◌≢◌}
use Prim.Native.Nat.{ℕ, zero, suc, ◌+◌, ◌*◌, ◌/◌, ◌%◌, ◌^◌, ◌≤◌, ◌<◌}
use native.Mathlib.Nat.{pow-suc, div-div-eq-div-mul, div-mul-le_self, mod-le, le_trans, mul-le-mul_right, mul_comm, mul_assoc}
use native.Mathlib.Omega.{arith}
use Rattle.bits.specs.Digit.{digit, set_digit}

-- ---- one step

pub digit-zero : (n : ℕ) → digit n 0 ≡ n % 2
unfolding digit
digit-zero n = omega arith

pub digit-suc : (n e : ℕ) → digit n (suc e) ≡ digit (n / 2) e
unfolding digit
digit-suc n e = rw (pow-suc, mul_comm (2 ^ e) 2, div-div-eq-div-mul)

pub digit-lt : (n e : ℕ) → digit n e < 2
unfolding digit
digit-lt n e = omega arith

-- the digit's weight is in n
pub digit_weight : (n e : ℕ) → digit n e * 2 ^ e ≤ n
unfolding digit
digit_weight n e = le_trans (mul-le-mul_right (2 ^ e) (mod-le (n / 2 ^ e) 2)) (div-mul-le_self n (2 ^ e))

set_digit-zero : (n v : ℕ) → set_digit n 0 v ≡ n / 2 * 2 + v
unfolding set_digit
set_digit-zero n v = rw (digit-zero) (omega arith)

set_digit-suc : (n e v : ℕ) → set_digit n (suc e) v ≡ set_digit (n / 2) e v * 2 + n % 2
unfolding set_digit
set_digit-suc n e v = rw (digit-suc, pow-suc, ← mul_assoc, ← mul_assoc) (omega (arith, digit_weight (n / 2) e))

-- ---- a digit after one is replaced, and how large the number is

pub digit_set_same : (n e v : ℕ) → v < 2 → digit (set_digit n e v) e ≡ v
digit_set_same n zero v h = rw (set_digit-zero, digit-zero) (omega arith)
digit_set_same n (suc e) v h = rw (set_digit-suc, digit-suc) (ap (λ (x : ℕ). digit x e) (omega arith) ∙ digit_set_same (n / 2) e v h)

pub digit_set_other : (n e v f : ℕ) → v < 2 → f ≢ e → digit (set_digit n e v) f ≡ digit n f
digit_set_other n zero v zero h d = absurd (d refl)
digit_set_other n zero v (suc f) h d = rw (set_digit-zero, digit-suc, digit-suc) (ap (λ (x : ℕ). digit x f) (omega arith))
digit_set_other n (suc e) v zero h d = rw (set_digit-suc, digit-zero, digit-zero) (omega arith)
digit_set_other n (suc e) v (suc f) h d =
    rw (set_digit-suc, digit-suc, digit-suc) (ap (λ (x : ℕ). digit x f) (omega arith) ∙ digit_set_other (n / 2) e v f h (λ p. d (ap suc p)))

pub set_digit-lt : (w n e v : ℕ) → e < w → v < 2 → n < 2 ^ w → set_digit n e v < 2 ^ w
set_digit-lt zero n e v he hv hn = omega arith
set_digit-lt (suc w) n zero v he hv hn = rw (set_digit-zero) (omega (arith, pow-suc 2 w))
set_digit-lt (suc w) n (suc e) v he hv hn =
    rw (set_digit-suc) (omega (arith, pow-suc 2 w, set_digit-lt w (n / 2) e v (omega arith) hv (omega (arith, pow-suc 2 w))))

-- two numbers of w digits with the same digits are the same
pub same_digits : (w a b : ℕ) → a < 2 ^ w → b < 2 ^ w → ((e : ℕ) → e < w → digit a e ≡ digit b e) → a ≡ b
same_digits zero a b ha hb h = omega arith
same_digits (suc w) a b ha hb h =
    omega (
      arith,
      (sym (digit-zero a) ∙ h 0 (omega arith) ∙ digit-zero b),
      same_digits w (a / 2) (b / 2) (omega (arith, pow-suc 2 w)) (omega (arith, pow-suc 2 w))
          (λ e l. sym (digit-suc a e) ∙ h (suc e) (omega arith) ∙ digit-suc b e),
    )
