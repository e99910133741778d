-- The digits of a number that is moved up or down, cut, or put together of two parts. They hold over every width.
use mathlib.Core.Path.{◌≡◌, sym, ap, ◌∙◌}
use Prim.Native.Nat.{ℕ, zero, suc, ◌+◌, ◌*◌, ◌/◌, ◌%◌, ◌^◌, ◌≤◌, ◌<◌}
use native.Mathlib.Nat.{pow-suc, mul-one, zero-add, suc-add, suc-mul, mul-le-mul_right, mod-le, mod-lt}
use native.Mathlib.Numerals.{add-one}
use native.Mathlib.Decide.{dec_lt}
use native.Mathlib.Omega.{arith}
use lib.Bits.{shifted_half, shifted_even}
use lib.Pow.{pow_pos, pow-add, shr-shr, field, mod-mod-pow, high, low}
use Rattle.bits.specs.Digit.{digit}
use Rattle.bits.proofs.DigitLaws.{digit-zero, digit-suc, same_digits}

-- ---- no digit but 0

pub none_at : (e : ℕ) → digit 0 e ≡ 0
none_at zero = rw digit-zero
none_at (suc e) = rw digit-suc (none_at e)

-- a number of w digits has no more
pub digit_past : (w n e : ℕ) → n < 2 ^ w → w ≤ e → digit n e ≡ 0
digit_past zero n e h l = let z : n ≡ 0 = omega arith in rw z (none_at e)
digit_past (suc w) n zero h l = absurd (omega arith)
digit_past (suc w) n (suc e) h l = rw digit-suc (digit_past w (n / 2) e (omega (arith, pow-suc 2 w)) (omega arith))

-- ---- moved up: the digits stand q higher, and below them there is none

pub digit_up : (x q k : ℕ) → digit (x * 2 ^ q) (q + k) ≡ digit x k
digit_up x zero k = rw (mul-one, zero-add)
digit_up x (suc q) k = rw (suc-add, digit-suc, shifted_half) (digit_up x q k)

pub digit_under : (x q e : ℕ) → e < q → digit (x * 2 ^ q) e ≡ 0
digit_under x zero e h = absurd (omega arith)
digit_under x (suc q) zero h = rw (digit-zero, shifted_even)
digit_under x (suc q) (suc e) h = rw (digit-suc, shifted_half) (digit_under x q e (omega arith))

-- ---- moved down

pub digit_down : (n q e : ℕ) → digit (n / 2 ^ q) e ≡ digit n (q + e)
unfolding digit
digit_down n q e = rw (shr-shr)

-- ---- cut to w digits

mod_half : (w n : ℕ) → n % 2 ^ suc w / 2 ≡ n / 2 % 2 ^ w
mod_half w n = rw (add-one) at (field n w 1)

mod_even : (w n : ℕ) → n % 2 ^ suc w % 2 ≡ n % 2
mod_even w n = rw (add-one) at (mod-mod-pow n w 1)

pub digit-mod : (w n e : ℕ) → e < w → digit (n % 2 ^ w) e ≡ digit n e
digit-mod zero n e h = absurd (omega arith)
digit-mod (suc w) n zero h = rw (digit-zero, digit-zero n) (mod_even w n)
digit-mod (suc w) n (suc e) h = rw (digit-suc, digit-suc n e) (ap (λ (x : ℕ). digit x e) (mod_half w n) ∙ digit-mod w (n / 2) e (omega arith))

-- a number that has no digit from w on has w digits
pub few_digits : (w v n : ℕ) → n < 2 ^ v → ((e : ℕ) → w ≤ e → e < v → digit n e ≡ 0) → n < 2 ^ w
few_digits w v n h none = rw same (mod-lt n (pow_pos w))
  where
    at : (e : ℕ) → e < v → Dec (e < w) → digit n e ≡ digit (n % 2 ^ w) e
    at e l (yes m) = sym (digit-mod w n e m)
    at e l (no m) = none e (omega arith) l ∙ sym (digit_past w (n % 2 ^ w) e (mod-lt n (pow_pos w)) (omega arith))

    same : n ≡ n % 2 ^ w
    same = same_digits v n (n % 2 ^ w) h (omega (arith, mod-le n (2 ^ w))) (λ e l. at e l (dec_lt e w))

-- ---- put together of w lower digits and the others

pub parts_lt : (v w hi lo : ℕ) → hi < 2 ^ v → lo < 2 ^ w → hi * 2 ^ w + lo < 2 ^ (v + w)
parts_lt v w hi lo h l =
    let room : suc hi * 2 ^ w ≤ 2 ^ v * 2 ^ w = mul-le-mul_right (2 ^ w) h in
    rw pow-add (omega (arith, room, suc-mul hi (2 ^ w)))

pub digit_high : (w hi lo k : ℕ) → lo < 2 ^ w → digit (hi * 2 ^ w + lo) (w + k) ≡ digit hi k
digit_high w hi lo k h = sym (digit_down (hi * 2 ^ w + lo) w k) ∙ ap (λ (x : ℕ). digit x k) (high hi w h)

pub digit_low : (w hi lo e : ℕ) → lo < 2 ^ w → e < w → digit (hi * 2 ^ w + lo) e ≡ digit lo e
digit_low w hi lo e h l = sym (digit-mod w (hi * 2 ^ w + lo) e l) ∙ ap (λ (x : ℕ). digit x e) (low hi w h)
