-- Each bit of a payload is one digit of its number.
use mathlib.Core.Path.{◌≡◌, refl, sym, ap, ◌∙◌}
use mathlib.Core.Logic.{dite}
use mathlib.Core.List.{List, [], ◌∷◌}
use Prim.Native.Nat.{ℕ, zero, suc, ◌+◌, ◌-◌, ◌*◌, ◌/◌, ◌%◌, ◌^◌, ◌<◌}
use native.Mathlib.Nat.{mod-lt}
use native.Mathlib.Decide.{dec_lt}
use native.Mathlib.Omega.{arith}
use lib.ListN.{length}
use lib.Pow.{pow_pos, pow-add, shr-shr, split}
use Rattle.base.specs.Numbers.{Bytes}
use Rattle.bits.specs.Digit.{digit}
use Rattle.bits.specs.Payload.{digit_of, bit_at}
use Rattle.restated.specs.Bits.{bits_of, little_number, joined_bytes, number_in, place_in, BitsAtEnds, BitsByNumbers}
use Rattle.restated.proofs.Digits.{digit_none, digit_low, digit_high}

-- a digit of the lowest byte of a number
low_byte : (n byte e : ℕ) → e < 8 → digit (byte + 256 * n) e ≡ digit byte e
low_byte n byte e h =
    let same : (byte + 256 * n) % 256 ≡ byte % 256 = omega arith in
    sym (digit_low 8 (byte + 256 * n) e h) ∙ ap (λ x. digit x e) same ∙ digit_low 8 byte e h

-- a bit of the first byte, and of the others
first_bit : (order byte : ℕ) (bytes : List ℕ) (p : ℕ) → p < 8 → bit_at order (byte ∷ bytes) p ≡ digit byte (digit_of order p)
unfolding bit_at
first_bit order byte bytes p h = let e : p / 8 ≡ 0 = omega arith in rw e

later_bit : (order byte : ℕ) (bytes : List ℕ) (p : ℕ) → bit_at order (byte ∷ bytes) (8 + p) ≡ bit_at order bytes p
unfolding bit_at digit_of
later_bit zero byte bytes p = let e : (8 + p) / 8 ≡ suc (p / 8) = omega arith in let f : (8 + p) % 8 ≡ p % 8 = omega arith in rw (e, f)
later_bit (suc order) byte bytes p = let e : (8 + p) / 8 ≡ suc (p / 8) = omega arith in let f : (8 + p) % 8 ≡ p % 8 = omega arith in rw (e, f)

-- what holds of the bits of the first byte and of the others holds of all
by_byte : (P : ℕ → Type 0) → ((p : ℕ) → p < 8 → P p) → ((p : ℕ) → P (8 + p)) → (p : ℕ) → P p
by_byte P low high p = dite (dec_lt p 8) (low p) (λ d. let e : 8 + (p - 8) ≡ p = omega arith in rw e at (high (p - 8)))

-- ---- little order

little_bit : (order : ℕ) (payload : List ℕ) → Bytes payload → (p : ℕ) → bit_at (suc order) payload p ≡ digit (little_number payload) p
unfolding little_number
little_bit order [] b = unfold bit_at in λ p. digit_none (digit_of (suc order) p) ∙ sym (digit_none p)
little_bit order (byte ∷ bytes) b =
    by_byte (λ p. bit_at (suc order) (byte ∷ bytes) p ≡ digit (byte + 256 * little_number bytes) p)
    (λ p h. first_bit (suc order) byte bytes p h ∙ low p h)
    (λ p. later_bit (suc order) byte bytes p ∙ little_bit order bytes (λ i. b (suc i)) p ∙ high p)
  where
    low : (p : ℕ) → p < 8 → digit byte (digit_of (suc order) p) ≡ digit (byte + 256 * little_number bytes) p
    low p h = unfold digit_of in let e : p % 8 ≡ p = omega arith in rw e (sym (low_byte (little_number bytes) byte p h))

    high : (p : ℕ) → digit (little_number bytes) p ≡ digit (byte + 256 * little_number bytes) (8 + p)
    high p =
        let e : little_number bytes ≡ (byte + 256 * little_number bytes) / 256 = omega (arith, b 0) in
        ap (λ x. digit x p) e ∙ digit_high 8 (byte + 256 * little_number bytes) p

little_lt : (payload : List ℕ) → Bytes payload → little_number payload < 2 ^ bits_of payload
unfolding little_number
little_lt [] b = omega arith
little_lt (byte ∷ bytes) b =
    let w : 8 * suc (length bytes) ≡ 8 + bits_of bytes = omega arith in
    rw (w, pow-add 2 8 (bits_of bytes)) (omega (arith, b 0, little_lt bytes (λ i. b (suc i))))

-- ---- big order

-- the bytes that join take the low end
joined_high : (n : ℕ) (payload : List ℕ) → Bytes payload → joined_bytes n payload / 2 ^ bits_of payload ≡ n
unfolding joined_bytes
joined_high n [] b = omega arith
joined_high n (byte ∷ bytes) b =
    let w : 8 * suc (length bytes) ≡ bits_of bytes + 8 = omega arith in
    let all = joined_bytes (n * 256 + byte) bytes in
    rw (w, ← (shr-shr all (bits_of bytes) 8), joined_high (n * 256 + byte) bytes (λ i. b (suc i))) (omega (arith, b 0))

big_bit : (n : ℕ) (payload : List ℕ) → Bytes payload → (p : ℕ) → p < bits_of payload
    → bit_at 0 payload p ≡ digit (joined_bytes n payload) (bits_of payload - (p + 1))
unfolding joined_bytes
big_bit n [] b = λ p h. absurd (omega arith)
big_bit n (byte ∷ bytes) b =
    by_byte (λ p. p < 8 * suc (length bytes) → bit_at 0 (byte ∷ bytes) p ≡ digit all (8 * suc (length bytes) - (p + 1)))
    (λ p h l. first_bit 0 byte bytes p h ∙ low p h)
    (λ p l. later_bit 0 byte bytes p ∙ big_bit (n * 256 + byte) bytes (λ i. b (suc i)) p (omega arith) ∙ high p)
  where
    all : ℕ
    all = joined_bytes (n * 256 + byte) bytes

    low : (p : ℕ) → p < 8 → digit byte (digit_of 0 p) ≡ digit all (8 * suc (length bytes) - (p + 1))
    low p h = unfold digit_of in
        let e : p % 8 ≡ p = omega arith in
        let f : bits_of bytes + (7 - p) ≡ 8 * suc (length bytes) - (p + 1) = omega arith in
        let g : byte + 256 * n ≡ all / 2 ^ bits_of bytes = omega (arith, joined_high (n * 256 + byte) bytes (λ i. b (suc i))) in
        rw e (sym (low_byte n byte (7 - p) (omega arith)) ∙ ap (λ x. digit x (7 - p)) g ∙ digit_high (bits_of bytes) all (7 - p) ∙ ap (digit all) f)

    high : (p : ℕ) → digit all (bits_of bytes - (p + 1)) ≡ digit all (8 * suc (length bytes) - (8 + p + 1))
    high p = let e : bits_of bytes - (p + 1) ≡ 8 * suc (length bytes) - (8 + p + 1) = omega arith in ap (digit all) e

-- a number of w digits has nothing above them
below : (w n : ℕ) → n / 2 ^ w ≡ 0 → n < 2 ^ w
below w n e = omega (arith, split n w, mod-lt n (pow_pos w), ap (λ x. x * 2 ^ w) e)

-- ---- both

pub number_lt : (order : ℕ) (payload : List ℕ) → Bytes payload → number_in order payload < 2 ^ bits_of payload
unfolding number_in
number_lt zero payload b = below (bits_of payload) _ (joined_high 0 payload b)
number_lt (suc order) payload b = little_lt payload b

pub bits_by_digits :
    (order : ℕ) (payload : List ℕ) (p : ℕ) → Bytes payload → p < bits_of payload
    → bit_at order payload p ≡ digit (number_in order payload) (place_in order (bits_of payload) p 1)
unfolding number_in place_in
bits_by_digits zero payload p b h = big_bit 0 payload b p h
bits_by_digits (suc order) payload p b h = little_bit order payload b p

pub bits_at_ends : BitsAtEnds
unfolding bit_at digit_of digit
bits_at_ends a b c d e f g h = record { big_first = refl; big_last = omega arith; little_first = omega arith; little_last = refl }

pub bits_by_numbers : BitsByNumbers
unfolding digit
bits_by_numbers = bits_by_digits
