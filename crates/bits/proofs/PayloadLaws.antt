-- Laws of a payload's bits: a bit after one is replaced, what stays, and that a payload's bits say what the payload is. They hold in both
-- orders, at every length and at every position.
use mathlib.Core.Path.{◌≡◌}
use mathlib.Core.Logic.{◌≢◌}
use mathlib.Core.List.{List}
use Prim.Native.Nat.{ℕ, zero, suc, ◌+◌, ◌-◌, ◌*◌, ◌/◌, ◌<◌}
use native.Mathlib.Decide.{dec_lt, ℕ_discrete}
use native.Mathlib.Omega.{arith}
use lib.ListN.{length, get_or, set, length-set, get_or-eq_default}
use lib.Seq.{get_or-set_same, get_or-set_other, ext_get_or}
use Rattle.bits.specs.Payload.{digit_of, bit_at, set_bit}
use Rattle.bits.proofs.DigitLaws.{digit-lt, digit_set_same, digit_set_other, set_digit-lt, same_digits}

-- ---- the place of a bit

pub digit_of-lt : (order p : ℕ) → digit_of order p < 8
unfolding digit_of
digit_of-lt zero p = omega arith
digit_of-lt (suc order) p = omega arith

-- two bits of one byte are two digits of it
digit_of_apart : (order p q : ℕ) → q / 8 ≡ p / 8 → digit_of order q ≡ digit_of order p → q ≡ p
unfolding digit_of
digit_of_apart zero p q h e = omega arith
digit_of_apart (suc order) p q h e = omega arith

-- and each digit e of each byte i is a bit
pub position_of : ℕ → ℕ → ℕ → ℕ
position_of zero i e = 8 * i + (7 - e)
position_of (suc order) i e = 8 * i + e

pub position_byte : (order i e : ℕ) → e < 8 → position_of order i e / 8 ≡ i
unfolding position_of
position_byte zero i e h = omega arith
position_byte (suc order) i e h = omega arith

pub position_digit : (order i e : ℕ) → e < 8 → digit_of order (position_of order i e) ≡ e
unfolding position_of digit_of
position_digit zero i e h = omega arith
position_digit (suc order) i e h = omega arith

-- ---- one bit replaced

pub bit_at-lt : (order : ℕ) (s : List ℕ) (p : ℕ) → bit_at order s p < 2
unfolding bit_at
bit_at-lt order s p = digit-lt _ _

pub length-set_bit : (order : ℕ) (s : List ℕ) (p v : ℕ) → length (set_bit order s p v) ≡ length s
unfolding set_bit
length-set_bit order s p v = length-set s _ _

-- a bit read after a write, at the same place
pub bit_at-set_bit_same : (order : ℕ) (s : List ℕ) (p v : ℕ) → p < 8 * length s → v < 2 → bit_at order (set_bit order s p v) p ≡ v
unfolding bit_at set_bit
bit_at-set_bit_same order s p v h hv =
    let l : p / 8 < length s = omega arith in
    rw (get_or-set_same) (digit_set_same _ (digit_of order p) v hv)

-- and at another
pub bit_at-set_bit_other :
    (order : ℕ) (s : List ℕ) (p v q : ℕ) → p < 8 * length s → v < 2 → q ≢ p → bit_at order (set_bit order s p v) q ≡ bit_at order s q
unfolding bit_at set_bit
bit_at-set_bit_other order s p v q h hv d = go (ℕ_discrete (q / 8) (p / 8))
  where
    l : p / 8 < length s
    l = omega arith

    go : Dec (q / 8 ≡ p / 8) → bit_at order (set_bit order s p v) q ≡ bit_at order s q
    go (yes e) = rw (e, get_or-set_same, l) (digit_set_other _ (digit_of order p) v (digit_of order q) hv (λ r. d (digit_of_apart order p q e r)))
    go (no e) = rw (get_or-set_other)

-- ---- bytes stay bytes

-- every element is a byte
abbrev pub Bytes : List ℕ → Type 0
Bytes s = (i : ℕ) → get_or s i 0 < 256

pub Bytes-set : (s : List ℕ) (at v : ℕ) → v < 256 → Bytes s → Bytes (set s at v)
Bytes-set s at v h b i = go (ℕ_discrete i at) (dec_lt at (length s))
  where
    go : Dec (i ≡ at) → Dec (at < length s) → get_or (set s at v) i 0 < 256
    go (no d) l = rw (get_or-set_other) (b i)
    go (yes d) (yes l) = rw (d, get_or-set_same) h
    go (yes d) (no l) =
        let past : get_or (set s at v) i 0 ≡ 0 = get_or-eq_default (set s at v) 0 (omega (arith, length-set s at v)) in
        omega arith

pub Bytes-set_bit : (order : ℕ) (s : List ℕ) (p v : ℕ) → p < 8 * length s → v < 2 → Bytes s → Bytes (set_bit order s p v)
unfolding set_bit
Bytes-set_bit order s p v h hv b =
    Bytes-set s (p / 8) _ (set_digit-lt 8 (get_or s (p / 8) 0) (digit_of order p) v (digit_of-lt order p) hv (b (p / 8))) b

-- ---- two payloads of one length that agree in every bit are equal

pub same_bits :
    (order : ℕ) (s t : List ℕ) → length s ≡ length t → Bytes s → Bytes t → ((p : ℕ) → p < 8 * length s → bit_at order s p ≡ bit_at order t p) → s ≡ t
unfolding bit_at
same_bits order s t l bs bt h =
    ext_get_or 0 s t l (λ i hi. same_digits 8 (get_or s i 0) (get_or t i 0) (bs i) (bt i)
    (λ e he. rw (position_byte order i e he, position_digit order i e he) at (h (position_of order i e) (omega (arith, position_byte order i e he)))))
