-- The protected identifier: the exclusive or of bits is the last digit of a sum.
use mathlib.Core.Path.{◌≡◌, refl, ◌∙◌}
use mathlib.Core.List.{List, [], ◌∷◌}
use Prim.Native.Nat.{ℕ, zero, suc, ◌+◌, ◌-◌, ◌*◌, ◌/◌, ◌%◌, ◌^◌, ◌<◌}
use native.Mathlib.Omega.{arith}
use lib.Bits.{bit_xor, xor_lt, xor_add_and}
use Rattle.lin.specs.Identifier.{exclusive_or, protected_of}
use Rattle.lin.specs.Statements.{ParityBits, KnownIdentifiers}

exclusive_lt : (id : ℕ) (ks : List ℕ) → exclusive_or id ks < 2
unfolding exclusive_or
exclusive_lt id [] = omega arith
exclusive_lt id (k ∷ ks) = xor_lt 1 (id / 2 ^ k % 2) (exclusive_or id ks) (omega arith) (exclusive_lt id ks)

-- the sum of the numbers which have those bits lowest
abbrev shifted : ℕ → List ℕ → ℕ
shifted id [] = 0
shifted id (k ∷ ks) = id / 2 ^ k + shifted id ks

exclusive_sum : (id : ℕ) (ks : List ℕ) → exclusive_or id ks ≡ shifted id ks % 2
unfolding exclusive_or
exclusive_sum id [] = refl
exclusive_sum id (k ∷ ks) = omega (arith, exclusive_lt id (k ∷ ks), xor_add_and (id / 2 ^ k % 2) (exclusive_or id ks), exclusive_sum id ks)

bit_six : (id : ℕ) → exclusive_or id (0 ∷ 1 ∷ 2 ∷ 4 ∷ []) ≡ (id + id / 2 + id / 4 + id / 16) % 2
bit_six id = exclusive_sum id _ ∙ omega arith

bit_seven : (id : ℕ) → exclusive_or id (1 ∷ 3 ∷ 4 ∷ 5 ∷ []) ≡ (id / 2 + id / 8 + id / 16 + id / 32) % 2
bit_seven id = exclusive_sum id _ ∙ omega arith

-- the exclusive or of four numbers has the last digit of their sum
pub xor_four : (a b c d : ℕ) → bit_xor (bit_xor (bit_xor a b) c) d % 2 ≡ (a + b + c + d) % 2
xor_four a b c d = omega (arith, xor_add_and a b, xor_add_and (bit_xor a b) c, xor_add_and (bit_xor (bit_xor a b) c) d)

pub protected_sums : (id : ℕ)
    → protected_of id
    ≡ id % 64 + (id + id / 2 + id / 4 + id / 16) % 2 * 64 + (1 - (id / 2 + id / 8 + id / 16 + id / 32) % 2) * 128
unfolding protected_of
protected_sums id = rw (bit_six, bit_seven)

-- six bits with the last digits of two sums above them
joined : (n low s t : ℕ) → low < 64 → n ≡ low + s % 2 * 64 + (1 - t % 2) * 128
    → (n < 256) × (n % 64 ≡ low) × ((n / 64 + s) % 2 ≡ 0) × ((n / 128 + t) % 2 ≡ 1)
joined n low s t h e = omega arith

joined_protected : (id : ℕ)
    → (protected_of id < 256)
    × (protected_of id % 64 ≡ id % 64)
    × ((protected_of id / 64 + (id + id / 2 + id / 4 + id / 16)) % 2 ≡ 0)
    × ((protected_of id / 128 + (id / 2 + id / 8 + id / 16 + id / 32)) % 2 ≡ 1)
joined_protected id = joined (protected_of id) (id % 64) _ _ (omega arith) (protected_sums id)

-- none of six bits leaves bit 7 set
no_bits : (id q : ℕ) → id ≡ 64 * q → (id / 2 + id / 8 + id / 16 + id / 32) % 2 ≡ 0
no_bits id q e =
    let parts : (id / 2 ≡ 32 * q) × (id / 8 ≡ 8 * q) × (id / 16 ≡ 4 * q) × (id / 32 ≡ 2 * q) = omega arith in
    rw (parts.0, parts.1, parts.2, parts.3) (omega arith)

protected_above : (id : ℕ) → 0 < protected_of id
protected_above id = go (protected_of id) refl
  where
    go : (n : ℕ) → protected_of id ≡ n → 0 < n
    go (suc n) e = omega arith
    go zero e =
        let none = no_bits id (id / 64) (omega (arith, (joined_protected id).1)) in
        absurd (omega (arith, (joined_protected id).3))

pub parity_bits : ParityBits
parity_bits =
    record {
      byte = λ id. (joined_protected id).0;
      above = protected_above;
      low = λ id. (joined_protected id).1;
      six = λ id. (joined_protected id).2;
      seven = λ id. (joined_protected id).3;
    }

pub known_identifiers : KnownIdentifiers
unfolding protected_of exclusive_or
known_identifiers = (refl, refl, refl, refl, refl)
