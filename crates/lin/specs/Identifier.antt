-- "the protected identifier of LIN 2.x: bit 6 is the exclusive or of ID bits 0, 1, 2 and 4; bit 7 the inverse of that of bits 1, 3, 4 and 5."
use Rattle.std.specs.Prelude.{List, [], ◌∷◌, ℕ, ◌+◌, ◌-◌, ◌*◌, ◌/◌, ◌%◌, ◌^◌}
use Rattle.std.specs.Int.Bits.{bit_xor}

-- "the exclusive or of ID bits" of these numbers
unfoldable pub exclusive_or : ℕ → List ℕ → ℕ
exclusive_or id [] = 0
exclusive_or id (k ∷ ks) = bit_xor (id / 2 ^ k % 2) (exclusive_or id ks)

-- the low six bits are the ID's
unfoldable pub protected_of : ℕ → ℕ
protected_of id = id % 64 + exclusive_or id (0 ∷ 1 ∷ 2 ∷ 4 ∷ []) * 2 ^ 6 + (1 - exclusive_or id (1 ∷ 3 ∷ 4 ∷ 5 ∷ [])) * 2 ^ 7
