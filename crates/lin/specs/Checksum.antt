-- "the enhanced checksum: the carry-folded byte sum of protected identifier and all data, in a reception every byte handed in, inverted."
use Rattle.std.specs.Prelude.{List, [], ◌∷◌, ℕ, ◌+◌, ◌-◌, ◌/◌, ◌%◌}

-- a sum with one byte more: what goes over eight bits is the carry, and is added again
unfoldable pub carried : ℕ → ℕ → ℕ
carried sum byte = (sum + byte) % 256 + (sum + byte) / 256

-- the carry-folded sum, from the bytes' first to their last
unfoldable pub folded_from : ℕ → List ℕ → ℕ
folded_from sum [] = sum
folded_from sum (byte ∷ bytes) = folded_from (carried sum byte) bytes

-- "the carry-folded byte sum"
unfoldable pub folded : List ℕ → ℕ
folded bytes = folded_from 0 bytes

-- "inverted"
unfoldable pub inverted : ℕ → ℕ
inverted byte = 255 - byte

-- "of protected identifier and all data"
unfoldable pub checksum_of : ℕ → List ℕ → ℕ
checksum_of protected bytes = inverted (folded (protected ∷ bytes))
