-- Numbers of bytes. "Two-byte numbers have the high byte first.": that is a plan's, and so have its four-byte ones; those of the area have the low byte
-- first.
use Rattle.std.specs.Prelude.{ℕ, ◌+◌, ◌*◌, ◌/◌, ◌%◌, ◌<◌, List, ltb, get_or, set}
use Rattle.base.specs.Pick.{pick}

-- the byte at a place, and 0 past the end
abbrev pub byte_at : List ℕ → ℕ → ℕ
byte_at s k = get_or s k 0

-- a list of bytes
abbrev pub Bytes : List ℕ → Type 0
Bytes s = (k : ℕ) → byte_at s k < 256

-- the two-byte number that begins at a place
abbrev pub two_at : List ℕ → ℕ → ℕ
two_at s k = byte_at s k * 256 + byte_at s (k + 1)

-- the four-byte number that begins at a place
abbrev pub four_at : List ℕ → ℕ → ℕ
four_at s k = two_at s k * 65536 + two_at s (k + 2)

-- a two-byte number with the low byte first
abbrev pub low_at : List ℕ → ℕ → ℕ
low_at s k = byte_at s (k + 1) * 256 + byte_at s k

-- the bytes with such a number stored at a place
abbrev pub set_low : List ℕ → ℕ → ℕ → List ℕ
set_low s k v = set (set s k (v % 256)) (k + 1) (v / 256 % 256)

-- a number, or the most that it may be
unfoldable pub at_most : ℕ → ℕ → ℕ
at_most most n = pick (ltb n most) n most
