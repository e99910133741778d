-- The bits of a payload, a list of bytes of any length, and the copy of a signal.
--
-- "In big order bit 0 is the highest bit of byte 0 and bit 63 the lowest of byte 7. In little order bit 0 is the lowest of byte 0 and bit 63
-- the highest of byte 7." An order is the number of the plan's head: 0 is big; 1, and any number that no good plan has, is little.
use Rattle.std.specs.Prelude.{ℕ, zero, suc, ◌+◌, ◌-◌, ◌/◌, ◌%◌, Bool, false, not, ◌||◌, List, get_or, set, eqb}
use Rattle.bits.specs.Digit.{digit, set_digit}

-- which digit of its byte bit p is
unfoldable pub digit_of : ℕ → ℕ → ℕ
digit_of zero p = 7 - p % 8
digit_of (suc order) p = p % 8

-- bit p of a payload
unfoldable pub bit_at : ℕ → List ℕ → ℕ → ℕ
bit_at order payload p = digit (get_or payload (p / 8) 0) (digit_of order p)

-- the payload with bit p replaced by v
unfoldable pub set_bit : ℕ → List ℕ → ℕ → ℕ → List ℕ
set_bit order payload p v = set payload (p / 8) (set_digit (get_or payload (p / 8) 0) (digit_of order p) v)

-- "A copy puts source bit p + k at destination bit q + k for each k below s."
unfoldable pub copied : ℕ → List ℕ → ℕ → ℕ → List ℕ → ℕ → List ℕ
copied order source p zero kept q = kept
copied order source p (suc k) kept q = set_bit order (copied order source p k kept q) (q + k) (bit_at order source (p + k))

-- "any destination bit differed from the kept one"
unfoldable pub differs : ℕ → List ℕ → ℕ → ℕ → List ℕ → ℕ → Bool
differs order source p zero kept q = false
differs order source p (suc k) kept q = not (eqb (bit_at order kept (q + k)) (bit_at order source (p + k))) || differs order source p k kept q
