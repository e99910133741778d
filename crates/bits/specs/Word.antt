-- A signal's bits as a number of 64 digits, and the eight bytes that they come to stand in, made up before any is stored.
use Rattle.std.specs.Prelude.{ℕ, zero, suc, ◌+◌, ◌-◌, ◌*◌, ◌/◌, ◌%◌, ◌^◌, ◌<◌, ◌≡◌, List, eqb, get_or, set}
use Rattle.base.specs.Numbers.{at_most}
use Rattle.base.specs.Pick.{pick}
use Rattle.bits.specs.Digit.{digit}
use Rattle.bits.specs.Payload.{bit_at}

-- how many bits of a size the eight bytes have room for that begin with the byte of bit q
unfoldable pub fitting : ℕ → ℕ → ℕ
fitting q s = at_most (64 - q % 8) s

-- which digit of a number of 64 digits a signal's bit k is: in big order the first bit is the highest, in little order the lowest
unfoldable pub place_of : ℕ → ℕ → ℕ
place_of zero k = 63 - k
place_of (suc order) k = k

-- a number has, from its first bit on, the n bits of a payload from bit p on
abbrev pub Bits : ℕ → ℕ → List ℕ → ℕ → ℕ → Type 0
Bits order number payload p n = (k : ℕ) → k < 64 → k < n → digit number (place_of order k) ≡ bit_at order payload (p + k)

-- n bytes from a place on as a number, the first lowest, 0 past the end
unfoldable pub low_first : ℕ → List ℕ → ℕ → ℕ
low_first zero bytes at = 0
low_first (suc n) bytes at = low_first n bytes (at + 1) * 256 + get_or bytes at 0

-- the n bytes of a number turned round
unfoldable pub reversed : ℕ → ℕ → ℕ
reversed zero number = 0
reversed (suc n) number = number % 256 * 2 ^ (8 * n) + reversed n (number / 256)

-- the bits of eight bytes from bit p on
unfoldable pub from_bit : ℕ → ℕ → ℕ → ℕ
from_bit zero bytes p = reversed 8 bytes * 2 ^ p % 2 ^ 64
from_bit (suc order) bytes p = bytes / 2 ^ p

-- the bits as eight bytes again, from bit o of the first byte on
unfoldable pub in_bytes : ℕ → ℕ → ℕ → ℕ
in_bytes zero bits o = reversed 8 (bits / 2 ^ o)
in_bytes (suc order) bits o = bits * 2 ^ o % 2 ^ 64

-- a one for each of the first s bits
unfoldable pub ones_of : ℕ → ℕ → ℕ
ones_of zero s = (2 ^ s - 1) * 2 ^ (64 - s)
ones_of (suc order) s = 2 ^ s - 1

-- the number of n digits whose digit e is f e
unfoldable pub built : ℕ → (ℕ → ℕ) → ℕ
built zero f = 0
built (suc n) f = f n * 2 ^ n + built n f

-- eight bytes made up of the kept ones and new ones: their digits are the new ones' where the mask has a one, and the kept ones' elsewhere
unfoldable pub made_up : ℕ → ℕ → ℕ → ℕ
made_up kept new mask = built 64 (λ e. pick (eqb (digit mask e) 1) (digit new e) (digit kept e))

-- the n bytes of a number stored from a place on, the lowest first
unfoldable pub bytes_stored : ℕ → List ℕ → ℕ → ℕ → List ℕ
bytes_stored zero kept at number = kept
bytes_stored (suc n) kept at number = bytes_stored n (set kept at (number % 256)) (at + 1) (number / 256)
