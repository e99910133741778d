-- A payload as one number, and its bits as that number's digits. "In big order bit 0 is the highest bit of byte 0 and bit 63 the lowest of byte 7.
-- In little order bit 0 is the lowest of byte 0 and bit 63 the highest of byte 7."
use Rattle.std.specs.Prelude.{◌≡◌, List, [], ◌∷◌, ℕ, zero, suc, ◌+◌, ◌-◌, ◌*◌, ◌/◌, ◌%◌, ◌^◌, ◌<◌, length}
use Rattle.base.specs.Numbers.{Bytes}
use Rattle.bits.specs.Payload.{bit_at}

-- how many bits a payload has
abbrev pub bits_of : List ℕ → ℕ
bits_of payload = 8 * length payload

-- in little order byte 0 is the lowest of the number
unfoldable pub little_number : List ℕ → ℕ
little_number [] = 0
little_number (byte ∷ bytes) = byte + 256 * little_number bytes

-- in big order it is the highest, since each byte after it joins at the low end
unfoldable pub joined_bytes : ℕ → List ℕ → ℕ
joined_bytes number [] = number
joined_bytes number (byte ∷ bytes) = joined_bytes (number * 256 + byte) bytes

-- order 0 is big; 1, and any number that no good plan has, is little
unfoldable pub number_in : ℕ → List ℕ → ℕ
number_in zero payload = joined_bytes 0 payload
number_in (suc order) payload = little_number payload

-- "A signal of size s at position p is bits p to p + s − 1": the lowest digit of such a signal in the number of a payload of so many bits
unfoldable pub place_in : ℕ → ℕ → ℕ → ℕ → ℕ
place_in zero bits p s = bits - (p + s)
place_in (suc order) bits p s = p

-- the sentences above, of eight bytes as they stand
pub record EndBits (a b c d e f g h : ℕ) : Type 0 where
  pub big_first : bit_at 0 (a ∷ b ∷ c ∷ d ∷ e ∷ f ∷ g ∷ h ∷ []) 0 ≡ a / 128 % 2
  pub big_last : bit_at 0 (a ∷ b ∷ c ∷ d ∷ e ∷ f ∷ g ∷ h ∷ []) 63 ≡ h % 2
  pub little_first : bit_at 1 (a ∷ b ∷ c ∷ d ∷ e ∷ f ∷ g ∷ h ∷ []) 0 ≡ a % 2
  pub little_last : bit_at 1 (a ∷ b ∷ c ∷ d ∷ e ∷ f ∷ g ∷ h ∷ []) 63 ≡ h / 128 % 2

abbrev pub BitsAtEnds : Type 0
BitsAtEnds = (a b c d e f g h : ℕ) → EndBits a b c d e f g h

-- bit p is one digit: in little order digit p, in big order digit bits - (p + 1)
abbrev pub BitsByNumbers : Type 0
BitsByNumbers =
    (order : ℕ) (payload : List ℕ) (p : ℕ) → Bytes payload → p < bits_of payload
    → bit_at order payload p ≡ number_in order payload / 2 ^ place_in order (bits_of payload) p 1 % 2
