-- The copy of a signal by the numbers that the payloads are; no bit is spoken of. "A copy puts source bit p + k at destination bit q + k for each k
-- below s." A signal of s bits is a field of s digits of its payload's number.
use Rattle.std.specs.Prelude.{◌≡◌, true, List, ◌≢◌, ◌↔◌, ℕ, ◌+◌, ◌/◌, ◌%◌, ◌^◌, ◌≤◌, ◌<◌, length}
use Rattle.base.specs.Numbers.{Bytes}
use Rattle.bits.specs.Payload.{set_bit, copied, differs}
use Rattle.restated.specs.Bits.{bits_of, number_in, place_in}

-- the s digits of a number from digit e on
abbrev pub field_of : ℕ → ℕ → ℕ → ℕ
field_of s e number = number / 2 ^ e % 2 ^ s

-- the signal of size s at position p
abbrev pub signal_of : ℕ → List ℕ → ℕ → ℕ → ℕ
signal_of order payload p s = field_of s (place_in order (bits_of payload) p s) (number_in order payload)

-- a number whose s digits from e on are replaced by a value: all other digits are as they were
pub record Replaced (s e value old new : ℕ) : Type 0 where
  pub below : new % 2 ^ e ≡ old % 2 ^ e
  pub field : field_of s e new ≡ value
  pub above : new / 2 ^ (e + s) ≡ old / 2 ^ (e + s)

-- a payload of bytes whose signal of size s at position q is replaced by a value
pub record Stored (order s q value : ℕ) (old new : List ℕ) : Type 0 where
  pub long : length new ≡ length old
  pub bytes : Bytes new
  pub number : Replaced s (place_in order (bits_of old) q s) value (number_in order old) (number_in order new)

pub record CopiesByNumbers : Type 0 where
  pub copy :
      (order : ℕ) (source : List ℕ) (p s : ℕ) (kept : List ℕ) (q : ℕ) → Bytes source → Bytes kept → p + s ≤ bits_of source → q + s ≤ bits_of kept
      → Stored order s q (signal_of order source p s) kept (copied order source p s kept q)
  -- one bit
  pub bit :
      (order : ℕ) (kept : List ℕ) (q value : ℕ) → Bytes kept → q < bits_of kept → value < 2 → Stored order 1 q value kept (set_bit order kept q value)
  -- "any destination bit differed from the kept one": the signals are two numbers
  pub change :
      (order : ℕ) (source : List ℕ) (p s : ℕ) (kept : List ℕ) (q : ℕ) → Bytes source → Bytes kept → p + s ≤ bits_of source → q + s ≤ bits_of kept
      → (differs order source p s kept q ≡ true) ↔ (signal_of order kept q s ≢ signal_of order source p s)
