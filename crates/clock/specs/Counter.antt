-- "The two-digit tick counter is a byte: low nibble 0-9, carrying into the high; after F9 it is 00. A timer is handled where the counter
-- and the mask (00, 01, 0F, 1F for 1, 2, 10, 20) have no common bit, so at ticks numbered from 0 that the prescaler divides."
use Rattle.std.specs.Prelude.{ℕ, zero, suc, ◌+◌, ◌%◌, Bool, ◌==◌, bit_and}
use Rattle.base.specs.Pick.{pick}

-- "add one, add six on a low nibble of ten, wrapping add at the top"
unfoldable pub counter_next : ℕ → ℕ
counter_next counter = pick ((counter + 1) % 256 % 16 == 10) (((counter + 1) % 256 + 6) % 256) ((counter + 1) % 256)

-- the counter after n ticks from 0, and so at tick n
unfoldable pub counter_after : ℕ → ℕ
counter_after zero = 0
counter_after (suc n) = counter_next (counter_after n)

-- "prescaler 1, 2, 10 or 20"
pub data Prescaler : ℕ → Type 0 where
  one : Prescaler 1
  two : Prescaler 2
  ten : Prescaler 10
  twenty : Prescaler 20

-- the mask of a prescaler; any other number has that of 20
unfoldable pub mask_of : ℕ → ℕ
mask_of prescaler = pick (prescaler == 1) 0x00 (pick (prescaler == 2) 0x01 (pick (prescaler == 10) 0x0f 0x1f))

-- "where the counter and the mask .. have no common bit"
unfoldable pub no_common_bit : ℕ → ℕ → Bool
no_common_bit counter mask = bit_and counter mask == 0

-- a timer of this prescaler is handled at this counter
unfoldable pub handled : ℕ → ℕ → Bool
handled counter prescaler = no_common_bit counter (mask_of prescaler)
