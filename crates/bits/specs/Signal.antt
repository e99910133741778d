-- A signal on its way from a payload to its destinations.
use Rattle.std.specs.Prelude.{ℕ}
use Rattle.base.specs.Numbers.{at_most}
use Rattle.bits.specs.Word.{from_bit, ones_of}
use Rattle.bits.specs.declared.signal.Signal.{Signal}

-- the signal of size s at bit p of eight bytes
unfoldable pub signal_at : ℕ → ℕ → ℕ → ℕ → Signal
signal_at order bytes p s = record { position = p; size = s; bits = from_bit order bytes p; ones = ones_of order (at_most 64 s) }
