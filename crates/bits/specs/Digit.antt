-- The binary digits of a number. Digit 0 is the lowest.
use Rattle.std.specs.Prelude.{ℕ, ◌+◌, ◌-◌, ◌*◌, ◌/◌, ◌%◌, ◌^◌}

-- digit e of n
unfoldable pub digit : ℕ → ℕ → ℕ
digit n e = n / 2 ^ e % 2

-- n with digit e replaced by v: the old digit's weight is taken off and the new one's put on
unfoldable pub set_digit : ℕ → ℕ → ℕ → ℕ
set_digit n e v = n - digit n e * 2 ^ e + v * 2 ^ e
