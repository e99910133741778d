-- Document 01's cases 1 to 5, of the definitions themselves.
use mathlib.Core.Path.{◌≡◌, refl}
use mathlib.Core.List.{List, [], ◌∷◌}
use Prim.Native.Nat.{ℕ}
use Rattle.bits.specs.Digit.{digit, set_digit}
use Rattle.bits.specs.Payload.{digit_of, bit_at, set_bit, copied}

-- a copy and what it gives
pub record CopyCase : Type 0 where
  pub order : ℕ
  pub source : List ℕ
  pub position : ℕ
  pub size : ℕ
  pub kept : List ℕ
  pub destination : ℕ
  pub gives : List ℕ

-- from byte 2C, position 2, size 4, to position 6 of two bytes
abbrev from_2c : ℕ → List ℕ → List ℕ → CopyCase
from_2c order kept gives = record { order = order; source = 0x2C ∷ []; position = 2; size = 4; kept = kept; destination = 6; gives = gives }

-- size 64, positions 0: all eight bytes
abbrev eight : ℕ → List ℕ → List ℕ → CopyCase
eight order source kept = record { order = order; source = source; position = 0; size = 64; kept = kept; destination = 0; gives = source }

abbrev pub copy_cases : List CopyCase
copy_cases =
    from_2c 0 (0x00 ∷ 0x00 ∷ []) (0x02 ∷ 0xC0 ∷ [])
    ∷ from_2c 1 (0x00 ∷ 0x00 ∷ []) (0xC0 ∷ 0x02 ∷ [])
    ∷ from_2c 0 (0xFF ∷ 0xFF ∷ []) (0xFE ∷ 0xFF ∷ [])
    ∷ from_2c 1 (0xFF ∷ 0xFF ∷ []) (0xFF ∷ 0xFE ∷ [])
    ∷ eight 0 (1 ∷ 2 ∷ 3 ∷ 4 ∷ 5 ∷ 6 ∷ 7 ∷ 255 ∷ []) (9 ∷ 9 ∷ 9 ∷ 9 ∷ 9 ∷ 9 ∷ 9 ∷ 9 ∷ [])
    ∷ eight 1 (1 ∷ 2 ∷ 3 ∷ 4 ∷ 5 ∷ 6 ∷ 7 ∷ 255 ∷ []) (9 ∷ 9 ∷ 9 ∷ 9 ∷ 9 ∷ 9 ∷ 9 ∷ 9 ∷ [])
    ∷ []

abbrev pub CopiesHold : List CopyCase → Type 0
CopiesHold [] = Unit {0}
CopiesHold (c ∷ cs) = (copied c.order c.source c.position c.size c.kept c.destination ≡ c.gives) × CopiesHold cs

pub copies_hold : CopiesHold copy_cases
unfolding copied set_bit bit_at digit_of digit set_digit
copies_hold = (refl, (refl, (refl, (refl, (refl, (refl, tt))))))
