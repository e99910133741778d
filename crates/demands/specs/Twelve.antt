-- Document 01's "Twelve cases to prove, as a single table under one statement. Of the definitions themselves."
use Rattle.std.specs.Prelude.{◌≡◌, true, false, List, [], ◌∷◌, ◌++◌, ℕ, ◌<◌, length, get_or}
use Rattle.bits.specs.Payload.{copied}
use Rattle.clock.specs.Counter.{counter_next, counter_after, handled}
use Rattle.clock.specs.Ticks.{expiries}
use Rattle.plan.specs.declared.verdict.Reason.TheVariants.{Short, Order, Data}
use Rattle.plan.specs.Check.{good_with, refused_at, check_plan}
use Rattle.facts.specs.PlanCases.{head, node, rx, signal}

-- "Cases 1-4 copy from byte 2C, position 2, size 4, to position 6 of two bytes." Order 0 is big, 1 little.
abbrev pub from_2c : ℕ → List ℕ → List ℕ
from_2c order kept = copied order (0x2C ∷ []) 2 4 kept 6

pub record EightBytes (x : List ℕ) : Type 0 where
  pub eight : length x ≡ 8
  pub bytes : (i : ℕ) → get_or x i 0 < 256

pub record TwelveCases : Type 0 where
  -- 1. big, 00 00: 02 C0
  pub one : from_2c 0 (0x00 ∷ 0x00 ∷ []) ≡ 0x02 ∷ 0xC0 ∷ []
  -- 2. little, 00 00: C0 02
  pub two : from_2c 1 (0x00 ∷ 0x00 ∷ []) ≡ 0xC0 ∷ 0x02 ∷ []
  -- 3. big, FF FF: FE FF
  pub three : from_2c 0 (0xFF ∷ 0xFF ∷ []) ≡ 0xFE ∷ 0xFF ∷ []
  -- 4. little, FF FF: FF FE
  pub four : from_2c 1 (0xFF ∷ 0xFF ∷ []) ≡ 0xFF ∷ 0xFE ∷ []
  -- 5. size 64, positions 0: all eight bytes, of any payload and over any other, in either order
  pub five : (order : ℕ) (x y : List ℕ) → EightBytes x → EightBytes y → copied order x 0 64 y 0 ≡ x
  -- 6. counter 09 goes to 10
  pub six : counter_next 0x09 ≡ 0x10
  -- 7. counter F9 goes to 00
  pub seven : counter_next 0xF9 ≡ 0x00
  -- 8. prescaler 20: ticks 0, 20, 160 handled, 159 not
  pub eight : (handled (counter_after 0) 20 ≡ true) × (handled (counter_after 20) 20 ≡ true) × (handled (counter_after 160) 20 ≡ true)
      × (handled (counter_after 159) 20 ≡ false)
  -- 9. prescaler 10, 5 loaded between ticks 3 and 4: expires at tick 50, and at no other of the 47 ticks from 4 on
  pub nine : (reload : ℕ) → expiries 10 4 47 (record { reload = reload; count = 5 }) ≡ 50 ∷ []
  -- 10. position 60 in 8 bytes: size 4 fits, 5 is refusal 7
  pub ten : (check_plan (head ++ node ++ rx 0 0x00 0x20 8 0 0 ++ signal 60 4) ≡ good_with 1 0 1)
      × (check_plan (head ++ node ++ rx 0 0x00 0x20 8 0 0 ++ signal 60 5) ≡ refused_at Data 3)
  -- 11. rows (0, 7FF) then (1, 000) are good; a row twice is refusal 6
  pub eleven : (check_plan (head ++ node ++ node ++ rx 0 0x07 0xFF 8 0 0 ++ rx 1 0x00 0x00 8 0 0) ≡ good_with 2 0 2)
      × (check_plan (head ++ node ++ rx 0 0x00 0x20 1 0 0 ++ rx 0 0x00 0x20 1 0 0) ≡ refused_at Order 3)
  -- 12. empty plan: refusal 1 at record 0; head alone is good
  pub twelve : (check_plan [] ≡ refused_at Short 0) × (check_plan head ≡ good_with 0 0 0)
