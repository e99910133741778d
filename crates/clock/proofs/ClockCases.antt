-- The cases of the counter and the timer, as document 01 numbers them, computed.
use Rattle.std.proofs.Common.{◌≡◌, ℕ, true, false, [], ◌∷◌, refl}
use Rattle.base.specs.Pick.{pick}
use Rattle.clock.specs.Counter.{counter_next, counter_after, mask_of, no_common_bit, handled}
use Rattle.clock.specs.Timer.{lowered, stepped, expires}
use Rattle.clock.specs.Ticks.{ticked_timer, expires_at, timer_from, expiries}

pub record ClockCases : Type 0 where
  -- counter 09 goes to 10
  pub six : counter_next 0x09 ≡ 0x10
  -- counter F9 goes to 00
  pub seven : counter_next 0xf9 ≡ 0x00
  -- prescaler 20: ticks 0, 20, 160 handled, 159 not
  pub eight_0 : handled (counter_after 0) 20 ≡ true
  pub eight_20 : handled (counter_after 20) 20 ≡ true
  pub eight_160 : handled (counter_after 160) 20 ≡ true
  pub eight_159 : handled (counter_after 159) 20 ≡ false
  -- prescaler 10, 5 loaded between ticks 3 and 4: expires at tick 50, and at no other of the 47 ticks from 4 on
  pub nine : (reload : ℕ) → expiries 10 4 47 (record { reload = reload; count = 5 }) ≡ 50 ∷ []

pub clock_cases_hold : ClockCases
unfolding pick counter_next counter_after mask_of no_common_bit handled lowered stepped expires ticked_timer expires_at timer_from expiries
clock_cases_hold = record { six = refl; seven = refl; eight_0 = refl; eight_20 = refl; eight_160 = refl; eight_159 = refl; nine = λ reload. refl }
