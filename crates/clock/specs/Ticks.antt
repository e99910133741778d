-- A timer over many ticks: it is "handled .. at ticks numbered from 0 that the prescaler divides. Thus a timer loaded with v above 0
-- expires at its v-th handling, unless loaded again first."
use Rattle.std.specs.Prelude.{ℕ, zero, suc, ◌+◌, ◌%◌, Bool, false, List, [], ◌∷◌, ◌++◌, ◌==◌}
use Rattle.base.specs.Pick.{pick}
use Rattle.clock.specs.declared.timer.Timer.{Timer}
use Rattle.clock.specs.Counter.{counter_after, handled}
use Rattle.clock.specs.Timer.{stepped, expires}

-- the timer after n handlings
unfoldable pub handled_times : ℕ → Timer → Timer
handled_times zero t = t
handled_times (suc n) t = stepped (handled_times n t)

-- the timer after a tick at this counter, and whether it expires there
unfoldable pub ticked_timer : ℕ → ℕ → Timer → Timer
ticked_timer counter prescaler t = pick (handled counter prescaler) (stepped t) t

unfoldable pub expires_at : ℕ → ℕ → Timer → Bool
expires_at counter prescaler t = pick (handled counter prescaler) (expires t) false

-- the timer after the k ticks from number n on
unfoldable pub timer_from : ℕ → ℕ → ℕ → Timer → Timer
timer_from prescaler n zero t = t
timer_from prescaler n (suc k) t = ticked_timer (counter_after (n + k)) prescaler (timer_from prescaler n k t)

-- how many of the k tick numbers from n on the prescaler divides
unfoldable pub dividing : ℕ → ℕ → ℕ → ℕ
dividing prescaler n zero = 0
dividing prescaler n (suc k) = pick ((n + k) % prescaler == 0) (suc (dividing prescaler n k)) (dividing prescaler n k)

-- the numbers among the k ticks from n on at which it expires
unfoldable pub expiries : ℕ → ℕ → ℕ → Timer → List ℕ
expiries prescaler n zero t = []
expiries prescaler n (suc k) t =
    expiries prescaler n k t
    ++ pick (expires_at (counter_after (n + k)) prescaler (timer_from prescaler n k t)) ((n + k) ∷ []) []
