-- The clock without a counter that carries and without masks: by the tick's number.
use Rattle.std.specs.Prelude.{◌≡◌, true, ◌↔◌, ℕ, ◌+◌, ◌-◌, ◌*◌, ◌/◌, ◌%◌, ◌<◌}
use Rattle.clock.specs.declared.timer.Timer.{Timer}
use Rattle.clock.specs.Counter.{counter_after, handled}
use Rattle.clock.specs.Timer.{lowered, stepped, expires}

-- "The two-digit tick counter is a byte: low nibble 0–9, carrying into the high; after F9 it is 00.": after n ticks the low nibble is n's last
-- decimal digit, and the high nibble the tens, of which there are sixteen
abbrev pub CounterByNumber : Type 0
CounterByNumber = (n : ℕ) → counter_after n ≡ 16 * (n / 10 % 16) + n % 10

-- "so at ticks numbered from 0 that the prescaler divides"
abbrev pub HandledAt : ℕ → Type 0
HandledAt prescaler = (n : ℕ) → (handled (counter_after n) prescaler ≡ true) ↔ (n % prescaler ≡ 0)

-- "prescaler 1, 2, 10 or 20"
pub record HandledByNumber : Type 0 where
  pub one : HandledAt 1
  pub two : HandledAt 2
  pub ten : HandledAt 10
  pub twenty : HandledAt 20

-- one handling of a timer
pub record Handling : Type 0 where
  -- "A timer holding 0 is left so."
  pub stopped : (reload : ℕ) → lowered reload 0 ≡ 0
  -- "at 0 it has expired and takes its reload value"
  pub last : (reload : ℕ) → lowered reload 1 ≡ reload
  -- "Otherwise it falls by one"
  pub falls : (reload v : ℕ) → lowered reload (v + 2) ≡ v + 1
  -- "stepped where it stands": the count is lowered and the reload value stays; it expires where it is above 0 and falls to 0
  pub count : (t : Timer) → (stepped t).count ≡ lowered t.reload t.count
  pub reload : (t : Timer) → (stepped t).reload ≡ t.reload
  pub expiry : (t : Timer) → (expires t ≡ true) ↔ ((0 < t.count) × (t.count - 1 ≡ 0))
