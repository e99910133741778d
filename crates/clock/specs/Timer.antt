-- "A timer holding 0 is left so. Otherwise it falls by one; at 0 it has expired and takes its reload value. Each timer is one small record
-- of reload and count, stepped where it stands."
use Rattle.std.specs.Prelude.{ℕ, ◌-◌, Bool, ◌==◌}
use Rattle.base.specs.Pick.{pick}
use Rattle.clock.specs.declared.timer.Timer.{Timer}

-- the count after a handling
unfoldable pub lowered : ℕ → ℕ → ℕ
lowered reload count = pick (count == 0) 0 (pick (count == 1) reload (count - 1))

-- the timer after a handling
unfoldable pub stepped : Timer → Timer
stepped t = record { reload = t.reload; count = lowered t.reload t.count }

-- whether a handling lets it fall to 0
unfoldable pub expires : Timer → Bool
expires t = t.count == 1
