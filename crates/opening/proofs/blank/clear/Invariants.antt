-- `opening::blank::clear` meets its contract: after i turns i bytes are zero.
use Rattle.std.proofs.Common.{◌≡◌, ◌-◌, ◌≤◌, length}
use Rattle.opening.specs.Opened.{zeroed}
use Rattle.opening.proofs.blank.clear.Given as goal

abbrev pub invariant-loop-i : goal.invariant-loop-i
invariant-loop-i l = (l.area ≡ zeroed l.from l.i l.initial.area) × (l.i ≤ l.n) × (length l.area ≡ length l.initial.area)

abbrev pub decreases-loop-i : goal.decreases-loop-i
decreases-loop-i l = l.n - l.i
