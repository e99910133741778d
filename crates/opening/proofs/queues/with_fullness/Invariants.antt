-- `opening::queues::with_fullness` meets its contract: after t turns the first t frames have their counts.
use Rattle.std.proofs.Common.{◌≡◌, ◌-◌, ◌≤◌, length}
use Rattle.opening.specs.Opened.{with_fullness}
use Rattle.opening.proofs.queues.with_fullness.Given as goal

abbrev pub invariant-loop-t : goal.invariant-loop-t
invariant-loop-t l = (l.area ≡ with_fullness l.sets l.t l.initial.area) × (l.t ≤ 256) × (length l.area ≡ length l.initial.area)

abbrev pub decreases-loop-t : goal.decreases-loop-t
decreases-loop-t l = 256 - l.t
