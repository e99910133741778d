-- `opening::queues::with_rings` meets its contract: a ring's start is stored where no room stands, so the rooms are those of the entry.
use Rattle.std.proofs.Common.{◌≡◌, ◌-◌, ◌*◌, ◌≤◌, length}
use Rattle.opening.specs.Opened.{rings_before, with_rings}
use Rattle.opening.proofs.queues.with_rings.Given as goal

abbrev pub invariant-loop-n : goal.invariant-loop-n
invariant-loop-n l = (l.area ≡ with_rings l.n l.initial.area) × (l.n ≤ 16) × (length l.area ≡ length l.initial.area) × (l.start ≡ rings_before l.initial.area l.n) × (l.start ≤ 65536 * l.n)

abbrev pub decreases-loop-n : goal.decreases-loop-n
decreases-loop-n l = 16 - l.n
