-- `ticking::timer::lower_timers` meets its contract. The loop's invariant: the first `i` timers have fallen, and are marked as they were at first.
use mathlib.Core.Path.{◌≡◌}
use Prim.Native.Nat.{◌≤◌, ◌-◌}
use lib.ListN.{length}
use Rattle.ticking.specs.Sixteen.{each, fell, marks_of}
use Rattle.ticking.proofs.timer.lower_timers.Given as goal

abbrev pub invariant-loop-i : goal.invariant-loop-i
invariant-loop-i l = (l.area ≡ each (fell l.k) l.from l.i l.initial.area) × (l.marks ≡ marks_of l.k l.from l.i l.initial.area) × (l.i ≤ l.n) × (length l.area ≡ length l.initial.area)

abbrev pub decreases-loop-i : goal.decreases-loop-i
decreases-loop-i l = l.n - l.i
