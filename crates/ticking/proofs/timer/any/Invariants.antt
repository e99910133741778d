-- `ticking::timer::any` meets its contract. The loop's invariant: what is seen is 0 where none of the first `i` is marked.
use mathlib.Core.Path.{◌≡◌}
use mathlib.Core.Bool.{not}
use Prim.Native.Nat.{◌≤◌, ◌-◌}
use lib.Dec.{eqb}
use Rattle.ticking.specs.Sixteen.{any_of}
use Rattle.ticking.proofs.timer.any.Given as goal

abbrev pub invariant-loop-i : goal.invariant-loop-i
invariant-loop-i l = (not (eqb l.seen 0) ≡ any_of l.i l.marks) × (l.i ≤ 16)

abbrev pub decreases-loop-i : goal.decreases-loop-i
decreases-loop-i l = 16 - l.i
