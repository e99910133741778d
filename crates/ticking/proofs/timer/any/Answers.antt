-- `ticking::timer::any` meets its contract. The loop's invariant: what is seen is 0 where none of the first `i` is marked.
use mathlib.Core.Path.{refl}
use native.Mathlib.Nat.{le_antisymm}
use native.Mathlib.Numerals.{add-one}
use native.Mathlib.Omega.{arith}
use Rattle.ticking.specs.Sixteen.{any_of}
use Rattle.ticking.proofs.Sixteens.{or_any}
use Rattle.ticking.proofs.timer.any.Goals as goal

pub loop-i-init : goal.loop-i-init
unfolding any_of
loop-i-init c = (refl, omega arith)

pub loop-i-preserved : goal.loop-i-preserved
unfolding any_of
loop-i-preserved c = (rw (add-one, or_any) cc, omega arith)

pub returns : goal.returns
returns c = let e = le_antisymm c.loop-i.invariant.1 c.loop-i-test.false in cc
