-- `ticking::timer::lower_timers` meets its contract. The loop's invariant: the first `i` timers have fallen, and are marked as they were at first.
use mathlib.Core.Path.{refl}
use Prim.Native.Nat.{◌+◌}
use native.Mathlib.Nat.{le_antisymm}
use native.Mathlib.Numerals.{add-one}
use native.Mathlib.Omega.{arith}
use lib.ListN.{length-set}
use Rattle.ticking.specs.Sixteen.{each, fell, mark_of, marks_of}
use Rattle.ticking.proofs.Sixteens.{mark_fells}
use Rattle.ticking.proofs.timer.lower_timers.Goals as goal

pub loop-i-init : goal.loop-i-init
unfolding each marks_of
loop-i-init c = (refl, refl, omega arith, refl)

pub loop-i-preserved : goal.loop-i-preserved
unfolding each fell mark_of marks_of
loop-i-preserved c =
    let l = c.loop-i in
    let v = c.args in
    let same = mark_fells v.k (v.from + l.i) v.from l.i v.area.now (omega arith) (omega arith) in
    (rw add-one cc, rw add-one cc, omega arith, simp length-set l.invariant.3)

pub returns : goal.returns
returns c = let e = le_antisymm c.loop-i.invariant.2 c.loop-i-test.false in record { marks = cc; bytes = cc }
