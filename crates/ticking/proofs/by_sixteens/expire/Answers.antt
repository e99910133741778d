-- `by_sixteens::expire` meets its contract. The loop's invariant: of the first `i` timers those that are marked have expired, with their bytes in the
-- report.
use mathlib.Core.Path.{refl}
use native.Mathlib.Nat.{le_antisymm}
use native.Mathlib.Numerals.{add-one}
use native.Mathlib.Omega.{arith}
use Rattle.ticking.specs.Sixteen.{each_marked}
use Rattle.ticking.proofs.BothKinds.{told_none, told_one}
use Rattle.ticking.proofs.by_sixteens.expire.Goals as goal

pub loop-i-init : goal.loop-i-init
unfolding each_marked
loop-i-init g c = (refl, told_none _ _ _ _ _, omega arith, refl, refl)

pub loop-i-preserved : goal.loop-i-preserved
unfolding each_marked
loop-i-preserved g c = (rw add-one cc, rw told_one cc, omega arith, cc, cc)

pub returns : goal.returns
returns g c = let e = le_antisymm c.loop-i.invariant.2 c.loop-i-test.false in record { bytes = cc; report = cc }
