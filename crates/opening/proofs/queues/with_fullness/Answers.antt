-- `opening::queues::with_fullness` meets its contract: after t turns the first t frames have their counts.
use Rattle.std.proofs.Common.{refl, le_antisymm, add-one, arith}
use Rattle.opening.specs.Opened.{with_fullness}
use Rattle.opening.proofs.queues.with_fullness.Goals as goal

pub loop-t-init : goal.loop-t-init
unfolding with_fullness
loop-t-init c = (refl, omega arith, refl)

pub loop-t-preserved : goal.loop-t-preserved
unfolding with_fullness
loop-t-preserved c = (rw add-one cc, omega arith, cc)

pub returns : goal.returns
returns c =
    let all = c.requires.0 in
    let e = le_antisymm c.loop-t.invariant.1 (rw all at c.loop-t-test.false) in
    cc
