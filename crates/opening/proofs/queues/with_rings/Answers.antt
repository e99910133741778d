-- `opening::queues::with_rings` meets its contract: a ring's start is stored where no room stands, so the rooms are those of the entry.
use Rattle.std.proofs.Common.{refl, le_antisymm, add-one, arith}
use Rattle.opening.specs.Opened.{rings_before, with_rings}
use Rattle.opening.proofs.Kept.{start_next}
use Rattle.opening.proofs.queues.with_rings.Goals as goal

pub loop-n-init : goal.loop-n-init
unfolding with_rings rings_before
loop-n-init c = (refl, omega arith, refl, refl, omega arith)

pub loop-n-preserved : goal.loop-n-preserved
unfolding with_rings rings_before
loop-n-preserved c =
    let l = c.loop-n.invariant in
    (rw add-one cc, omega arith, cc, start_next _ _ _ _ _ l.0 l.3 (rw c.queue-at.ensures at c.low_at-room.ensures.0), omega arith)

pub returns : goal.returns
returns c = let e = le_antisymm c.loop-n.invariant.1 c.loop-n-test.false in cc
