-- `opening::blank::clear` meets its contract: after i turns i bytes are zero.
use Rattle.std.proofs.Common.{refl, le_antisymm, add-one, arith, rules}
use Rattle.opening.specs.Opened.{zeroed}
use Rattle.opening.proofs.blank.clear.Goals as goal

pub loop-i-init : goal.loop-i-init
unfolding zeroed
loop-i-init c = (refl, omega arith, refl)

pub loop-i-preserved : goal.loop-i-preserved
unfolding zeroed
loop-i-preserved c = (rw add-one cc, omega arith, search rules)

pub returns : goal.returns
returns c = let e = le_antisymm c.loop-i.invariant.1 c.loop-i-test.false in cc
