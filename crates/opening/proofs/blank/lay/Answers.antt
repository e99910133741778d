-- `opening::blank::lay` meets its contract: after i turns the first i bytes of the plan are laid.
use Rattle.std.proofs.Common.{refl, le_antisymm, add-one, arith, rules}
use Rattle.opening.specs.Opened.{laid}
use Rattle.opening.proofs.blank.lay.Goals as goal

pub loop-i-init : goal.loop-i-init
unfolding laid
loop-i-init c = (refl, omega arith, refl)

pub loop-i-preserved : goal.loop-i-preserved
unfolding laid
loop-i-preserved c = (rw add-one cc, omega arith, search rules)

pub returns : goal.returns
returns c = let e = le_antisymm c.loop-i.invariant.1 c.loop-i-test.false in cc
