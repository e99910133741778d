-- `opening::blank::make_blank` meets its contract: zeros, the plan, and four bytes.
use Rattle.std.proofs.Common.{◌∙◌, arith, length-set}
use Rattle.opening.specs.Opened.{blank}
use Rattle.opening.proofs.blank.make_blank.Goals as goal

pub bounds-area-1 : goal.bounds-area-1
bounds-area-1 c = simp length-set (omega arith)

pub put_low-requires : goal.put_low-requires
put_low-requires c = simp length-set (omega arith)

pub shape_of-area : goal.shape_of-area
shape_of-area c = c.put_low.auto.bytes ∙ simp length-set cc

pub returns : goal.returns
unfolding blank
returns c = cc
