-- `opening::record::with_node` meets its contract: by the node's type.
use Rattle.std.proofs.Common.{arith, length-set, eq-eqb, ne_eqb}
use Rattle.base.specs.Pick.{pick}
use Rattle.opening.specs.Opened.{with_can, with_node}
use Rattle.opening.proofs.record.with_node.Goals as goal

pub bounds-area-7 : goal.bounds-area-7
bounds-area-7 c = simp length-set (omega arith)

pub bounds-area-7-then-of-eq0 : goal.bounds-area-7-then-of-eq0
bounds-area-7-then-of-eq0 c = simp length-set (omega arith)

pub returns-then-of-eq0 : goal.returns-then-of-eq0
unfolding with_node with_can pick
returns-then-of-eq0 c = simp (eq-eqb _ _ c.if-of-eq0.true) cc

pub returns-else-of-eq0 : goal.returns-else-of-eq0
unfolding with_node with_can pick
returns-else-of-eq0 c = simp (ne_eqb _ _ c.if-of-eq0.false) cc
