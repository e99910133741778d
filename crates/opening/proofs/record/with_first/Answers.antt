-- `opening::record::with_first` meets its contract: by whether the node has a row.
use Rattle.std.proofs.Common.{eq-eqb, ne_eqb}
use Rattle.base.specs.Pick.{pick}
use Rattle.opening.proofs.record.with_first.Goals as goal

pub returns-then-rows-eq0 : goal.returns-then-rows-eq0
unfolding pick
returns-then-rows-eq0 c =
    simp (eq-eqb _ _ c.if-rows-eq0.true) cc

pub returns-else-rows-eq0 : goal.returns-else-rows-eq0
unfolding pick
returns-else-rows-eq0 c = simp (ne_eqb _ _ c.if-rows-eq0.false)
