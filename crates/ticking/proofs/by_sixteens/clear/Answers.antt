-- `by_sixteens::clear` meets its contract: where there is a report, zeros are put over a part of it.
use Prim.Native.Nat.{◌+◌, ◌-◌}
use native.Mathlib.Omega.{arith}
use borrow.Author.Rules.{rules}
use Rattle.ticking.specs.Sixteen.{cleared_by}
use Rattle.ticking.proofs.Zeros.{cleared_put}
use Rattle.ticking.proofs.by_sixteens.clear.Goals as goal

pub returns-then-this-ne0 : goal.returns-then-this-ne0
returns-then-this-ne0 g c =
    let v = c.args in
    cleared_put _ v.from (v.from + 16 - v.from) v.report.now c.fill.new.self (search rules) (omega arith) (c.requires.1 (search rules)) (search rules) (λ i d l. search rules)

pub returns-else-this-ne0 : goal.returns-else-this-ne0
unfolding cleared_by
returns-else-this-ne0 g c = search rules
