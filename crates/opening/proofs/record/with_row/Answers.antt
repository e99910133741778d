-- `opening::record::with_row` meets its contract: each part is stored by its own function.
use Rattle.opening.specs.Opened.{with_row}
use Rattle.opening.proofs.record.with_row.Goals as goal

pub returns : goal.returns
unfolding with_row
returns c = cc
