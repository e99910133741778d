-- `opening::record::with_node_row` meets its contract: the count of rows is read first.
use Rattle.opening.specs.Opened.{with_node_row}
use Rattle.opening.proofs.record.with_node_row.Goals as goal

pub returns : goal.returns
unfolding with_node_row
returns c = cc
