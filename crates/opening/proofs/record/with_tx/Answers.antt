-- `opening::record::with_tx` meets its contract: the frame's number is read first, and each part is stored by its own function.
use Rattle.opening.specs.Opened.{with_tx}
use Rattle.opening.proofs.record.with_tx.Goals as goal

pub returns : goal.returns
unfolding with_tx
returns c = cc
