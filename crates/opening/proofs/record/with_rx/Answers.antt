-- `opening::record::with_rx` meets its contract: the frame's number is read first, and each part is stored by its own function.
use Rattle.opening.specs.Opened.{with_rx}
use Rattle.opening.proofs.record.with_rx.Goals as goal

pub returns : goal.returns
unfolding with_rx
returns c = cc
