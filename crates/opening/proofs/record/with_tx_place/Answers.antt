-- `opening::record::with_tx_place` meets its contract: two stores.
use Rattle.opening.specs.Opened.{with_tx_place}
use Rattle.opening.proofs.record.with_tx_place.Goals as goal

pub returns : goal.returns
unfolding with_tx_place
returns c = cc
