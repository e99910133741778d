-- `opening::record::with_key` meets its contract: two stores.
use Rattle.opening.specs.Opened.{with_key}
use Rattle.opening.proofs.record.with_key.Goals as goal

pub returns : goal.returns
unfolding with_key
returns c = cc
