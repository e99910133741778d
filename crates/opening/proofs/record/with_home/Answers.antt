-- `opening::record::with_home` meets its contract: one store.
use Rattle.opening.proofs.record.with_home.Goals as goal

pub returns : goal.returns
returns c = cc
