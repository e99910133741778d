-- `polling::respond::is_sum` meets its contract: it is the definition.
use Rattle.polling.specs.Polling.{is_sum}
use Rattle.polling.proofs.respond.is_sum.Goals as goal

pub returns : goal.returns
unfolding is_sum
returns c = rw (c.checksum.ensures, c.protected.ensures)
