-- `opening::record::with_frame` meets its contract: the room is read, and stored one higher.
use Rattle.opening.specs.Opened.{with_frame}
use Rattle.opening.proofs.record.with_frame.Goals as goal

pub returns : goal.returns
unfolding with_frame
returns c = cc
