-- `opening::record::with_tx_timer` meets its contract: three stores.
use Rattle.std.proofs.Common.{arith, length-set}
use Rattle.opening.specs.Opened.{with_tx_timer}
use Rattle.opening.proofs.record.with_tx_timer.Goals as goal

pub bounds-area-tx_timer : goal.bounds-area-tx_timer
bounds-area-tx_timer c = simp length-set (omega arith)

pub bounds-area-tx_mask : goal.bounds-area-tx_mask
bounds-area-tx_mask c = simp length-set (omega arith)

pub returns : goal.returns
unfolding with_tx_timer
returns c = cc
