-- `opening::record::with_rx_timer` meets its contract: four stores.
use Rattle.std.proofs.Common.{arith, length-set}
use Rattle.opening.specs.Opened.{with_rx_timer}
use Rattle.opening.proofs.record.with_rx_timer.Goals as goal

pub bounds-area-rx_timer : goal.bounds-area-rx_timer
bounds-area-rx_timer c = simp length-set (omega arith)

pub bounds-area-rx_mask : goal.bounds-area-rx_mask
bounds-area-rx_mask c = simp length-set (omega arith)

pub bounds-area-long : goal.bounds-area-long
bounds-area-long c = simp length-set (omega arith)

pub returns : goal.returns
unfolding with_rx_timer
returns c = cc
