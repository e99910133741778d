-- `ticking::tx::tx_step` meets its contract: to schedule first and to store the count last is the same.
use Rattle.ticking.proofs.Turns.{step_stored}
use Rattle.ticking.proofs.tx.tx_step.Goals as goal

pub returns : goal.returns
returns c =
    rw (c.tx_timer.ensures, c.step_timer-s.ensures.0, c.tx_reload.ensures, c.schedule.ensures)
    (step_stored _ _ c.requires.0)
