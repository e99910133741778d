-- `ticking::rx::rx_step` meets its contract: the timer's own step leaves what the report's byte is made of.
use mathlib.Core.Path.{◌∙◌}
use native.Mathlib.Omega.{arith}
use lib.ListN.{length-set}
use Rattle.ticking.specs.Sixteen.{rx_step}
use Rattle.ticking.proofs.Apart.{report_apart}
use Rattle.ticking.proofs.rx.rx_step.Goals as goal

pub shape_of-area : goal.shape_of-area
shape_of-area c = c.expiry.auto.area ∙ simp length-set

pub returns : goal.returns
unfolding rx_step
returns c =
    record { report = c.report_byte.ensures ∙ c.expiry.ensures.report ∙ rw c.rx_timer.ensures (report_apart _ _ (omega arith) (omega arith) _ _ (omega arith)); bytes = cc }
