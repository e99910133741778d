-- `ticking::expiry::expire` meets its contract: the failure bit leaves the long count and the long counter, which were read before.
use mathlib.Core.Path.{sym}
use borrow.Author.Tests.{eq-eqb, ne_eqb}
use Rattle.base.proofs.Picks.{picks, passes}
use Rattle.ticking.specs.Tick.{timed_out}
use Rattle.ticking.proofs.ExpiryLaws.{expired_is}
use Rattle.ticking.proofs.expiry.expire.Goals as goal

pub returns-then-count-eq1 : goal.returns-then-count-eq1
unfolding timed_out
returns-then-count-eq1 c =
    let v = c.args in
    let done = expired_is v.area.now v.r.0 _ _ c.order-order.ensures c.requires.0 c.rx_fields_place-at.ensures.0 c.write_failure_in.ensures.narrow in
    record { timeout = sym (picks _ _ _ (eq-eqb _ _ (rw c.long-counter.ensures at c.if-count-eq1.true))); bytes = cc }

pub returns : goal.returns
unfolding timed_out
returns c =
    let v = c.args in
    let done = expired_is v.area.now v.r.0 _ _ c.order-order.ensures c.requires.0 c.rx_fields_place-at.ensures.0 c.write_failure_in.ensures.narrow in
    record { timeout = sym (passes _ _ _ (ne_eqb _ _ (rw c.long-counter.ensures at c.if-count-eq1.false))); bytes = cc }
