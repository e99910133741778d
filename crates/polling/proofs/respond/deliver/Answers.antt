-- `polling::respond::deliver` meets its contract: by the payload's length, and then by the checksum.
use mathlib.Core.Path.{◌≡◌, sym, ◌∙◌}
use mathlib.Core.Bool.{true, false}
use lib.ListN.{length}
use borrow.Author.Tests.{lt-ltb, le-ltb}
use Rattle.base.specs.Pick.{pick}
use Rattle.records.specs.Kinds.{rx_at}
use Rattle.area.specs.Layout.{rx_frame}
use Rattle.polling.specs.Polling.{is_sum, row_answer, row_area}
use Rattle.polling.proofs.Accepted.{accepted_on-lin}
use Rattle.polling.proofs.respond.deliver.Goals as goal

pub returns-then-payload-rx_size : goal.returns-then-payload-rx_size
unfolding row_answer row_area rx_frame rx_at pick
returns-then-payload-rx_size c =
    let v = c.args in
    let place = c.rx_fields_place-at.ensures.0 in
    let t = lt-ltb (length v.payload.now) (rx_frame v.area.now v.r.0).size (rw place at (rw c.rx_size.ensures at c.if-payload-rx_size.true)) in
    record { answer = rw t; bytes = rw t }

pub returns-then-is_sum : goal.returns-then-is_sum
unfolding row_answer row_area rx_frame rx_at pick
returns-then-is_sum c =
    let v = c.args in
    let place = c.rx_fields_place-at.ensures.0 in
    let t = le-ltb (length v.payload.now) (rx_frame v.area.now v.r.0).size (rw place at (rw c.rx_size.ensures at c.if-payload-rx_size.false)) in
    let right : is_sum v.id v.payload.now v.sum ≡ true = sym c.is_sum.ensures ∙ c.if-is_sum.true in
    record { answer = rw (t, right); bytes = rw (t, right) (c.accept.ensures ∙ accepted_on-lin v.area.now v.r.0 v.payload.now c.requires.0) }

pub returns : goal.returns
unfolding row_answer row_area rx_frame rx_at pick
returns c =
    let v = c.args in
    let place = c.rx_fields_place-at.ensures.0 in
    let t = le-ltb (length v.payload.now) (rx_frame v.area.now v.r.0).size (rw place at (rw c.rx_size.ensures at c.if-payload-rx_size.false)) in
    let wrong : is_sum v.id v.payload.now v.sum ≡ false = sym c.is_sum.ensures ∙ c.if-is_sum.false in
    record { answer = rw (t, wrong); bytes = rw (t, wrong) }
