-- `taking::request_of` meets its contract: the Rx frame's fields, as they stand in the area.
use Rattle.records.specs.Kinds.{rx_at}
use Rattle.area.specs.Layout.{rx_frame}
use Rattle.taking.specs.Taken.{entry_answer}
use Rattle.taking.proofs.request_of.Goals as goal

pub returns : goal.returns
unfolding entry_answer rx_frame rx_at
returns c =
    let place = c.rx_fields_place-at.ensures.0 in
    rw (c.protected.ensures, c.plain.ensures, c.rx_size-size.ensures, c.rx_id-id.ensures, place)
