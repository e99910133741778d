-- `taking::frame_of` meets its contract: the frame's fields, as they stand in the area.
use Rattle.taking.specs.Taken.{entry_answer}
use Rattle.taking.proofs.frame_of.Goals as goal

pub returns : goal.returns
unfolding entry_answer
returns c =
    rw (c.tx_id-id.ensures, c.framing_of-framing.ensures, c.in_width-size.ensures.0, c.tx_size.ensures)
