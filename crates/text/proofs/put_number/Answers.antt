-- `text::put_number` meets its contract: it puts the space and then the number.
use native.Mathlib.Omega.{arith}
use Rattle.text.specs.Text.{spaced}
use Rattle.text.proofs.TextLaws.{Put-then}
use Rattle.text.proofs.put_number.Goals as goal

pub put_byte-end-requires : goal.put_byte-end-requires
put_byte-end-requires c = omega arith

pub put_decimal-requires : goal.put_decimal-requires
put_decimal-requires c = omega arith

pub shape_of-line : goal.shape_of-line
shape_of-line c = omega arith

pub returns : goal.returns
unfolding spaced
returns c = record { put = Put-then c.put_byte-end.ensures c.put_decimal.ensures.put; upper_bound = omega arith }
