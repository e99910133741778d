-- `text::put_three` meets its contract: it puts one number after the other.
use native.Mathlib.Omega.{arith}
use Rattle.text.specs.Text.{each}
use Rattle.text.proofs.TextLaws.{Put-none, Put-then}
use Rattle.text.proofs.put_three.Goals as goal

pub put_number-first-requires : goal.put_number-first-requires
put_number-first-requires c = omega arith

pub put_number-second-requires : goal.put_number-second-requires
put_number-second-requires c = omega arith

pub put_number-requires : goal.put_number-requires
put_number-requires c = omega arith

pub shape_of-line : goal.shape_of-line
shape_of-line c = omega arith

pub returns : goal.returns
unfolding each
returns c =
    let last = Put-then c.put_number.ensures.put (Put-none _ _) in
    record { put = Put-then c.put_number-first.ensures.put (Put-then c.put_number-second.ensures.put last); upper_bound = omega arith }
