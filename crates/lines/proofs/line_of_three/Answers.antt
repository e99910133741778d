-- `lines::line_of_three` meets its contract: it puts the word, the three numbers and the line feed.
use native.Mathlib.Omega.{arith}
use Rattle.lines.specs.Lines.{numbers_line}
use Rattle.text.proofs.TextLaws.{Put-then}
use Rattle.lines.proofs.line_of_three.Goals as goal

pub put_word-named-requires : goal.put_word-named-requires
put_word-named-requires c = omega arith

pub put_three-end-requires : goal.put_three-end-requires
put_three-end-requires c = omega arith

pub put_byte-requires : goal.put_byte-requires
put_byte-requires c = omega arith

pub shape_of-line : goal.shape_of-line
shape_of-line c = omega arith

pub returns : goal.returns
unfolding numbers_line
returns c =
    (Put-then (Put-then c.put_word-named.ensures c.put_three-end.ensures.put) c.put_byte.ensures, omega arith)
