-- `lines::line_of_one` meets its contract: it puts the word, the number and the line feed.
use native.Mathlib.Omega.{arith}
use Rattle.text.specs.Text.{each}
use Rattle.lines.specs.Lines.{numbers_line}
use Rattle.text.proofs.TextLaws.{Put-none, Put-then}
use Rattle.lines.proofs.line_of_one.Goals as goal

pub put_word-named-requires : goal.put_word-named-requires
put_word-named-requires c = omega arith

pub put_number-end-requires : goal.put_number-end-requires
put_number-end-requires c = omega arith

pub put_byte-requires : goal.put_byte-requires
put_byte-requires c = omega arith

pub shape_of-line : goal.shape_of-line
shape_of-line c = omega arith

pub returns : goal.returns
unfolding numbers_line each
returns c =
    let numbers = Put-then c.put_number-end.ensures.put (Put-none _ _) in
    (Put-then (Put-then c.put_word-named.ensures numbers) c.put_byte.ensures, omega arith)
