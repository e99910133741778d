-- `lines::line_of_word` meets its contract: it puts the word and then the line feed.
use native.Mathlib.Omega.{arith}
use Rattle.lines.specs.Lines.{word_line}
use Rattle.text.proofs.TextLaws.{Put-then}
use Rattle.lines.proofs.line_of_word.Goals as goal

pub put_word-end-requires : goal.put_word-end-requires
put_word-end-requires c = omega arith

pub put_byte-requires : goal.put_byte-requires
put_byte-requires c = omega arith

pub shape_of-line : goal.shape_of-line
shape_of-line c = omega arith

pub returns : goal.returns
unfolding word_line
returns c =
    (Put-then c.put_word-end.ensures c.put_byte.ensures, omega arith)
