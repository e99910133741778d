-- `lines::bad_line` meets its contract: it is the definition's word alone.
use Rattle.lines.specs.Lines.{bad_line}
use Rattle.lines.proofs.bad_line.Goals as goal

pub returns : goal.returns
unfolding bad_line
returns c = c.line_of_word.ensures
