-- `lines::line_of_request` meets its contract: it puts the definition's parts in their order.
use native.Mathlib.Omega.{arith}
use Rattle.text.specs.Text.{each}
use Rattle.lines.specs.Lines.{request_line}
use Rattle.text.proofs.TextLaws.{Put-none, Put-then}
use Rattle.lines.proofs.line_of_request.Goals as goal

pub returns : goal.returns
unfolding request_line each
returns c =
    let head = Put-then (Put-then c.put_word-named.ensures c.put_number-numbered.ensures.put) c.put_id-identified.ensures.put in
    let numbers = Put-then c.put_number-sized.ensures.put (Put-then c.put_number-end.ensures.put (Put-none _ _)) in
    (Put-then (Put-then head numbers) c.put_byte.ensures, omega arith)
