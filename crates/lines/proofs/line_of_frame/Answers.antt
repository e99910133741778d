-- `lines::line_of_frame` meets its contract: it puts the definition's parts in their order.
use Prim.Native.Nat.{◌≤◌}
use native.Mathlib.Omega.{arith}
use Rattle.lines.specs.Lines.{frame_line}
use Rattle.text.proofs.TextLaws.{Put-then}
use Rattle.lines.proofs.line_of_frame.Goals as goal

pub put_byte-requires : goal.put_byte-requires
put_byte-requires c =
    omega (arith, c.put_word-named.ensures.ends, c.put_word-named.ensures.kept, c.requires)

pub shape_of-line : goal.shape_of-line
shape_of-line c = omega arith

pub returns : goal.returns
unfolding frame_line
returns c =
    let short : c.put_byte.result ≤ 2048 = omega (arith, c.put_word-named.ensures.ends, c.put_word-named.ensures.kept, c.requires) in
    let head = Put-then (Put-then c.put_word-named.ensures c.put_number-numbered.ensures.put) c.put_id-identified.ensures.put in
    let shown = Put-then (Put-then (Put-then head c.put_number-sized.ensures.put) c.put_byte-spaced.ensures) c.put_payload-shown.ensures.put in
    (Put-then (Put-then shown c.put_number-end.ensures.put) c.put_byte.ensures, short)
