-- `text::put_hex` meets its contract. The loop's invariant: the first `i` bytes are put, two digits each.
use native.Mathlib.Omega.{arith}
use lib.Seq.{take_all}
use Rattle.text.specs.Text.{hex_byte, each}
use Rattle.text.proofs.TextLaws.{Put-none, each-put_more}
use Rattle.text.proofs.put_hex.Goals as goal

pub loop-i-init : goal.loop-i-init
unfolding each
loop-i-init c = (Put-none _ _, omega arith, omega arith)

pub bounds-bytes-i : goal.bounds-bytes-i
bounds-bytes-i c = omega arith

pub put_hex_byte-end-requires : goal.put_hex_byte-end-requires
put_hex_byte-end-requires c = omega arith

pub overflow_add-i : goal.overflow_add-i
overflow_add-i c = omega arith

pub loop-i-smaller : goal.loop-i-smaller
loop-i-smaller c = omega arith

pub loop-i-preserved : goal.loop-i-preserved
unfolding hex_byte
loop-i-preserved c =
    let put = c.put_hex_byte-end.ensures in
    (each-put_more _ _ c.loop-i-test.true hex_byte c.loop-i.invariant.0 put, omega arith, omega arith)

pub shape_of-line : goal.shape_of-line
shape_of-line c = omega arith

pub returns : goal.returns
returns c = record { put = (rw (take_all _ _ c.loop-i-test.false) at c.loop-i.invariant.0); value = omega arith }
