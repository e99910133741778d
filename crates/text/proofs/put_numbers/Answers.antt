-- `text::put_numbers` meets its contract. The loop's invariant: the first `i` bytes are put, in four places each at the most. Assumes
-- nothing.
use native.Mathlib.Omega.{arith}
use lib.Seq.{take_all}
use Rattle.text.specs.Text.{spaced, each}
use Rattle.text.proofs.TextLaws.{length_byte, Put-none, each-put_more}
use Rattle.text.proofs.put_numbers.Goals as goal

pub loop-i-init : goal.loop-i-init
unfolding each
loop-i-init c = (Put-none _ _, omega arith, omega arith)

pub bounds-bytes-i : goal.bounds-bytes-i
bounds-bytes-i c = omega arith

pub wide-requires : goal.wide-requires
wide-requires c = tt

pub put_number-end-requires : goal.put_number-end-requires
put_number-end-requires c = omega arith

pub overflow_add-i : goal.overflow_add-i
overflow_add-i c = omega arith

pub loop-i-smaller : goal.loop-i-smaller
loop-i-smaller c = omega arith

pub loop-i-preserved : goal.loop-i-preserved
loop-i-preserved c = let byte = c.wide in
    let few = length_byte byte.result byte.ensures.1 in
    let put = rw byte.ensures.0 at c.put_number-end.ensures.put in
    (each-put_more _ _ c.loop-i-test.true spaced c.loop-i.invariant.0 put, omega arith, omega arith)

pub shape_of-line : goal.shape_of-line
shape_of-line c = omega arith

pub returns : goal.returns
returns c = record { put = (rw (take_all _ _ c.loop-i-test.false) at c.loop-i.invariant.0); upper_bound = omega arith }
