-- `text::put_word` meets its contract. The loop's invariant: the word's first `i` bytes are put.
use native.Mathlib.Omega.{arith}
use lib.Seq.{take_all}
use Rattle.text.proofs.TextLaws.{Put-none, Put-more}
use Rattle.text.proofs.put_word.Goals as goal

pub loop-i-init : goal.loop-i-init
loop-i-init c = (Put-none _ _, omega arith, omega arith)

pub bounds-word-i : goal.bounds-word-i
bounds-word-i c = omega arith

pub put_byte-end-requires : goal.put_byte-end-requires
put_byte-end-requires c = omega arith

pub overflow_add-i : goal.overflow_add-i
overflow_add-i c = omega arith

pub loop-i-smaller : goal.loop-i-smaller
loop-i-smaller c = omega arith

pub loop-i-preserved : goal.loop-i-preserved
loop-i-preserved c =
    let put = c.put_byte-end.ensures in
    (Put-more _ _ c.loop-i-test.true c.loop-i.invariant.0 put, omega arith, omega arith)

pub shape_of-line : goal.shape_of-line
shape_of-line c = omega arith

pub returns : goal.returns
returns c = rw (take_all _ _ c.loop-i-test.false) at c.loop-i.invariant.0
