-- `lines::put_payload` meets its contract: the test is the definition's.
use native.Mathlib.Omega.{arith}
use borrow.Author.Tests.{eq-eqb, ne_eqb}
use Rattle.base.specs.Pick.{pick}
use Rattle.lines.specs.Lines.{payload_text}
use Rattle.lines.proofs.put_payload.Goals as goal

pub put_byte-requires : goal.put_byte-requires
put_byte-requires c = omega arith

pub shape_of-line-then-size-eq0 : goal.shape_of-line-then-size-eq0
shape_of-line-then-size-eq0 c = omega arith

pub returns-then-size-eq0 : goal.returns-then-size-eq0
unfolding payload_text pick
returns-then-size-eq0 c = rw (eq-eqb _ _ c.if-size-eq0.true) (record { put = c.put_byte.ensures; upper_bound = omega arith })

pub put_hex-requires : goal.put_hex-requires
put_hex-requires c = omega arith

pub shape_of-line : goal.shape_of-line
shape_of-line c = omega arith

pub returns : goal.returns
unfolding payload_text pick
returns c = rw (ne_eqb _ _ c.if-size-eq0.false) (record { put = c.put_hex.ensures.put; upper_bound = omega arith })
