-- `text::put_decimal` meets its contract: a usize has no more than 20 digits.
use native.Mathlib.Omega.{arith}
use Rattle.text.proofs.TextLaws.{decimal-length}
use Rattle.text.proofs.put_decimal.Goals as goal

pub put_digits-requires : goal.put_digits-requires
put_digits-requires c = omega (arith, decimal-length 19 c.args.n (omega arith))

pub shape_of-line : goal.shape_of-line
shape_of-line c = omega arith

pub returns : goal.returns
returns c = record { put = c.put_digits.ensures; upper_bound = omega (arith, decimal-length 19 c.args.n (omega arith)) }
