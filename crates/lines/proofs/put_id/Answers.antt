-- `lines::put_id` meets its contract: by the format.
use native.Mathlib.Omega.{arith}
use Rattle.lines.specs.Lines.{spaced_id}
use Rattle.text.proofs.TextLaws.{Put-then}
use Rattle.lines.proofs.put_id.Goals as goal

pub returns-in-Standard : goal.returns-in-Standard
unfolding spaced_id
returns-in-Standard c =
    rw c.in-Standard.is (record { put = c.put_number.ensures.put; upper_bound = omega arith })

pub shape_of-line-in-Extended : goal.shape_of-line-in-Extended
shape_of-line-in-Extended c = omega arith

pub returns-in-Extended : goal.returns-in-Extended
unfolding spaced_id
returns-in-Extended c =
    rw c.in-Extended.is (record { put = Put-then c.put_word-marked.ensures c.put_decimal.ensures.put; upper_bound = omega arith })
