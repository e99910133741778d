-- `bits::digits::put` meets its contract: the old digit's weight is in the byte, and the sum is a byte again.
use Rattle.bits.specs.Digit.{set_digit}
use Rattle.bits.proofs.DigitLaws.{digit_weight, set_digit-lt}
use borrow.Author.Rules.{rules}
use Rattle.bits.proofs.digits.put.Goals as goal

pub overflow_sub-result : goal.overflow_sub-result
overflow_sub-result c = rw (c.get.ensures.0, c.weight-w.ensures) (digit_weight c.args.byte c.args.e)

pub overflow_add-result : goal.overflow_add-result
unfolding set_digit
overflow_add-result c = rw (c.get.ensures.0, c.weight-w.ensures)
    (record {
      fits = set_digit-lt 8 c.args.byte c.args.e c.args.v (search rules)
          (search rules) (search rules);
    })

pub returns : goal.returns
unfolding set_digit
returns c = rw (c.get.ensures.0, c.weight-w.ensures)
