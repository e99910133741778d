-- `text::put_digits` meets its contract: below 10 it is the one digit, and else a tenth of the number has been put, which is smaller, and
-- the last digit follows.
use Rattle.std.proofs.Common.{arith}
use Rattle.text.proofs.TextLaws.{Put-then, decimal_one, decimal_more, length_one, length_more}
use Rattle.text.proofs.+put_digits.Goals as goal

pub put_byte-requires : goal.put_byte-requires
put_byte-requires t c = omega (arith, length_one c.args.n c.if-n-lt10.true)

pub returns-then-n-lt10 : goal.returns-then-n-lt10
returns-then-n-lt10 t c = rw (decimal_one c.args.n c.if-n-lt10.true, ← c.digit-only.ensures) c.put_byte.ensures

pub put_digits-end-requires : goal.put_digits-end-requires
put_digits-end-requires t c = let l = length_more c.args.n c.if-n-lt10.false in (omega arith, omega arith)

pub put_byte-requires-2 : goal.put_byte-requires-2
put_byte-requires-2 t c = omega (arith, length_more c.args.n c.if-n-lt10.false)

pub returns : goal.returns
returns t c =
    rw (decimal_more c.args.n c.if-n-lt10.false, ← c.digit-last.ensures) (Put-then c.put_digits-end.ensures c.put_byte-2.ensures)
