-- `bits::word::from_bit` meets its contract: past the eight bytes there is nothing.
use mathlib.Core.Path.{sym}
use borrow.Author.Rules.{rules}
use Rattle.bits.specs.Word.{from_bit}
use Rattle.bits.proofs.WordLaws.{swapped, from_none}
use Rattle.bits.proofs.word.from_bit.Goals as goal

pub returns-then-p-ge64 : goal.returns-then-p-ge64
returns-then-p-ge64 c = sym (from_none _ _ _ (search rules) (search rules))

pub returns-in-Big : goal.returns-in-Big
unfolding from_bit
returns-in-Big c = rw (c.in-Big.is, c.swap_bytes.ensures, swapped c.args.bytes)

pub returns-in-Little : goal.returns-in-Little
unfolding from_bit
returns-in-Little c = rw c.in-Little.is
