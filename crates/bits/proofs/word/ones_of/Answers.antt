-- `bits::word::ones_of` meets its contract: all of 64 ones, pushed up or down.
use mathlib.Core.Path.{sym}
use borrow.Author.Rules.{rules}
use native.Mathlib.Omega.{arith}
use Rattle.bits.proofs.OrderLaws.{not_big}
use Rattle.bits.proofs.WordLaws.{ones_none, ones_little, ones_big}
use Rattle.bits.proofs.word.ones_of.Goals as goal

pub returns-then-size-eq0 : goal.returns-then-size-eq0
returns-then-size-eq0 c = rw c.if-size-eq0.true (sym (ones_none _))

pub returns-in-Big : goal.returns-in-Big
returns-in-Big c = rw c.in-Big.is (sym (ones_big _ (search rules)))

pub returns : goal.returns
returns c = rw (not_big _ c.in_default.not-Big) (sym (ones_little 1 _ (λ e. omega arith) (search rules)))
