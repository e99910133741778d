-- `bits::owners::join` meets its contract: the range's bits are made as one number, which has a digit in common with the set where a bit
-- clashes, and joins it by an or where none does.
use mathlib.Core.Path.{◌≡◌, sym, ap, ◌∙◌}
use lib.Bits.{bit_and}
use Rattle.std.specs.Prelude.{Some}
use Rattle.base.proofs.Picks.{picks, passes}
use Rattle.bits.specs.Owners.{joined}
use Rattle.bits.proofs.MaskLaws.{range, range_made, clash_common, apart_free, owned_or}
use borrow.Author.Rules.{rules}
use Rattle.bits.proofs.owners.join.Goals as goal

pub returns-then-set-bits-ne0 : goal.returns-then-set-bits-ne0
unfolding joined
returns-then-set-bits-ne0 c = let a = c.args in
    let made = range_made a.size a.p c.requires.1 in
    sym (picks _ _ _ (clash_common a.set a.p a.size 64 (search rules) (λ z. c.if-set-bits-ne0.true (rw made z))))

pub returns : goal.returns
unfolding joined
returns c = let a = c.args in
    let made = range_made a.size a.p c.requires.1 in
    let apart : bit_and a.set (range a.size a.p) ≡ 0 = rw made at c.if-set-bits-ne0.false in
    ap Some (rw made (owned_or a.set a.p a.size apart)) ∙ sym (passes _ _ _ (apart_free a.set a.p a.size apart))
