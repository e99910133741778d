-- `interface::structs::id_in` meets its contract: bit 31 decides.
use mathlib.Core.Path.{ap, sym, ◌∙◌}
use native.Mathlib.Omega.{arith}
use borrow.Author.Tests.{lt-ltb, le-ltb}
use Rattle.base.proofs.Picks.{picks, passes}
use Rattle.records.specs.declared.record.Id.TheVariants.{Standard, Extended}
use Rattle.interface.specs.Structs.{id_in}
use Rattle.interface.proofs.structs.id_in.Goals as goal

pub returns-then-word-lt-FORMAT_BIT : goal.returns-then-word-lt-FORMAT_BIT
unfolding id_in
returns-then-word-lt-FORMAT_BIT c = ap Standard (omega arith) ∙ sym (picks _ _ _ (lt-ltb _ _ c.if-word-lt-FORMAT_BIT.true))

pub returns : goal.returns
unfolding id_in
returns c = ap Extended (omega arith) ∙ sym (passes _ _ _ (le-ltb _ _ c.if-word-lt-FORMAT_BIT.false))
