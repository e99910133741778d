-- `area::header::has_node` meets its contract: by the range first, and then by the count.
use mathlib.Core.Path.{sym}
use mathlib.Core.Bool.{false≢true}
use native.Mathlib.Nat.{le_trans}
use borrow.Author.Tests.{le-ltb}
use Rattle.base.proofs.Ranges.{at_most-le}
use Rattle.area.proofs.StoredLaws.{below_most}
use Rattle.area.proofs.header.has_node.Goals as goal

pub returns-then-n-lt16 : goal.returns-then-n-lt16
returns-then-n-lt16 c = (rw c.wide.ensures.0 (below_most _ 16 _ c.if-n-lt16.true), λ e. c.if-n-lt16.true)

pub returns : goal.returns
returns c = (sym (le-ltb _ _ (le_trans (at_most-le 16 _) c.if-n-lt16.false)), λ e. absurd (false≢true e))
