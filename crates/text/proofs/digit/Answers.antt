-- `text::digit` meets its contract: the test is the definition's.
use borrow.Author.Tests.{lt-ltb, le-ltb}
use Rattle.base.specs.Pick.{pick}
use Rattle.text.specs.Text.{glyph}
use Rattle.text.proofs.digit.Goals as goal

pub returns-then-d-lt10 : goal.returns-then-d-lt10
unfolding glyph pick
returns-then-d-lt10 c = rw (lt-ltb _ _ c.if-d-lt10.true)

pub returns : goal.returns
unfolding glyph pick
returns c = rw (le-ltb _ _ c.if-d-lt10.false)
