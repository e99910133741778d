-- `taking::part` meets its contract: the part begins where the payload does.
use mathlib.Core.Path.{sym}
use native.Mathlib.Nat.{add-sub_cancel_left}
use native.Mathlib.Omega.{arith}
use borrow.Author.Tests.{lt-leb, le-leb}
use lib.ListN.{length}
use Rattle.base.proofs.Picks.{picks, passes}
use Rattle.area.specs.Layout.{area_length}
use Rattle.taking.specs.Taken.{kept_part}
use Rattle.taking.proofs.part.Goals as goal

pub returns-then-area-lt-AREA_LENGTH : goal.returns-then-area-lt-AREA_LENGTH
unfolding kept_part
returns-then-area-lt-AREA_LENGTH c = sym (passes _ _ _ (lt-leb _ _ c.if-area-lt-AREA_LENGTH.true))

pub returns : goal.returns
unfolding kept_part
returns c =
    rw (add-sub_cancel_left, c.in_width.ensures.0, c.payload-from.ensures, c.in_range.ensures.0)
    (sym (picks _ _ _ (le-leb area_length (length c.args.area.now) (omega (arith, c.if-area-lt-AREA_LENGTH.false)))))
