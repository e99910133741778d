-- `area::frames::plan_byte` meets its contract: the part begins where the plan does.
use mathlib.Core.Path.{sym}
use native.Mathlib.Omega.{arith}
use Rattle.area.proofs.StoredLaws.{stored_byte}
use Rattle.area.proofs.frames.plan_byte.Goals as goal

pub returns : goal.returns
returns c = sym (stored_byte _ _ (omega arith))
