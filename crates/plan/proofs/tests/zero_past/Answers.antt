-- `plan::tests::zero_past` meets its contract: a full payload has no byte past it, and else it is the definition.
use mathlib.Core.Path.{refl}
use native.Mathlib.Omega.{arith}
use Rattle.plan.specs.Tests.{zero_past}
use Rattle.plan.proofs.TestLaws.{zero_full}
use Rattle.plan.proofs.tests.zero_past.Goals as goal

pub returns-then-size-ge8 : goal.returns-then-size-ge8
returns-then-size-ge8 c = zero_full _ _ (omega arith)

pub returns : goal.returns
unfolding zero_past
returns c = refl
