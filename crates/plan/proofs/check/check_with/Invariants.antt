-- The rest of the records decides and joins as the whole plan does.
use Rattle.std.proofs.Common.{length, ◌-◌}
use Rattle.plan.proofs.Turn.{Stands}
use Rattle.plan.proofs.check.check_with.Given as goal

abbrev pub invariant-loop-at : goal.invariant-loop-at
invariant-loop-at l = Stands l.plan l.at l.p l.sizes l.sets

abbrev pub decreases-loop-at : goal.decreases-loop-at
decreases-loop-at l = length l.plan - l.at
