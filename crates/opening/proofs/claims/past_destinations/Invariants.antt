-- `opening::claims::past_destinations` meets its contract: each turn passes one destination.
use Rattle.std.proofs.Common.{◌-◌, ◌≤◌, length}
use Rattle.opening.specs.Opened.{Passes}
use Rattle.opening.proofs.claims.past_destinations.Given as goal

abbrev pub invariant-loop-at : goal.invariant-loop-at
invariant-loop-at l = Passes l.plan l.from l.at × (l.at ≤ length l.plan)

abbrev pub decreases-loop-at : goal.decreases-loop-at
decreases-loop-at l = length l.plan - l.at
