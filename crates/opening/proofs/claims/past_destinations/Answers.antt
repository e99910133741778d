-- `opening::claims::past_destinations` meets its contract: each turn passes one destination.
use Rattle.std.proofs.Common.{arith, rules}
use Rattle.opening.proofs.Passing.{begins_with, are_left, Passes-none, Passes-then, Passes-destination}
use Rattle.opening.proofs.claims.past_destinations.Goals as goal

pub loop-at-init : goal.loop-at-init
loop-at-init c = (Passes-none _ _ (omega arith), omega arith)

pub loop-at-preserved : goal.loop-at-preserved
loop-at-preserved c =
    let plan = c.args.plan.now in
    let at = c.loop-at.at in
    let whole = are_left plan at 4 c.in-6.len_at_least in
    (Passes-then c.loop-at.invariant.0 (Passes-destination plan at (begins_with plan at 6 (search rules)) whole), omega arith)
