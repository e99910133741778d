-- `opening::claims::past_claims` meets its contract: each turn passes one signal, and its destinations.
use Rattle.std.proofs.Common.{arith, rules}
use Rattle.opening.proofs.Passing.{begins_with, are_left, Passes-none, Passes-then, Passes-signal}
use Rattle.opening.proofs.claims.past_claims.Goals as goal

pub loop-at-init : goal.loop-at-init
loop-at-init c = (Passes-none _ _ (omega arith), omega arith)

pub past_destinations-at-requires : goal.past_destinations-at-requires
past_destinations-at-requires c = omega (arith, are_left c.args.plan.now c.loop-at.at 3 c.in-5.len_at_least)

pub loop-at-smaller : goal.loop-at-smaller
loop-at-smaller c = omega (arith, c.past_destinations-at.ensures.onward, are_left c.args.plan.now c.loop-at.at 3 c.in-5.len_at_least)

pub loop-at-preserved : goal.loop-at-preserved
loop-at-preserved c =
    let plan = c.args.plan.now in
    let at = c.loop-at.at in
    let one =
    Passes-then c.loop-at.invariant.0 (Passes-signal plan at (begins_with plan at 5 (search rules)) (are_left plan at 3 c.in-5.len_at_least)) in
    let all = Passes-then one c.past_destinations-at.ensures in
    (all, all.within)
