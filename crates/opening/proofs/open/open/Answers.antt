-- A good plan fits behind the tables.
use Rattle.std.proofs.Common.{arith, rules, sym}
use Rattle.facts.proofs.Bounds.{good_bounds}
use Rattle.opening.proofs.open.open.Goals as goal

pub fill-requires : goal.fill-requires
fill-requires c = (omega (arith, (good_bounds c.args.plan.now _ _ _ (sym c.in_ok-counts.ensures.verdict)).short), search rules, omega arith)
