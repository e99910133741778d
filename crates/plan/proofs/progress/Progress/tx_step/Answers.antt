-- The sizes stay a table of sizes that fit.
use Rattle.std.proofs.Common.{◌≡◌, ℕ, Bool, true, false, refl, rules, tests}
use Rattle.std.specs.Prelude.{Result, Ok}
use Rattle.base.proofs.Apart.{differ}
use Rattle.plan.specs.declared.verdict.Reason.{Reason}
use Rattle.plan.specs.declared.verdict.BadRecord.{BadRecord}
use Rattle.plan.specs.Check.{required, sizes_after}
use Rattle.plan.proofs.MotionLaws.{Tables-set}
use Rattle.plan.proofs.TestLaws.{and_both, tx_ranges}
use Rattle.plan.proofs.progress.Progress.tx_step.Goals as goal

-- a test that lets the check go on is true
was_passed : (t : Bool) (a : Reason) (n : ℕ) {r : Result (Unit {0}) BadRecord} {u : Unit {0}} → r ≡ required t a n → r ≡ Ok u → t ≡ true
was_passed true a n told ok = refl
was_passed false a n told ok = absurd (differ cc)

pub returns-clause-sizes : goal.returns-clause-sizes
unfolding sizes_after
returns-clause-sizes c = let room = was_passed _ _ _ c.require-2.ensures c.in_ok-require-2.was in
    let within = rw (c.tx_in_range.ensures, c.frame_fits-fits.ensures) at (was_passed _ _ _ c.require-3.ensures c.in_ok-require-3.was) in
    rw c.go_on.ensures
    (refl, Tables-set _ _ _ c.requires.1 (search (rules, tests)) (tx_ranges _ c.args.x (and_both _ _ within).0).size)
