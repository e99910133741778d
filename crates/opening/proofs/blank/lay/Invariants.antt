-- `opening::blank::lay` meets its contract: after i turns the first i bytes of the plan are laid.
use Rattle.std.proofs.Common.{◌≡◌, ◌≤◌, length}
use Rattle.opening.specs.Opened.{laid}
use Rattle.opening.proofs.blank.lay.Given as goal

abbrev pub invariant-loop-i : goal.invariant-loop-i
invariant-loop-i l = (l.area ≡ laid l.plan l.i l.initial.area) × (l.i ≤ length l.plan) × (length l.area ≡ length l.initial.area)
