-- `by_sixteens::expire` meets its contract. The loop's invariant: of the first `i` timers those that are marked have expired, with their bytes in the
-- report.
use mathlib.Core.Path.{◌≡◌}
use Prim.Native.Nat.{◌≤◌}
use lib.ListN.{length}
use Rattle.ticking.specs.Sixteen.{each_marked, step_of, told_marked}
use Rattle.ticking.specs.contracts.by_sixteens.expire.{RX-type}
use denote.Param.{number}
use Rattle.ticking.proofs.by_sixteens.expire.Given as goal

abbrev pub invariant-loop-i : goal.invariant-loop-i
invariant-loop-i g l = let rx = RX-type (number g.row.RX) in
    (l.area ≡ each_marked (step_of rx) l.marks l.from l.i l.initial.area) × (l.report ≡ told_marked rx l.marks l.from l.i l.initial.area l.initial.report) × (l.i ≤ 16)
    × (length l.area ≡ length l.initial.area) × (length l.report ≡ length l.initial.report)
