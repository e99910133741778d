-- `by_sixteens::ticks` meets its contract. The invariant of the first loop: the timers before `from`, a multiple of sixteen, are handled, and their
-- bytes stand in the report; of the second: so are the first `i`, if it was so at its begin.
use mathlib.Core.Path.{◌≡◌}
use mathlib.Core.List.{List}
use Prim.Native.Nat.{ℕ, ◌≤◌, ◌-◌, ◌%◌}
use lib.ListN.{length}
use Rattle.ticking.specs.Sixteen.{ticks_of, reported_by}
use Rattle.ticking.specs.contracts.by_sixteens.ticks.{RX-type}
use denote.Param.{number}
use Rattle.ticking.proofs.by_sixteens.ticks.Given as goal

abbrev pub invariant-loop-from : goal.invariant-loop-from
invariant-loop-from g l = let rx = RX-type (number g.row.RX) in
    (l.area ≡ ticks_of rx l.k l.from l.initial.area) × (l.report ≡ reported_by rx l.k l.from l.initial.area l.initial.report) × (l.from ≤ l.full) × (l.from % 16 ≡ 0)
    × (length l.area ≡ length l.initial.area) × (length l.report ≡ length l.initial.report)

abbrev pub decreases-loop-from : goal.decreases-loop-from
decreases-loop-from g l = l.full - l.from

abbrev pub invariant-loop-i : goal.invariant-loop-i
invariant-loop-i g l = let rx = RX-type (number g.row.RX) in
    ((a s : List ℕ) → l.initial.area ≡ ticks_of rx l.k l.initial.i a → l.initial.report ≡ reported_by rx l.k l.initial.i a s → (l.area ≡ ticks_of rx l.k l.i a) × (l.report ≡ reported_by rx l.k l.i a s))
    × (l.i ≤ l.n) × (length l.area ≡ length l.initial.area) × (length l.report ≡ length l.initial.report)
