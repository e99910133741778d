-- The loop's invariant: what the buffer shows, and then the text from here on, is the text to show.
use Prim.Native.Nat.{◌*◌, ◌-◌, ◌≤◌}
use mathlib.Core.Path.{◌≡◌}
use mathlib.Core.List.{◌++◌}
use lib.ListN.{length, take}
use Rattle.output.specs.Output.{text_from}
use Rattle.bench.proofs.fill.Given as goal

abbrev pub invariant-loop-event : goal.invariant-loop-event
invariant-loop-event l = (take l.used l.out ++ text_from l.input l.at l.rx l.area ≡ text_from l.input l.from l.rx l.initial.area)
    × (l.at ≤ length l.input) × (l.from ≤ l.at) × (l.used ≤ 2048 * (l.at - l.from)) × (l.used ≤ 65536) × (length l.out ≡ length l.initial.out) × (length l.area ≡ length l.initial.area)

abbrev pub decreases-loop-event : goal.decreases-loop-event
decreases-loop-event l = length l.input - l.at
