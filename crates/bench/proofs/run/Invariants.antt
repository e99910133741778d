-- `bench::run` meets its contract. The loop's invariant: some text, as long as what was handed on, and then the text from here on is the whole
-- output.
use Prim.Native.Nat.{ℕ, ◌+◌, ◌*◌, ◌-◌, ◌≤◌}
use mathlib.Core.Path.{◌≡◌}
use mathlib.Core.Bool.{true}
use mathlib.Core.List.{List, ◌++◌}
use Rattle.std.specs.Io.KnownBytes.{Appends}
use lib.ListN.{length}
use Rattle.area.specs.Layout.{area_length}
use Rattle.output.specs.Output.{text_from, bench_output}
use Rattle.bench.proofs.run.Given as goal

-- where no write failed, the writer was handed that text
abbrev pub invariant-loop-at : goal.invariant-loop-at
invariant-loop-at g l =
    ((shown : List ℕ)
    × ((shown ++ text_from l.input l.at l.rx l.area ≡ bench_output l.input)
    × (length shown ≡ l.total)
    × (l.ok ≡ true → Appends (g.W.Write.contents l.fn.writer) (g.W.Write.contents l.writer) shown)))
    × (l.at ≤ length l.input) × (l.rx ≤ 256) × (length l.out ≡ 65536) × (length l.area ≡ area_length) × (l.total ≤ 65536 * (l.at + 1))

abbrev pub decreases-loop-at : goal.decreases-loop-at
decreases-loop-at g l = length l.input - l.at
