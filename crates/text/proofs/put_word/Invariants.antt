-- `text::put_word` meets its contract. The loop's invariant: the word's first `i` bytes are put.
use Prim.Native.Nat.{◌+◌, ◌-◌, ◌≤◌}
use mathlib.Core.Path.{◌≡◌}
use lib.ListN.{length, take}
use Rattle.text.specs.Text.{Put}
use Rattle.text.proofs.put_word.Given as goal

abbrev pub invariant-loop-i : goal.invariant-loop-i
invariant-loop-i l = (Put l.initial.line l.at (take l.i l.word) l.line l.end) × (l.i ≤ length l.word) × (l.end ≡ l.at + l.i)

abbrev pub decreases-loop-i : goal.decreases-loop-i
decreases-loop-i l = length l.word - l.i
