-- `text::put_numbers` meets its contract. The loop's invariant: the first `i` bytes are put, in four places each at the most. Assumes
-- nothing.
use Prim.Native.Nat.{◌+◌, ◌*◌, ◌-◌, ◌≤◌}
use lib.ListN.{length, take}
use Rattle.text.specs.Text.{spaced, each, Put}
use Rattle.text.proofs.put_numbers.Given as goal

abbrev pub invariant-loop-i : goal.invariant-loop-i
invariant-loop-i l = (Put l.initial.line l.at (each spaced (take l.i l.bytes)) l.line l.end) × (l.i ≤ length l.bytes) × (l.end ≤ l.at + 4 * l.i)

abbrev pub decreases-loop-i : goal.decreases-loop-i
decreases-loop-i l = length l.bytes - l.i
