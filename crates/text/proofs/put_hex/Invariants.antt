-- `text::put_hex` meets its contract. The loop's invariant: the first `i` bytes are put, two digits each.
use Prim.Native.Nat.{◌+◌, ◌*◌, ◌-◌, ◌≤◌}
use mathlib.Core.Path.{◌≡◌}
use lib.ListN.{length, take}
use Rattle.text.specs.Text.{hex_byte, each, Put}
use Rattle.text.proofs.put_hex.Given as goal

abbrev pub invariant-loop-i : goal.invariant-loop-i
invariant-loop-i l = (Put l.initial.line l.at (each hex_byte (take l.i l.bytes)) l.line l.end) × (l.i ≤ length l.bytes) × (l.end ≡ l.at + 2 * l.i)

abbrev pub decreases-loop-i : goal.decreases-loop-i
decreases-loop-i l = length l.bytes - l.i
