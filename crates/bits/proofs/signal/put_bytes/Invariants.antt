-- `bits::signal::put_bytes` meets its contract. The loop's invariant: to store the bytes that are left gives what storing all eight gave; where the
-- mask has no digit left they are the kept ones.
use mathlib.Core.Path.{◌≡◌}
use Prim.Native.Nat.{◌+◌, ◌-◌, ◌*◌, ◌^◌, ◌≤◌, ◌<◌}
use lib.ListN.{length}
use Rattle.bits.specs.Word.{bytes_stored}
use Rattle.bits.proofs.Stored.{KeptElsewhere}
use Rattle.bits.proofs.PayloadLaws.{Bytes}
use Rattle.bits.proofs.signal.put_bytes.Given as goal

abbrev pub invariant-loop-m : goal.invariant-loop-m
invariant-loop-m l = (l.at ≤ l.i) × (l.i ≤ l.at + 8) × (length l.kept ≡ length l.initial.kept) × Bytes l.kept × (l.m < 2 ^ (8 * (l.at + 8 - l.i))) × (l.m < 2 ^ (8 * (length l.kept - l.i)))
    × (l.n < 2 ^ (8 * (l.at + 8 - l.i))) × KeptElsewhere (l.at + 8 - l.i) l.kept l.i l.n l.m × (bytes_stored (l.at + 8 - l.i) l.kept l.i l.n ≡ bytes_stored 8 l.initial.kept l.at l.made)

abbrev pub decreases-loop-m : goal.decreases-loop-m
decreases-loop-m l = l.m
