-- `bits::payload::copy_signal_in` meets its contract. The loop's invariant: after k bits the kept payload is `copied` of k, and the answer
-- `differs` of k; a piece adds the copy of its bits.
use mathlib.Core.Path.{◌≡◌}
use Prim.Native.Nat.{◌-◌, ◌≤◌}
use lib.ListN.{length}
use Rattle.bits.specs.Order.{order_number}
use Rattle.bits.specs.Payload.{copied, differs}
use Rattle.bits.proofs.payload.copy_signal_in.Given as goal

abbrev pub invariant-loop-k : goal.invariant-loop-k
invariant-loop-k l = (l.k ≤ l.size) × (length l.kept ≡ length l.initial.kept) × (l.kept ≡ copied (order_number l.order) l.source l.p l.k l.initial.kept l.q) × (l.changed ≡ differs (order_number l.order) l.source l.p l.k l.initial.kept l.q)

abbrev pub decreases-loop-k : goal.decreases-loop-k
decreases-loop-k l = l.size - l.k
