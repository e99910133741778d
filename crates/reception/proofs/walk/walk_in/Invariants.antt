-- `walk::walk_in` meets its contract. The loop's invariant: the rest of the walk gives what the whole gives, the area has kept the plan, and the signal's
-- bits are the payload's. The measure is what is left of the part that holds the plan.
use mathlib.Core.Path.{◌≡◌}
use Prim.Native.Nat.{◌-◌, ◌≤◌, ◌<◌}
use Rattle.base.specs.Numbers.{at_most}
use Rattle.bits.specs.Order.{order_number}
use Rattle.bits.specs.Word.{Bits, ones_of}
use Rattle.area.specs.Layout.{plan_room, stored}
use Rattle.area.proofs.Kept.{Kept}
use Rattle.reception.specs.Walk.{walked}
use Rattle.reception.proofs.walk.walk_in.Given as goal

abbrev pub invariant-loop-at : goal.invariant-loop-at
invariant-loop-at l = Kept l.initial.area l.area × (l.signal.size < 256) × (l.at ≤ plan_room)
    × (walked (order_number l.order) l.payload l.signal.position l.signal.size (stored l.initial.area) l.at l.area ≡ walked (order_number l.order) l.payload 0 0 (stored l.initial.area) l.from l.initial.area)
    × (l.signal.ones ≡ ones_of (order_number l.order) (at_most 64 l.signal.size))
    × Bits (order_number l.order) l.signal.bits l.payload l.signal.position l.signal.size

abbrev pub decreases-loop-at : goal.decreases-loop-at
decreases-loop-at l = plan_room - l.at
