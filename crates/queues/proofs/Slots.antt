-- Slots with a take on the node in each have at least as many unrefused takes on it, so what waits has left when there were more slots than stand ahead
-- of it; and ahead of it stand at most the others that can be scheduled there.
use mathlib.Core.Path.{◌≡◌, refl}
use mathlib.Core.Logic.{inl, inr}
use mathlib.Core.List.{List, [], ◌∷◌, ◌++◌, map, append_assoc}
use Prim.Native.Nat.{ℕ, ◌≤◌, ◌<◌}
use native.Mathlib.Omega.{arith}
use lib.ListN.{length, length-append}
use Rattle.facts.specs.Good.{Each}
use Rattle.model.specs.Plan.{said}
use Rattle.model.specs.Calls.{Call, take, call}
use Rattle.model.specs.Words.{In}
use Rattle.history.specs.Calls.{area_after, stepped, after_in}
use Rattle.refines.proofs.Held.{below}
use Rattle.queues.specs.Turns.{takes_on}
use Rattle.queues.specs.Slots.{BusSlot, calls_of, WaitsAtMost}
use Rattle.queues.proofs.Opened.{IsOpen, open_after, open_later, opened}
use Rattle.queues.proofs.Taking.{counts, taking}
use Rattle.queues.proofs.Turns.{turns}
use Rattle.queues.proofs.Room.{few}

-- the takes of some calls and of those that follow them
takes_append : (n : ℕ) (a : List ℕ) (cs ds : List Call) → takes_on n a (cs ++ ds) ≡ takes_on n a cs ++ takes_on n (after_in a (map call cs)) ds
unfolding takes_on after_in stepped
takes_append n a [] ds = refl
takes_append n a (c ∷ cs) ds = rw (takes_append n (area_after a c) cs ds, append_assoc)

module _ {plan : List ℕ} (n : ℕ) (l : n < (said plan).nodes) where
  -- in an open area a take on a node that exists is not refused
  some_take : (cs : List Call) (a : List ℕ) → IsOpen plan a → In (take n) cs → 0 < length (takes_on n a cs)
  unfolding In takes_on
  some_take [] a o i = absurd i
  some_take (c ∷ cs) a o (inl e) = rw (← e, counts (taking o n l)) (omega arith)
  some_take (c ∷ cs) a o (inr i) = rw length-append (omega (arith, some_take cs (area_after a c) (open_after o c) i))

  one_each : (slots : List (List Call)) (a : List ℕ) → IsOpen plan a → Each (BusSlot n) slots → length slots ≤ length (takes_on n a (calls_of slots))
  unfolding Each calls_of takes_on
  one_each [] a o h = omega arith
  one_each (cs ∷ slots) a o h =
      rw (takes_append n a cs (calls_of slots), length-append)
      (omega (arith, some_take cs a o h.0, one_each slots (after_in a (map call cs)) (open_later o cs) h.1))

pub waits_at_most : WaitsAtMost
waits_at_most a before plan bytes is n l k e h =
    let o = opened a before plan bytes is in
    let here = after_in a before in
    record {
      ahead = λ can. omega (arith, h.waits, few o n (below o.held n l) can);
      slots = λ slots each m. (turns n l o k e h (calls_of slots)).leaves (omega (arith, one_each n l slots here o each));
    }
