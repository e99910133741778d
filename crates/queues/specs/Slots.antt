-- How long a frame or request can wait at most, if the driver takes once a bus slot: from "leaves at the (n + 1)-th unrefused take on its node" and
-- "never holds more than the frames and requests which can be scheduled on it" (document 02, Ticket 14).
use Rattle.std.specs.Prelude.{◌≡◌, List, [], ◌∷◌, ◌++◌, ℕ, ◌<◌, length}
use Rattle.std.proofs.Math.Option.{some}
use Rattle.base.specs.Numbers.{Bytes}
use Rattle.records.specs.declared.record.Entry.{Entry}
use Rattle.facts.specs.Good.{Each}
use Rattle.model.specs.Plan.{said}
use Rattle.model.specs.Words.{In}
use Rattle.model.specs.Calls.{Call, take, Step}
use Rattle.history.specs.Calls.{after_in}
use Rattle.history.specs.Past.{past_of}
use Rattle.queues.specs.Turns.{leaving_at, Ahead}
use Rattle.queues.specs.Room.{Schedulable, many}

-- a bus slot of node n: the calls that the driver makes in it, a take on the node among them
abbrev pub BusSlot : ℕ → List Call → Type 0
BusSlot n calls = In (take n) calls

-- the calls of some slots, one after the other
unfoldable pub calls_of : List (List Call) → List Call
calls_of [] = []
calls_of (calls ∷ slots) = calls ++ calls_of slots

-- what waits on node n with k ahead of it
pub record AtMost (plan a : List ℕ) (n k : ℕ) (e : Entry) : Type 0 where
  -- no more are ahead of it than there are others that can be scheduled there
  pub ahead : (can : Schedulable (said plan) n) → k < many can
  -- and it has left when k + 1 slots are over
  pub slots : (slots : List (List Call)) → Each (BusSlot n) slots → k < length slots → leaving_at k n a (calls_of slots) ≡ some e

abbrev pub WaitsAtMost : Type 0
WaitsAtMost =
    (a : List ℕ) (before : List Step) (plan : List ℕ) → Bytes plan → (past_of before a).plan ≡ some plan → (n : ℕ) → n < (said plan).nodes
    → (k : ℕ) (e : Entry) → Ahead (after_in a before) n k e → AtMost plan (after_in a before) n k e
