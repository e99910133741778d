-- No bound could be smaller: the pumps on LIN (document 02, Ticket 2; the model's case `Polling`), on bytes. LIN node 1 has a Tx frame and an Rx frame;
-- after four ticks both wait, the request first.
use Rattle.std.specs.Prelude.{◌≡◌, List, [], ◌∷◌, ℕ, ◌<◌, length}
use Rattle.std.proofs.Math.Option.{some}
use Rattle.base.specs.Numbers.{Bytes}
use Rattle.records.specs.Nodes.{frame, request}
use Rattle.facts.specs.PlanCases.{pumps}
use Rattle.model.specs.Plan.{said}
use Rattle.model.specs.ShortGaps.{a_tick}
use Rattle.model.specs.Calls.{take, Step, opening}
use Rattle.history.specs.Calls.{after_in}
use Rattle.history.specs.Past.{past_of}
use Rattle.refines.specs.Shows.{waiting_on}
use Rattle.queues.specs.Turns.{leaving_at, Ahead}
use Rattle.queues.specs.Room.{Schedulable, many}

abbrev pub before : List Step
before = opening pumps ∷ a_tick ∷ a_tick ∷ a_tick ∷ a_tick ∷ []

pub record Reached (a : List ℕ) : Type 0 where
  -- what the statements ask for
  pub bytes : Bytes pumps
  pub opened : (past_of before a).plan ≡ some pumps
  pub node : 1 < (said pumps).nodes
  -- all that can be scheduled on the node wait on it
  pub two : (can : Schedulable (said pumps) 1) → many can ≡ 2
  pub full : length (waiting_on (after_in a before) 1) ≡ 2
  -- the last of them has all others ahead of it; it leaves in the second slot, and another in the first
  pub last : Ahead (after_in a before) 1 1 (frame 1)
  pub first_slot : leaving_at 0 1 (after_in a before) (take 1 ∷ take 1 ∷ []) ≡ some (request 0)
  pub second_slot : leaving_at 1 1 (after_in a before) (take 1 ∷ take 1 ∷ []) ≡ some (frame 1)

-- whatever stood in the area before
abbrev pub BoundReached : Type 0
BoundReached = (a : List ℕ) → length a ≡ 32768 → Reached a
