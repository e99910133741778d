-- "Take on a node: "none", or the oldest waiting frame, which then waits no more: its Tx number, ID, size, how many still wait on that node, and
-- its payload of that size (.. with "none" or a refusal, the empty part)."
-- "A take answers a request (Rx number, ID, size, waiting count, the empty part ..) or a frame, with the protected identifier .. A take of a LIN Tx
-- frame gives" the checksum "of the payload it hands back." (document 02, Ticket 2)
use Rattle.std.specs.Prelude.{ℕ, List, [], ◌∷◌, ltb, length, take, Option, Some, None, Result, Ok, Err}
use Rattle.base.specs.Pick.{pick}
use Rattle.records.specs.declared.record.Id.{Id}
use Rattle.records.specs.declared.record.Entry.{Entry}
use Rattle.records.specs.declared.record.Entry.TheVariants as entry
use Rattle.records.specs.Ids.{plain_id}
use Rattle.lin.specs.Identifier.{protected_of}
use Rattle.lin.specs.Checksum.{checksum_of}
use Rattle.answers.specs.declared.Refusal.{Refusal}
use Rattle.answers.specs.declared.Refusal.TheVariants.{NoNode}
use Rattle.answers.specs.declared.Framing.{Framing}
use Rattle.answers.specs.declared.Framing.TheVariants.{Can, Lin}
use Rattle.answers.specs.declared.Taken.{Taken}
use Rattle.answers.specs.declared.Taken.TheVariants.{Frame, Request}
use Rattle.model.specs.Plan.{Plan, tx_in, row_in, on_lin}
use Rattle.model.specs.State.{State, kept_of, queue_on, with_queue}

-- the payload that is handed back with Tx frame t, and with a request
unfoldable pub handed : Plan → State → Entry → List ℕ
handed p s (entry.Frame t) = take (tx_in p t.0).size (kept_of s t.0)
handed p s (entry.Request r) = []

-- what goes with a frame of this ID and payload on node n
unfoldable pub framing_of : Plan → ℕ → Id → List ℕ → Framing
framing_of p n id payload = pick (on_lin p n) (Lin (protected_of (plain_id id)) (checksum_of (protected_of (plain_id id)) payload)) Can

unfoldable pub entry_answer : Plan → State → ℕ → Entry → ℕ → Taken
entry_answer p s n (entry.Frame t) waiting =
    Frame
    (record {
      tx = t;
      id = (tx_in p t.0).id;
      size = (tx_in p t.0).size;
      waiting = waiting;
      framing = framing_of p n (tx_in p t.0).id (handed p s (entry.Frame t));
    })
entry_answer p s n (entry.Request r) waiting =
    Request
    (record {
      rx = r;
      id = (row_in p r.0).frame.id;
      size = (row_in p r.0).frame.size;
      waiting = waiting;
      protected = protected_of (plain_id (row_in p r.0).frame.id);
    })

unfoldable pub oldest_answer : Plan → State → ℕ → List Entry → Result (Option Taken) Refusal
oldest_answer p s n [] = Ok None
oldest_answer p s n (e ∷ rest) = Ok (Some (entry_answer p s n e (length rest)))

unfoldable pub oldest_payload : Plan → State → List Entry → List ℕ
oldest_payload p s [] = []
oldest_payload p s (e ∷ rest) = handed p s e

unfoldable pub without_oldest : State → ℕ → List Entry → State
without_oldest s n [] = s
without_oldest s n (e ∷ rest) = with_queue s n rest

-- 12: "no such node"
unfoldable pub taken_answer : Plan → State → ℕ → Result (Option Taken) Refusal
taken_answer p s n = pick (ltb n p.nodes) (oldest_answer p s n (queue_on s n)) (Err NoNode)

unfoldable pub taken_payload : Plan → State → ℕ → List ℕ
taken_payload p s n = pick (ltb n p.nodes) (oldest_payload p s (queue_on s n)) []

unfoldable pub taken : Plan → State → ℕ → State
taken p s n = pick (ltb n p.nodes) (without_oldest s n (queue_on s n)) s
