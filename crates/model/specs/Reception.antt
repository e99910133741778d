-- "Reception takes node, ID and payload."
use Rattle.std.specs.Prelude.{ℕ, suc, ◌+◌, ◌/◌, ◌%◌, Bool, List, [], ◌∷◌, eqb, ltb, leb, length, Result, Ok, Err}
use Rattle.base.specs.Pick.{pick}
use Rattle.bits.specs.Payload.{set_bit, copied, differs}
use Rattle.records.specs.declared.record.Id.{Id}
use Rattle.records.specs.Ids.{same_id, is_before}
use Rattle.plan.specs.Rows.{Source, copy, failure, Claim, Row}
use Rattle.answers.specs.declared.Refusal.{Refusal}
use Rattle.answers.specs.declared.Refusal.TheVariants.{NoNode, LongPayload, WrongCall}
use Rattle.answers.specs.declared.Received.{Received}
use Rattle.answers.specs.declared.Received.TheVariants.{Accepted, NoRow, TooShort}
use Rattle.model.specs.Plan.{Plan, tx_in, row_in, on_lin}
use Rattle.model.specs.State.{State, kept_of, with_kept, with_rx_timer, with_long}
use Rattle.model.specs.Scheduling.{scheduled}

pub data Found : Type 0 where
  at : ℕ → Found
  nothing : Found

-- the plan's Rx frame of that node and ID, the first of these rows having number r
unfoldable pub find : ℕ → Id → ℕ → List Row → Found
find n id r [] = nothing
find n id r (x ∷ xs) = pick (eqb x.frame.node n) (pick (same_id x.frame.id id) (at r) (find n id (suc r) xs)) (find n id (suc r) xs)

-- "how many of that node's rows have a smaller ID" (document 02, Ticket 4)
unfoldable pub smaller : ℕ → Id → List Row → ℕ
smaller n id [] = 0
smaller n id (x ∷ xs) = pick (eqb x.frame.node n) (pick (is_before x.frame.id id) 1 0) 0 + smaller n id xs

-- "At each destination the Tx frame is scheduled if flag 1 is set, or flag 2 is set and any destination bit differed from the kept one."
unfoldable pub sent_if : Plan → ℕ → Bool → State → ℕ → State
sent_if p flags changed s t =
    pick (eqb (flags % 2) 1) (scheduled p s t) (pick (eqb (flags / 2 % 2) 1) (pick changed (scheduled p s t) s) s)

-- "an enabled failure bit becomes 0"; "A change of a failure bit schedules nothing."
unfoldable pub put_by : Plan → State → List ℕ → Claim → Source → State
put_by p s payload c (copy from size) =
    sent_if p (tx_in p c.tx).flags (differs p.order payload from size (kept_of s c.tx) c.at)
    (with_kept s c.tx (copied p.order payload from size (kept_of s c.tx) c.at)) c.tx
put_by p s payload c failure = with_kept s c.tx (set_bit p.order (kept_of s c.tx) c.at 0)

-- "signals are copied in plan order, each to its destinations in order"
unfoldable pub put : Plan → State → List ℕ → List Claim → State
put p s payload [] = s
put p s payload (c ∷ cs) = put p (put_by p s payload c c.from) payload cs

-- what an acceptance does to the row's own state: "the Rx timer takes its reload value"; "The long counter must start again at every accepted
-- reception" (document 02, Ticket 1)
unfoldable pub restarted : Plan → State → ℕ → State
restarted p s r = with_long (with_rx_timer s r (row_in p r).frame.reload) r (row_in p r).frame.long

-- "Then in order: the Rx timer takes its reload value; an enabled failure bit becomes 0; signals are copied"
unfoldable pub accepted : Plan → State → ℕ → List ℕ → State
accepted p s r payload = put p (restarted p s r) payload (row_in p r).claims

-- "Answer 1 carries this number" (document 02, Ticket 4)
unfoldable pub found_answer : Plan → ℕ → Id → Found → List ℕ → Result Received Refusal
found_answer p n id nothing payload = Ok (NoRow (smaller n id p.rows))
found_answer p n id (at r) payload = pick (ltb (length payload) (row_in p r).frame.size) (Ok TooShort) (Ok Accepted)

unfoldable pub found_state : Plan → State → Found → List ℕ → State
found_state p s nothing payload = s
found_state p s (at r) payload = pick (ltb (length payload) (row_in p r).frame.size) s (accepted p s r payload)

-- 12, then 16: "the old reception gives 16 on a LIN node, after 12" (document 02, Ticket 2), then 13: "a received payload is longer than 8 bytes"
unfoldable pub received_answer : Plan → State → ℕ → Id → List ℕ → Result Received Refusal
received_answer p s n id payload =
    pick (ltb n p.nodes)
    (pick (on_lin p n) (Err WrongCall)
    (pick (leb (length payload) 8) (found_answer p n id (find n id 0 p.rows) payload) (Err LongPayload)))
    (Err NoNode)

unfoldable pub received : Plan → State → ℕ → Id → List ℕ → State
received p s n id payload =
    pick (ltb n p.nodes) (pick (on_lin p n) s (pick (leb (length payload) 8) (found_state p s (find n id 0 p.rows) payload) s)) s
