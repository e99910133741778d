-- "Take on a node", as statements about any gateway: equations and inequalities, and no function of the model.
use Rattle.std.specs.Prelude.{◌≡◌, ◌≢◌, List, [], ◌∷◌, ℕ, ◌≤◌, ◌<◌, length, take as first_of, Option, Some, None, Result, Ok, Err}
use Rattle.records.specs.declared.record.Entry.{Entry}
use Rattle.records.specs.Nodes.{frame, request}
use Rattle.records.specs.Ids.{plain_id}
use Rattle.lin.specs.Identifier.{protected_of}
use Rattle.lin.specs.Checksum.{checksum_of}
use Rattle.answers.specs.declared.Refusal.{Refusal}
use Rattle.answers.specs.declared.Refusal.TheVariants.{NoNode}
use Rattle.answers.specs.declared.Framing.{Framing}
use Rattle.answers.specs.declared.Framing.TheVariants.{Can, Lin}
use Rattle.answers.specs.declared.Taken.{Taken}
use Rattle.answers.specs.declared.Taken.TheVariants.{Frame, Request}
use Rattle.model.specs.Plan.{Plan, tx_in, row_in}
use Rattle.model.specs.State.{State, kept_of, queue_on}
use Rattle.model.specs.Calls.{take, taken, Running}
use Rattle.model.specs.Words.{LinNode, Answers}

-- the oldest that waits "then waits no more"; what is answered of it, and the payload handed back
pub record Takes (g : Running) (s : State) (n : ℕ) (rest : List Entry) (x : Result (Option Taken) Refusal) (payload : List ℕ) : Type 0 where
  pub answer : g.answer s (take n) ≡ taken x payload
  pub leaves : queue_on (g.next s (take n)) n ≡ rest
  pub others : (m : ℕ) → m ≢ n → queue_on (g.next s (take n)) m ≡ queue_on s m
  -- and nothing else changes
  pub queues : length (g.next s (take n)).queues ≡ length s.queues
  pub number : (g.next s (take n)).number ≡ s.number
  pub kept : (g.next s (take n)).kept ≡ s.kept
  pub tx_timers : (g.next s (take n)).tx_timers ≡ s.tx_timers
  pub rx_timers : (g.next s (take n)).rx_timers ≡ s.rx_timers
  pub longs : (g.next s (take n)).longs ≡ s.longs

-- a frame: "its Tx number, ID, size, how many still wait on that node, and its payload of that size"
pub record TakesFrame (p : Plan) (g : Running) (s : State) (n t : ℕ) (rest : List Entry) : Type 0 where
  pub payload : List ℕ
  pub whole : payload ≡ first_of (tx_in p t).size (kept_of s t)
  pub framing : Framing
  pub takes : Takes g s n rest
      (Ok (Some (Frame (record { tx = record { 0 = t }; id = (tx_in p t).id; size = (tx_in p t).size; waiting = length rest; framing = framing })))) payload
  pub can : (LinNode p n → ⊥) → framing ≡ Can
  -- "with the protected identifier of LIN 2.x"; "A take of a LIN Tx frame gives" the checksum "of the payload it hands back." (document 02, Ticket 2)
  pub lin : LinNode p n → framing ≡ Lin (protected_of (plain_id (tx_in p t).id)) (checksum_of (protected_of (plain_id (tx_in p t).id)) payload)

pub record TakeRules (p : Plan) (g : Running) (s : State) (n : ℕ) : Type 0 where
  -- 12: "no such node"
  pub refused : p.nodes ≤ n → Answers g s (take n) (taken (Err NoNode) [])
  pub none : n < p.nodes → queue_on s n ≡ [] → Answers g s (take n) (taken (Ok None) [])
  pub oldest_frame : n < p.nodes → (t : ℕ) (rest : List Entry) → queue_on s n ≡ frame t ∷ rest → TakesFrame p g s n t rest
  -- "A take answers a request (Rx number, ID, size, waiting count, the empty part ..) .., with the protected identifier" (document 02, Ticket 2)
  pub oldest_request : n < p.nodes → (r : ℕ) (rest : List Entry) → queue_on s n ≡ request r ∷ rest
      → Takes g s n rest
      (Ok (Some (Request (record {
        rx = record { 0 = r };
        id = (row_in p r).frame.id;
        size = (row_in p r).frame.size;
        waiting = length rest;
        protected = protected_of (plain_id (row_in p r).frame.id);
      }))))
      []
