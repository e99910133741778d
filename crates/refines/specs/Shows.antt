-- The one place where the bytes of an area meet the model: what an area shows, and that it answers as the model does.
use Rattle.std.specs.Prelude.{◌≡◌, ◌≢◌, List, ◌∷◌, ◌++◌, ℕ, ◌+◌, ◌<◌, ◌≤◌, length, get_or, Ok}
use Rattle.base.specs.Numbers.{byte_at, Bytes}
use Rattle.clock.specs.Counter.{counter_after}
use Rattle.records.specs.declared.record.Entry.{Entry}
use Rattle.records.specs.Records.{records}
use Rattle.plan.specs.Rows.{tx_of, rows_of, nodes_in}
use Rattle.facts.specs.Good.{Each}
use Rattle.area.specs.Layout.{tx_timer, rx_timer, long, payload, counter}
use Rattle.area.specs.Queue.{entry_of, queue_of}
use Rattle.history.specs.Calls.{reply_in, replies_in, after_in}
use Rattle.model.specs.State.{State, kept_of, queue_on}
use Rattle.model.specs.Opening.{mapped}
use Rattle.model.specs.Calls.{World, closed, holding, the_model, Step, opening, opened, reply_of, replies, after}
use Rattle.model.specs.Rules.{OfBytes}

-- ---- what an area shows

-- what waits on node n, the oldest first
abbrev pub waiting_on : List ℕ → ℕ → List Entry
waiting_on a n = mapped entry_of (queue_of a n)

-- an area that holds a plan shows a state: the counter is that of the next tick's number, and every payload, timer, long counter and queue is the
-- state's
pub record Shows (plan a : List ℕ) (s : State) : Type 0 where
  pub number : counter a ≡ counter_after s.number
  pub kept : (t i : ℕ) → t < length (tx_of plan) → i < 8 → byte_at a (payload t + i) ≡ get_or (kept_of s t) i 0
  pub tx_timers : (t : ℕ) → t < length (tx_of plan) → byte_at a (tx_timer t) ≡ get_or s.tx_timers t 0
  pub rx_timers : (r : ℕ) → r < length (rows_of plan) → byte_at a (rx_timer r) ≡ get_or s.rx_timers r 0
  pub longs : (r : ℕ) → r < length (rows_of plan) → byte_at a (long r) ≡ get_or s.longs r 0
  pub queues : (n : ℕ) → n < nodes_in (records plan) → waiting_on a n ≡ queue_on s n

-- 11: "the area is shorter than 32,768 bytes or does not begin with hex 47 57": here neither
pub record Marked (a : List ℕ) : Type 0 where
  pub size : 32768 ≤ length a
  pub first : byte_at a 0 ≡ 0x47
  pub second : byte_at a 1 ≡ 0x57

-- what an area is to its caller
unfoldable pub Stands : List ℕ → World → Type 0
Stands a closed = Marked a → ⊥
Stands a (holding plan s) = Marked a × Shows plan a s

-- ---- every answer, every byte of every report and every payload handed back is the model's

-- on an area in which nothing is open
pub record Unopened (a : List ℕ) (steps : List Step) : Type 0 where
  pub replies : replies_in a steps ≡ replies (the_model (length a)) closed steps
  pub stands : Stands (after_in a steps) (after (the_model (length a)) closed steps)

-- on any area, garbage included, after any steps: from an opening on
pub record Since (a : List ℕ) (before : List Step) (plan : List ℕ) (since : List Step) : Type 0 where
  pub replies : replies_in a (before ++ opening plan ∷ since) ≡ replies_in a before ++ replies (the_model (length a)) closed (opening plan ∷ since)
  pub stands : Stands (after_in a (before ++ opening plan ∷ since)) (after (the_model (length a)) closed (opening plan ∷ since))

pub record AsTheModel : Type 0 where
  pub unopened : (a : List ℕ) → (Marked a → ⊥) → (steps : List Step) → Each OfBytes steps → Unopened a steps
  pub since : (a : List ℕ) (before : List Step) (plan : List ℕ) (n t r : ℕ) → reply_in (after_in a before) (opening plan) ≡ opened (Ok (record { nodes = n; tx = t; rx = r }))
      → Bytes plan → (since : List Step) → Each OfBytes since → Since a before plan since
  -- every opening, whatever stands in the area, is answered as the model answers it
  pub openings : (a : List ℕ) (before : List Step) (plan : List ℕ) (w : World)
      → reply_in (after_in a before) (opening plan) ≡ reply_of (the_model (length a)) w (opening plan)
  -- and no step changes the length of an area
  pub size : (a : List ℕ) (steps : List Step) → length (after_in a steps) ≡ length a

-- ---- "once while it waits" (document 02, Ticket 2): whatever is opened and called after an opening, no frame and no request stands twice in a queue

abbrev pub WaitsOnce : Type 0
WaitsOnce =
    (a : List ℕ) (before : List Step) (plan : List ℕ) (n t r : ℕ) → reply_in (after_in a before) (opening plan) ≡ opened (Ok (record { nodes = n; tx = t; rx = r }))
    → Bytes plan → (since : List Step) → Each OfBytes since → (m : ℕ) → m < 16 → (i j : ℕ) → i < j
    → j < length (waiting_on (after_in a (before ++ opening plan ∷ since)) m) → (e : Entry)
    → get_or (waiting_on (after_in a (before ++ opening plan ∷ since)) m) i e ≢ get_or (waiting_on (after_in a (before ++ opening plan ∷ since)) m) j e
