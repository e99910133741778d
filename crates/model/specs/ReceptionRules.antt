-- "Reception", as statements about any gateway: equations and inequalities, and no function of the model.
use Rattle.std.specs.Prelude.{◌≡◌, ◌≢◌, ◌⊎◌, List, [], ◌∷◌, ◌++◌, ℕ, ◌+◌, ◌≤◌, ◌<◌, length, get_or, Ok, Err}
use Rattle.bits.specs.Payload.{bit_at}
use Rattle.records.specs.declared.record.Id.{Id}
use Rattle.records.specs.Nodes.{frame}
use Rattle.plan.specs.Rows.{copy, failure, Claim}
use Rattle.answers.specs.declared.Refusal.TheVariants.{NoNode, LongPayload, WrongCall}
use Rattle.answers.specs.declared.Received.TheVariants.{Accepted, NoRow, TooShort}
use Rattle.model.specs.Plan.{Plan, tx_in, row_in}
use Rattle.model.specs.State.{State, kept_of, queue_on}
use Rattle.model.specs.Calls.{reception, received, Running}
use Rattle.model.specs.Words.{In, Those, LinNode, Names, Smaller, Shape, Answers}

-- "A copy puts source bit p + k at destination bit q + k for each k below s."
pub record Copies (p : Plan) (payload : List ℕ) (c : Claim) (from size : ℕ) (s x : State) : Type 0 where
  pub bits : (k : ℕ) → k < size → bit_at p.order (kept_of x c.tx) (c.at + k) ≡ bit_at p.order payload (from + k)
  pub rest : (b : ℕ) → b < 64 → ((k : ℕ) → k < size → b ≢ c.at + k) → bit_at p.order (kept_of x c.tx) b ≡ bit_at p.order (kept_of s c.tx) b
  pub frames : (t : ℕ) → t ≢ c.tx → kept_of x t ≡ kept_of s t

-- "flags 1 (1 send on reception, 2 send on change, 3 both, 0 neither)"
abbrev pub OnReception : Plan → ℕ → Type 0
OnReception p t = ((tx_in p t).flags ≡ 1) ⊎ ((tx_in p t).flags ≡ 3)

abbrev pub OnChange : Plan → ℕ → Type 0
OnChange p t = ((tx_in p t).flags ≡ 2) ⊎ ((tx_in p t).flags ≡ 3)

-- "any destination bit differed from the kept one"
pub record Differs (p : Plan) (payload : List ℕ) (c : Claim) (from size : ℕ) (s : State) : Type 0 where
  pub bit : ℕ
  pub below : bit < size
  pub differs : bit_at p.order (kept_of s c.tx) (c.at + bit) ≢ bit_at p.order payload (from + bit)

-- "the Tx frame is scheduled if flag 1 is set, or flag 2 is set and any destination bit differed from the kept one"
abbrev pub Wanted : Plan → List ℕ → Claim → ℕ → ℕ → State → Type 0
Wanted p payload c from size s = OnReception p c.tx ⊎ (OnChange p c.tx × Differs p payload c from size s)

-- Tx frame t is scheduled where W holds: "a frame already waiting changes nothing. Otherwise the frame joins its node's queue at the end and its Tx
-- timer takes its reload value."
pub record Schedules (p : Plan) (W : Type 0) (t : ℕ) (s x : State) : Type 0 where
  pub joins : W → (In (frame t) (queue_on s (tx_in p t).node) → ⊥) → queue_on x (tx_in p t).node ≡ queue_on s (tx_in p t).node ++ (frame t ∷ [])
  pub reloads : W → (In (frame t) (queue_on s (tx_in p t).node) → ⊥) → get_or x.tx_timers t 0 ≡ (tx_in p t).reload
  pub waiting : In (frame t) (queue_on s (tx_in p t).node) → (x.queues ≡ s.queues) × (x.tx_timers ≡ s.tx_timers)
  pub unwanted : (W → ⊥) → (x.queues ≡ s.queues) × (x.tx_timers ≡ s.tx_timers)
  pub others : (m : ℕ) → m ≢ (tx_in p t).node → queue_on x m ≡ queue_on s m
  pub timers : (u : ℕ) → u ≢ t → get_or x.tx_timers u 0 ≡ get_or s.tx_timers u 0

-- what a reception leaves while it writes payloads and queues
pub record Aside (s x : State) : Type 0 where
  pub number : x.number ≡ s.number
  pub rx_timers : x.rx_timers ≡ s.rx_timers
  pub longs : x.longs ≡ s.longs

-- one destination of a signal, or the failure bit: "an enabled failure bit becomes 0"; "A change of a failure bit schedules nothing."
pub record Puts (p : Plan) (payload : List ℕ) (c : Claim) (s x : State) : Type 0 where
  pub shape : Shape p x
  pub aside : Aside s x
  pub copies : (from size : ℕ) → c.from ≡ copy from size → Copies p payload c from size s x
  pub sends : (from size : ℕ) → c.from ≡ copy from size → Schedules p (Wanted p payload c from size s) c.tx s x
  pub clears : c.from ≡ failure → bit_at p.order (kept_of x c.tx) c.at ≡ 0
  pub bits : c.from ≡ failure → (b : ℕ) → b ≢ c.at → bit_at p.order (kept_of x c.tx) b ≡ bit_at p.order (kept_of s c.tx) b
  pub frames : c.from ≡ failure → (t : ℕ) → t ≢ c.tx → kept_of x t ≡ kept_of s t
  pub quiet : c.from ≡ failure → (x.queues ≡ s.queues) × (x.tx_timers ≡ s.tx_timers)

-- "signals are copied in plan order, each to its destinations in order": one after the other, each on what the one before left
unfoldable pub InOrder : Plan → List ℕ → List Claim → State → State → Type 0
InOrder p payload [] s x = x ≡ s
InOrder p payload (c ∷ cs) s x = (m : State) × Puts p payload c s m × InOrder p payload cs m x

-- of a number for each Rx frame, that of Rx frame r becomes v, and the others stay
pub record Becomes (r v : ℕ) (old new : List ℕ) : Type 0 where
  pub this : get_or new r 0 ≡ v
  pub others : (q : ℕ) → q ≢ r → get_or new q 0 ≡ get_or old q 0
  pub size : length new ≡ length old

-- "The long counter must start again at every accepted reception" (document 02, Ticket 1); of all but the Rx timers nothing else changes
pub record Recounts (p : Plan) (r : ℕ) (s x : State) : Type 0 where
  pub longs : Becomes r (row_in p r).frame.long s.longs x.longs
  pub number : x.number ≡ s.number
  pub kept : x.kept ≡ s.kept
  pub tx_timers : x.tx_timers ≡ s.tx_timers
  pub queues : x.queues ≡ s.queues

-- the row starts again
pub record Restarts (p : Plan) (r : ℕ) (s x : State) : Type 0 where
  -- "the Rx timer takes its reload value"
  pub rx_timers : Becomes r (row_in p r).frame.reload s.rx_timers x.rx_timers
  pub recounts : Recounts p r s x

pub record Accepts (p : Plan) (g : Running) (s : State) (n : ℕ) (id : Id) (payload : List ℕ) (r : ℕ) : Type 0 where
  pub answer : g.answer s (reception n id payload) ≡ received (Ok Accepted)
  pub again : State
  pub restarts : Restarts p r s again
  pub puts : InOrder p payload (row_in p r).claims again (g.next s (reception n id payload))

-- "A lookup that finds nothing should say how many of that node's rows have a smaller ID. Answer 1 carries this number" (document 02, Ticket 4)
pub record Misses (p : Plan) (g : Running) (s : State) (n : ℕ) (id : Id) (payload : List ℕ) : Type 0 where
  pub rows : List ℕ
  pub those : Those (Smaller p n id) rows
  pub answers : Answers g s (reception n id payload) (received (Ok (NoRow (length rows))))

pub record ReceptionRules (p : Plan) (g : Running) (s : State) (n : ℕ) (id : Id) (payload : List ℕ) : Type 0 where
  -- 12, then 16: "the old reception gives 16 on a LIN node, after 12" (document 02, Ticket 2), then 13: "a received payload is longer than 8 bytes"
  pub refused : p.nodes ≤ n → Answers g s (reception n id payload) (received (Err NoNode))
  pub on_lin : n < p.nodes → LinNode p n → Answers g s (reception n id payload) (received (Err WrongCall))
  pub long : n < p.nodes → (LinNode p n → ⊥) → 8 < length payload → Answers g s (reception n id payload) (received (Err LongPayload))
  -- "A frame with no matching row is not processed further: answer 1, nothing changes"
  pub no_row : n < p.nodes → (LinNode p n → ⊥) → length payload ≤ 8 → ((r : ℕ) → Names p n id r → ⊥) → Misses p g s n id payload
  -- "A payload shorter than the row's size: answer 2, nothing changes."
  pub short : n < p.nodes → (LinNode p n → ⊥) → length payload ≤ 8 → (r : ℕ) → Names p n id r → length payload < (row_in p r).frame.size
      → Answers g s (reception n id payload) (received (Ok TooShort))
  -- "Otherwise it is accepted, answer 0"
  pub accepted : n < p.nodes → (LinNode p n → ⊥) → length payload ≤ 8 → (r : ℕ) → Names p n id r → (row_in p r).frame.size ≤ length payload
      → Accepts p g s n id payload r
