-- "Tick", as statements about any gateway: equations and inequalities, and no function of the model.
use Rattle.std.specs.Prelude.{◌≡◌, ◌≢◌, ◌⊎◌, ◌↔◌, List, ◌++◌, map, ℕ, suc, ◌+◌, ◌%◌, ◌≤◌, ◌<◌, length, get_or, Ok, Err}
use Rattle.bits.specs.Payload.{bit_at}
use Rattle.records.specs.Nodes.{frame, request}
use Rattle.plan.specs.Rows.{failure, Claim}
use Rattle.answers.specs.declared.Refusal.TheVariants.{ShortReport}
use Rattle.model.specs.Plan.{Plan, tx_in, row_in}
use Rattle.model.specs.State.{State, kept_of, queue_on}
use Rattle.model.specs.Calls.{tick, ticked, Running}
use Rattle.model.specs.Words.{In, Those, LinNode, LinRow, Shape, Answers}

-- "A timer holding 0 is left so. Otherwise it falls by one; at 0 it has expired and takes its reload value." H says when it is handled.
pub record Falls (H : Type 0) (reload old new : ℕ) : Type 0 where
  pub unhandled : (H → ⊥) → new ≡ old
  pub stopped : H → old ≡ 0 → new ≡ 0
  pub expires : H → old ≡ 1 → new ≡ reload
  pub falls : H → 1 < old → new + 1 ≡ old

-- "handled .. at ticks numbered from 0 that the prescaler divides"
abbrev pub TxHandled : Plan → State → ℕ → Type 0
TxHandled p s t = s.number % (tx_in p t).prescaler ≡ 0

abbrev pub RxHandled : Plan → State → ℕ → Type 0
RxHandled p s r = s.number % (row_in p r).frame.prescaler ≡ 0

pub record TxExpires (p : Plan) (s : State) (t : ℕ) : Type 0 where
  pub frame : t < length p.tx
  pub handled : TxHandled p s t
  pub last : get_or s.tx_timers t 0 ≡ 1

pub record RxExpires (p : Plan) (s : State) (r : ℕ) : Type 0 where
  pub frame : r < length p.rows
  pub handled : RxHandled p s r
  pub last : get_or s.rx_timers r 0 ≡ 1

-- "Tx timers go first, in number order: expiry reloads and schedules": those of node n that expire and do not wait yet
pub record Sent (p : Plan) (s : State) (n t : ℕ) : Type 0 where
  pub expires : TxExpires p s t
  pub node : (tx_in p t).node ≡ n
  pub new : In (frame t) (queue_on s n) → ⊥

-- "An Rx timer on such a node asks for the frame: expiry queues a request, once while it waits" (document 02, Ticket 2): the Rx frames of LIN node n
-- that expire and whose request does not wait yet
pub record Asked (p : Plan) (s : State) (n r : ℕ) : Type 0 where
  pub lin : LinNode p n
  pub expires : RxExpires p s r
  pub node : (row_in p r).frame.node ≡ n
  pub new : In (request r) (queue_on s n) → ⊥

-- "joins its node's queue at the end", in number order; the requests after the frames, since "Tx timers go first"
pub record Joins (p : Plan) (s x : State) (n : ℕ) : Type 0 where
  pub frames : List ℕ
  pub sent : Those (Sent p s n) frames
  pub requests : List ℕ
  pub asked : Those (Asked p s n) requests
  pub then : queue_on x n ≡ queue_on s n ++ map frame frames ++ map request requests

-- the expiry of an Rx frame of a node that is not LIN is a timeout: on a LIN node "bit and long counter stay", and the "report byte" of a request is 0
-- (document 02, Ticket 2)
pub record TimesOut (p : Plan) (s : State) (r : ℕ) : Type 0 where
  pub expires : RxExpires p s r
  pub not_lin : LinRow p r → ⊥

-- the enabled failure bit of Rx frame r is bit b of Tx frame t
pub record Indicates (p : Plan) (r t b : ℕ) : Type 0 where
  pub claim : Claim
  pub there : In claim (row_in p r).claims
  pub indicator : claim.from ≡ failure
  pub tx : claim.tx ≡ t
  pub at : claim.at ≡ b

-- "expiry sets the enabled failure bit": of Rx frame r, at bit b of Tx frame t
pub record Fails (p : Plan) (s : State) (t b : ℕ) : Type 0 where
  pub row : ℕ
  pub times_out : TimesOut p s row
  pub indicates : Indicates p row t b

-- x is the state after the tick
pub record Ticks (p : Plan) (s x : State) : Type 0 where
  pub number : x.number ≡ suc s.number
  pub shape : Shape p x
  pub tx_timers : (t : ℕ) → t < length p.tx → Falls (TxHandled p s t) (tx_in p t).reload (get_or s.tx_timers t 0) (get_or x.tx_timers t 0)
  pub queues : (n : ℕ) → n < p.nodes → Joins p s x n
  pub rx_timers : (r : ℕ) → r < length p.rows
      → Falls (RxHandled p s r) (row_in p r).frame.reload (get_or s.rx_timers r 0) (get_or x.rx_timers r 0)
  -- "lowers the long counter if it is above 0; falling to 0 is a long timeout and the counter takes the long count again"
  pub longs : (r : ℕ) → r < length p.rows → Falls (TimesOut p s r) (row_in p r).frame.long (get_or s.longs r 0) (get_or x.longs r 0)
  -- a bit is 1 after a tick exactly where it was or where an expiry sets it
  pub kept : (t b : ℕ) → t < length p.tx → b < 64
      → (bit_at p.order (kept_of x t) b ≡ 1) ↔ ((bit_at p.order (kept_of s t) b ≡ 1) ⊎ Fails p s t b)

-- "0 nothing, 1 short, 2 long; its further bytes stay"
pub record Reports (p : Plan) (s : State) (lent given : List ℕ) : Type 0 where
  pub size : length given ≡ length lent
  pub nothing : (r : ℕ) → r < length p.rows → (TimesOut p s r → ⊥) → get_or given r 0 ≡ 0
  pub short : (r : ℕ) → TimesOut p s r → get_or s.longs r 0 ≢ 1 → get_or given r 0 ≡ 1
  pub long : (r : ℕ) → TimesOut p s r → get_or s.longs r 0 ≡ 1 → get_or given r 0 ≡ 2
  pub further : (r : ℕ) → length p.rows ≤ r → get_or given r 0 ≡ get_or lent r 0

pub record Done (p : Plan) (g : Running) (s : State) (report : List ℕ) : Type 0 where
  pub given : List ℕ
  pub answer : g.answer s (tick report) ≡ ticked (Ok tt) given
  pub reports : Reports p s report given
  pub ticks : Ticks p s (g.next s (tick report))

pub record TickRules (p : Plan) (g : Running) (s : State) (report : List ℕ) : Type 0 where
  -- 14: "the report is shorter than the Rx frame count"
  pub refused : length report < length p.rows → Answers g s (tick report) (ticked (Err ShortReport) report)
  pub done : length p.rows ≤ length report → Done p g s report
