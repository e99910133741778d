-- "Thus a timer loaded with v above 0 expires at its v-th handling, unless loaded again first": of any gateway that meets the rules, over any calls.
use Rattle.std.specs.Prelude.{◌≡◌, ◌≢◌, List, [], ◌∷◌, ℕ, suc, ◌+◌, ◌%◌, ◌≤◌, ◌<◌, eqb, leb, length, get_or, Ok}
use Rattle.base.specs.Pick.{pick}
use Rattle.records.specs.Nodes.{frame, request}
use Rattle.answers.specs.declared.Received.TheVariants.{Accepted}
use Rattle.model.specs.Plan.{Plan, tx_in, row_in}
use Rattle.model.specs.State.{State, queue_on}
use Rattle.model.specs.Calls.{Call, reception, response, no_response, tick, take, fullness, received, ticked, Running}
use Rattle.model.specs.Words.{In, LinRow, Names, Shape}
use Rattle.model.specs.Rules.{Runs}

-- the state after some calls
unfoldable pub state_left : Running → State → List Call → State
state_left g s [] = s
state_left g s (c ∷ cs) = state_left g (g.next s c) cs

-- of each of some calls, in the state that it finds
unfoldable pub Throughout : (State → Call → Type 0) → Running → State → List Call → Type 0
Throughout P g s [] = Unit {0}
Throughout P g s (c ∷ cs) = P s c × Throughout P g (g.next s c) cs

-- how many of them are ticks that are done and whose number the prescaler divides
unfoldable pub handling_of : Plan → ℕ → State → Call → ℕ
handling_of p prescaler s (tick report) = pick (leb (length p.rows) (length report)) (pick (eqb (s.number % prescaler) 0) 1 0) 0
handling_of p prescaler s (reception n id payload) = 0
handling_of p prescaler s (response n id payload sum) = 0
handling_of p prescaler s (no_response n id) = 0
handling_of p prescaler s (take n) = 0
handling_of p prescaler s (fullness t) = 0

unfoldable pub handlings : Plan → ℕ → Running → State → List Call → ℕ
handlings p prescaler g s [] = 0
handlings p prescaler g s (c ∷ cs) = handling_of p prescaler s c + handlings p prescaler g (g.next s c) cs

-- ---- Rx timers

-- a call is no reception that is accepted for Rx frame r, so it does not load the timer; "Reception does not reload a LIN timer." (document 02, Ticket 2)
unfoldable pub Leaves : Plan → Running → ℕ → State → Call → Type 0
Leaves p g r s (reception n id payload) = g.answer s (reception n id payload) ≡ received (Ok Accepted) → Names p n id r → ⊥
Leaves p g r s (response n id payload sum) = Unit {0}
Leaves p g r s (no_response n id) = Unit {0}
Leaves p g r s (tick report) = Unit {0}
Leaves p g r s (take n) = Unit {0}
Leaves p g r s (fullness t) = Unit {0}

-- a tick reports nothing of Rx frame r
unfoldable pub Silent : Running → ℕ → State → Call → Type 0
Silent g r s (tick report) = (given : List ℕ) → g.answer s (tick report) ≡ ticked (Ok tt) given → get_or given r 0 ≡ 0
Silent g r s (reception n id payload) = Unit {0}
Silent g r s (response n id payload sum) = Unit {0}
Silent g r s (no_response n id) = Unit {0}
Silent g r s (take n) = Unit {0}
Silent g r s (fullness t) = Unit {0}

-- calls that bring fewer than v handlings leave what is left of v, and no tick among them reports the frame; the v-th handling is reported
pub record RxWaits (p : Plan) (g : Running) (s : State) (r : ℕ) (calls : List Call) : Type 0 where
  pub left : get_or (state_left g s calls).rx_timers r 0 + handlings p (row_in p r).frame.prescaler g s calls ≡ get_or s.rx_timers r 0
  pub silent : Throughout (Silent g r) g s calls
  pub expires : suc (handlings p (row_in p r).frame.prescaler g s calls) ≡ get_or s.rx_timers r 0
      → (report given : List ℕ) → (state_left g s calls).number % (row_in p r).frame.prescaler ≡ 0
      → g.answer (state_left g s calls) (tick report) ≡ ticked (Ok tt) given → get_or given r 0 ≢ 0

abbrev pub RxExpiry : Type 0
RxExpiry =
    (p : Plan) (g : Running) → Runs p g → (s : State) → Shape p s → (r : ℕ) → r < length p.rows → (LinRow p r → ⊥) → (calls : List Call)
    → Throughout (Leaves p g r) g s calls → handlings p (row_in p r).frame.prescaler g s calls < get_or s.rx_timers r 0 → RxWaits p g s r calls

-- ---- Rx timers on LIN

-- a call does not bring the request for Rx frame r into its node's queue
abbrev pub Unasked : Plan → Running → ℕ → State → Call → Type 0
Unasked p g r s c = In (request r) (queue_on (g.next s c) (row_in p r).frame.node) → In (request r) (queue_on s (row_in p r).frame.node)

-- "An Rx timer on such a node asks for the frame" (document 02, Ticket 2): calls that bring fewer than v handlings leave what is left of v, and none of
-- them asks for the frame; after the v-th handling the request waits.
pub record AskWaits (p : Plan) (g : Running) (s : State) (r : ℕ) (calls : List Call) : Type 0 where
  pub left : get_or (state_left g s calls).rx_timers r 0 + handlings p (row_in p r).frame.prescaler g s calls ≡ get_or s.rx_timers r 0
  pub unasked : Throughout (Unasked p g r) g s calls
  pub expires : suc (handlings p (row_in p r).frame.prescaler g s calls) ≡ get_or s.rx_timers r 0
      → (report : List ℕ) → length p.rows ≤ length report → (state_left g s calls).number % (row_in p r).frame.prescaler ≡ 0
      → In (request r) (queue_on (g.next (state_left g s calls) (tick report)) (row_in p r).frame.node)

-- whatever is called: no call loads the timer of such a row
abbrev pub AskExpiry : Type 0
AskExpiry =
    (p : Plan) (g : Running) → Runs p g → (s : State) → Shape p s → (r : ℕ) → r < length p.rows → LinRow p r → (row_in p r).frame.node < p.nodes
    → (calls : List Call) → handlings p (row_in p r).frame.prescaler g s calls < get_or s.rx_timers r 0 → AskWaits p g s r calls

-- "a request is none, its report byte 0": no tick ever reports such a row
abbrev pub AskSilence : Type 0
AskSilence =
    (p : Plan) (g : Running) → Runs p g → (s : State) → Shape p s → (r : ℕ) → r < length p.rows → LinRow p r → (calls : List Call)
    → Throughout (Silent g r) g s calls

-- ---- Tx timers

-- a call is no reception, and no response, at which Tx frame t begins to wait, so it does not load the timer
unfoldable pub Spares : Plan → Running → ℕ → State → Call → Type 0
Spares p g t s (reception n id payload) =
    In (frame t) (queue_on (g.next s (reception n id payload)) (tx_in p t).node) → In (frame t) (queue_on s (tx_in p t).node)
Spares p g t s (response n id payload sum) =
    In (frame t) (queue_on (g.next s (response n id payload sum)) (tx_in p t).node) → In (frame t) (queue_on s (tx_in p t).node)
Spares p g t s (no_response n id) = Unit {0}
Spares p g t s (tick report) = Unit {0}
Spares p g t s (take n) = Unit {0}
Spares p g t s (fullness x) = Unit {0}

-- the v-th handling lets the frame wait
pub record TxWaits (p : Plan) (g : Running) (s : State) (t : ℕ) (calls : List Call) : Type 0 where
  pub left : get_or (state_left g s calls).tx_timers t 0 + handlings p (tx_in p t).prescaler g s calls ≡ get_or s.tx_timers t 0
  pub expires : suc (handlings p (tx_in p t).prescaler g s calls) ≡ get_or s.tx_timers t 0
      → (report : List ℕ) → length p.rows ≤ length report → (state_left g s calls).number % (tx_in p t).prescaler ≡ 0
      → In (frame t) (queue_on (g.next (state_left g s calls) (tick report)) (tx_in p t).node)

abbrev pub TxExpiry : Type 0
TxExpiry =
    (p : Plan) (g : Running) → Runs p g → (s : State) → Shape p s → (t : ℕ) → t < length p.tx → (tx_in p t).node < p.nodes → (calls : List Call)
    → Throughout (Spares p g t) g s calls → handlings p (tx_in p t).prescaler g s calls < get_or s.tx_timers t 0 → TxWaits p g s t calls
