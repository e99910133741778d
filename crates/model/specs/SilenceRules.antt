-- "A driver call "no response"", as statements about any gateway: equations and inequalities, and no function of the model (document 02, Ticket 2).
use Rattle.std.specs.Prelude.{◌≡◌, ◌≢◌, ◌⊎◌, ◌↔◌, ℕ, ◌≤◌, ◌<◌, length, get_or, Ok, Err}
use Rattle.bits.specs.Payload.{bit_at}
use Rattle.answers.specs.declared.Refusal.TheVariants.{NoNode, WrongCall}
use Rattle.answers.specs.declared.Timeout.TheVariants.{Short, Long}
use Rattle.model.specs.Plan.{Plan, row_in}
use Rattle.model.specs.State.{State, kept_of}
use Rattle.model.specs.Calls.{no_response, silent, Running}
use Rattle.model.specs.Words.{Polls, NothingPolled, Shape, Answers}
use Rattle.model.specs.TickRules.{Falls, Indicates}

-- it "does to bit and long counter what a CAN expiry does": x is the state after it
pub record Silences (p : Plan) (r : ℕ) (s x : State) : Type 0 where
  pub shape : Shape p x
  -- "lowers the long counter if it is above 0; falling to 0 is a long timeout and the counter takes the long count again"
  pub longs : (q : ℕ) → q < length p.rows → Falls (q ≡ r) (row_in p q).frame.long (get_or s.longs q 0) (get_or x.longs q 0)
  -- "expiry sets the enabled failure bit"
  pub kept : (t b : ℕ) → t < length p.tx → b < 64
      → (bit_at p.order (kept_of x t) b ≡ 1) ↔ ((bit_at p.order (kept_of s t) b ≡ 1) ⊎ Indicates p r t b)
  -- and nothing else changes
  pub number : x.number ≡ s.number
  pub tx_timers : x.tx_timers ≡ s.tx_timers
  pub rx_timers : x.rx_timers ≡ s.rx_timers
  pub queues : x.queues ≡ s.queues

pub record SilenceRules (p : Plan) (g : Running) (s : State) (n id : ℕ) : Type 0 where
  -- "the new calls, by node and ID, give 11, 12, then 16 where the node is not LIN or has no such Rx frame"
  pub refused : p.nodes ≤ n → Answers g s (no_response n id) (silent (Err NoNode))
  pub wrong_call : n < p.nodes → NothingPolled p n id → Answers g s (no_response n id) (silent (Err WrongCall))
  -- it "answers 1 or 2 as the report would"
  pub short : (r : ℕ) → Polls p n id r → get_or s.longs r 0 ≢ 1 → g.answer s (no_response n id) ≡ silent (Ok Short)
  pub long : (r : ℕ) → Polls p n id r → get_or s.longs r 0 ≡ 1 → g.answer s (no_response n id) ≡ silent (Ok Long)
  pub then : (r : ℕ) → Polls p n id r → Silences p r s (g.next s (no_response n id))
