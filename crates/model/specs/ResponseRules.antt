-- A response on LIN, as statements about any gateway: equations and inequalities, and no function of the model (document 02, Ticket 2).
use Rattle.std.specs.Prelude.{◌≡◌, ◌≢◌, List, ℕ, ◌≤◌, ◌<◌, length, Ok, Err}
use Rattle.lin.specs.Identifier.{protected_of}
use Rattle.lin.specs.Checksum.{checksum_of}
use Rattle.answers.specs.declared.Refusal.TheVariants.{NoNode, LongPayload, WrongCall}
use Rattle.answers.specs.declared.Responded.TheVariants.{Accepted, TooShort, WrongSum}
use Rattle.model.specs.Plan.{Plan, row_in}
use Rattle.model.specs.State.{State}
use Rattle.model.specs.Calls.{response, responded, Running}
use Rattle.model.specs.Words.{Polls, NothingPolled, Answers}
use Rattle.model.specs.ReceptionRules.{InOrder, Recounts}

-- an acceptance: the long counter starts again, and the signals are put as those of a reception
pub record AcceptsResponse (p : Plan) (g : Running) (s : State) (n id : ℕ) (payload : List ℕ) (sum r : ℕ) : Type 0 where
  pub answer : g.answer s (response n id payload sum) ≡ responded (Ok Accepted)
  pub again : State
  pub recounts : Recounts p r s again
  -- "Reception does not reload a LIN timer."
  pub rx_timers : again.rx_timers ≡ s.rx_timers
  pub puts : InOrder p payload (row_in p r).claims again (g.next s (response n id payload sum))

pub record ResponseRules (p : Plan) (g : Running) (s : State) (n id : ℕ) (payload : List ℕ) (sum : ℕ) : Type 0 where
  -- "the new calls, by node and ID, give 11, 12, then 16 where the node is not LIN or has no such Rx frame, then 13"
  pub refused : p.nodes ≤ n → Answers g s (response n id payload sum) (responded (Err NoNode))
  pub wrong_call : n < p.nodes → NothingPolled p n id → Answers g s (response n id payload sum) (responded (Err WrongCall))
  pub long : (r : ℕ) → Polls p n id r → 8 < length payload → Answers g s (response n id payload sum) (responded (Err LongPayload))
  -- "A payload shorter than the row's size: answer 2, nothing changes."
  pub short : (r : ℕ) → Polls p n id r → length payload ≤ 8 → length payload < (row_in p r).frame.size
      → Answers g s (response n id payload sum) (responded (Ok TooShort))
  -- "Responses come with the enhanced checksum: .. of protected identifier and all data, in a reception every byte handed in"; "A wrong one received is
  -- answer 3, after 2, and changes nothing."
  pub wrong_sum : (r : ℕ) → Polls p n id r → length payload ≤ 8 → (row_in p r).frame.size ≤ length payload → sum ≢ checksum_of (protected_of id) payload
      → Answers g s (response n id payload sum) (responded (Ok WrongSum))
  pub accepted : (r : ℕ) → Polls p n id r → length payload ≤ 8 → (row_in p r).frame.size ≤ length payload → sum ≡ checksum_of (protected_of id) payload
      → AcceptsResponse p g s n id payload sum r
