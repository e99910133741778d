-- The two calls of a LIN master (document 02, Ticket 2): a response, which comes with its checksum, and "no response". Both go "by node and ID".
use Rattle.std.specs.Prelude.{ℕ, Bool, List, eqb, ltb, leb, length, get_or, Result, Ok, Err}
use Rattle.base.specs.Pick.{pick}
use Rattle.lin.specs.Identifier.{protected_of}
use Rattle.lin.specs.Checksum.{checksum_of}
use Rattle.records.specs.declared.record.Id.TheVariants.{Standard}
use Rattle.answers.specs.declared.Refusal.{Refusal}
use Rattle.answers.specs.declared.Refusal.TheVariants.{NoNode, LongPayload, WrongCall}
use Rattle.answers.specs.declared.Responded.{Responded}
use Rattle.answers.specs.declared.Responded.TheVariants as OfResponse
use Rattle.answers.specs.declared.Timeout.{Timeout}
use Rattle.answers.specs.declared.Timeout.TheVariants as OfSilence
use Rattle.model.specs.Plan.{Plan, row_in, on_lin}
use Rattle.model.specs.State.{State, with_long}
use Rattle.model.specs.Reception.{Found, at, nothing, find, put}
use Rattle.model.specs.Tick.{expired}

-- the Rx frame that is asked for there; there is none "where the node is not LIN or has no such Rx frame"
unfoldable pub polled : Plan → ℕ → ℕ → Found
polled p n id = pick (on_lin p n) (find n (Standard id) 0 p.rows) nothing

-- ---- a response

-- "the carry-folded byte sum of protected identifier and all data, in a reception every byte handed in, inverted"
unfoldable pub is_sum : ℕ → List ℕ → ℕ → Bool
is_sum id payload sum = eqb sum (checksum_of (protected_of id) payload)

-- an acceptance on LIN: "Reception does not reload a LIN timer." The long counter starts again (Ticket 1)
unfoldable pub accepted : Plan → State → ℕ → List ℕ → State
accepted p s r payload = put p (with_long s r (row_in p r).frame.long) payload (row_in p r).claims

-- "A wrong one received is answer 3, after 2, and changes nothing."
unfoldable pub row_answer : Plan → ℕ → ℕ → List ℕ → ℕ → Result Responded Refusal
row_answer p r id payload sum =
    pick (ltb (length payload) (row_in p r).frame.size) (Ok OfResponse.TooShort) (pick (is_sum id payload sum) (Ok OfResponse.Accepted) (Ok OfResponse.WrongSum))

unfoldable pub row_state : Plan → State → ℕ → ℕ → List ℕ → ℕ → State
row_state p s r id payload sum =
    pick (ltb (length payload) (row_in p r).frame.size) s (pick (is_sum id payload sum) (accepted p s r payload) s)

-- "12, then 16 .., then 13"
unfoldable pub polled_answer : Plan → Found → ℕ → List ℕ → ℕ → Result Responded Refusal
polled_answer p nothing id payload sum = Err WrongCall
polled_answer p (at r) id payload sum = pick (leb (length payload) 8) (row_answer p r id payload sum) (Err LongPayload)

unfoldable pub polled_state : Plan → State → Found → ℕ → List ℕ → ℕ → State
polled_state p s nothing id payload sum = s
polled_state p s (at r) id payload sum = pick (leb (length payload) 8) (row_state p s r id payload sum) s

unfoldable pub responded_answer : Plan → State → ℕ → ℕ → List ℕ → ℕ → Result Responded Refusal
responded_answer p s n id payload sum = pick (ltb n p.nodes) (polled_answer p (polled p n id) id payload sum) (Err NoNode)

unfoldable pub responded : Plan → State → ℕ → ℕ → List ℕ → ℕ → State
responded p s n id payload sum = pick (ltb n p.nodes) (polled_state p s (polled p n id) id payload sum) s

-- ---- "no response"

-- it "answers 1 or 2 as the report would"
unfoldable pub silence_of : State → Found → Result Timeout Refusal
silence_of s nothing = Err WrongCall
silence_of s (at r) = pick (eqb (get_or s.longs r 0) 1) (Ok OfSilence.Long) (Ok OfSilence.Short)

-- it "does to bit and long counter what a CAN expiry does"
unfoldable pub silenced_by : Plan → State → Found → State
silenced_by p s nothing = s
silenced_by p s (at r) = expired p s r

unfoldable pub silent_answer : Plan → State → ℕ → ℕ → Result Timeout Refusal
silent_answer p s n id = pick (ltb n p.nodes) (silence_of s (polled p n id)) (Err NoNode)

unfoldable pub silent : Plan → State → ℕ → ℕ → State
silent p s n id = pick (ltb n p.nodes) (silenced_by p s (polled p n id)) s
