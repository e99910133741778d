-- The two calls of a LIN master (document 02, Ticket 2): a response, which comes with its checksum, and "no response". "The new calls, by node and ID,
-- give 11, 12, then 16 where the node is not LIN or has no such Rx frame, then 13."
use Rattle.std.specs.Prelude.{ℕ, ◌%◌, Bool, List, leb, ltb, eqb, length, set, Result, Ok, Err}
use Rattle.base.specs.Pick.{pick}
use Rattle.base.specs.Numbers.{byte_at}
use Rattle.lin.specs.Identifier.{protected_of}
use Rattle.lin.specs.Checksum.{checksum_of}
use Rattle.records.specs.declared.record.Id.TheVariants.{Standard}
use Rattle.records.specs.Nodes.{is_lin}
use Rattle.area.specs.Layout.{long, marked, order, node_count, type_on, rx_frame, claims}
use Rattle.area.specs.Claims.{accepted, all_done}
use Rattle.answers.specs.declared.Refusal.{Refusal}
use Rattle.answers.specs.declared.Refusal.TheVariants.{NotOpen, NoNode, LongPayload, WrongCall}
use Rattle.answers.specs.declared.Responded.{Responded}
use Rattle.answers.specs.declared.Responded.TheVariants as responded
use Rattle.answers.specs.declared.Timeout.{Timeout}
use Rattle.answers.specs.declared.Timeout.TheVariants as silence
use Rattle.reception.specs.declared.lookup.Found.{Found}
use Rattle.reception.specs.declared.lookup.Found.TheVariants.{At, Nothing}
use Rattle.reception.specs.Lookup.{looked_up}
use Rattle.ticking.specs.Tick.{expired_area}

-- the Rx frame of a LIN node that has this ID: no ID there has 29 bits. A plan has at most 256 rows; where an area full of garbage finds a later one, its
-- number is brought into range below
unfoldable pub polled : List ℕ → ℕ → ℕ → Found
polled a n id = pick (is_lin (type_on a n)) (looked_up a n (Standard id)) (Nothing 0)

-- ---- a response

-- "the carry-folded byte sum of protected identifier and all data, in a reception every byte handed in, inverted"
unfoldable pub is_sum : ℕ → List ℕ → ℕ → Bool
is_sum id payload sum = eqb sum (checksum_of (protected_of id) payload)

-- an acceptance on LIN: "Reception does not reload a LIN timer." The long counter starts again (Ticket 1)
unfoldable pub long_again : List ℕ → ℕ → List ℕ
long_again a r = set a (long r) (rx_frame a r).long

unfoldable pub accepted_area : List ℕ → ℕ → List ℕ → List ℕ
accepted_area a r payload = all_done (order a) (accepted r payload) (claims a r) (long_again a r)

-- "A wrong one received is answer 3, after 2, and changes nothing."
unfoldable pub row_answer : List ℕ → ℕ → ℕ → List ℕ → ℕ → Result Responded Refusal
row_answer a r id payload sum =
    pick (ltb (length payload) (rx_frame a r).size) (Ok responded.TooShort) (pick (is_sum id payload sum) (Ok responded.Accepted) (Ok responded.WrongSum))

unfoldable pub row_area : List ℕ → ℕ → ℕ → List ℕ → ℕ → List ℕ
row_area a r id payload sum = pick (ltb (length payload) (rx_frame a r).size) a (pick (is_sum id payload sum) (accepted_area a r payload) a)

-- "then 16 .., then 13"
unfoldable pub polled_answer : List ℕ → Found → ℕ → List ℕ → ℕ → Result Responded Refusal
polled_answer a (Nothing place) id payload sum = Err WrongCall
polled_answer a (At r) id payload sum = pick (leb (length payload) 8) (row_answer a (r.0 % 256) id payload sum) (Err LongPayload)

unfoldable pub polled_area : List ℕ → Found → ℕ → List ℕ → ℕ → List ℕ
polled_area a (Nothing place) id payload sum = a
polled_area a (At r) id payload sum = pick (leb (length payload) 8) (row_area a (r.0 % 256) id payload sum) a

-- "11, 12, then 16"
unfoldable pub responded_answer : List ℕ → ℕ → ℕ → List ℕ → ℕ → Result Responded Refusal
responded_answer a n id payload sum =
    pick (marked a)
    (pick (ltb n (node_count a)) (polled_answer a (polled a n id) id payload sum) (Err NoNode))
    (Err NotOpen)

unfoldable pub responded_area : List ℕ → ℕ → ℕ → List ℕ → ℕ → List ℕ
responded_area a n id payload sum = pick (marked a) (pick (ltb n (node_count a)) (polled_area a (polled a n id) id payload sum) a) a

-- ---- "no response"

-- it "answers 1 or 2 as the report would"
unfoldable pub silence_of : List ℕ → Found → Result Timeout Refusal
silence_of a (Nothing place) = Err WrongCall
silence_of a (At r) = pick (eqb (byte_at a (long (r.0 % 256))) 1) (Ok silence.Long) (Ok silence.Short)

-- it "does to bit and long counter what a CAN expiry does"
unfoldable pub silenced_by : List ℕ → Found → List ℕ
silenced_by a (Nothing place) = a
silenced_by a (At r) = expired_area a (r.0 % 256)

unfoldable pub silent_answer : List ℕ → ℕ → ℕ → Result Timeout Refusal
silent_answer a n id =
    pick (marked a) (pick (ltb n (node_count a)) (silence_of a (polled a n id)) (Err NoNode)) (Err NotOpen)

unfoldable pub silent_area : List ℕ → ℕ → ℕ → List ℕ
silent_area a n id = pick (marked a) (pick (ltb n (node_count a)) (silenced_by a (polled a n id)) a) a
