-- "Reception takes node, ID and payload." "A reception .. say[s] which format" (document 02, Ticket 6): the ID says it.
use Rattle.std.specs.Prelude.{ℕ, ◌%◌, List, leb, ltb, length, set, Result, Ok, Err}
use Rattle.std.specs.Prelude.{Bool, if◌then◌else◌}
use Rattle.base.specs.Pick.{pick}
use Rattle.base.specs.Numbers.{byte_at}
use Rattle.records.specs.declared.record.Id.{Id}
use Rattle.records.specs.Nodes.{is_lin}
use Rattle.area.specs.Layout.{rx_reload, rx_timer, long, marked, order, node_count, type_on, rx_frame, claims}
use Rattle.area.specs.Claims.{accepted, all_done}
use Rattle.answers.specs.declared.Refusal.{Refusal}
use Rattle.answers.specs.declared.Refusal.TheVariants.{NotOpen, NoNode, LongPayload, WrongCall}
use Rattle.answers.specs.declared.Received.{Received}
use Rattle.answers.specs.declared.Received.TheVariants.{Accepted, NoRow, TooShort}
use Rattle.reception.specs.declared.lookup.Found.{Found}
use Rattle.reception.specs.declared.lookup.Found.TheVariants.{At, Nothing}
use Rattle.reception.specs.Lookup.{looked_up}

-- what an acceptance does to the row's own state: "the Rx timer takes its reload value"; "The long counter must start again at every accepted
-- reception" (document 02, Ticket 1). A plan has at most 256 rows; where an area full of garbage finds a later one, its number is brought into range
unfoldable pub restarted : List ℕ → ℕ → List ℕ
restarted a r = set (set a (rx_timer r) (byte_at a (rx_reload r))) (long (r % 256)) (rx_frame a r).long

-- "Then in order: the Rx timer takes its reload value; an enabled failure bit becomes 0; signals are copied in plan order, each to its
-- destinations in order."
unfoldable pub accepted_area : List ℕ → ℕ → List ℕ → List ℕ
accepted_area a r payload = all_done (order a) (accepted r payload) (claims a r) (restarted a r)

-- the same, where `timer` says whether the timer starts too: "Reception does not reload a LIN timer" (document 02, Ticket 2)
unfoldable pub restarted_by : Bool → List ℕ → ℕ → List ℕ
restarted_by timer a r = set (if timer then set a (rx_timer r) (byte_at a (rx_reload r)) else a) (long (r % 256)) (rx_frame a r).long

unfoldable pub accepted_by : Bool → List ℕ → ℕ → List ℕ → List ℕ
accepted_by timer a r payload = all_done (order a) (accepted r payload) (claims a r) (restarted_by timer a r)

-- "A frame with no matching row is not processed further: answer 1, nothing changes. .. A payload shorter than the row's size: answer 2,
-- nothing changes. Otherwise it is accepted, answer 0"; "Answer 1 carries this number" (document 02, Ticket 4)
unfoldable pub found_answer : List ℕ → Found → List ℕ → Result Received Refusal
found_answer a (Nothing place) payload = Ok (NoRow place)
found_answer a (At r) payload = pick (ltb (length payload) (rx_frame a r.0).size) (Ok TooShort) (Ok Accepted)

unfoldable pub found_area : List ℕ → Found → List ℕ → List ℕ
found_area a (Nothing place) payload = a
found_area a (At r) payload = pick (ltb (length payload) (rx_frame a r.0).size) a (accepted_area a r.0 payload)

-- "For calls: 11, then 12 .., then 13"; "the old reception gives 16 on a LIN node, after 12" (document 02, Ticket 2)
unfoldable pub received_answer : List ℕ → ℕ → Id → List ℕ → Result Received Refusal
received_answer a n id payload =
    pick (marked a)
    (pick (ltb n (node_count a))
    (pick (is_lin (type_on a n)) (Err WrongCall)
    (pick (leb (length payload) 8) (found_answer a (looked_up a n id) payload) (Err LongPayload)))
    (Err NoNode))
    (Err NotOpen)

unfoldable pub received_area : List ℕ → ℕ → Id → List ℕ → List ℕ
received_area a n id payload =
    pick (marked a)
    (pick (ltb n (node_count a)) (pick (is_lin (type_on a n)) a (pick (leb (length payload) 8) (found_area a (looked_up a n id) payload) a)) a)
    a
