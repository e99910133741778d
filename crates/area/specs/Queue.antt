-- A node's queue: a ring of entries, each a number in two bytes: of a Tx frame, or of a request. Its record in the area: where the ring begins, how
-- many entries it has room for, where the oldest entry is, and how many wait.
use Rattle.std.specs.Prelude.{ℕ, zero, suc, ◌+◌, ◌-◌, ◌%◌, ◌≤◌, ◌⊎◌, List, [], ◌∷◌, ltb, eqb, set}
use Rattle.base.specs.Pick.{pick}
use Rattle.base.specs.Numbers.{byte_at, low_at, set_low}
use Rattle.records.specs.declared.record.Entry.{Entry}
use Rattle.records.specs.declared.record.Entry.TheVariants.{Frame, Request}
use Rattle.records.specs.Nodes.{frame, request}
use Rattle.area.specs.Layout.{requests_start, waiter_range, entry_count, queue, entry, waits, tx_reload, tx_timer, home_node}
use Rattle.area.specs.declared.queue.Ends.{Ends}

-- how many entries node n's ring has room for
abbrev pub room_of : List ℕ → ℕ → ℕ
room_of a n = low_at a (queue n + 2)

unfoldable pub ends_of : List ℕ → ℕ → Ends
ends_of a n =
    record {
      start = low_at a (queue n);
      room = room_of a n;
      first = low_at a (queue n + 4);
      waiting = low_at a (queue n + 6);
    }

-- the place in a ring that is k past `first`, once round at the most
unfoldable pub past : ℕ → ℕ → ℕ → ℕ
past first k room = pick (ltb (first + k) room) (first + k) (first + k - room)

-- where entry i of a ring stands in the area
unfoldable pub slot : Ends → ℕ → ℕ
slot e i = entry ((e.start + i) % entry_count)

-- the entry that is k behind the oldest
abbrev pub behind : Ends → ℕ → ℕ
behind e k = past e.first k e.room

-- the number of what waits at entry i
abbrev pub entry_at : List ℕ → Ends → ℕ → ℕ
entry_at a e i = low_at a (slot e i) % waiter_range

-- what has that number, and the number of what waits
unfoldable pub entry_of : ℕ → Entry
entry_of k = pick (ltb k requests_start) (frame k) (request (k - requests_start))

unfoldable pub number_of : Entry → ℕ
number_of (Frame t) = t.0
number_of (Request r) = requests_start + r.0

-- "Adding to and taking from a queue each give the queue as it then is."
unfoldable pub added : Ends → Ends
added e = record { start = e.start; room = e.room; first = e.first; waiting = e.waiting + 1 }

unfoldable pub removed : Ends → Ends
removed e = record { start = e.start; room = e.room; first = past e.first 1 e.room; waiting = e.waiting - 1 }

unfoldable pub set_ends : List ℕ → ℕ → Ends → List ℕ
set_ends a n e = set_low (set_low a (queue n + 4) e.first) (queue n + 6) e.waiting

-- number k at the end of node n's queue
unfoldable pub queued : List ℕ → ℕ → ℕ → List ℕ
queued a n k = set_ends (set_low a (slot (ends_of a n) (behind (ends_of a n) (ends_of a n).waiting)) k) n (added (ends_of a n))

-- "Scheduling a frame already waiting changes nothing. Otherwise the frame joins its node's queue at the end and its Tx timer takes its reload
-- value."
unfoldable pub scheduled : List ℕ → ℕ → List ℕ
scheduled a t =
    pick (eqb (byte_at a (waits t)) 0)
    (set (set (queued a (home_node a t) t) (waits t) 1) (tx_timer t) (byte_at a (tx_reload t)))
    a

-- "expiry queues a request, once while it waits" (document 02, Ticket 2)
unfoldable pub requested : List ℕ → ℕ → List ℕ
requested a r =
    pick (eqb (byte_at a (waits (requests_start + r))) 0)
    (set (queued a (home_node a (requests_start + r)) (requests_start + r)) (waits (requests_start + r)) 1)
    a

-- the number of what has waited longest on node n
unfoldable pub oldest : List ℕ → ℕ → ℕ
oldest a n = entry_at a (ends_of a n) (ends_of a n).first

-- the area without it: it "then waits no more"
unfoldable pub dequeued : List ℕ → ℕ → List ℕ
dequeued a n = set (set_ends a n (removed (ends_of a n))) (waits (oldest a n)) 0

-- ---- the queue as a list

-- c entries of a ring, from the one that is k behind the oldest on
unfoldable pub entries : List ℕ → Ends → ℕ → ℕ → List ℕ
entries a e k zero = []
entries a e k (suc c) = entry_at a e (behind e k) ∷ entries a e (suc k) c

-- the numbers of what waits on node n, the oldest first
unfoldable pub queue_of : List ℕ → ℕ → List ℕ
queue_of a n = entries a (ends_of a n) 0 (ends_of a n).waiting

-- a queue that opening and the calls make: its ring lies among the entries, no more wait than there is room for, and the oldest is in the ring, or at
-- 0 where that has no room
pub record Sound (e : Ends) : Type 0 where
  pub ring : e.start + e.room ≤ entry_count
  pub few : e.waiting ≤ e.room
  pub first : e.first ≤ e.room - 1

-- the rings of two queues have no common entry
abbrev pub Apart : Ends → Ends → Type 0
Apart e f = (e.start + e.room ≤ f.start) ⊎ (f.start + f.room ≤ e.start)
