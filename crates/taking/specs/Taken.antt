-- What a take answers. "Take on a node: "none", or the oldest waiting frame, which then waits no more: its Tx number, ID, size, how many still wait on
-- that node, and its payload of that size, handed back as that part of the area". "A take answers a request (Rx number, ID, size, waiting count, the
-- empty part ..) or a frame, with the protected identifier" (document 02, Ticket 2). "Fullness of a Tx frame answers how many of its bits have an
-- owner, 0 to 64." "A .. take say[s] which format" (Ticket 6): the ID says it.
use Rattle.std.specs.Prelude.{ℕ, ◌-◌, ◌%◌, List, [], ltb, eqb, length, take, drop, Option, Some, None, Result, Ok, Err}
use Rattle.base.specs.Pick.{pick}
use Rattle.lin.specs.Identifier.{protected_of}
use Rattle.lin.specs.Checksum.{checksum_of}
use Rattle.records.specs.declared.record.Id.{Id}
use Rattle.records.specs.declared.record.Entry.{Entry}
use Rattle.records.specs.declared.record.Entry.TheVariants as entry
use Rattle.records.specs.Ids.{plain_id}
use Rattle.records.specs.Nodes.{is_lin}
use Rattle.area.specs.Layout.{long_enough, payload, marked, node_count, type_on, tx_count, in_width, owned_bits, tx_frame, rx_frame}
use Rattle.area.specs.Queue.{ends_of, entry_of, oldest, dequeued}
use Rattle.answers.specs.declared.Refusal.{Refusal}
use Rattle.answers.specs.declared.Refusal.TheVariants.{NotOpen, NoNode, NoFrame}
use Rattle.answers.specs.declared.Framing.{Framing}
use Rattle.answers.specs.declared.Framing.TheVariants.{Can, Lin}
use Rattle.answers.specs.declared.Taken.{Taken}
use Rattle.answers.specs.declared.Taken.TheVariants as taken

-- the first bytes of a kept payload; of an area that is too short, none
unfoldable pub kept_part : List ℕ → ℕ → ℕ → List ℕ
kept_part a t size = pick (long_enough (length a)) (take (in_width size) (drop (payload (t % 256)) a)) []

-- what goes with a frame of this ID and payload on node n: "A take of a LIN Tx frame gives that of the payload it hands back."
unfoldable pub framing_of : List ℕ → ℕ → Id → List ℕ → Framing
framing_of a n id bytes = pick (is_lin (type_on a n)) (Lin (protected_of (plain_id id)) (checksum_of (protected_of (plain_id id)) bytes)) Can

-- a frame or a request that leaves node n's queue, after which so many wait
unfoldable pub entry_answer : List ℕ → ℕ → Entry → ℕ → Taken
entry_answer a n (entry.Frame t) waiting =
    taken.Frame
    (record {
      tx = t;
      id = (tx_frame a t.0).id;
      size = in_width (tx_frame a t.0).size;
      waiting = waiting;
      framing = framing_of a n (tx_frame a t.0).id (kept_part a t.0 (in_width (tx_frame a t.0).size));
    })
entry_answer a n (entry.Request r) waiting =
    taken.Request
    (record {
      rx = r;
      id = (rx_frame a r.0).id;
      size = (rx_frame a r.0).size;
      waiting = waiting;
      protected = protected_of (plain_id (rx_frame a r.0).id);
    })

-- the oldest of node n, where one waits
unfoldable pub oldest_answer : List ℕ → ℕ → Result (Option Taken) Refusal
oldest_answer a n = pick (eqb (ends_of a n).waiting 0) (Ok None) (Ok (Some (entry_answer a n (entry_of (oldest a n)) ((ends_of a n).waiting - 1))))

unfoldable pub oldest_area : List ℕ → ℕ → List ℕ
oldest_area a n = pick (eqb (ends_of a n).waiting 0) a (dequeued a n)

-- "For calls: 11, then 12"
unfoldable pub taken_answer : List ℕ → ℕ → Result (Option Taken) Refusal
taken_answer a n = pick (marked a) (pick (ltb n (node_count a)) (oldest_answer a n) (Err NoNode)) (Err NotOpen)

unfoldable pub taken_area : List ℕ → ℕ → List ℕ
taken_area a n = pick (marked a) (pick (ltb n (node_count a)) (oldest_area a n) a) a

-- "with "none" or a refusal, the empty part"
unfoldable pub taken_payload : List ℕ → Result (Option Taken) Refusal → List ℕ
taken_payload a (Ok (Some (taken.Frame x))) = kept_part a x.tx.0 x.size
taken_payload a (Ok (Some (taken.Request x))) = []
taken_payload a (Ok None) = []
taken_payload a (Err why) = []

-- "For calls: 11, then .. 15"
unfoldable pub fullness_answer : List ℕ → ℕ → Result ℕ Refusal
fullness_answer a t =
    pick (marked a) (pick (ltb t (tx_count a)) (Ok (owned_bits a t)) (Err NoFrame)) (Err NotOpen)
