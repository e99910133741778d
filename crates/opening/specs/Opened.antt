-- "Opening checks the plan and fills the area: hex 47 57 at its start, which no later call alters, payloads and timers initial, long counters
-- at the long count, queues empty, tick counter 0. It answers the counts of nodes, Tx and Rx frames."
use Rattle.std.specs.Prelude.{◌≡◌, ℕ, zero, suc, ◌+◌, ◌/◌, ◌%◌, ◌≤◌, List, [], ◌∷◌, length, set, ◌==◌, nat_lt, slice_index, slice_set, Result, Ok, Err}
use Rattle.base.specs.Pick.{pick}
use Rattle.base.specs.Numbers.{byte_at, low_at, set_low}
use Rattle.bits.specs.Owners.{owners}
use Rattle.clock.specs.Counter.{mask_of}
use Rattle.records.specs.declared.record.Id.{Id}
use Rattle.records.specs.declared.record.Id.TheVariants.{Standard, Extended}
use Rattle.records.specs.declared.record.TxFrame.{TxFrame}
use Rattle.records.specs.declared.record.RxFrame.{RxFrame}
use Rattle.records.specs.declared.record.Record.{Record}
use Rattle.records.specs.Ids.{behind_id, key_of}
use Rattle.records.specs.Views.{on_head, on_node, on_tx, on_rx}
use Rattle.records.specs.Records.{size_of, records_at, records}
use Rattle.plan.specs.declared.verdict.PlanCounts.{PlanCounts}
use Rattle.plan.specs.declared.verdict.BadRecord.{BadRecord}
use Rattle.plan.specs.Check.{sets_of}
use Rattle.area.specs.Layout.{area_length, order_byte, plan_length_bytes, node_count_byte, can_count_byte, tx_count_bytes, rx_count_bytes, plan_start}
use Rattle.area.specs.Layout.{extended_home, requests_start, long_enough}
use Rattle.area.specs.Layout.{node, queue, tx_reload, rx_reload, tx_timer, rx_timer, long, full, tx_place, key, rx_place, home, payload, tx_mask, rx_mask}
use Rattle.area.specs.Layout.{can_count}
use Rattle.area.specs.Queue.{room_of}
use Rattle.answers.specs.declared.Refusal.TheVariants.{Plan, ShortArea}
use Rattle.answers.specs.declared.RefusedPlan.{RefusedPlan}

-- ---- an empty area with the plan in it

-- the first n bytes zero
unfoldable pub cleared : ℕ → List ℕ → List ℕ
cleared zero a = a
cleared (suc n) a = slice_set (cleared n a) n 0

-- n bytes from a place on zero
unfoldable pub zeroed : ℕ → ℕ → List ℕ → List ℕ
zeroed from zero a = a
zeroed from (suc n) a = slice_set (zeroed from n a) (from + n) 0

-- the first n bytes of the plan, in its place
unfoldable pub laid : List ℕ → ℕ → List ℕ → List ℕ
laid plan zero a = a
laid plan (suc n) a = slice_set (laid plan n a) (plan_start + n) (slice_index plan n)

-- with the mark and the plan's length
unfoldable pub blank : List ℕ → List ℕ → List ℕ
blank plan a = set_low (slice_set (slice_set (laid plan (length plan) (cleared area_length a)) 0 0x47) 1 0x57) plan_length_bytes (length plan)

-- ---- one record: at is its place in the plan

-- the number that the next Tx frame, and the next Rx frame, gets
abbrev pub next_tx : List ℕ → ℕ
next_tx a = low_at a tx_count_bytes % 256

abbrev pub next_rx : List ℕ → ℕ
next_rx a = low_at a rx_count_bytes % 256

-- a frame's home: its node, and whether its ID has 29 bits
unfoldable pub home_of : ℕ → Id → ℕ
home_of node (Standard n) = node % 16
home_of node (Extended n) = node % 16 + extended_home

-- timer t of Tx frames: reload, initial value, mask
unfoldable pub with_tx_timer : ℕ → TxFrame → List ℕ → List ℕ
with_tx_timer t x a = slice_set (slice_set (slice_set a (tx_reload t) x.reload) (tx_timer t) x.initial) (tx_mask t) (mask_of x.prescaler)

unfoldable pub with_payload : ℕ → List ℕ → List ℕ → List ℕ
with_payload t b a =
    set
    (set
    (set
    (set
    (set
    (set
    (set
    (slice_set a (payload t) (byte_at b 0))
    (payload t + 1) (byte_at b 1))
    (payload t + 2) (byte_at b 2))
    (payload t + 3) (byte_at b 3))
    (payload t + 4) (byte_at b 4))
    (payload t + 5) (byte_at b 5))
    (payload t + 6) (byte_at b 6))
    (payload t + 7) (byte_at b 7)

-- one frame or request more that can wait on node n
unfoldable pub with_frame : ℕ → List ℕ → List ℕ
with_frame n a = set_low a (queue n + 2) (low_at a (queue n + 2) + 1)

-- where the fields behind the ID begin in the plan, and the frame's home
unfoldable pub with_tx_place : ℕ → ℕ → TxFrame → List ℕ → List ℕ
with_tx_place t at x a = slice_set (set_low a (tx_place t) (at + behind_id x.id)) (home t) (home_of x.node x.id)

unfoldable pub with_tx : ℕ → TxFrame → List ℕ → List ℕ
with_tx at x a =
    set_low
    (with_frame (x.node % 16) (with_payload (next_tx a) x.payload (with_tx_timer (next_tx a) x (with_tx_place (next_tx a) at x a))))
    tx_count_bytes (next_tx a + 1)

unfoldable pub with_rx_timer : ℕ → RxFrame → List ℕ → List ℕ
with_rx_timer r x a =
    slice_set (slice_set (slice_set (slice_set a (rx_reload r) x.reload) (rx_timer r) x.initial) (rx_mask r) (mask_of x.prescaler)) (long r) x.long

-- the key of a row, in four bytes, the low ones first
unfoldable pub with_key : ℕ → ℕ → List ℕ → List ℕ
with_key r number a = set_low (set_low a (key r) (number % 65536)) (key r + 2) (number / 65536)

-- the row: its key, the place of the fields behind its ID, and its home
unfoldable pub with_row : ℕ → ℕ → RxFrame → List ℕ → List ℕ
with_row r at x a =
    slice_set (set_low (with_key r (key_of x.id) a) (rx_place r) (at + behind_id x.id)) (home (requests_start + r)) (home_of x.node x.id)

-- one row more of node n, which is its first if it has none yet
unfoldable pub with_node_row : ℕ → ℕ → List ℕ → List ℕ
with_node_row n r a =
    set_low (pick (low_at a (node n + 2) == 0) (set_low a (node n) r) a) (node n + 2) (low_at a (node n + 2) + 1)

-- the request of an Rx frame of node n, where that is a LIN node
unfoldable pub with_request : ℕ → List ℕ → List ℕ
with_request n a = pick (nat_lt n (can_count a)) a (with_frame n a)

unfoldable pub with_rx : ℕ → RxFrame → List ℕ → List ℕ
with_rx at x a =
    set_low
    (with_request (x.node % 16) (with_node_row (x.node % 16) (next_rx a) (with_row (next_rx a) at x (with_rx_timer (next_rx a) x a))))
    rx_count_bytes (next_rx a + 1)

-- one CAN node more, where a node's type says so
unfoldable pub with_can : ℕ → List ℕ → List ℕ
with_can type a = pick (type == 0) (slice_set a can_count_byte ((byte_at a can_count_byte + 1) % 256)) a

unfoldable pub with_node : ℕ → List ℕ → List ℕ
with_node type a = with_can type (slice_set a node_count_byte ((byte_at a node_count_byte + 1) % 256))

unfoldable pub with_record : ℕ → Record → List ℕ → List ℕ
with_record at r a =
    on_head
    (on_node (on_tx (on_rx a (λ frame. with_rx at frame a) r) (λ frame. with_tx at frame a) r) (λ body. with_node body.of a) r)
    (λ order. set a order_byte order) r

-- all records from a place on
unfoldable pub with_records : ℕ → List Record → List ℕ → List ℕ
with_records at [] a = a
with_records at (r ∷ rs) a = with_records (at + size_of r) rs (with_record at r a)

-- going on from a place of a plan to a later one passes nothing that puts a byte into an area
pub record Passes (plan : List ℕ) (at next : ℕ) : Type 0 where
  pub onward : at ≤ next
  pub within : next ≤ length plan
  pub leaves : (a : List ℕ) → with_records next (records_at plan next) a ≡ with_records at (records_at plan at) a

-- ---- where the rings begin, and how full the frames are

-- the rings of the first n nodes, one after the other: each has room for its frames and requests
unfoldable pub rings_before : List ℕ → ℕ → ℕ
rings_before a zero = 0
rings_before a (suc n) = rings_before a n + room_of a n

unfoldable pub with_rings : ℕ → List ℕ → List ℕ
with_rings zero a = a
with_rings (suc n) a = set_low (with_rings n a) (queue n) (rings_before a n)

-- the count of owned bits of the first n Tx frames
unfoldable pub with_fullness : List ℕ → ℕ → List ℕ → List ℕ
with_fullness sets zero a = a
with_fullness sets (suc n) a = set_low (with_fullness sets n a) (full n) (owners (slice_index sets n) 64)

-- ---- the call

unfoldable pub opened : List ℕ → List ℕ → List ℕ
opened plan a = with_fullness (sets_of plan) 256 (with_rings 16 (with_records 0 (records plan) (blank plan a)))

-- "10: the plan is good and the area is shorter than 32,768 bytes"; "Refusal 10 carries record number 0."
unfoldable pub opened_answer : Result PlanCounts BadRecord → ℕ → Result PlanCounts RefusedPlan
opened_answer (Ok counts) n = pick (long_enough n) (Ok counts) (Err (record { why = ShortArea; record_number = 0 }))
opened_answer (Err bad) n = Err (record { why = Plan bad.reason; record_number = bad.record_number })

-- "A refusal writes nothing."
unfoldable pub opened_area : Result PlanCounts RefusedPlan → List ℕ → List ℕ → List ℕ
opened_area (Ok counts) plan a = opened plan a
opened_area (Err refused) plan a = a
