-- The area: where each part stands, and what is read there. docs/AREA.md has the table.
-- A number that is read from the area is brought into range here, so that every definition is exact on an area full of garbage.
use Rattle.std.specs.Prelude.{ℕ, ◌+◌, ◌-◌, ◌*◌, ◌%◌, ◌≤◌, Bool, false, List, leb, ltb, eqb, length, take, drop}
use Rattle.std.proofs.Math.Option.{none}
use Rattle.base.specs.Pick.{pick}
use Rattle.base.specs.Numbers.{byte_at, two_at, four_at, low_at, at_most}
use Rattle.records.specs.declared.record.Id.{Id}
use Rattle.records.specs.declared.record.Id.TheVariants.{Standard, Extended}
use Rattle.records.specs.declared.record.NodeType.{NodeType}
use Rattle.records.specs.declared.record.NodeType.TheVariants.{Can, Lin}
use Rattle.records.specs.declared.record.TxFrame.{TxFrame}
use Rattle.records.specs.declared.record.RxFrame.{RxFrame}
use Rattle.records.specs.Views.{no_rx}
use Rattle.records.specs.Kinds.{tx_at, rx_at, rx_fields, signal_bytes}
use Rattle.records.specs.Records.{records_at}
use Rattle.plan.specs.Shortest.{shortest_area}
use Rattle.plan.specs.Limits.{extended_id_range}
use Rattle.plan.specs.Rows.{Claim, with_failure, claims_from, awaited}

-- ---- the parts of the area, each by where it begins, in their order

-- "an area of 32,768 bytes", of which the plan has what the tables and the state leave
abbrev pub area_length : ℕ
area_length = shortest_area

-- the header's numbers: one byte, or two
abbrev pub counter_byte : ℕ
counter_byte = 2

abbrev pub order_byte : ℕ
order_byte = 3

abbrev pub plan_length_bytes : ℕ
plan_length_bytes = 4

abbrev pub node_count_byte : ℕ
node_count_byte = 6

abbrev pub can_count_byte : ℕ
can_count_byte = 7

abbrev pub tx_count_bytes : ℕ
tx_count_bytes = 8

abbrev pub rx_count_bytes : ℕ
rx_count_bytes = 10

abbrev pub header_end : ℕ
header_end = 12

-- tables and state
abbrev pub nodes_start : ℕ
nodes_start = 16

abbrev pub queues_start : ℕ
queues_start = 80

abbrev pub tx_reloads_start : ℕ
tx_reloads_start = 208

abbrev pub rx_reloads_start : ℕ
rx_reloads_start = 464

abbrev pub tx_timers_start : ℕ
tx_timers_start = 720

abbrev pub rx_timers_start : ℕ
rx_timers_start = 976

abbrev pub long_start : ℕ
long_start = 1232

abbrev pub waits_start : ℕ
waits_start = 1488

abbrev pub full_start : ℕ
full_start = 2000

abbrev pub tx_places_start : ℕ
tx_places_start = 2512

abbrev pub keys_start : ℕ
keys_start = 3024

abbrev pub rx_places_start : ℕ
rx_places_start = 4048

abbrev pub homes_start : ℕ
homes_start = 4560

abbrev pub homes_end : ℕ
homes_end = 5072

abbrev pub entries_start : ℕ
entries_start = 5360

abbrev pub payloads_start : ℕ
payloads_start = 6384

abbrev pub tx_masks_start : ℕ
tx_masks_start = 8432

abbrev pub rx_masks_start : ℕ
rx_masks_start = 8688

abbrev pub masks_end : ℕ
masks_end = 8944

-- the plan, as it was opened, and how long it can be
abbrev pub plan_start : ℕ
plan_start = 8960

abbrev pub plan_room : ℕ
plan_room = 23808

-- the last place in it at which an Rx frame's fields behind its ID, with its first signal and destination, have room
abbrev pub last_place : ℕ
last_place = 23794

-- how many bytes a key has, and a kept payload
abbrev pub key_size : ℕ
key_size = 4

abbrev pub payload_width : ℕ
payload_width = 8

-- a frame's home is its node, and this where its ID has 29 bits
abbrev pub extended_home : ℕ
extended_home = 16

-- the numbers of what can wait in a queue: a Tx frame has its own, the request for an Rx frame has one past these
abbrev pub requests_start : ℕ
requests_start = 256

abbrev pub waiter_range : ℕ
waiter_range = 512

-- how many entries all rings have: one for each Tx frame, and one for the request of each Rx frame
abbrev pub entry_count : ℕ
entry_count = 512

-- a node's first row, and its row count, are below this, whatever stands in the area; and a lookup finds no row past their sum
abbrev pub row_range : ℕ
row_range = 512

abbrev pub row_bound : ℕ
row_bound = 1024

-- what every call but an opening needs of an area before it looks at a byte
abbrev pub LongEnough : List ℕ → Type 0
LongEnough a = area_length ≤ length a

-- the same as a test, of an area's length
abbrev pub long_enough : ℕ → Bool
long_enough n = leb area_length n

-- ---- the place of each entry, by the number of its node, Tx frame, Rx frame or entry

abbrev pub node : ℕ → ℕ
node n = nodes_start + 4 * n

abbrev pub queue : ℕ → ℕ
queue n = queues_start + 8 * n

abbrev pub tx_reload : ℕ → ℕ
tx_reload t = tx_reloads_start + t

abbrev pub rx_reload : ℕ → ℕ
rx_reload r = rx_reloads_start + r

abbrev pub tx_timer : ℕ → ℕ
tx_timer t = tx_timers_start + t

abbrev pub rx_timer : ℕ → ℕ
rx_timer r = rx_timers_start + r

abbrev pub long : ℕ → ℕ
long r = long_start + r

abbrev pub waits : ℕ → ℕ
waits k = waits_start + k

abbrev pub full : ℕ → ℕ
full t = full_start + 2 * t

abbrev pub tx_place : ℕ → ℕ
tx_place t = tx_places_start + 2 * t

abbrev pub key : ℕ → ℕ
key r = keys_start + key_size * r

abbrev pub rx_place : ℕ → ℕ
rx_place r = rx_places_start + 2 * r

abbrev pub home : ℕ → ℕ
home k = homes_start + k

abbrev pub entry : ℕ → ℕ
entry k = entries_start + 2 * k

abbrev pub payload : ℕ → ℕ
payload t = payloads_start + payload_width * t

abbrev pub tx_mask : ℕ → ℕ
tx_mask t = tx_masks_start + t

abbrev pub rx_mask : ℕ → ℕ
rx_mask r = rx_masks_start + r

-- bit b of Tx frame t's payload, as a bit of the whole area
abbrev pub spot : ℕ → ℕ → ℕ
spot t b = 8 * payloads_start + 64 * t + b

-- ---- the header

-- "hex 47 57 at its start", in an area of at least 32,768 bytes
unfoldable pub marked : List ℕ → Bool
marked a = pick (long_enough (length a)) (pick (eqb (byte_at a 0) 0x47) (eqb (byte_at a 1) 0x57) false) false

abbrev pub counter : List ℕ → ℕ
counter a = byte_at a counter_byte

abbrev pub order : List ℕ → ℕ
order a = byte_at a order_byte

abbrev pub node_count : List ℕ → ℕ
node_count a = at_most 16 (byte_at a node_count_byte)

-- how many of the nodes are CAN nodes: "LIN nodes follow all CAN nodes" (document 02, Ticket 2)
abbrev pub can_count : List ℕ → ℕ
can_count a = byte_at a can_count_byte

-- the type of node n
unfoldable pub type_on : List ℕ → ℕ → NodeType
type_on a n = pick (ltb n (can_count a)) Can Lin

abbrev pub tx_count : List ℕ → ℕ
tx_count a = at_most 256 (low_at a tx_count_bytes)

abbrev pub rx_count : List ℕ → ℕ
rx_count a = at_most 256 (low_at a rx_count_bytes)

-- ---- what the tables of the frames say

-- the first row of node n, and how many it has
abbrev pub first_row : List ℕ → ℕ → ℕ
first_row a n = low_at a (node n) % row_range

abbrev pub row_count : List ℕ → ℕ → ℕ
row_count a n = low_at a (node n + 2) % row_range

-- the key of row r
abbrev pub key_at : List ℕ → ℕ → ℕ
key_at a r = low_at a (key r + 2) * 65536 + low_at a (key r)

-- where the fields behind the IDs of Tx frame t and Rx frame r begin in the plan
abbrev pub tx_fields_place : List ℕ → ℕ → ℕ
tx_fields_place a t = at_most last_place (low_at a (tx_place t))

abbrev pub rx_fields_place : List ℕ → ℕ → ℕ
rx_fields_place a r = at_most last_place (low_at a (rx_place r))

-- the node of what has number k in a queue
abbrev pub home_node : List ℕ → ℕ → ℕ
home_node a k = byte_at a (home k) % 16

-- a size, brought into range: of a plan's sizes each stays
abbrev pub in_width : ℕ → ℕ
in_width size = size % 16

-- how many bits of Tx frame t have an owner
abbrev pub owned_bits : List ℕ → ℕ → ℕ
owned_bits a t = at_most 64 (low_at a (full t))

-- ---- the plan, as it was opened

abbrev pub plan_length : List ℕ → ℕ
plan_length a = at_most plan_room (low_at a plan_length_bytes)

unfoldable pub plan_of : List ℕ → List ℕ
plan_of a = take (plan_length a) (drop plan_start a)

-- ---- what the plan says of the frames, read where it stands: no call needs its length, since zeros follow it

-- the part of the area that holds the plan, with the zeros
unfoldable pub stored : List ℕ → List ℕ
stored a = take plan_room (drop plan_start a)

-- the ID of what has number k in a queue, and whose fields behind the ID begin at a place of the plan: the two or four bytes before that place. They are
-- read as bytes of the area, so that there are some before the plan's first byte too
unfoldable pub id_before : List ℕ → ℕ → ℕ → Id
id_before a k at =
    pick (ltb (byte_at a (home k)) extended_home)
    (Standard (two_at a (plan_start + at - 2)))
    (Extended (four_at a (plan_start + at - 4) % extended_id_range))

-- Tx frame t and Rx frame r, by the tables of homes and places
unfoldable pub tx_frame : List ℕ → ℕ → TxFrame
tx_frame a t = tx_at (home_node a t) (id_before a t (tx_fields_place a t)) (stored a) (tx_fields_place a t)

unfoldable pub rx_frame : List ℕ → ℕ → RxFrame
rx_frame a r = rx_at (home_node a (requests_start + r)) (id_before a (requests_start + r) (rx_fields_place a r)) (stored a) (rx_fields_place a r)

-- an Rx frame's fields behind the ID, which begin at a place; of node and ID it says nothing
abbrev pub rx_there : List ℕ → ℕ → RxFrame
rx_there a at = rx_at no_rx.node no_rx.id (stored a) at

-- the Tx frame of the first destination of the Rx frame whose fields begin at a place: one signal stands between the two
abbrev pub failure_tx : List ℕ → ℕ → ℕ
failure_tx a at = two_at (stored a) (at + rx_fields + signal_bytes + 1)

-- the claims of the Rx frame r whose fields begin at a place: the failure bit, where its indicator is enabled, and then the copies
unfoldable pub claims_at : List ℕ → ℕ → ℕ → List Claim
claims_at a r at =
    with_failure r (awaited (rx_there a at)) (failure_tx a at) (claims_from r none 0 0 (records_at (stored a) (at + rx_fields)))

unfoldable pub claims : List ℕ → ℕ → List Claim
claims a r = claims_at a r (rx_fields_place a r)
