-- What is read in an area that holds a plan: each table says of each frame and node what the plan says. No later call changes any of it.
use Rattle.std.specs.Prelude.{◌≡◌, ◌≢◌, true, List, [], ◌∷◌, ℕ, ◌+◌, ◌≤◌, ◌<◌, eqb, length, get_or}
use Rattle.base.specs.Pick.{pick}
use Rattle.base.specs.Numbers.{byte_at, low_at}
use Rattle.bits.specs.Payload.{bit_at}
use Rattle.bits.specs.Owners.{owners}
use Rattle.clock.specs.Counter.{mask_of}
use Rattle.records.specs.declared.record.NodeType.{NodeType}
use Rattle.records.specs.declared.record.NodeType.TheVariants.{Can}
use Rattle.records.specs.declared.record.TxFrame.{TxFrame}
use Rattle.records.specs.Ids.{key_of}
use Rattle.records.specs.Views.{no_tx}
use Rattle.records.specs.Records.{records, eight_bytes}
use Rattle.records.specs.Nodes.{is_lin}
use Rattle.plan.specs.Check.{sets_of}
use Rattle.plan.specs.Rows.{Row, no_row, rows_of, tx_of, nodes_in, types_in, order_in}
use Rattle.area.specs.Layout.{requests_start, waiter_range, entry_count, LongEnough, tx_reload, rx_reload, tx_timer, rx_timer, long, waits, full, tx_mask, rx_mask, spot, marked}
use Rattle.area.specs.Layout.{counter, order, node_count, type_on, tx_count, rx_count, first_row, row_count, key_at, home_node, plan_of, tx_frame, rx_frame, claims}
use Rattle.area.specs.Queue.{ends_of, Apart}

-- ---- the plan's frames by number; a number that is no frame's has an empty one

abbrev pub planned_tx : List ℕ → ℕ → TxFrame
planned_tx plan t = get_or (tx_of plan) t no_tx

abbrev pub row_at : List ℕ → ℕ → Row
row_at plan r = get_or (rows_of plan) r no_row

-- how many of some Tx frames are of node n
unfoldable pub frames_on : ℕ → List TxFrame → ℕ
frames_on n [] = 0
frames_on n (x ∷ xs) = pick (eqb x.node n) 1 0 + frames_on n xs

-- how many of some rows are of node n
unfoldable pub rows_on : ℕ → List Row → ℕ
rows_on n [] = 0
rows_on n (x ∷ xs) = pick (eqb x.frame.node n) 1 0 + rows_on n xs

-- the type of node n
abbrev pub type_at : List ℕ → ℕ → NodeType
type_at plan n = get_or (types_in (records plan)) n Can

-- how many can wait on node n: its Tx frames, and on a LIN node the requests for its Rx frames
abbrev pub waiters_on : List ℕ → ℕ → ℕ
waiters_on plan n = frames_on n (tx_of plan) + pick (is_lin (type_at plan n)) (rows_on n (rows_of plan)) 0

-- ---- what no later call changes

pub record Header (plan a : List ℕ) : Type 0 where
  pub size : LongEnough a
  pub mark : marked a ≡ true
  pub holds : plan_of a ≡ plan
  pub order : order a ≡ order_in (records plan)
  pub nodes : node_count a ≡ nodes_in (records plan)
  pub types : (n : ℕ) → n < nodes_in (records plan) → type_on a n ≡ type_at plan n
  pub tx : tx_count a ≡ length (tx_of plan)
  pub rx : rx_count a ≡ length (rows_of plan)

-- of Tx frame t: its record, its home, its reload value, its mask, and how many of its bits have an owner
pub record TxTable (plan a : List ℕ) (t : ℕ) : Type 0 where
  pub frame : tx_frame a t ≡ planned_tx plan t
  pub home : home_node a t ≡ (planned_tx plan t).node
  pub reload : byte_at a (tx_reload t) ≡ (planned_tx plan t).reload
  pub mask : byte_at a (tx_mask t) ≡ mask_of (planned_tx plan t).prescaler
  pub full : low_at a (full t) ≡ owners (get_or (sets_of plan) t 0) 64

-- of Rx frame r: its record, its home, its claims, its key, its reload value and its mask
pub record RxTable (plan a : List ℕ) (r : ℕ) : Type 0 where
  pub frame : rx_frame a r ≡ (row_at plan r).frame
  pub home : home_node a (requests_start + r) ≡ (row_at plan r).frame.node
  pub claims : claims a r ≡ (row_at plan r).claims
  pub key : key_at a r ≡ key_of (row_at plan r).frame.id
  pub reload : byte_at a (rx_reload r) ≡ (row_at plan r).frame.reload
  pub mask : byte_at a (rx_mask r) ≡ mask_of (row_at plan r).frame.prescaler

-- a node's rows are exactly the plan's Rx frames of that node
pub record NodeTable (plan a : List ℕ) (n : ℕ) : Type 0 where
  pub within : first_row a n + row_count a n ≤ length (rows_of plan)
  pub theirs : (i : ℕ) → i < row_count a n → (row_at plan (first_row a n + i)).frame.node ≡ n
  pub all : (r : ℕ) → r < length (rows_of plan) → (row_at plan r).frame.node ≡ n → (first_row a n ≤ r) × (r < first_row a n + row_count a n)

-- each node has a ring of its own, with room for exactly those that can wait on it
pub record Rings (plan a : List ℕ) (n : ℕ) : Type 0 where
  pub within : (ends_of a n).start + (ends_of a n).room ≤ entry_count
  pub room : (ends_of a n).room ≡ waiters_on plan n
  pub apart : (m : ℕ) → m < 16 → m ≢ n → Apart (ends_of a m) (ends_of a n)

pub record Reads (plan a : List ℕ) : Type 0 where
  pub header : Header plan a
  pub tx : (t : ℕ) → t < length (tx_of plan) → TxTable plan a t
  pub rx : (r : ℕ) → r < length (rows_of plan) → RxTable plan a r
  pub node : (n : ℕ) → n < 16 → NodeTable plan a n
  pub rings : (n : ℕ) → n < 16 → Rings plan a n

-- ---- "payloads and timers initial, long counters at the long count, queues empty, tick counter 0"

-- "the plan's initial bit"
unfoldable pub initial : List ℕ → ℕ → ℕ → ℕ
initial plan t b = bit_at (order_in (records plan)) (eight_bytes (planned_tx plan t).payload) b

pub record Begun (plan a : List ℕ) : Type 0 where
  pub count : counter a ≡ 0
  pub payload : (t b : ℕ) → t < length (tx_of plan) → b < 64 → bit_at (order a) a (spot t b) ≡ initial plan t b
  pub tx_timer : (t : ℕ) → t < length (tx_of plan) → byte_at a (tx_timer t) ≡ (planned_tx plan t).initial
  pub rx_timer : (r : ℕ) → r < length (rows_of plan) → byte_at a (rx_timer r) ≡ (row_at plan r).frame.initial
  pub long : (r : ℕ) → r < length (rows_of plan) → byte_at a (long r) ≡ (row_at plan r).frame.long
  pub waits : (k : ℕ) → k < waiter_range → byte_at a (waits k) ≡ 0
  pub empty : (n : ℕ) → n < 16 → ((ends_of a n).first ≡ 0) × ((ends_of a n).waiting ≡ 0)
