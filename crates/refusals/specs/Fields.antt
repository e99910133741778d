-- Refusals 4, 5 and 6: the counts, the ranges and the order of the Rx frames.
use Rattle.std.specs.Prelude.{◌≡◌, ◌≢◌, List, ℕ, ◌≤◌, ◌<◌, length}
use Rattle.base.specs.Numbers.{byte_at}
use Rattle.records.specs.declared.record.Id.{Id}
use Rattle.records.specs.declared.record.Id.TheVariants.{Standard, Extended}
use Rattle.records.specs.declared.record.NodeBody.{NodeBody}
use Rattle.records.specs.declared.record.TxFrame.{TxFrame}
use Rattle.records.specs.declared.record.RxFrame.{RxFrame}
use Rattle.records.specs.declared.record.SignalBody.{SignalBody}
use Rattle.records.specs.declared.record.DestinationBody.{DestinationBody}
use Rattle.records.specs.declared.record.Record.{Record}
use Rattle.records.specs.declared.record.Record.TheVariants.{Head, Node, Tx, Rx, Signal, Destination}
use Rattle.records.specs.Records.{eight_bytes}
use Rattle.records.specs.Kinds.{node_stage, tx_stage, rx_stage, signal_stage, destination_stage}
use Rattle.facts.specs.Good.{count_of}
use Rattle.refusals.specs.Before.{◌or◌, ◌and◌, RxBefore, SignalBefore, LinBefore}

-- ---- 4: "At most 16 nodes, 256 Tx frames, 256 Rx frames, 1,024 signals (64 in a frame), 2,048 destinations (15 for a signal)."

pub data TooMany (before : List Record) : Record → Type 0 where
  nodes : (body : NodeBody) → 16 ≤ count_of node_stage before → TooMany before (Node body)
  tx_frames : (x : TxFrame) → 256 ≤ count_of tx_stage before → TooMany before (Tx x)
  rx_frames : (x : RxFrame) → 256 ≤ count_of rx_stage before → TooMany before (Rx x)
  signals : (g : SignalBody) → 1024 ≤ count_of signal_stage before → TooMany before (Signal g)
  in_a_frame : (g : SignalBody) (rx : RxBefore before) → 64 ≤ count_of signal_stage rx.since → TooMany before (Signal g)
  destinations : (t : DestinationBody) → 2048 ≤ count_of destination_stage before → TooMany before (Destination t)
  for_a_signal : (t : DestinationBody) (signal : SignalBefore before) → 15 ≤ length signal.destinations → TooMany before (Destination t)

-- ---- 5: "Ranges: order 0–1; .. node below the node count; ID 0–2047; size 0–8; prescaler 1, 2, 10 or 20; flags 0–3; payload bytes past
-- the size zero; enable 0–1; failure position 0–63; long count 0–15; positions 0–63; signal size 1–64." "type: 0 CAN"; "Node type 1 is a LIN
-- node" (document 02, Ticket 2).

abbrev pub NoPrescaler : ℕ → Type 0
NoPrescaler p = (p ≢ 1) and (p ≢ 2) and (p ≢ 10) and (p ≢ 20)

-- a byte of the payload past the size is not zero
abbrev pub NotZeroPast : ℕ → List ℕ → Type 0
NotZeroPast size b = (i : ℕ) × (size ≤ i) × (byte_at (eight_bytes b) i ≢ 0)

-- "ID 0–2047"; "a four-byte ID, 0 to 536,870,911" (document 02, Ticket 6)
pub data NoId : Id → Type 0 where
  standard : (n : ℕ) → 2047 < n → NoId (Standard n)
  extended : (n : ℕ) → 536870911 < n → NoId (Extended n)

-- the nodes stand before all frames, so the node count is that of the nodes before
pub data OutOfRange (before : List Record) : Record → Type 0 where
  head : (order : ℕ) → 1 < order → OutOfRange before (Head order)
  node : (body : NodeBody) → 1 < body.of → OutOfRange before (Node body)
  tx_frame : (x : TxFrame)
      → (count_of node_stage before ≤ x.node) or NoId x.id or (8 < x.size) or NoPrescaler x.prescaler or (3 < x.flags)
      or NotZeroPast x.size x.payload → OutOfRange before (Tx x)
  rx_frame : (x : RxFrame)
      → (count_of node_stage before ≤ x.node) or NoId x.id or (8 < x.size) or NoPrescaler x.prescaler or (1 < x.enable) or (63 < x.position)
      or (15 < x.long) → OutOfRange before (Rx x)
  signal : (g : SignalBody) → (63 < g.position) or (g.size < 1) or (64 < g.size) → OutOfRange before (Signal g)
  destination : (t : DestinationBody) → 63 < t.position → OutOfRange before (Destination t)

-- ---- 5: "IDs there run 0 to 59, sizes 1 to 8" (document 02, Ticket 2): on a LIN node. A size above 8 is out of range on every node. "5 for these on
-- a LIN node" (Ticket 6): for frames with a 29-bit ID, whatever its number.

pub data NoLinId : Id → Type 0 where
  standard : (n : ℕ) → 59 < n → NoLinId (Standard n)
  extended : (n : ℕ) → NoLinId (Extended n)

pub data OutOfLinRange (before : List Record) : Record → Type 0 where
  tx_frame : (x : TxFrame) → LinBefore x.node before → NoLinId x.id or (x.size < 1) → OutOfLinRange before (Tx x)
  rx_frame : (x : RxFrame) → LinBefore x.node before → NoLinId x.id or (x.size < 1) → OutOfLinRange before (Rx x)

-- ---- 6: "an Rx frame's (node, ID) is not above that of the one before"; "Within a node 11-bit rows come before 29-bit ones, each in ascending order";
-- "6 uses the new order" (document 02, Ticket 6)

-- the second ID is not above the first
pub data Falls : Id → Id → Type 0 where
  standard : (m n : ℕ) → n ≤ m → Falls (Standard m) (Standard n)
  extended : (m n : ℕ) → n ≤ m → Falls (Extended m) (Extended n)
  formats : (m n : ℕ) → Falls (Extended m) (Standard n)

pub data NotAbove (before : List Record) : Record → Type 0 where
  lower_node : (x : RxFrame) (rx : RxBefore before) → x.node < rx.frame.node → NotAbove before (Rx x)
  same_node : (x : RxFrame) (rx : RxBefore before) → x.node ≡ rx.frame.node → Falls rx.frame.id x.id → NotAbove before (Rx x)
