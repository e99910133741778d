-- The tests that a record must pass, one for each refusal, each by the kind of record. A test that a kind does not have is passed.
use Rattle.std.specs.Prelude.{ℕ, ◌+◌, ◌*◌, Bool, true, false, not, ◌&&◌, ◌||◌, List, leb, ltb, eqb, get_or}
use Rattle.base.specs.Numbers.{byte_at}
use Rattle.bits.specs.Owners.{owned, clash}
use Rattle.records.specs.declared.record.Id.{Id}
use Rattle.records.specs.declared.record.Id.TheVariants.{Standard, Extended}
use Rattle.records.specs.declared.record.TxFrame.{TxFrame}
use Rattle.records.specs.declared.record.RxFrame.{RxFrame}
use Rattle.records.specs.declared.record.Record.{Record}
use Rattle.records.specs.declared.record.Record.TheVariants.{Head, Node, Tx, Rx, Signal, Destination, Broken}
use Rattle.records.specs.Views.{by_fault, on_node, on_tx, on_rx, on_signal, on_destination, on_broken}
use Rattle.records.specs.Kinds.{node_stage, tx_stage, rx_stage, signal_stage}
use Rattle.plan.specs.Limits.{most_nodes, most_tx, most_rx, most_signals, most_in_frame, most_destinations, most_of_signal, id_range, extended_id_range, lin_id_range}
use Rattle.plan.specs.declared.progress.Counts.{Counts}
use Rattle.plan.specs.declared.progress.RowSoFar.{RowSoFar}
use Rattle.plan.specs.Progress.{row_key}

-- 9, first half: "an enabled indicator's Rx frame is not followed at once by a signal and a destination (judged by kind byte)"
unfoldable pub followed : RowSoFar → ℕ → Bool
followed row stage = eqb row.awaits 0 || eqb row.awaits stage

-- 2: "the kind is not 1–6"; "2 begins past the new kinds", which are 7 and 8 (document 02, Ticket 6)
unfoldable pub is_kind : Record → Bool
is_kind r = on_broken true (by_fault false false (λ kind. true)) r

-- 1: "the record runs past its end"
unfoldable pub is_whole : Record → Bool
is_whole r = on_broken true (by_fault true true (λ kind. false)) r

-- 3: "One head first, then nodes, then Tx frames, then Rx frames, each followed by its signals, each followed by its destinations."
-- The first argument is the stage of the record before, 0 if there is none.
unfoldable pub may_stand : ℕ → Record → Bool
may_stand stage (Head order) = eqb stage 0
may_stand stage (Node body) = ltb 0 stage && leb stage node_stage
may_stand stage (Tx frame) = ltb 0 stage && leb stage tx_stage
may_stand stage (Rx frame) = ltb 0 stage
may_stand stage (Signal body) = leb rx_stage stage
may_stand stage (Destination body) = leb signal_stage stage
may_stand stage (Broken fault) = true

-- 3: "for a CAN node after a LIN node" (document 02, Ticket 2). Type 0 is a CAN node, and no LIN node is before it where all nodes so far are CAN.
unfoldable pub can_first : Counts → Record → Bool
can_first c r = on_node true (λ body. not (eqb body.of 0) || eqb c.can c.nodes) r

-- 4: "At most 16 nodes, 256 Tx frames, 256 Rx frames, 1,024 signals (64 in a frame), 2,048 destinations (15 for a signal)."
unfoldable pub has_room : Counts → RowSoFar → Record → Bool
has_room c row (Head order) = true
has_room c row (Node body) = ltb c.nodes most_nodes
has_room c row (Tx frame) = ltb c.tx most_tx
has_room c row (Rx frame) = ltb c.rx most_rx
has_room c row (Signal body) = ltb c.signals most_signals && ltb row.signals most_in_frame
has_room c row (Destination body) = ltb c.destinations most_destinations && ltb row.destinations most_of_signal
has_room c row (Broken fault) = true

-- 5: "prescaler 1, 2, 10 or 20"
unfoldable pub is_prescaler : ℕ → Bool
is_prescaler p = eqb p 1 || eqb p 2 || eqb p 10 || eqb p 20

-- "payload bytes past the size zero"
unfoldable pub zero_past : ℕ → List ℕ → Bool
zero_past size b =
    (ltb 0 size || eqb (byte_at b 0) 0)
    && (ltb 1 size || eqb (byte_at b 1) 0)
    && (ltb 2 size || eqb (byte_at b 2) 0)
    && (ltb 3 size || eqb (byte_at b 3) 0)
    && (ltb 4 size || eqb (byte_at b 4) 0)
    && (ltb 5 size || eqb (byte_at b 5) 0)
    && (ltb 6 size || eqb (byte_at b 6) 0)
    && (ltb 7 size || eqb (byte_at b 7) 0)

-- "ID 0–2047"; "a four-byte ID, 0 to 536,870,911" (document 02, Ticket 6)
unfoldable pub id_in_range : Id → Bool
id_in_range (Standard n) = ltb n id_range
id_in_range (Extended n) = ltb n extended_id_range

-- "node below the node count; ID 0–2047; size 0–8; prescaler 1, 2, 10 or 20; flags 0–3; payload bytes past the size zero"
unfoldable pub tx_in_range : ℕ → TxFrame → Bool
tx_in_range nodes x =
    ltb x.node nodes
    && id_in_range x.id
    && leb x.size 8
    && is_prescaler x.prescaler
    && leb x.flags 3
    && zero_past x.size x.payload

-- "enable 0–1; failure position 0–63; long count 0–15"
unfoldable pub rx_in_range : ℕ → RxFrame → Bool
rx_in_range nodes x =
    ltb x.node nodes
    && id_in_range x.id
    && leb x.size 8
    && is_prescaler x.prescaler
    && leb x.enable 1
    && leb x.position 63
    && leb x.long 15

-- "order 0–1; .. positions 0–63; signal size 1–64"; "type: 0 CAN", and "Node type 1 is a LIN node" (document 02, Ticket 2)
unfoldable pub in_range : ℕ → Record → Bool
in_range nodes (Head order) = leb order 1
in_range nodes (Node body) = leb body.of 1
in_range nodes (Tx frame) = tx_in_range nodes frame
in_range nodes (Rx frame) = rx_in_range nodes frame
in_range nodes (Signal body) = leb body.position 63 && ltb 0 body.size && leb body.size 64
in_range nodes (Destination body) = leb body.position 63
in_range nodes (Broken fault) = true

-- 5: "IDs there run 0 to 59" (document 02, Ticket 2); "5 for these on a LIN node" (Ticket 6): for frames with a 29-bit ID
unfoldable pub is_lin_id : Id → Bool
is_lin_id (Standard n) = ltb n lin_id_range
is_lin_id (Extended n) = false

-- and "sizes 1 to 8", of a node that is no CAN node. `can` is how many nodes are: the others follow them.
unfoldable pub frame_fits : ℕ → ℕ → Id → ℕ → Bool
frame_fits can node id size = ltb node can || (is_lin_id id && ltb 0 size)

-- of a Tx or Rx frame, beside the ranges that all have
unfoldable pub fits_node : Counts → Record → Bool
fits_node c r =
    on_tx (on_rx true (λ frame. frame_fits c.can frame.node frame.id frame.size) r)
    (λ frame. frame_fits c.can frame.node frame.id frame.size) r

-- 6: "an Rx frame's (node, ID) is not above that of the one before"; "6 uses the new order" (document 02, Ticket 6)
unfoldable pub rises : RowSoFar → Record → Bool
rises row r = on_rx true (λ frame. leb row.floor (row_key frame)) r

-- 7: "a signal or destination passes its frame's data, or the Tx frame does not exist". The sizes are those of the Tx frames.
unfoldable pub in_data : Counts → RowSoFar → List ℕ → Record → Bool
in_data c row sizes r =
    on_signal
    (on_destination true
    (λ body. ltb body.tx.0 c.tx && leb (body.position + row.size) (8 * get_or sizes body.tx.0 0)) r)
    (λ body. leb (body.position + body.size) row.room) r

-- 8: "a bit would have two owners". The sets are those of the Tx frames' owned bits.
unfoldable pub is_free : RowSoFar → List ℕ → Record → Bool
is_free row sets r = on_destination true (λ body. not (clash (get_or sets body.tx.0 0) body.position row.size)) r

-- 9, second half: "or its position passes the Tx data"
unfoldable pub indicator_in_data : RowSoFar → List ℕ → Record → Bool
indicator_in_data row sizes r = on_destination true (λ body. eqb row.awaits 0 || ltb row.position (8 * get_or sizes body.tx.0 0)) r

-- 8, for the failure bit, which comes after the destination's own
unfoldable pub indicator_is_free : RowSoFar → List ℕ → Record → Bool
indicator_is_free row sets r =
    on_destination true
    (λ body. eqb row.awaits 0 || not (clash (owned (get_or sets body.tx.0 0) body.position row.size) row.position 1))
    r
