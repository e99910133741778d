-- The type of a node, and what waits in its queue.
use Rattle.std.specs.Prelude.{ℕ, Bool, true, false, eqb}
use Rattle.base.specs.Pick.{pick}
use Rattle.records.specs.declared.record.NodeType.{NodeType}
use Rattle.records.specs.declared.record.NodeType.TheVariants.{Can, Lin}
use Rattle.records.specs.declared.record.Entry.{Entry}
use Rattle.records.specs.declared.record.Entry.TheVariants.{Frame, Request}

-- "type: 0 CAN"; "Node type 1 is a LIN node" (document 02, Ticket 2)
unfoldable pub type_of : ℕ → NodeType
type_of byte = pick (eqb byte 0) Can Lin

unfoldable pub is_lin : NodeType → Bool
is_lin Can = false
is_lin Lin = true

-- Tx frame t, and the request for Rx frame r, as they wait
abbrev pub frame : ℕ → Entry
frame t = Frame (record { 0 = t })

abbrev pub request : ℕ → Entry
request r = Request (record { 0 = r })

-- "An Rx frame number and a Tx frame number count separate tables": a frame is never a request
unfoldable pub same_entry : Entry → Entry → Bool
same_entry (Frame t) (Frame u) = eqb t.0 u.0
same_entry (Frame t) (Request r) = false
same_entry (Request r) (Frame t) = false
same_entry (Request r) (Request q) = eqb r.0 q.0
