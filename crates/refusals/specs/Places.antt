-- Refusals 9 (first half), 2, 1 and 3: which record may stand where.
use Rattle.std.specs.Prelude.{◌≡◌, List, [], ◌∷◌, ◌++◌, ℕ}
use Rattle.records.specs.declared.record.NodeBody.{NodeBody}
use Rattle.records.specs.declared.record.TxFrame.{TxFrame}
use Rattle.records.specs.declared.record.RxFrame.{RxFrame}
use Rattle.records.specs.declared.record.SignalBody.{SignalBody}
use Rattle.records.specs.declared.record.DestinationBody.{DestinationBody}
use Rattle.records.specs.declared.record.Record.{Record}
use Rattle.records.specs.declared.record.Record.TheVariants.{Head, Node, Tx, Rx, Signal, Destination, Broken}
use Rattle.records.specs.declared.record.Fault.TheVariants.{Cut}
use Rattle.records.specs.Kinds.{tx_kind, rx_kind}
use Rattle.refusals.specs.Before.{RxBefore, LinBefore}

-- the kind that a record's kind byte says, which one that is cut short has too; an unknown kind and the end have none
pub data OfKind : ℕ → Record → Type 0 where
  head : (order : ℕ) → OfKind 1 (Head order)
  node : (body : NodeBody) → OfKind 2 (Node body)
  tx_frame : (x : TxFrame) → OfKind (tx_kind x.id) (Tx x)
  rx_frame : (x : RxFrame) → OfKind (rx_kind x.id) (Rx x)
  signal : (g : SignalBody) → OfKind 5 (Signal g)
  destination : (t : DestinationBody) → OfKind 6 (Destination t)
  cut : (kind : ℕ) → OfKind kind (Broken (Cut kind))

-- ---- 9: "an enabled indicator's Rx frame is not followed at once by a signal and a destination (judged by kind byte)"

-- the records since the Rx frame, and the one that is not what should follow them
pub data NotFollowed : List Record → Record → Type 0 where
  no_signal : (r : Record) → (OfKind 5 r → ⊥) → NotFollowed [] r
  no_destination : (g : SignalBody) (r : Record) → (OfKind 6 r → ⊥) → NotFollowed (Signal g ∷ []) r

pub record MissingFollower (before : List Record) (r : Record) : Type 0 where
  pub rx : RxBefore before
  pub enabled : rx.frame.enable ≡ 1
  pub missing : NotFollowed rx.since r

-- ---- 2: "the kind is not 1–6"; "2 begins past the new kinds", which are 7 and 8 (document 02, Ticket 6)

abbrev pub UnknownKind : Record → Type 0
UnknownKind r = (kind : ℕ) → OfKind kind r → ⊥

-- ---- 1: "the record runs past its end"

abbrev pub RunsPast : Record → Type 0
RunsPast r = (kind : ℕ) × (r ≡ Broken (Cut kind))

-- ---- 3: "the kind may not stand here"

-- "then nodes, then Tx frames, then Rx frames, each followed by its signals, each followed by its destinations"
pub data MayFollow : Record → Record → Type 0 where
  head_node : (order : ℕ) (body : NodeBody) → MayFollow (Head order) (Node body)
  node_node : (body' body : NodeBody) → MayFollow (Node body') (Node body)
  head_tx : (order : ℕ) (x : TxFrame) → MayFollow (Head order) (Tx x)
  node_tx : (body : NodeBody) (x : TxFrame) → MayFollow (Node body) (Tx x)
  tx_tx : (y x : TxFrame) → MayFollow (Tx y) (Tx x)
  any_rx : (y : Record) (x : RxFrame) → MayFollow y (Rx x)
  rx_signal : (x : RxFrame) (g : SignalBody) → MayFollow (Rx x) (Signal g)
  signal_signal : (g' g : SignalBody) → MayFollow (Signal g') (Signal g)
  destination_signal : (t : DestinationBody) (g : SignalBody) → MayFollow (Destination t) (Signal g)
  signal_destination : (g : SignalBody) (t : DestinationBody) → MayFollow (Signal g) (Destination t)
  destination_destination : (t' t : DestinationBody) → MayFollow (Destination t') (Destination t)

-- "One head first", and then what may follow the last record
pub data MayStand : List Record → Record → Type 0 where
  first : (order : ℕ) → MayStand [] (Head order)
  next : (before front : List Record) (last r : Record) → before ≡ front ++ last ∷ [] → MayFollow last r → MayStand before r

abbrev pub Misplaced : List Record → Record → Type 0
Misplaced before r = MayStand before r → ⊥

-- ---- 3: "for a CAN node after a LIN node" (document 02, Ticket 2). "type: 0 CAN"

pub data CanAfterLin (before : List Record) : Record → Type 0 where
  can_node : (body : NodeBody) → body.of ≡ 0 → (n : ℕ) → LinBefore n before → CanAfterLin before (Node body)
