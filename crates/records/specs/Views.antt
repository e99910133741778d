-- What others ask of a record: views that name the kinds they are about, and give one answer for every other record. Only here has each
-- variant its clause.
use Rattle.std.specs.Prelude.{ℕ, [], ◌∷◌}
use Rattle.records.specs.declared.record.Id.TheVariants.{Standard}
use Rattle.records.specs.declared.record.NodeBody.{NodeBody}
use Rattle.records.specs.declared.record.TxFrame.{TxFrame}
use Rattle.records.specs.declared.record.RxFrame.{RxFrame}
use Rattle.records.specs.declared.record.SignalBody.{SignalBody}
use Rattle.records.specs.declared.record.DestinationBody.{DestinationBody}
use Rattle.records.specs.declared.record.Fault.{Fault}
use Rattle.records.specs.declared.record.Fault.TheVariants.{End, BadKind, Cut}
use Rattle.records.specs.declared.record.Record.{Record}
use Rattle.records.specs.declared.record.Record.TheVariants.{Head, Node, Tx, Rx, Signal, Destination, Broken}

module _ {ℓ} {A : Type ℓ} where
  abbrev pub by_kind : (ℕ → A) → (NodeBody → A) → (TxFrame → A) → (RxFrame → A) → (SignalBody → A) → (DestinationBody → A) → (Fault → A) → Record → A
  by_kind head node tx rx signal destination broken (Head order) = head order
  by_kind head node tx rx signal destination broken (Node body) = node body
  by_kind head node tx rx signal destination broken (Tx frame) = tx frame
  by_kind head node tx rx signal destination broken (Rx frame) = rx frame
  by_kind head node tx rx signal destination broken (Signal body) = signal body
  by_kind head node tx rx signal destination broken (Destination body) = destination body
  by_kind head node tx rx signal destination broken (Broken fault) = broken fault

  -- a fault: at the plan's end, at a byte that is no kind, at a record that is cut
  abbrev pub by_fault : A → A → (ℕ → A) → Fault → A
  by_fault end bad cut End = end
  by_fault end bad cut BadKind = bad
  by_fault end bad cut (Cut kind) = cut kind

  -- one kind, and `other` for every other record
  abbrev pub on_head : A → (ℕ → A) → Record → A
  on_head other f = by_kind f (λ _. other) (λ _. other) (λ _. other) (λ _. other) (λ _. other) (λ _. other)

  abbrev pub on_node : A → (NodeBody → A) → Record → A
  on_node other f = by_kind (λ _. other) f (λ _. other) (λ _. other) (λ _. other) (λ _. other) (λ _. other)

  abbrev pub on_tx : A → (TxFrame → A) → Record → A
  on_tx other f = by_kind (λ _. other) (λ _. other) f (λ _. other) (λ _. other) (λ _. other) (λ _. other)

  abbrev pub on_rx : A → (RxFrame → A) → Record → A
  on_rx other f = by_kind (λ _. other) (λ _. other) (λ _. other) f (λ _. other) (λ _. other) (λ _. other)

  abbrev pub on_signal : A → (SignalBody → A) → Record → A
  on_signal other f = by_kind (λ _. other) (λ _. other) (λ _. other) (λ _. other) f (λ _. other) (λ _. other)

  abbrev pub on_destination : A → (DestinationBody → A) → Record → A
  on_destination other f = by_kind (λ _. other) (λ _. other) (λ _. other) (λ _. other) (λ _. other) f (λ _. other)

  -- what a row is made of: an Rx frame, a signal, a destination
  abbrev pub in_row : A → (RxFrame → A) → (SignalBody → A) → (DestinationBody → A) → Record → A
  in_row other rx signal destination = by_kind (λ _. other) (λ _. other) (λ _. other) rx signal destination (λ _. other)

  abbrev pub on_broken : A → (Fault → A) → Record → A
  on_broken other f = by_kind (λ _. other) (λ _. other) (λ _. other) (λ _. other) (λ _. other) (λ _. other) f

-- a number or a place that is no frame's has these
abbrev pub no_tx : TxFrame
no_tx =
    record {
      node = 0;
      id = Standard 0;
      size = 0;
      prescaler = 0;
      reload = 0;
      initial = 0;
      flags = 0;
      payload = 0 ∷ 0 ∷ 0 ∷ 0 ∷ 0 ∷ 0 ∷ 0 ∷ 0 ∷ [];
    }

abbrev pub no_rx : RxFrame
no_rx = record { node = 0; id = Standard 0; size = 0; prescaler = 0; reload = 0; initial = 0; enable = 0; position = 0; long = 0 }

-- and past the last record there is this one
abbrev pub no_record : Record
no_record = Broken End

-- the frame, where the record is one
unfoldable pub as_tx : Record → TxFrame
as_tx r = on_tx no_tx (λ x. x) r

unfoldable pub as_rx : Record → RxFrame
as_rx r = on_rx no_rx (λ x. x) r
