-- Proofs by one kind. A record that is not of it, as a proof or as a `match` tells it, has the other answer in every view of that kind; so
-- those who ask for one kind name no other.
use mathlib.Core.Path.{◌≡◌, refl}
use mathlib.Core.List.{List, [], ◌∷◌}
use Prim.Native.Nat.{ℕ}
use types.Run.{OneOf, miss}
use denote.Enum.Declared.{tag_of}
use Rattle.records.specs.declared.record.NodeBody.{NodeBody}
use Rattle.records.specs.declared.record.TxFrame.{TxFrame}
use Rattle.records.specs.declared.record.RxFrame.{RxFrame}
use Rattle.records.specs.declared.record.SignalBody.{SignalBody}
use Rattle.records.specs.declared.record.DestinationBody.{DestinationBody}
use Rattle.records.specs.declared.record.Fault.{Fault}
use Rattle.records.specs.declared.record.Fault.TheVariants.{End, BadKind, Cut}
use Rattle.records.specs.declared.record.Record.{Record}
use Rattle.records.specs.declared.record.Record.TheVariants.{Head, Node, Tx, Rx, Signal, Destination, Broken}
use Rattle.records.specs.Views.{by_fault, on_head, on_node, on_tx, on_rx, on_signal, on_destination, in_row}
use Rattle.records.specs.contracts.record.Record.{the_type}
use Rattle.records.specs.contracts.record.Fault as fault

pub record NoHead (r : Record) : Type 1 where
  pub by : {A : Type 0} (other : A) (f : ℕ → A) → on_head other f r ≡ other

pub record NoNode (r : Record) : Type 1 where
  pub by : {A : Type 0} (other : A) (f : NodeBody → A) → on_node other f r ≡ other

pub record NoTx (r : Record) : Type 1 where
  pub by : {A : Type 0} (other : A) (f : TxFrame → A) → on_tx other f r ≡ other

pub record NoRx (r : Record) : Type 1 where
  pub by : {A : Type 0} (other : A) (f : RxFrame → A) → on_rx other f r ≡ other

pub record NoSignal (r : Record) : Type 1 where
  pub by : {A : Type 0} (other : A) (f : SignalBody → A) → on_signal other f r ≡ other

pub record NoDestination (r : Record) : Type 1 where
  pub by : {A : Type 0} (other : A) (f : DestinationBody → A) → on_destination other f r ≡ other

pub record NoRow (r : Record) : Type 1 where
  pub by : {A : Type 0} (other : A) (f : RxFrame → A) (g : SignalBody → A) (h : DestinationBody → A) → in_row other f g h r ≡ other

module _ (P : Record → Type 0) where
  by_kind :
      ((order : ℕ) → P (Head order)) → ((body : NodeBody) → P (Node body)) → ((x : TxFrame) → P (Tx x)) → ((x : RxFrame) → P (Rx x))
      → ((body : SignalBody) → P (Signal body)) → ((body : DestinationBody) → P (Destination body)) → ((fault : Fault) → P (Broken fault)) → (r : Record) → P r
  by_kind head node tx rx signal destination broken (Head order) = head order
  by_kind head node tx rx signal destination broken (Node body) = node body
  by_kind head node tx rx signal destination broken (Tx x) = tx x
  by_kind head node tx rx signal destination broken (Rx x) = rx x
  by_kind head node tx rx signal destination broken (Signal body) = signal body
  by_kind head node tx rx signal destination broken (Destination body) = destination body
  by_kind head node tx rx signal destination broken (Broken fault) = broken fault

  pub by_head : ((x : ℕ) → P (Head x)) → ((r : Record) → NoHead r → P r) → (r : Record) → P r
  by_head head other =
      by_kind head (λ y. other (Node y) (record { by = λ o f. refl })) (λ y. other (Tx y) (record { by = λ o f. refl }))
      (λ y. other (Rx y) (record { by = λ o f. refl })) (λ y. other (Signal y) (record { by = λ o f. refl }))
      (λ y. other (Destination y) (record { by = λ o f. refl })) (λ y. other (Broken y) (record { by = λ o f. refl }))

  pub by_node : ((x : NodeBody) → P (Node x)) → ((r : Record) → NoNode r → P r) → (r : Record) → P r
  by_node node other =
      by_kind (λ y. other (Head y) (record { by = λ o f. refl })) node (λ y. other (Tx y) (record { by = λ o f. refl }))
      (λ y. other (Rx y) (record { by = λ o f. refl })) (λ y. other (Signal y) (record { by = λ o f. refl }))
      (λ y. other (Destination y) (record { by = λ o f. refl })) (λ y. other (Broken y) (record { by = λ o f. refl }))

  pub by_tx : ((x : TxFrame) → P (Tx x)) → ((r : Record) → NoTx r → P r) → (r : Record) → P r
  by_tx tx other =
      by_kind (λ y. other (Head y) (record { by = λ o f. refl })) (λ y. other (Node y) (record { by = λ o f. refl })) tx
      (λ y. other (Rx y) (record { by = λ o f. refl })) (λ y. other (Signal y) (record { by = λ o f. refl }))
      (λ y. other (Destination y) (record { by = λ o f. refl })) (λ y. other (Broken y) (record { by = λ o f. refl }))

  pub by_rx : ((x : RxFrame) → P (Rx x)) → ((r : Record) → NoRx r → P r) → (r : Record) → P r
  by_rx rx other =
      by_kind (λ y. other (Head y) (record { by = λ o f. refl })) (λ y. other (Node y) (record { by = λ o f. refl }))
      (λ y. other (Tx y) (record { by = λ o f. refl })) rx (λ y. other (Signal y) (record { by = λ o f. refl }))
      (λ y. other (Destination y) (record { by = λ o f. refl })) (λ y. other (Broken y) (record { by = λ o f. refl }))

  pub by_signal : ((x : SignalBody) → P (Signal x)) → ((r : Record) → NoSignal r → P r) → (r : Record) → P r
  by_signal signal other =
      by_kind (λ y. other (Head y) (record { by = λ o f. refl })) (λ y. other (Node y) (record { by = λ o f. refl }))
      (λ y. other (Tx y) (record { by = λ o f. refl })) (λ y. other (Rx y) (record { by = λ o f. refl })) signal
      (λ y. other (Destination y) (record { by = λ o f. refl })) (λ y. other (Broken y) (record { by = λ o f. refl }))

  pub by_destination : ((x : DestinationBody) → P (Destination x)) → ((r : Record) → NoDestination r → P r) → (r : Record) → P r
  by_destination destination other =
      by_kind (λ y. other (Head y) (record { by = λ o f. refl })) (λ y. other (Node y) (record { by = λ o f. refl }))
      (λ y. other (Tx y) (record { by = λ o f. refl })) (λ y. other (Rx y) (record { by = λ o f. refl }))
      (λ y. other (Signal y) (record { by = λ o f. refl })) destination (λ y. other (Broken y) (record { by = λ o f. refl }))

  pub by_row :
      ((x : RxFrame) → P (Rx x)) → ((x : SignalBody) → P (Signal x)) → ((x : DestinationBody) → P (Destination x)) → ((r : Record) → NoRow r → P r)
      → (r : Record) → P r
  by_row rx signal destination other =
      by_kind (λ y. other (Head y) (record { by = λ o f g h. refl })) (λ y. other (Node y) (record { by = λ o f g h. refl }))
      (λ y. other (Tx y) (record { by = λ o f g h. refl })) rx signal destination (λ y. other (Broken y) (record { by = λ o f g h. refl }))

-- ---- as a `match` tells it: by the numbers of the other variants

abbrev others_tx : List ℕ
others_tx = 0 ∷ 1 ∷ 3 ∷ 4 ∷ 5 ∷ 6 ∷ []

abbrev others_rx : List ℕ
others_rx = 0 ∷ 1 ∷ 2 ∷ 4 ∷ 5 ∷ 6 ∷ []

pub NoTx-from_tag : (r : Record) → OneOf others_tx (tag_of the_type r) → NoTx r
NoTx-from_tag (Tx x) k = absurd (miss others_tx 2 (tt {0}) k)
NoTx-from_tag (Head order) k = record { by = λ o f. refl }
NoTx-from_tag (Node body) k = record { by = λ o f. refl }
NoTx-from_tag (Rx x) k = record { by = λ o f. refl }
NoTx-from_tag (Signal body) k = record { by = λ o f. refl }
NoTx-from_tag (Destination body) k = record { by = λ o f. refl }
NoTx-from_tag (Broken fault) k = record { by = λ o f. refl }

pub NoRx-from_tag : (r : Record) → OneOf others_rx (tag_of the_type r) → NoRx r
NoRx-from_tag (Rx x) k = absurd (miss others_rx 3 (tt {0}) k)
NoRx-from_tag (Head order) k = record { by = λ o f. refl }
NoRx-from_tag (Node body) k = record { by = λ o f. refl }
NoRx-from_tag (Tx x) k = record { by = λ o f. refl }
NoRx-from_tag (Signal body) k = record { by = λ o f. refl }
NoRx-from_tag (Destination body) k = record { by = λ o f. refl }
NoRx-from_tag (Broken fault) k = record { by = λ o f. refl }

-- a record that is no part of a row, and one that is no head, no node and no frame
pub no_own :
    (r : Record) → OneOf (0 ∷ 1 ∷ 2 ∷ 3 ∷ 6 ∷ []) (tag_of the_type r) → {A : Type 0} (other : A) (f : SignalBody → A) (g : DestinationBody → A)
    → in_row other (λ x. other) f g r ≡ other
no_own (Signal body) k other f g = absurd (miss (0 ∷ 1 ∷ 2 ∷ 3 ∷ 6 ∷ []) 4 (tt {0}) k)
no_own (Destination body) k other f g = absurd (miss (0 ∷ 1 ∷ 2 ∷ 3 ∷ 6 ∷ []) 5 (tt {0}) k)
no_own (Head order) k other f g = refl
no_own (Node body) k other f g = refl
no_own (Tx x) k other f g = refl
no_own (Rx x) k other f g = refl
no_own (Broken fault) k other f g = refl

pub no_frame :
    (r : Record) → OneOf (4 ∷ 5 ∷ 6 ∷ []) (tag_of the_type r) → {A : Type 0} (other : A) (f : ℕ → A) (g : NodeBody → A) (h : TxFrame → A)
    (i : RxFrame → A) → on_head (on_node (on_tx (on_rx other i r) h r) g r) f r ≡ other
no_frame (Head order) k other f g h i = absurd (miss (4 ∷ 5 ∷ 6 ∷ []) 0 (tt {0}) k)
no_frame (Node body) k other f g h i = absurd (miss (4 ∷ 5 ∷ 6 ∷ []) 1 (tt {0}) k)
no_frame (Tx x) k other f g h i = absurd (miss (4 ∷ 5 ∷ 6 ∷ []) 2 (tt {0}) k)
no_frame (Rx x) k other f g h i = absurd (miss (4 ∷ 5 ∷ 6 ∷ []) 3 (tt {0}) k)
no_frame (Signal body) k other f g h i = refl
no_frame (Destination body) k other f g h i = refl
no_frame (Broken fault) k other f g h i = refl

pub no_cut : (f : Fault) → OneOf (0 ∷ 1 ∷ []) (tag_of fault.the_type f) → {A : Type 0} (other : A) (cut : ℕ → A) → by_fault other other cut f ≡ other
no_cut End k other cut = refl
no_cut BadKind k other cut = refl
no_cut (Cut kind) k other cut = absurd (miss (0 ∷ 1 ∷ []) 2 (tt {0}) k)
