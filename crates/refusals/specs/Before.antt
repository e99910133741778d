-- What stands before a record, as splits of the list of the records before it: the Rx frame and the signal that are being read, each LIN node and
-- each Tx frame by its number, and the bits that have an owner.
use Rattle.std.specs.Prelude.{◌≡◌, ◌≢◌, ◌⊎◌, List, [], ◌∷◌, ◌++◌, ℕ}
use Rattle.records.specs.declared.record.NodeBody.{NodeBody}
use Rattle.records.specs.declared.record.TxFrame.{TxFrame}
use Rattle.records.specs.declared.record.RxFrame.{RxFrame}
use Rattle.records.specs.declared.record.SignalBody.{SignalBody}
use Rattle.records.specs.declared.record.Record.{Record}
use Rattle.records.specs.declared.record.Record.TheVariants.{Node, Tx, Rx, Signal}
use Rattle.records.specs.Kinds.{node_stage, tx_stage}
use Rattle.plan.specs.Rows.{Claim, rows_from, all_claims}
use Rattle.facts.specs.Good.{Each, Holds, count_of}
use Rattle.claims.specs.Claims.{IsDestination}

infixl 20 ◌or◌
infixl 25 ◌and◌
abbrev pub ◌or◌ : Type 0 → Type 0 → Type 0
◌or◌ A B = A ⊎ B

abbrev pub ◌and◌ : Type 0 → Type 0 → Type 0
◌and◌ A B = A × B

abbrev pub NoRx : Record → Type 0
NoRx r = (x : RxFrame) → r ≢ Rx x

-- the Rx frame that is being read: the last one
pub record RxBefore (before : List Record) : Type 0 where
  pub front : List Record
  pub frame : RxFrame
  pub since : List Record
  pub split : before ≡ front ++ Rx frame ∷ since
  pub last : Each NoRx since

-- the signal that is being read, with its destinations so far
pub record SignalBefore (before : List Record) : Type 0 where
  pub front : List Record
  pub body : SignalBody
  pub destinations : List Record
  pub split : before ≡ front ++ Signal body ∷ destinations
  pub only : Each IsDestination destinations

-- "Nodes, Tx and Rx frames are numbered from 0": Tx frame t has t Tx frames before it
pub record TxBefore (t : ℕ) (before : List Record) : Type 0 where
  pub front : List Record
  pub frame : TxFrame
  pub since : List Record
  pub split : before ≡ front ++ Tx frame ∷ since
  pub number : count_of tx_stage front ≡ t

-- so node n has n nodes before it; "Node type 1 is a LIN node" (document 02, Ticket 2)
pub record LinBefore (n : ℕ) (before : List Record) : Type 0 where
  pub front : List Record
  pub body : NodeBody
  pub since : List Record
  pub split : before ≡ front ++ Node body ∷ since
  pub number : count_of node_stage front ≡ n
  pub type : body.of ≡ 1

-- of some element
unfoldable pub Some {ℓ} : {A : Type ℓ} → (A → Type 0) → List A → Type 0
Some P [] = ⊥
Some P (x ∷ xs) = P x or Some P xs

-- bit b of Tx frame t has an owner: a claim of the records before holds it
abbrev pub Owned : List Record → ℕ → ℕ → Type 0
Owned before t b = Some (λ (c : Claim). Holds c t b) (all_claims (rows_from 0 before))
