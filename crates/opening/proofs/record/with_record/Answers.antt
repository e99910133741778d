-- `opening::record::with_record` meets its contract: by the record's kind.
use Rattle.std.proofs.Common.{◌≡◌, ℕ, List, refl, sym}
use Rattle.records.specs.declared.record.NodeBody.{NodeBody}
use Rattle.records.specs.declared.record.TxFrame.{TxFrame}
use Rattle.records.specs.declared.record.RxFrame.{RxFrame}
use Rattle.records.specs.declared.record.Record.{Record}
use Rattle.records.specs.declared.record.Record.TheVariants.{Head, Node, Tx, Rx, Signal, Destination, Broken}
use Rattle.opening.specs.Opened.{with_record}
use Rattle.opening.proofs.record.with_record.Goals as goal

-- a record of another kind puts nothing into the area
no_record :
    (at : ℕ) (r : Record) (a : List ℕ) → ((order : ℕ) → r ≡ Head order → ⊥) → ((body : NodeBody) → r ≡ Node body → ⊥)
    → ((x : TxFrame) → r ≡ Tx x → ⊥) → ((x : RxFrame) → r ≡ Rx x → ⊥) → with_record at r a ≡ a
unfolding with_record
no_record at (Head order) a h n t r = absurd (h order refl)
no_record at (Node body) a h n t r = absurd (n body refl)
no_record at (Tx x) a h n t r = absurd (t x refl)
no_record at (Rx x) a h n t r = absurd (r x refl)
no_record at (Signal body) a h n t r = refl
no_record at (Destination body) a h n t r = refl
no_record at (Broken fault) a h n t r = refl

pub returns-in-Head : goal.returns-in-Head
unfolding with_record
returns-in-Head c = rw c.in-Head.is

pub returns-in-Node : goal.returns-in-Node
unfolding with_record
returns-in-Node c = rw c.in-Node.is c.with_node.ensures

pub returns-in-Tx : goal.returns-in-Tx
unfolding with_record
returns-in-Tx c = rw c.in-Tx.is c.with_tx.ensures

pub returns-in-Rx : goal.returns-in-Rx
unfolding with_record
returns-in-Rx c = rw c.in-Rx.is c.with_rx.ensures

pub returns-in_default : goal.returns-in_default
returns-in_default c =
    sym (no_record _ _ _ c.in_default.not-Head c.in_default.not-Node c.in_default.not-Tx c.in_default.not-Rx)
