-- The kinds by name, and their bytes.
use Rattle.std.proofs.Common.{◌≡◌, ℕ, sym}
use Rattle.records.specs.declared.kind.Kind.{Kind}
use Rattle.records.specs.declared.kind.Kind.TheVariants.{Head, Node, Tx, Rx, Signal, Destination, ExtendedTx, ExtendedRx}
use Rattle.records.specs.KindBytes.{byte_of}
use Rattle.records.proofs.RecordLaws.{NoKind, no_kind}

-- a byte that no kind has
pub none_decodes : {byte : ℕ} → ((kind : Kind) → byte_of kind ≡ byte → ⊥) → NoKind byte
none_decodes none =
    no_kind (λ e. none Head (sym e)) (λ e. none Node (sym e)) (λ e. none Tx (sym e)) (λ e. none Rx (sym e)) (λ e. none Signal (sym e))
    (λ e. none Destination (sym e)) (λ e. none ExtendedTx (sym e)) (λ e. none ExtendedRx (sym e))
