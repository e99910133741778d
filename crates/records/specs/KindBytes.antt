-- The kinds by name, and the byte of each: the kinds of a plan's records are 1 to 8.
use Rattle.std.specs.Prelude.{◌≡◌, ℕ, Result, MatchResult}
use Rattle.records.specs.declared.kind.Kind.{Kind}
use Rattle.records.specs.declared.kind.Kind.TheVariants.{Head, Node, Tx, Rx, Signal, Destination, ExtendedTx, ExtendedRx}
use Rattle.records.specs.declared.record.Fault.{Fault}
use Rattle.records.specs.declared.record.Fault.TheVariants.{BadKind}

abbrev pub byte_of : Kind → ℕ
byte_of Head = 1
byte_of Node = 2
byte_of Tx = 3
byte_of Rx = 4
byte_of Signal = 5
byte_of Destination = 6
byte_of ExtendedTx = 7
byte_of ExtendedRx = 8

-- the kind with this byte, or a fault where no kind has it
abbrev pub Decodes : ℕ → Result Kind Fault → Type 0
Decodes byte r = MatchResult r (λ kind. byte_of kind ≡ byte) (λ fault. (fault ≡ BadKind) × ((kind : Kind) → byte_of kind ≡ byte → ⊥))
