-- The encoder: the bytes of a record, and of a plan. "The plan: records of one kind byte and a fixed body. Two-byte numbers have the high byte
-- first." The decoder (`records`) is a text of its own; that the two undo each other pins the place and the weight of every field.
use Rattle.std.specs.Prelude.{◌≡◌, List, [], ◌∷◌, ◌++◌, ◌⊎◌, ◌↔◌, ℕ, ◌+◌, ◌/◌, ◌%◌, ◌≤◌, ◌<◌, length}
use Rattle.base.specs.Numbers.{byte_at, Bytes}
use Rattle.records.specs.declared.record.Id.{Id}
use Rattle.records.specs.declared.record.Id.TheVariants.{Standard, Extended}
use Rattle.records.specs.declared.record.Record.{Record}
use Rattle.records.specs.declared.record.Record.TheVariants.{Head, Node, Tx, Rx, Signal, Destination, Broken}
use Rattle.records.specs.declared.record.Fault.TheVariants.{End, BadKind, Cut}
use Rattle.records.specs.Views.{on_tx, on_broken}
use Rattle.records.specs.Kinds.{length_of, kind_of}
use Rattle.records.specs.Records.{record_at, size_of, records, eight_bytes}
use Rattle.plan.specs.Check.{good_with, check_plan}
use Rattle.facts.specs.Good.{Each}

-- ---- the bytes of a record: its kind, then its fields in the order of document 01's table

-- "high byte first"
abbrev pub two_bytes : ℕ → List ℕ
two_bytes v = v / 256 ∷ v % 256 ∷ []

abbrev pub four_bytes : ℕ → List ℕ
four_bytes v = v / 16777216 ∷ v / 65536 % 256 ∷ v / 256 % 256 ∷ v % 256 ∷ []

-- "Kinds 7 and 8 are Tx and Rx frames with a four-byte ID .., otherwise as 3 and 4." (document 02, Ticket 6)
unfoldable pub tx_begin : ℕ → Id → List ℕ
tx_begin node (Standard n) = 3 ∷ node ∷ two_bytes n
tx_begin node (Extended n) = 7 ∷ node ∷ four_bytes n

unfoldable pub rx_begin : ℕ → Id → List ℕ
rx_begin node (Standard n) = 4 ∷ node ∷ two_bytes n
rx_begin node (Extended n) = 8 ∷ node ∷ four_bytes n

-- no bytes where there is no whole record
unfoldable pub bytes_of : Record → List ℕ
bytes_of (Head order) = 1 ∷ order ∷ []
bytes_of (Node body) = 2 ∷ body.of ∷ []
bytes_of (Tx x) =
    tx_begin x.node x.id ++ x.size ∷ x.prescaler ∷ x.reload ∷ x.initial ∷ x.flags ∷ eight_bytes x.payload
bytes_of (Rx x) =
    rx_begin x.node x.id ++ x.size ∷ x.prescaler ∷ x.reload ∷ x.initial ∷ x.enable ∷ x.position ∷ x.long ∷ []
bytes_of (Signal body) = 5 ∷ body.position ∷ body.size ∷ []
bytes_of (Destination body) = 6 ∷ two_bytes body.tx.0 ++ body.position ∷ []
bytes_of (Broken fault) = []

-- the bytes of a plan
unfoldable pub encode : List Record → List ℕ
encode [] = []
encode (r ∷ rs) = bytes_of r ++ encode rs

-- ---- the two undo each other

-- a whole record of a kind that there is
unfoldable pub Whole : Record → Type 0
Whole r = on_broken (Unit {0}) (λ fault. ⊥) r

-- a Tx frame's initial payload has eight bytes, as its type says
unfoldable pub Eight : Record → Type 0
Eight r = on_tx (Unit {0}) (λ x. length x.payload ≡ 8) r

-- so it is with each record that a plan's bytes are read as
abbrev pub DecodedEight : Type 0
DecodedEight = (plan : List ℕ) → Each Eight (records plan)

-- what is encoded is decoded, at each place and as a plan
abbrev pub DecodesPlaced : Type 0
DecodesPlaced = (front rest : List ℕ) (r : Record) → Whole r → Eight r → record_at (front ++ (bytes_of r ++ rest)) (length front) ≡ r

abbrev pub DecodesEncoded : Type 0
DecodesEncoded = (rs : List Record) → Each Whole rs → Each Eight rs → records (encode rs) ≡ rs

-- and what is decoded is encoded: no byte of a plan is passed over, and none is read twice
abbrev pub EncodesDecoded : Type 0
EncodesDecoded = (plan : List ℕ) → Bytes plan → Each Whole (records plan) → encode (records plan) ≡ plan

-- so it is with a good plan
abbrev pub EncodesGood : Type 0
EncodesGood = (plan : List ℕ) (n t r : ℕ) → Bytes plan → check_plan plan ≡ good_with n t r → encode (records plan) ≡ plan

-- ---- "records of one kind byte and a fixed body": what the readers know of a record's kind and size is what the encoder gives

pub record Sized (r : Record) : Type 0 where
  pub bytes : length (bytes_of r) ≡ size_of r
  pub kind : byte_at (bytes_of r) 0 ≡ kind_of r
  pub fixed : length_of (kind_of r) ≡ size_of r

abbrev pub SizesAgree : Type 0
SizesAgree = (r : Record) → Whole r → Sized r

-- ---- where no whole record stands: 1 "the record runs past its end", 2 "the kind is not 1–6", nor 7 or 8 (document 02, Ticket 6), and the
-- plan's end

pub record BrokenAt (plan : List ℕ) (at : ℕ) : Type 0 where
  pub end : (record_at plan at ≡ Broken End) ↔ (length plan ≤ at)
  pub bad : at < length plan → (record_at plan at ≡ Broken BadKind) ↔ ((byte_at plan at ≡ 0) ⊎ (8 < byte_at plan at))
  pub cut :
      at < length plan → (kind : ℕ)
      → (record_at plan at ≡ Broken (Cut kind)) ↔ ((byte_at plan at ≡ kind) × (0 < kind) × (kind ≤ 8) × (length plan < at + length_of kind))

abbrev pub BrokenExactly : Type 0
BrokenExactly = (plan : List ℕ) (at : ℕ) → BrokenAt plan at
