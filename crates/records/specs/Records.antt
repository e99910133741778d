-- The plan: its records, one after the other. This file and `Kinds` say what a plan's bytes mean.
use Rattle.std.specs.Prelude.{ℕ, zero, suc, ◌+◌, ◌-◌, List, [], ◌∷◌, length, leb, ltb, eqb}
use Rattle.base.specs.Pick.{pick}
use Rattle.base.specs.Numbers.{byte_at}
use Rattle.records.specs.declared.record.Fault.{Fault}
use Rattle.records.specs.declared.record.Fault.TheVariants.{End, BadKind, Cut}
use Rattle.records.specs.declared.record.Record.{Record}
use Rattle.records.specs.declared.record.Record.TheVariants.{Broken}
use Rattle.records.specs.Views.{by_fault, on_broken}
use Rattle.records.specs.Kinds.{length_of, fields_at, kind_of}

-- the record at a place: the plan's end, a kind that there is not, a record that runs past the end, or a whole one
unfoldable pub record_at : List ℕ → ℕ → Record
record_at plan at =
    pick (leb (length plan) at) (Broken End)
    (pick (eqb (length_of (byte_at plan at)) 0) (Broken BadKind)
    (pick (ltb (length plan - at) (length_of (byte_at plan at))) (Broken (Cut (byte_at plan at)))
    (fields_at (byte_at plan at) plan at)))

-- how many bytes a record takes: as many as its kind says; of a bad or cut one its kind byte
abbrev pub fault_size : Fault → ℕ
fault_size fault = by_fault 0 1 (λ kind. 1) fault

unfoldable pub size_of : Record → ℕ
size_of r = on_broken (length_of (kind_of r)) fault_size r

-- the records from a place on; the first argument bounds how many are read
unfoldable pub records_from : ℕ → List ℕ → ℕ → List Record
records_from zero plan at = []
records_from (suc bound) plan at =
    let rest = record_at plan at ∷ records_from bound plan (at + size_of (record_at plan at)) in
    pick (leb (length plan) at) [] rest

-- a bound that suffices, since a record takes at least a byte. `records_end` and `records_step` say of it what a reader expects, and nothing
-- else sees the bound.
unfoldable pub records_at : List ℕ → ℕ → List Record
records_at plan at = records_from (length plan - at) plan at

-- all records of a plan
unfoldable pub records : List ℕ → List Record
records plan = records_at plan 0

-- the eight bytes of a payload
abbrev pub eight_bytes : List ℕ → List ℕ
eight_bytes b = byte_at b 0 ∷ byte_at b 1 ∷ byte_at b 2 ∷ byte_at b 3 ∷ byte_at b 4 ∷ byte_at b 5 ∷ byte_at b 6 ∷ byte_at b 7 ∷ []
