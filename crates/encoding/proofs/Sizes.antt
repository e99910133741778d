-- The sizes of records, of the readers and of the encoder.
use mathlib.Core.Path.{◌≡◌, refl}
use mathlib.Core.List.{List, ◌++◌}
use Prim.Native.Nat.{ℕ, ◌<◌}
use native.Mathlib.Omega.{arith}
use lib.ListN.{length}
use Rattle.base.specs.Pick.{pick}
use Rattle.base.specs.Numbers.{byte_at}
use Rattle.records.specs.declared.record.Id.{Id}
use Rattle.records.specs.declared.record.Id.TheVariants.{Standard, Extended}
use Rattle.records.specs.declared.record.Record.{Record}
use Rattle.records.specs.declared.record.Record.TheVariants.{Head, Node, Tx, Rx, Signal, Destination, Broken}
use Rattle.records.specs.Kinds.{form_of, length_of, tx_kind, rx_kind, kind_of}
use Rattle.records.specs.Records.{size_of}
use Rattle.encoding.specs.Encode.{tx_begin, rx_begin, bytes_of, Whole, SizesAgree}

-- a frame's bytes are those up to its ID, and then a fixed number
module _ (node : ℕ) (ys : List ℕ) where
  tx_sized : (id : Id) → length ys ≡ 13 → (length (tx_begin node id ++ ys) ≡ length_of (tx_kind id)) × (byte_at (tx_begin node id ++ ys) 0 ≡ tx_kind id)
  unfolding tx_begin tx_kind length_of form_of pick
  tx_sized (Standard n) e = (omega arith, refl)
  tx_sized (Extended n) e = (omega arith, refl)

  rx_sized : (id : Id) → length ys ≡ 7 → (length (rx_begin node id ++ ys) ≡ length_of (rx_kind id)) × (byte_at (rx_begin node id ++ ys) 0 ≡ rx_kind id)
  unfolding rx_begin rx_kind length_of form_of pick
  rx_sized (Standard n) e = (omega arith, refl)
  rx_sized (Extended n) e = (omega arith, refl)

pub sizes_agree : SizesAgree
unfolding Whole size_of kind_of length_of form_of bytes_of pick
sizes_agree (Head order) w = record { bytes = refl; kind = refl; fixed = refl }
sizes_agree (Node body) w = record { bytes = refl; kind = refl; fixed = refl }
sizes_agree (Tx x) w = let z = tx_sized x.node _ x.id refl in record { bytes = z.0; kind = z.1; fixed = refl }
sizes_agree (Rx x) w = let z = rx_sized x.node _ x.id refl in record { bytes = z.0; kind = z.1; fixed = refl }
sizes_agree (Signal body) w = record { bytes = refl; kind = refl; fixed = refl }
sizes_agree (Destination body) w = record { bytes = refl; kind = refl; fixed = refl }
sizes_agree (Broken fault) w = absurd w

tx_some : (id : Id) → 0 < length_of (tx_kind id)
unfolding tx_kind length_of form_of pick
tx_some (Standard n) = omega arith
tx_some (Extended n) = omega arith

rx_some : (id : Id) → 0 < length_of (rx_kind id)
unfolding rx_kind length_of form_of pick
rx_some (Standard n) = omega arith
rx_some (Extended n) = omega arith

pub some_bytes : (r : Record) → Whole r → 0 < size_of r
unfolding Whole size_of kind_of length_of form_of pick
some_bytes (Head order) w = omega arith
some_bytes (Node body) w = omega arith
some_bytes (Tx x) w = tx_some x.id
some_bytes (Rx x) w = rx_some x.id
some_bytes (Signal body) w = omega arith
some_bytes (Destination body) w = omega arith
some_bytes (Broken fault) w = absurd w
