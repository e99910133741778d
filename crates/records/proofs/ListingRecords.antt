-- The plan of document 01's full listing, decoded by the definitions.
use mathlib.Core.Path.{◌≡◌, refl}
use mathlib.Core.List.{List, [], ◌∷◌}
use Prim.Native.Nat.{ℕ}
use Rattle.base.specs.Pick.{pick}
use Rattle.records.specs.declared.record.Id.TheVariants.{Standard}
use Rattle.records.specs.declared.record.Record.{Record}
use Rattle.records.specs.declared.record.Record.TheVariants.{Head, Node, Tx, Rx, Signal, Destination}
use Rattle.records.specs.Ids.{behind_id}
use Rattle.records.specs.Kinds.{eight_at, tx_at, rx_at, tx_record, rx_record, form_of, length_of, fields_at, tx_kind, rx_kind, kind_of}
use Rattle.records.specs.Records.{record_at, size_of, records_from, records_at, records}

abbrev pub listing : List ℕ
listing =
    1 ∷ 0
    ∷ 2 ∷ 0
    ∷ 3 ∷ 0 ∷ 1 ∷ 0 ∷ 2 ∷ 1 ∷ 3 ∷ 3 ∷ 2 ∷ 0 ∷ 0 ∷ 0 ∷ 0 ∷ 0 ∷ 0 ∷ 0 ∷ 0
    ∷ 4 ∷ 0 ∷ 0 ∷ 32 ∷ 1 ∷ 1 ∷ 2 ∷ 2 ∷ 1 ∷ 15 ∷ 2
    ∷ 5 ∷ 2 ∷ 4
    ∷ 6 ∷ 0 ∷ 0 ∷ 6
    ∷ []

abbrev pub listed : List Record
listed =
    Head 0
    ∷ Node (record { of = 0 })
    ∷ Tx (record {
      node = 0;
      id = Standard 256;
      size = 2;
      prescaler = 1;
      reload = 3;
      initial = 3;
      flags = 2;
      payload = 0 ∷ 0 ∷ 0 ∷ 0 ∷ 0 ∷ 0 ∷ 0 ∷ 0 ∷ [];
    })
    ∷ Rx (record { node = 0; id = Standard 32; size = 1; prescaler = 1; reload = 2; initial = 2; enable = 1; position = 15; long = 2 })
    ∷ Signal (record { position = 2; size = 4 })
    ∷ Destination (record { tx = record { 0 = 0 }; position = 6 })
    ∷ []

pub listing-records : records listing ≡ listed
unfolding eight_at tx_at rx_at behind_id tx_record rx_record form_of length_of fields_at tx_kind rx_kind kind_of record_at size_of records_from records_at records pick
listing-records = refl
