-- The cases of the decoder and the encoder, computed.
use mathlib.Core.Path.{refl}
use Rattle.base.specs.Pick.{pick}
use Rattle.records.specs.Ids.{behind_id}
use Rattle.records.specs.Kinds.{form_of, length_of, tx_kind, rx_kind, kind_of, eight_at, tx_at, rx_at, tx_record, rx_record, fields_at}
use Rattle.records.specs.Records.{record_at, size_of, records_from, records_at, records}
use Rattle.encoding.specs.Encode.{tx_begin, rx_begin, bytes_of}
use Rattle.encoding.specs.KindCases.{KindsHold}

pub kinds_hold : KindsHold
unfolding pick behind_id form_of length_of tx_kind rx_kind kind_of eight_at tx_at rx_at tx_record rx_record fields_at record_at size_of records_from records_at records tx_begin
    rx_begin bytes_of
kinds_hold =
    record {
      kinds = (
        record { differ = refl; fixed = refl; decoded = refl; encoded = refl; cut = refl },
        (
          record { differ = refl; fixed = refl; decoded = refl; encoded = refl; cut = refl },
          (
            record { differ = refl; fixed = refl; decoded = refl; encoded = refl; cut = refl },
            (
              record { differ = refl; fixed = refl; decoded = refl; encoded = refl; cut = refl },
              (
                record { differ = refl; fixed = refl; decoded = refl; encoded = refl; cut = refl },
                (
                  record { differ = refl; fixed = refl; decoded = refl; encoded = refl; cut = refl },
                  (
                    record { differ = refl; fixed = refl; decoded = refl; encoded = refl; cut = refl },
                    (record { differ = refl; fixed = refl; decoded = refl; encoded = refl; cut = refl }, tt),
                  ),
                ),
              ),
            ),
          ),
        ),
      );
      zero = refl;
      nine = refl;
      last = refl;
    }
