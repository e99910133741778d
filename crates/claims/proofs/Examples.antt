-- The claims of the examples, computed.
use mathlib.Core.Path.{◌≡◌, refl}
use Rattle.base.specs.Pick.{pick}
use Rattle.base.specs.Numbers.{at_most}
use Rattle.bits.specs.Digit.{digit, set_digit}
use Rattle.bits.specs.Owners.{owned, clash}
use Rattle.records.specs.Ids.{behind_id, key_of}
use Rattle.records.specs.Kinds.{form_of, length_of, eight_at, tx_at, rx_at, tx_record, rx_record, fields_at, tx_kind, rx_kind, kind_of, stage_of_kind, stage_of}
use Rattle.records.specs.Records.{record_at, size_of, records_from, records_at, records}
use Rattle.records.specs.Nodes.{type_of}
use Rattle.plan.specs.Progress.{row_key, counted, row_after, after, start}
use Rattle.plan.specs.Tests.{followed, is_kind, is_whole, may_stand, can_first, has_room, is_prescaler, zero_past, id_in_range, tx_in_range}
use Rattle.plan.specs.Tests.{rx_in_range, in_range, is_lin_id, frame_fits, fits_node, rises, in_data, is_free, indicator_in_data, indicator_is_free}
use Rattle.plan.specs.Check.{good_with, need, placed, judged, sizes_after, sets_after, ended, verdict_of, check_on, check_plan}
use Rattle.plan.specs.Rows.{with_failure, claims_from, awaited, row_of, rows_from, rows_of, all_claims, claims_of, tx_frames, tx_of, nodes_in, types_in, order_in}
use Rattle.facts.specs.Good.{sizes_of}
use Rattle.claims.specs.Examples.{several, numbered, Written}
use Rattle.claims.proofs.Said.{good_said}

good : check_plan several ≡ good_with 2 3 3
unfolding pick at_most digit set_digit owned clash behind_id key_of form_of length_of eight_at tx_at rx_at tx_record rx_record fields_at record_at tx_kind rx_kind kind_of
    stage_of_kind stage_of size_of records_from records_at records row_key counted row_after after start followed is_kind is_whole may_stand can_first has_room is_prescaler
    zero_past id_in_range tx_in_range rx_in_range in_range is_lin_id frame_fits fits_node rises in_data is_free indicator_in_data indicator_is_free need placed judged
    sizes_after sets_after ended verdict_of check_on check_plan
good = refl

pub written : Written
unfolding pick behind_id form_of length_of eight_at tx_at rx_at tx_record rx_record fields_at record_at tx_kind rx_kind kind_of stage_of_kind stage_of size_of records_from
    records_at records with_failure claims_from awaited row_of rows_from rows_of all_claims claims_of tx_frames tx_of nodes_in types_in type_of order_in sizes_of numbered
written =
    record {
      document = refl;
      good = good;
      order = refl;
      nodes = refl;
      types = refl;
      frames = refl;
      rows = refl;
      claims = refl;
      said = good_said several 2 3 3 good;
    }
