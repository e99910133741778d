-- Document 01's listing, and the cases of Tickets 1, 2 and 6, by computing.
use mathlib.Core.Path.{◌≡◌, refl}
use Rattle.base.specs.Pick.{pick}
use Rattle.bits.specs.Digit.{digit, set_digit}
use Rattle.bits.specs.Payload.{digit_of, bit_at, set_bit, copied, differs}
use Rattle.clock.specs.Timer.{lowered}
use Rattle.lin.specs.Identifier.{exclusive_or, protected_of}
use Rattle.lin.specs.Checksum.{carried, folded_from, folded, inverted, checksum_of}
use Rattle.records.specs.Ids.{plain_id, behind_id, same_id, is_before}
use Rattle.records.specs.Kinds.{form_of, length_of, eight_at, tx_at, rx_at, tx_record, rx_record, fields_at, tx_kind, rx_kind, kind_of}
use Rattle.records.specs.Records.{record_at, size_of, records_from, records_at, records}
use Rattle.records.specs.Nodes.{type_of, is_lin, same_entry}
use Rattle.plan.specs.Rows.{width_of, with_failure, claims_from, awaited, row_of, rows_from, rows_of, all_claims, tx_frames, tx_of, nodes_in, types_in}
use Rattle.plan.specs.Rows.{order_in}
use Rattle.plan.specs.Check.{good_with, check_plan}
use Rattle.facts.specs.PlanCases.{listing, pumps, bridge, plan_cases}
use Rattle.facts.proofs.PlanCases.{plan_cases_hold, nth}
use Rattle.model.specs.Opening.{mapped, begun, open_answer}
use Rattle.model.specs.Scheduling.{is_in, joined, scheduled, asked, requested}
use Rattle.model.specs.Reception.{find, smaller, sent_if, put_by, put, restarted, accepted, found_answer, found_state, received_answer, received}
use Rattle.model.specs.Response as lin
use Rattle.model.specs.Response.{polled, is_sum, row_answer, row_state, polled_answer, polled_state, responded_answer, responded}
use Rattle.model.specs.Response.{silence_of, silenced_by, silent_answer, silent}
use Rattle.model.specs.Tick.{handled, tx_lowered, tx_turn, tx_turns, failed_by, failed, expired, rx_lowered, rx_turn}
use Rattle.model.specs.Tick.{timeout_of, rx_expiry, rx_turns, expiry_report, report_of, reported, ticked_state, tick_answer, ticked, tick_report}
use Rattle.model.specs.Take.{handed, framing_of, entry_answer, oldest_answer, oldest_payload, without_oldest, taken_answer, taken_payload, taken}
use Rattle.model.specs.Calls.{answer_of, next_of, answer_from, next_from, open_next, the_model, reply_of, world_after, replies}
use Rattle.model.specs.Listing.{ListingAnswered}
use Rattle.model.specs.ShortGaps.{GapsAnswered}
use Rattle.model.specs.Polling.{PollingAnswered}
use Rattle.model.specs.Bridge.{BridgeAnswered}

is_good : check_plan listing ≡ good_with 1 1 1
is_good = nth 23 plan_cases plan_cases_hold

pumps_good : check_plan pumps ≡ good_with 2 2 1
pumps_good = nth 24 plan_cases plan_cases_hold

bridge_good : check_plan bridge ≡ good_with 1 1 2
bridge_good = nth 58 plan_cases plan_cases_hold

all : ListingAnswered × GapsAnswered × PollingAnswered × BridgeAnswered
unfolding pick digit set_digit digit_of bit_at set_bit copied differs lowered plain_id behind_id same_id is_before form_of length_of eight_at tx_at rx_at tx_record
    rx_record fields_at tx_kind rx_kind kind_of record_at size_of
    records_from records_at records width_of with_failure claims_from awaited row_of rows_from rows_of all_claims tx_frames tx_of nodes_in types_in order_in mapped
    type_of is_lin same_entry timeout_of rx_expiry expiry_report handed framing_of entry_answer exclusive_or protected_of carried folded_from folded inverted
    checksum_of asked requested polled is_sum lin.accepted row_answer row_state polled_answer polled_state responded_answer responded silence_of silenced_by
    silent_answer silent
    begun open_answer is_in joined scheduled handled tx_lowered tx_turn tx_turns failed_by failed expired rx_lowered rx_turn rx_turns report_of reported
    ticked_state tick_answer ticked tick_report oldest_answer oldest_payload without_oldest taken_answer taken_payload taken find smaller sent_if put_by put
    restarted accepted found_answer found_state received_answer received answer_of next_of answer_from next_from open_next the_model reply_of world_after replies
all = (rw is_good refl, rw is_good refl, rw pumps_good refl, rw bridge_good refl)

pub listing_answered : ListingAnswered
listing_answered = all.0

pub gaps_answered : GapsAnswered
gaps_answered = all.1

pub polling_answered : PollingAnswered
polling_answered = all.2

pub bridge_answered : BridgeAnswered
bridge_answered = all.3
