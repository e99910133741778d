-- Document 01's listing, from the input's bytes to the lines, by computing.
use mathlib.Core.Path.{◌≡◌, refl}
use Rattle.base.specs.Pick.{pick}
use Rattle.bits.specs.Digit.{digit, set_digit}
use Rattle.bits.specs.Payload.{digit_of, bit_at, set_bit, copied, differs}
use Rattle.clock.specs.Timer.{lowered}
use Rattle.records.specs.Ids.{plain_id, behind_id, same_id, is_before}
use Rattle.records.specs.Kinds.{form_of, length_of, eight_at, tx_at, rx_at, tx_record, rx_record, fields_at, tx_kind, rx_kind, kind_of}
use Rattle.records.specs.Nodes.{type_of, is_lin, same_entry}
use Rattle.records.specs.Records.{record_at, size_of, records_from, records_at, records}
use Rattle.plan.specs.Rows.{width_of, with_failure, claims_from, awaited, row_of, rows_from, rows_of, all_claims, tx_frames, tx_of, nodes_in, types_in, order_in}
use Rattle.plan.specs.Check.{good_with, check_plan}
use Rattle.facts.specs.PlanCases.{listing}
use Rattle.facts.proofs.PlanCases.{plan_cases_hold}
use Rattle.answers.specs.Answers.{refusal_number, received_number}
use Rattle.text.specs.Text.{glyph, decimal_in, decimal, hex_byte, each, spaced}
use Rattle.events.specs.Events.{front_of, event_length, whole_event, event_at, event_size, payload_at}
use Rattle.lines.specs.Lines.{word_line, numbers_line, plan_line, rx_line, tick_line, payload_text, spaced_id, frame_line, take_line, bad_line}
use Rattle.model.specs.Opening.{mapped, begun, open_answer}
use Rattle.model.specs.Scheduling.{is_in, joined, scheduled}
use Rattle.model.specs.Reception.{find, smaller, sent_if, put_by, put, restarted, accepted, found_answer, found_state, received_answer, received}
use Rattle.model.specs.Tick.{handled, tx_lowered, tx_turn, tx_turns, failed_by, failed, expired, timeout_of, rx_expiry, rx_lowered, rx_turn, rx_turns}
use Rattle.model.specs.Tick.{expiry_report, report_of, reported, ticked_state, tick_answer, ticked, tick_report}
use Rattle.model.specs.Take.{handed, framing_of, entry_answer, oldest_answer, oldest_payload, without_oldest, taken_answer, taken_payload, taken}
use Rattle.model.specs.Calls.{answer_of, next_of, answer_from, next_from, open_next, the_model, reply_of, world_after, replies}
use Rattle.listing.specs.Asked.{asked_by, asked_in, asked_from}
use Rattle.listing.specs.Output.{answer_line, line_of, lines_of, asked_of, text_of, front_text, model_output}
use Rattle.listing.specs.Listing.{ListingHolds}

is_good : check_plan listing ≡ good_with 1 1 1
is_good = plan_cases_hold.1.1.1.1.1.1.1.1.1.1.1.1.1.1.1.1.1.1.1.1.1.1.1.0

pub listing_holds : ListingHolds
unfolding pick digit set_digit digit_of bit_at set_bit copied differs lowered plain_id behind_id same_id is_before form_of length_of eight_at tx_at rx_at tx_record
    rx_record fields_at tx_kind rx_kind kind_of type_of is_lin same_entry
    record_at size_of records_from records_at records width_of with_failure claims_from awaited row_of rows_from rows_of all_claims tx_frames tx_of nodes_in types_in
    order_in mapped begun open_answer is_in joined scheduled handled tx_lowered tx_turn tx_turns failed_by failed expired timeout_of rx_expiry rx_lowered rx_turn
    rx_turns expiry_report report_of reported ticked_state tick_answer ticked tick_report handed framing_of entry_answer oldest_answer oldest_payload
    without_oldest taken_answer taken_payload taken find smaller sent_if put_by put restarted accepted found_answer found_state received_answer received
    answer_of next_of answer_from next_from open_next the_model reply_of world_after replies refusal_number received_number glyph decimal_in decimal hex_byte each
    spaced front_of event_length whole_event event_at event_size payload_at word_line numbers_line plan_line rx_line tick_line payload_text spaced_id frame_line take_line
    bad_line asked_by asked_in asked_from answer_line line_of lines_of asked_of text_of front_text model_output
listing_holds = rw is_good refl
