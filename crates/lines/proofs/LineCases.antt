-- Numbers as text; document 01's full listing: its thirteen lines from their answers, and its events from the input's bytes; and the lines and
-- events that the listing has not.
use mathlib.Core.Path.{◌≡◌, refl, sym, ap, ◌∙◌}
use mathlib.Core.List.{List, [], ◌∷◌, ◌++◌}
use Prim.Native.Nat.{ℕ, zero, suc, ◌/◌, ◌%◌, ◌^◌, ◌<◌}
use native.Mathlib.Omega.{arith}
use native.Mathlib.Nat.{pow-suc}
use lib.Dec.{ltb}
use borrow.Author.Tests.{lt-ltb, ltb-true, ltb-false}
use Rattle.std.specs.Prelude.{Some, None, Ok, Err}
use Rattle.base.specs.Pick.{pick}
use Rattle.base.proofs.Picks.{picks, cases}
use Rattle.plan.specs.Refusals.{number_of}
use Rattle.plan.specs.declared.verdict.Reason.TheVariants.{Indicator}
use Rattle.records.specs.declared.record.Id.{Id}
use Rattle.records.specs.declared.record.Id.TheVariants.{Standard, Extended}
use Rattle.records.proofs.ListingRecords.{listing}
use Rattle.answers.specs.declared.Refusal.TheVariants.{Plan, NotOpen, NoNode, LongPayload, WrongCall}
use Rattle.answers.specs.declared.Received.TheVariants as received
use Rattle.answers.specs.declared.Responded.TheVariants as responded
use Rattle.answers.specs.declared.Timeout.TheVariants as silence
use Rattle.answers.specs.declared.Framing.TheVariants.{Can, Lin}
use Rattle.answers.specs.declared.Taken.TheVariants as taken
use Rattle.answers.specs.Answers.{refusal_number, received_number, responded_number, silence_number}
use Rattle.events.specs.declared.Event.TheVariants.{Reception, Tick, Take, Response, NoResponse, Bad}
use Rattle.text.specs.Text.{ascii, glyph, decimal_in, decimal, hex_byte, each, spaced}
use Rattle.text.proofs.TextLaws.{decimal_one, decimal_more}
use Rattle.lines.specs.Lines.{word_line, numbers_line, plan_line, rx_line, response_line, silence_line, tick_line, payload_text, spaced_id, frame_line, request_line}
use Rattle.lines.specs.Lines.{take_line, bad_line}
use Rattle.events.specs.Events.{front_of, event_length, whole_event, event_at, payload_at}

-- numbers
pub number_cases : (decimal 0 ≡ ascii "0") × (decimal 7 ≡ ascii "7") × (decimal 10 ≡ ascii "10") × (decimal 256 ≡ ascii "256") × (decimal 65535 ≡ ascii "65535")
unfolding decimal decimal_in glyph pick
number_cases = (refl, refl, refl, refl, refl)

-- the digits of a large number, which are too many turns for the bound in the definition of `decimal`
shown_in : (k n : ℕ) → n < 10 ^ suc k → decimal n ≡ decimal_in (suc k) n
unfolding decimal_in
shown_in zero n h = decimal_one n (omega arith) ∙ sym (picks _ _ _ (lt-ltb n 10 (omega arith)))
shown_in (suc k) n h =
    cases (λ (ds : List ℕ). decimal n ≡ ds) (ltb n 10) _ _
    (λ t. decimal_one n (ltb-true n 10 t))
    (λ t. decimal_more n (ltb-false n 10 t)
    ∙ ap (λ (ds : List ℕ). ds ++ (glyph (n % 10) ∷ [])) (shown_in k (n / 10) (omega (arith, pow-suc 10 (suc k)))))

shown : (n : ℕ) → n < 1000000000 → decimal n ≡ decimal_in 9 n
shown n h = shown_in 8 n h

pub hex_cases : (hex_byte 0x2c ≡ ascii "2c") × (hex_byte 0x00 ≡ ascii "00") × (hex_byte 0xf9 ≡ ascii "f9")
unfolding hex_byte glyph pick
hex_cases = (refl, refl, refl)

-- the listing, line by line
abbrev frame : ℕ → List ℕ
frame low = take_line (Ok (Some (taken.Frame (record { tx = record { 0 = 0 }; id = Standard 256; size = 2; waiting = 0; framing = Can })))) (0x02 ∷ low ∷ [])

pub listing_lines :
    plan_line (Ok (record { nodes = 1; tx = 1; rx = 1 }))
    ∷ take_line (Ok None) []
    ∷ rx_line (Ok received.Accepted)
    ∷ frame 0xc0
    ∷ tick_line (Ok tt) (0 ∷ [])
    ∷ tick_line (Ok tt) (1 ∷ [])
    ∷ tick_line (Ok tt) (0 ∷ [])
    ∷ frame 0xc1
    ∷ tick_line (Ok tt) (2 ∷ [])
    ∷ rx_line (Ok received.Accepted)
    ∷ take_line (Ok None) []
    ∷ rx_line (Ok (received.NoRow 1))
    ∷ rx_line (Ok received.TooShort)
    ∷ []
    ≡ ascii "plan ok 1 1 1\n"
    ∷ ascii "take none\n"
    ∷ ascii "rx 0\n"
    ∷ ascii "take 0 256 2 02c0 0\n"
    ∷ ascii "tick 0\n"
    ∷ ascii "tick 1\n"
    ∷ ascii "tick 0\n"
    ∷ ascii "take 0 256 2 02c1 0\n"
    ∷ ascii "tick 2\n"
    ∷ ascii "rx 0\n"
    ∷ ascii "take none\n"
    ∷ ascii "rx 1 1\n"
    ∷ ascii "rx 2\n"
    ∷ []
unfolding plan_line rx_line tick_line take_line frame_line payload_text word_line numbers_line received_number each spaced spaced_id decimal decimal_in hex_byte glyph
    pick
listing_lines = refl

-- the lines that the listing has not: other places of a frame without a row, refusals, an empty report, more than one report byte, a frame of
-- size 0, bad input
pub other_lines :
    plan_line (Err (record { why = Plan Indicator; record_number = 12 }))
    ∷ rx_line (Ok (received.NoRow 0))
    ∷ rx_line (Ok (received.NoRow 256))
    ∷ rx_line (Err LongPayload)
    ∷ tick_line (Err NotOpen) []
    ∷ take_line (Err NoNode) []
    ∷ tick_line (Ok tt) []
    ∷ tick_line (Ok tt) (0 ∷ 2 ∷ 1 ∷ [])
    ∷ take_line (Ok (Some (taken.Frame (record { tx = record { 0 = 255 }; id = Standard 2047; size = 0; waiting = 3; framing = Can })))) []
    ∷ bad_line
    ∷ []
    ≡ ascii "plan refused 9 12\n"
    ∷ ascii "rx 1 0\n"
    ∷ ascii "rx 1 256\n"
    ∷ ascii "rx refused 13\n"
    ∷ ascii "tick refused 11\n"
    ∷ ascii "take refused 12\n"
    ∷ ascii "tick\n"
    ∷ ascii "tick 0 2 1\n"
    ∷ ascii "take 255 2047 0 - 3\n"
    ∷ ascii "input bad\n"
    ∷ []
unfolding plan_line rx_line tick_line take_line frame_line payload_text bad_line word_line numbers_line refusal_number number_of received_number each spaced
    spaced_id decimal decimal_in glyph pick
other_lines = refl

-- the lines of a LIN node (document 02, Ticket 2)
pub lin_lines :
    response_line (Ok responded.Accepted)
    ∷ response_line (Ok responded.TooShort)
    ∷ response_line (Ok responded.WrongSum)
    ∷ response_line (Err WrongCall)
    ∷ silence_line (Ok silence.Short)
    ∷ silence_line (Ok silence.Long)
    ∷ silence_line (Err NoNode)
    ∷ rx_line (Err WrongCall)
    ∷ take_line (Ok (Some (taken.Request (record { rx = record { 0 = 7 }; id = Standard 59; size = 8; waiting = 2; protected = 0xfb })))) []
    ∷ take_line (Ok (Some (taken.Frame (record { tx = record { 0 = 1 }; id = Standard 2; size = 1; waiting = 0; framing = Lin 0x42 0xab })))) (0x12 ∷ [])
    ∷ []
    ≡ ascii "rx 0\n"
    ∷ ascii "rx 2\n"
    ∷ ascii "rx 3\n"
    ∷ ascii "rx refused 16\n"
    ∷ ascii "silent 1\n"
    ∷ ascii "silent 2\n"
    ∷ ascii "silent refused 12\n"
    ∷ ascii "rx refused 16\n"
    ∷ ascii "take request 7 59 8 2\n"
    ∷ ascii "take 1 2 1 12 0\n"
    ∷ []
unfolding rx_line response_line silence_line take_line frame_line request_line payload_text numbers_line refusal_number responded_number silence_number each spaced
    spaced_id decimal decimal_in hex_byte glyph pick
lin_lines = refl

-- frames with a 29-bit ID (document 02, Ticket 6): one with data and one without, the same number in both formats, the largest number
abbrev empty : Id → List ℕ
empty id = take_line (Ok (Some (taken.Frame (record { tx = record { 0 = 0 }; id = id; size = 0; waiting = 0; framing = Can })))) []

abbrev full : Id → List ℕ
full id =
    take_line (Ok (Some (taken.Frame (record { tx = record { 0 = 0 }; id = id; size = 8; waiting = 0; framing = Can }))))
    (0xff ∷ 0xff ∷ 0xff ∷ 0x68 ∷ 0x13 ∷ 0xff ∷ 0xff ∷ 0x00 ∷ [])

pub extended_lines :
    full (Extended 167248128)
    ∷ empty (Standard 32)
    ∷ empty (Extended 32)
    ∷ empty (Extended 0)
    ∷ empty (Extended 536870911)
    ∷ []
    ≡ ascii "take 0 e167248128 8 ffffff6813ffff00 0\n"
    ∷ ascii "take 0 32 0 - 0\n"
    ∷ ascii "take 0 e32 0 - 0\n"
    ∷ ascii "take 0 e0 0 - 0\n"
    ∷ ascii "take 0 e536870911 0 - 0\n"
    ∷ []
unfolding take_line frame_line payload_text each spaced spaced_id decimal_in hex_byte glyph pick
extended_lines = rw (shown 0 (omega arith), shown 8 (omega arith), shown 32 (omega arith), shown 167248128 (omega arith), shown 536870911 (omega arith))

-- the listing's input: the plan's length, the plan, the events
abbrev reception : ℕ → ℕ → ℕ → List ℕ
reception id size byte = 16 ∷ 0 ∷ 0 ∷ id ∷ size ∷ byte ∷ 0 ∷ 0 ∷ 0 ∷ 0 ∷ 0 ∷ 0 ∷ 0 ∷ []

abbrev input : List ℕ
input =
    (0 ∷ 39 ∷ listing) ++ (18 ∷ 0 ∷ []) ++ reception 0x20 1 0x2c ++ (18 ∷ 0 ∷ 17 ∷ 17 ∷ 17 ∷ 18 ∷ 0 ∷ 17 ∷ []) ++ reception 0x20 1 0x2c ++ (18 ∷ 0 ∷ [])
    ++ reception 0x21 1 0x2c ++ reception 0x20 0 0

pub listing_front : front_of input ≡ Some 41
unfolding front_of pick
listing_front = refl

pub listing_events :
    event_at input 41
    ∷ event_at input 43
    ∷ event_at input 56
    ∷ event_at input 58
    ∷ event_at input 59
    ∷ event_at input 60
    ∷ event_at input 61
    ∷ event_at input 63
    ∷ event_at input 64
    ∷ event_at input 77
    ∷ event_at input 79
    ∷ event_at input 92
    ∷ event_at input 105
    ∷ []
    ≡ Some (Take 0)
    ∷ Some (Reception 0 (Standard 0x20) 1)
    ∷ Some (Take 0)
    ∷ Some Tick
    ∷ Some Tick
    ∷ Some Tick
    ∷ Some (Take 0)
    ∷ Some Tick
    ∷ Some (Reception 0 (Standard 0x20) 1)
    ∷ Some (Take 0)
    ∷ Some (Reception 0 (Standard 0x21) 1)
    ∷ Some (Reception 0 (Standard 0x20) 0)
    ∷ None
    ∷ []
unfolding event_at whole_event event_length pick
listing_events = refl

pub listing_payloads : payload_at input 47 ∷ payload_at input 96 ∷ [] ≡ (0x2c ∷ []) ∷ [] ∷ []
unfolding payload_at pick
listing_payloads = refl

-- the events of a LIN node, one behind the other, and the payload of the first
abbrev lin_input : List ℕ
lin_input = (20 ∷ 3 ∷ 0 ∷ 59 ∷ 2 ∷ 0xa1 ∷ 0xb2 ∷ 0 ∷ 0 ∷ 0 ∷ 0 ∷ 0 ∷ 0 ∷ 0x6d ∷ []) ++ (21 ∷ 4 ∷ 1 ∷ 2 ∷ [])

pub lin_events : event_at lin_input 0 ∷ event_at lin_input 14 ∷ event_at lin_input 18 ∷ [] ≡ Some (Response 3 59 2 0x6d) ∷ Some (NoResponse 4 258) ∷ None ∷ []
unfolding event_at whole_event event_length pick
lin_events = refl

pub lin_payload : payload_at lin_input 4 ≡ 0xa1 ∷ 0xb2 ∷ []
unfolding payload_at pick
lin_payload = refl

-- receptions with a four-byte ID, the high byte first, one behind the other and an 11-bit one behind them; and the payloads of all three
abbrev extended : ℕ → ℕ → ℕ → ℕ → ℕ → ℕ → List ℕ
extended a b c d size byte = 19 ∷ 1 ∷ a ∷ b ∷ c ∷ d ∷ size ∷ byte ∷ 0 ∷ 0 ∷ 0 ∷ 0 ∷ 0 ∷ 0 ∷ 0 ∷ []

abbrev extended_input : List ℕ
extended_input = extended 0x09 0xf8 0x01 0x00 1 0x68 ++ extended 0 0 0 0x20 0 0 ++ reception 0x20 1 0x2c ++ extended 0xff 0xff 0xff 0xff 9 0

pub extended_events :
    event_at extended_input 0
    ∷ event_at extended_input 15
    ∷ event_at extended_input 30
    ∷ event_at extended_input 43
    ∷ event_at extended_input 58
    ∷ []
    ≡ Some (Reception 1 (Extended 167248128) 1)
    ∷ Some (Reception 1 (Extended 0x20) 0)
    ∷ Some (Reception 0 (Standard 0x20) 1)
    ∷ Some (Reception 1 (Extended 4294967295) 9)
    ∷ None
    ∷ []
unfolding event_at whole_event event_length pick
extended_events = refl

pub extended_payloads :
    payload_at extended_input 6
    ∷ payload_at extended_input 21
    ∷ payload_at extended_input 34
    ∷ payload_at extended_input 49
    ∷ []
    ≡ (0x68 ∷ [])
    ∷ []
    ∷ (0x2c ∷ [])
    ∷ (0 ∷ 0 ∷ 0 ∷ 0 ∷ 0 ∷ 0 ∷ 0 ∷ 0 ∷ 0 ∷ [])
    ∷ []
unfolding payload_at pick
extended_payloads = refl

-- a payload of nine bytes, events that are cut or unknown, and input that is too short
pub bad_cases :
    (payload_at (reception 0 9 1) 4 ≡ 0 ∷ 0 ∷ 0 ∷ 0 ∷ 0 ∷ 0 ∷ 0 ∷ 0 ∷ 0 ∷ [])
    × (event_at (16 ∷ 0 ∷ []) 0 ≡ Some Bad)
    × (event_at (18 ∷ []) 0 ≡ Some Bad)
    × (event_at (19 ∷ 0 ∷ 0 ∷ 0 ∷ 0 ∷ 0 ∷ 0 ∷ 0 ∷ 0 ∷ 0 ∷ 0 ∷ 0 ∷ 0 ∷ 0 ∷ []) 0 ≡ Some Bad)
    × (payload_at (20 ∷ 0 ∷ 0 ∷ 0 ∷ 255 ∷ 1 ∷ 0 ∷ 0 ∷ 0 ∷ 0 ∷ 0 ∷ 0 ∷ 0 ∷ 0 ∷ []) 4 ≡ 0 ∷ 0 ∷ 0 ∷ 0 ∷ 0 ∷ 0 ∷ 0 ∷ 0 ∷ 0 ∷ [])
    × (event_at (20 ∷ 0 ∷ 0 ∷ 0 ∷ 0 ∷ 0 ∷ 0 ∷ 0 ∷ 0 ∷ 0 ∷ 0 ∷ 0 ∷ 0 ∷ []) 0 ≡ Some Bad)
    × (event_at (21 ∷ 0 ∷ 0 ∷ []) 0 ≡ Some Bad)
    × (event_at (22 ∷ 0 ∷ 0 ∷ []) 0 ≡ Some Bad)
    × (front_of (0 ∷ []) ≡ None)
    × (front_of (0 ∷ 2 ∷ 1 ∷ []) ≡ None)
unfolding payload_at event_at whole_event event_length front_of pick
bad_cases = (refl, refl, refl, refl, refl, refl, refl, refl, refl, refl)
