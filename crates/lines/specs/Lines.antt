-- The bench program's lines, each of them ending in one line feed.
use Rattle.std.specs.Prelude.{ℕ, List, [], ◌∷◌, ◌++◌, eqb, Option, Some, None, Result, Ok, Err}
use Rattle.base.specs.Pick.{pick}
use Rattle.records.specs.declared.record.Id.{Id}
use Rattle.records.specs.declared.record.Id.TheVariants.{Standard, Extended}
use Rattle.answers.specs.declared.Refusal.{Refusal}
use Rattle.plan.specs.declared.verdict.PlanCounts.{PlanCounts}
use Rattle.answers.specs.declared.RefusedPlan.{RefusedPlan}
use Rattle.answers.specs.declared.Received.{Received}
use Rattle.answers.specs.declared.Received.TheVariants as received
use Rattle.answers.specs.declared.Responded.{Responded}
use Rattle.answers.specs.declared.Responded.TheVariants as responded
use Rattle.answers.specs.declared.Timeout.{Timeout}
use Rattle.answers.specs.declared.Timeout.TheVariants as silence
use Rattle.answers.specs.declared.TakenFrame.{TakenFrame}
use Rattle.answers.specs.declared.TakenRequest.{TakenRequest}
use Rattle.answers.specs.declared.Taken.{Taken}
use Rattle.answers.specs.declared.Taken.TheVariants as taken
use Rattle.answers.specs.Answers.{refusal_number, received_number, responded_number, silence_number}
use Rattle.text.specs.Text.{ascii, decimal, each, hex, spaced}

-- a word alone; a word and numbers; "A refused event prints its word, `refused` and the number."
unfoldable pub word_line : List ℕ → List ℕ
word_line word = word ++ ascii "\n"

unfoldable pub numbers_line : List ℕ → List ℕ → List ℕ
numbers_line word numbers = word ++ each spaced numbers ++ ascii "\n"

abbrev pub refused_line : List ℕ → Refusal → List ℕ
refused_line word why = numbers_line (word ++ ascii " refused") (refusal_number why ∷ [])

-- "The first line is `plan ok NODES TX RX` or `plan refused NO RECORD`"
unfoldable pub plan_line : Result PlanCounts RefusedPlan → List ℕ
plan_line (Ok counts) = numbers_line (ascii "plan ok") (counts.nodes ∷ counts.tx ∷ counts.rx ∷ [])
plan_line (Err refused) = numbers_line (ascii "plan refused") (refusal_number refused.why ∷ refused.record_number ∷ [])

-- "`rx ANSWER`"; "the bench prints `rx 1 PLACE`" (document 02, Ticket 4)
unfoldable pub rx_line : Result Received Refusal → List ℕ
rx_line (Ok received.Accepted) = numbers_line (ascii "rx") (received_number (Ok received.Accepted) ∷ [])
rx_line (Ok (received.NoRow place)) = numbers_line (ascii "rx") (received_number (Ok (received.NoRow place)) ∷ place ∷ [])
rx_line (Ok received.TooShort) = numbers_line (ascii "rx") (received_number (Ok received.TooShort) ∷ [])
rx_line (Err why) = refused_line (ascii "rx") why

-- of a response on LIN, "`rx ANSWER`" alike: it has a row, or is refused (document 02, Ticket 2)
unfoldable pub response_line : Result Responded Refusal → List ℕ
response_line (Ok responded.Accepted) = numbers_line (ascii "rx") (responded_number (Ok responded.Accepted) ∷ [])
response_line (Ok responded.TooShort) = numbers_line (ascii "rx") (responded_number (Ok responded.TooShort) ∷ [])
response_line (Ok responded.WrongSum) = numbers_line (ascii "rx") (responded_number (Ok responded.WrongSum) ∷ [])
response_line (Err why) = refused_line (ascii "rx") why

-- of "no response", `silent` and what it "answers 1 or 2 as the report would" (document 02, Ticket 2)
unfoldable pub silence_line : Result Timeout Refusal → List ℕ
silence_line (Ok silence.Short) = numbers_line (ascii "silent") (silence_number (Ok silence.Short) ∷ [])
silence_line (Ok silence.Long) = numbers_line (ascii "silent") (silence_number (Ok silence.Long) ∷ [])
silence_line (Err why) = refused_line (ascii "silent") why

-- "`tick` and the report bytes in decimal, single spaces between"
unfoldable pub tick_line : Result (Unit {0}) Refusal → List ℕ → List ℕ
tick_line (Ok done) report = numbers_line (ascii "tick") report
tick_line (Err why) report = refused_line (ascii "tick") why

-- "payload lower-case hex, `-` for size 0"
unfoldable pub payload_text : ℕ → List ℕ → List ℕ
payload_text size payload = pick (eqb size 0) (ascii "-") (hex payload)

-- a space and an ID: "the bench puts `e` before such an ID" (document 02, Ticket 6), which has 29 bits
unfoldable pub spaced_id : Id → List ℕ
spaced_id (Standard n) = spaced n
spaced_id (Extended n) = ascii " e" ++ decimal n

-- "`take none` or `take TX ID SIZE PAYLOAD WAITING`"; "`take request RX ID SIZE WAITING`" (document 02, Ticket 2). The protected identifier and the
-- checksum are part of the answer and not of the line.
unfoldable pub frame_line : TakenFrame → List ℕ → List ℕ
frame_line f payload =
    ascii "take" ++ spaced f.tx.0 ++ spaced_id f.id ++ spaced f.size ++ ascii " " ++ payload_text f.size payload ++ spaced f.waiting
    ++ ascii "\n"

unfoldable pub request_line : TakenRequest → List ℕ
request_line q = ascii "take request" ++ spaced q.rx.0 ++ spaced_id q.id ++ each spaced (q.size ∷ q.waiting ∷ []) ++ ascii "\n"

unfoldable pub take_line : Result (Option Taken) Refusal → List ℕ → List ℕ
take_line (Ok None) payload = word_line (ascii "take none")
take_line (Ok (Some (taken.Frame frame))) payload = frame_line frame payload
take_line (Ok (Some (taken.Request request))) payload = request_line request
take_line (Err why) payload = refused_line (ascii "take") why

-- "A cut or unknown event record prints `input bad`"
unfoldable pub bad_line : List ℕ
bad_line = word_line (ascii "input bad")
