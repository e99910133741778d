-- The numbers that document 01 gives to refusals and to a reception's answers, and document 02, Ticket 2, to those of LIN.
use Rattle.std.specs.Prelude.{◌≡◌, ℕ, Ok, Err}
use Rattle.plan.specs.declared.verdict.Reason.TheVariants.{Short, Kind, Place, Count, Range, Order, Data, Owner, Indicator}
use Rattle.answers.specs.declared.Refusal.{Refusal}
use Rattle.answers.specs.declared.Refusal.TheVariants.{Plan, ShortArea, NotOpen, NoNode, LongPayload, ShortReport, NoFrame, WrongCall}
use Rattle.answers.specs.declared.Received.TheVariants.{Accepted, NoRow, TooShort}
use Rattle.answers.specs.declared.Responded.TheVariants as OfResponse
use Rattle.answers.specs.declared.Timeout.TheVariants as OfSilence
use Rattle.answers.specs.Answers.{refusal_number, received_number, responded_number, silence_number}

pub record Numbers : Type 0 where
  pub one : refusal_number (Plan Short) ≡ 1
  pub two : refusal_number (Plan Kind) ≡ 2
  pub three : refusal_number (Plan Place) ≡ 3
  pub four : refusal_number (Plan Count) ≡ 4
  pub five : refusal_number (Plan Range) ≡ 5
  pub six : refusal_number (Plan Order) ≡ 6
  pub seven : refusal_number (Plan Data) ≡ 7
  pub eight : refusal_number (Plan Owner) ≡ 8
  pub nine : refusal_number (Plan Indicator) ≡ 9
  pub ten : refusal_number ShortArea ≡ 10
  pub eleven : refusal_number NotOpen ≡ 11
  pub twelve : refusal_number NoNode ≡ 12
  pub thirteen : refusal_number LongPayload ≡ 13
  pub fourteen : refusal_number ShortReport ≡ 14
  pub fifteen : refusal_number NoFrame ≡ 15
  pub sixteen : refusal_number WrongCall ≡ 16
  -- "answer 0", "answer 1", "answer 2"; a refused reception has its refusal's number
  pub accepted : received_number (Ok Accepted) ≡ 0
  pub no_row : (place : ℕ) → received_number (Ok (NoRow place)) ≡ 1
  pub too_short : received_number (Ok TooShort) ≡ 2
  pub refused : (why : Refusal) → received_number (Err why) ≡ refusal_number why
  -- a response: 0, 2, "A wrong one received is answer 3"
  pub responded : responded_number (Ok OfResponse.Accepted) ≡ 0
  pub short_response : responded_number (Ok OfResponse.TooShort) ≡ 2
  pub wrong_sum : responded_number (Ok OfResponse.WrongSum) ≡ 3
  pub refused_response : (why : Refusal) → responded_number (Err why) ≡ refusal_number why
  -- "no response": "answers 1 or 2 as the report would"
  pub short_silence : silence_number (Ok OfSilence.Short) ≡ 1
  pub long_silence : silence_number (Ok OfSilence.Long) ≡ 2
  pub refused_silence : (why : Refusal) → silence_number (Err why) ≡ refusal_number why
