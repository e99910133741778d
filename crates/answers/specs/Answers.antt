-- Document 01's number of each refusal, and of each answer of a reception.
use Rattle.std.specs.Prelude.{ℕ, Result, Ok, Err}
use Rattle.plan.specs.Refusals.{number_of}
use Rattle.answers.specs.declared.Refusal.{Refusal}
use Rattle.answers.specs.declared.Refusal.TheVariants.{Plan, ShortArea, NotOpen, NoNode, LongPayload, ShortReport, NoFrame, WrongCall}
use Rattle.answers.specs.declared.Received.{Received}
use Rattle.answers.specs.declared.Received.TheVariants.{Accepted, NoRow, TooShort}
use Rattle.answers.specs.declared.Responded.{Responded}
use Rattle.answers.specs.declared.Responded.TheVariants as responded
use Rattle.answers.specs.declared.Timeout.{Timeout}
use Rattle.answers.specs.declared.Timeout.TheVariants.{Short, Long}

unfoldable pub refusal_number : Refusal → ℕ
refusal_number (Plan reason) = number_of reason
refusal_number ShortArea = 10
refusal_number NotOpen = 11
refusal_number NoNode = 12
refusal_number LongPayload = 13
refusal_number ShortReport = 14
refusal_number NoFrame = 15
refusal_number WrongCall = 16

-- "answer 0", "answer 1", "answer 2"; a refused reception has its refusal's number
unfoldable pub received_number : Result Received Refusal → ℕ
received_number (Ok Accepted) = 0
received_number (Ok (NoRow place)) = 1
received_number (Ok TooShort) = 2
received_number (Err why) = refusal_number why

-- "A wrong one received is answer 3, after 2" (document 02, Ticket 2)
unfoldable pub responded_number : Result Responded Refusal → ℕ
responded_number (Ok responded.Accepted) = 0
responded_number (Ok responded.TooShort) = 2
responded_number (Ok responded.WrongSum) = 3
responded_number (Err why) = refusal_number why

-- "answers 1 or 2 as the report would" (document 02, Ticket 2)
unfoldable pub silence_number : Result Timeout Refusal → ℕ
silence_number (Ok Short) = 1
silence_number (Ok Long) = 2
silence_number (Err why) = refusal_number why
