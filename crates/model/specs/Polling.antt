-- "The pumps on LIN" (document 02, Ticket 2), as a case of the model: node 0 is a CAN node, node 1 a LIN node. Tx frame 0 goes out on CAN where a signal
-- changes, Tx frame 1 on LIN each third tick. Rx frame 0 on LIN is asked for each second tick; its long count is 2, and its failure bit is bit 15 of Tx
-- frame 0.
use Rattle.std.specs.Prelude.{◌≡◌, List, [], ◌∷◌, ℕ, Some, None, Result, Ok, Err}
use Rattle.records.specs.declared.record.Id.TheVariants.{Standard}
use Rattle.facts.specs.PlanCases.{pumps}
use Rattle.answers.specs.declared.Refusal.{Refusal}
use Rattle.answers.specs.declared.Refusal.TheVariants.{NoNode, LongPayload, WrongCall}
use Rattle.answers.specs.declared.Responded.{Responded}
use Rattle.answers.specs.declared.Responded.TheVariants as OfResponse
use Rattle.answers.specs.declared.Timeout.{Timeout}
use Rattle.answers.specs.declared.Timeout.TheVariants as OfSilence
use Rattle.answers.specs.declared.Framing.TheVariants.{Can, Lin}
use Rattle.answers.specs.declared.Taken.TheVariants.{Frame, Request}
use Rattle.model.specs.Calls.{reception, response, no_response, take, received, responded, silent, taken, closed, the_model}
use Rattle.model.specs.Calls.{Step, opening, call, Reply, opened, answered, replies}
use Rattle.model.specs.ShortGaps.{a_tick, a_report}

-- ---- what is called, and what is answered

-- a response of Rx frame 0, with a checksum: that of C1 and 2C is 12
abbrev pub a_response : List ℕ → ℕ → Step
a_response payload sum = call (response 1 0x01 payload sum)

abbrev pub is_responded : Result Responded Refusal → Reply
is_responded x = answered (responded x)

abbrev pub is_silent : Result Timeout Refusal → Reply
is_silent x = answered (silent x)

-- Tx frame 0, with the second byte of its payload
abbrev pub can_frame : ℕ → Reply
can_frame byte =
    answered (taken (Ok (Some (Frame (record { tx = record { 0 = 0 }; id = Standard 0x100; size = 2; waiting = 0; framing = Can })))) (0x02 ∷ byte ∷ []))

-- Tx frame 1, and how many wait still: 42 is the protected identifier of ID 02, and 1E the checksum of 42, 4A and 55
abbrev pub lin_frame : ℕ → Reply
lin_frame waiting =
    answered (taken (Ok (Some (Frame (record { tx = record { 0 = 1 }; id = Standard 0x02; size = 2; waiting = waiting; framing = Lin 0x42 0x1E })))) (0x4A ∷ 0x55 ∷ []))

-- the request for Rx frame 0: C1 is the protected identifier of ID 01
abbrev pub a_request : ℕ → Reply
a_request waiting = answered (taken (Ok (Some (Request (record { rx = record { 0 = 0 }; id = Standard 0x01; size = 1; waiting = waiting; protected = 0xC1 })))) [])

abbrev pub nothing_waits : Reply
nothing_waits = answered (taken (Ok None) [])

-- ---- the case

abbrev pub poll_steps : List Step
poll_steps =
    -- the timer expires at the second tick and at the fourth, the Tx frame at the third: one request waits, and then the frame
    opening pumps ∷ a_tick ∷ a_tick ∷ a_tick ∷ a_tick ∷ call (take 1) ∷ call (take 1) ∷ call (take 1)
    -- the response: right, wrong, and too short; it does not load the timer, which expires at the next tick, after the Tx frame
    ∷ a_tick ∷ a_response (0x2C ∷ []) 0x12 ∷ call (take 0) ∷ a_response (0x3C ∷ []) 0x12 ∷ a_response [] 0x12 ∷ a_tick ∷ call (take 1) ∷ call (take 1)
    -- no response, twice: the failure bit goes out when the Tx timer expires, at the next tick, and the next response clears it
    ∷ call (no_response 1 0x01) ∷ call (no_response 1 0x01) ∷ call (take 0) ∷ a_tick ∷ call (take 0) ∷ a_response (0x2C ∷ []) 0x12 ∷ call (take 0)
    ∷ call (no_response 1 0x01)
    -- what is refused, each where the tests after it would refuse too
    ∷ call (reception 1 (Standard 0x01) (0 ∷ 0 ∷ 0 ∷ 0 ∷ 0 ∷ 0 ∷ 0 ∷ 0 ∷ 0 ∷ [])) ∷ call (response 2 0x01 (0 ∷ 0 ∷ 0 ∷ 0 ∷ 0 ∷ 0 ∷ 0 ∷ 0 ∷ 0 ∷ []) 0)
    ∷ call (response 0 0x01 (0 ∷ 0 ∷ 0 ∷ 0 ∷ 0 ∷ 0 ∷ 0 ∷ 0 ∷ 0 ∷ []) 0) ∷ call (response 1 0x02 (0 ∷ 0 ∷ 0 ∷ 0 ∷ 0 ∷ 0 ∷ 0 ∷ 0 ∷ 0 ∷ []) 0)
    ∷ a_response (0 ∷ 0 ∷ 0 ∷ 0 ∷ 0 ∷ 0 ∷ 0 ∷ 0 ∷ 0 ∷ []) 0 ∷ call (no_response 2 0x01) ∷ call (no_response 0 0x01) ∷ call (no_response 1 0x02) ∷ []

abbrev pub poll_replies : List Reply
poll_replies =
    opened (Ok (record { nodes = 2; tx = 2; rx = 1 })) ∷ a_report 0 ∷ a_report 0 ∷ a_report 0 ∷ a_report 0 ∷ a_request 1 ∷ lin_frame 0 ∷ nothing_waits
    ∷ a_report 0 ∷ is_responded (Ok OfResponse.Accepted) ∷ can_frame 0xC0 ∷ is_responded (Ok OfResponse.WrongSum) ∷ is_responded (Ok OfResponse.TooShort) ∷ a_report 0
    ∷ lin_frame 1 ∷ a_request 0
    ∷ is_silent (Ok OfSilence.Short) ∷ is_silent (Ok OfSilence.Long) ∷ nothing_waits ∷ a_report 0 ∷ can_frame 0xC1 ∷ is_responded (Ok OfResponse.Accepted) ∷ nothing_waits
    ∷ is_silent (Ok OfSilence.Short)
    ∷ answered (received (Err WrongCall)) ∷ is_responded (Err NoNode)
    ∷ is_responded (Err WrongCall) ∷ is_responded (Err WrongCall)
    ∷ is_responded (Err LongPayload) ∷ is_silent (Err NoNode) ∷ is_silent (Err WrongCall)
    ∷ is_silent (Err WrongCall) ∷ []

abbrev pub PollingAnswered : Type 0
PollingAnswered = replies (the_model 32768) closed poll_steps ≡ poll_replies
