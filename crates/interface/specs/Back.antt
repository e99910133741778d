-- The answer that a struct or a number stands for. `opened_back`, `received_back`, `responded_back`, `silence_back`, `ticked_back`, `taken_back` and
-- `fullness_back` in proofs/ show that what each call gives C gives back the call's answer, so that no two answers of a call are the same there.
use Rattle.std.specs.Prelude.{ℕ, List, [], ◌∷◌, eqb, get_or, Option, Some, None, Result, Ok, Err}
use Rattle.base.specs.Pick.{pick}
use Rattle.plan.specs.declared.verdict.Reason.TheVariants.{Short, Kind, Place, Count, Range, Order, Data, Owner, Indicator}
use Rattle.answers.specs.declared.Refusal.{Refusal}
use Rattle.answers.specs.declared.Refusal.TheVariants.{Plan, ShortArea, NotOpen, NoNode, LongPayload, ShortReport, NoFrame, WrongCall}
use Rattle.plan.specs.declared.verdict.PlanCounts.{PlanCounts}
use Rattle.answers.specs.declared.RefusedPlan.{RefusedPlan}
use Rattle.answers.specs.declared.Received.{Received}
use Rattle.answers.specs.declared.Received.TheVariants as received
use Rattle.answers.specs.declared.Responded.{Responded}
use Rattle.answers.specs.declared.Responded.TheVariants as responded
use Rattle.answers.specs.declared.Timeout.{Timeout}
use Rattle.answers.specs.declared.Timeout.TheVariants as silence
use Rattle.answers.specs.declared.Framing.{Framing}
use Rattle.answers.specs.declared.Framing.TheVariants.{Can, Lin}
use Rattle.answers.specs.declared.Taken.{Taken}
use Rattle.answers.specs.declared.Taken.TheVariants as taken
use Rattle.interface.specs.Structs.{id_in}
use Rattle.interface.specs.declared.structs.GatewayOpened.{GatewayOpened}
use Rattle.interface.specs.declared.structs.GatewayReceived.{GatewayReceived}
use Rattle.interface.specs.declared.structs.GatewayTaken.{GatewayTaken}
use Rattle.interface.specs.declared.structs.GatewayFullness.{GatewayFullness}

-- the refusals 1 to 16 in their order; no refusal has number 0 or one above 16, and these are read as 11
unfoldable pub refusals : List Refusal
refusals =
    NotOpen ∷ Plan Short ∷ Plan Kind ∷ Plan Place ∷ Plan Count ∷ Plan Range ∷ Plan Order ∷ Plan Data ∷ Plan Owner ∷ Plan Indicator
    ∷ ShortArea ∷ NotOpen ∷ NoNode ∷ LongPayload ∷ ShortReport ∷ NoFrame
    ∷ WrongCall ∷ []

unfoldable pub refusal_of : ℕ → Refusal
refusal_of n = get_or refusals n NotOpen

unfoldable pub opened_of : GatewayOpened → Result PlanCounts RefusedPlan
opened_of s = pick (eqb s.number 0) (Ok (record { nodes = s.nodes; tx = s.tx; rx = s.rx })) (Err (record { why = refusal_of s.number; record_number = s.«record» }))

unfoldable pub received_of : GatewayReceived → Result Received Refusal
received_of s =
    pick (eqb s.number 0) (Ok received.Accepted)
    (pick (eqb s.number 1) (Ok (received.NoRow s.place))
    (pick (eqb s.number 2) (Ok received.TooShort)
    (Err (refusal_of s.number))))

unfoldable pub responded_of : ℕ → Result Responded Refusal
responded_of n =
    pick (eqb n 0) (Ok responded.Accepted)
    (pick (eqb n 2) (Ok responded.TooShort)
    (pick (eqb n 3) (Ok responded.WrongSum)
    (Err (refusal_of n))))

unfoldable pub silence_of : ℕ → Result Timeout Refusal
silence_of n = pick (eqb n 1) (Ok silence.Short) (pick (eqb n 2) (Ok silence.Long) (Err (refusal_of n)))

unfoldable pub ticked_of : ℕ → Result (Unit {0}) Refusal
ticked_of n = pick (eqb n 0) (Ok tt) (Err (refusal_of n))

-- no protected identifier is 0, so 0 there is a frame on CAN
unfoldable pub framing_of : GatewayTaken → Framing
framing_of s = pick (eqb s.protected_id 0) Can (Lin s.protected_id s.checksum)

unfoldable pub taken_of : GatewayTaken → Result (Option Taken) Refusal
taken_of s =
    pick (eqb s.kind 1)
    (Ok (Some (taken.Frame (record { tx = record { 0 = s.tx }; id = id_in s.id; size = s.size; waiting = s.waiting; framing = framing_of s }))))
    (pick (eqb s.kind 2)
    (Ok (Some (taken.Request (record { rx = record { 0 = s.rx }; id = id_in s.id; size = s.size; waiting = s.waiting; protected = s.protected_id }))))
    (pick (eqb s.number 0) (Ok None) (Err (refusal_of s.number))))

unfoldable pub fullness_of : GatewayFullness → Result ℕ Refusal
fullness_of s = pick (eqb s.number 0) (Ok s.bits) (Err (refusal_of s.number))
