-- "Short gaps must not add up" (document 02, Ticket 1), as a case of the model: the plan of document 01's listing, whose Rx frame has reload value 2 and
-- long count 2. An expiry on either side of an acceptance is no long timeout, two in a row are one, and a payload that is too short starts nothing again.
use Rattle.std.specs.Prelude.{◌≡◌, List, [], ◌∷◌, ℕ, Ok}
use Rattle.records.specs.declared.record.Id.TheVariants.{Standard}
use Rattle.facts.specs.PlanCases.{listing}
use Rattle.answers.specs.declared.Received.TheVariants.{Accepted, TooShort}
use Rattle.model.specs.Calls.{reception, tick, received, ticked, closed, the_model, Step, opening, call, Reply, opened, answered, replies}

-- the report that a tick is lent has one byte, which was 9
abbrev pub a_tick : Step
a_tick = call (tick (9 ∷ []))

abbrev pub a_report : ℕ → Reply
a_report x = answered (ticked (Ok tt) (x ∷ []))

abbrev pub gap_steps : List Step
gap_steps =
    opening listing ∷ a_tick ∷ a_tick ∷ call (reception 0 (Standard 0x20) (0x2C ∷ [])) ∷ a_tick ∷ a_tick ∷ a_tick ∷ a_tick ∷ a_tick ∷ a_tick
    ∷ call (reception 0 (Standard 0x20) []) ∷ a_tick ∷ a_tick ∷ []

abbrev pub gap_replies : List Reply
gap_replies =
    opened (Ok (record { nodes = 1; tx = 1; rx = 1 })) ∷ a_report 0 ∷ a_report 1 ∷ answered (received (Ok Accepted)) ∷ a_report 0 ∷ a_report 1 ∷ a_report 0 ∷ a_report 2 ∷ a_report 0 ∷ a_report 1
    ∷ answered (received (Ok TooShort)) ∷ a_report 0 ∷ a_report 2 ∷ []

abbrev pub GapsAnswered : Type 0
GapsAnswered = replies (the_model 32768) closed gap_steps ≡ gap_replies
