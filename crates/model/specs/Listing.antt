-- "Plan, 39 bytes .. Events: ..": document 01's listing, from the plan's bytes to the answers, as a case of the model.
use Rattle.std.specs.Prelude.{◌≡◌, List, [], ◌∷◌, Option, Some, None, Result, Ok}
use Rattle.records.specs.declared.record.Id.TheVariants.{Standard}
use Rattle.facts.specs.PlanCases.{listing}
use Rattle.answers.specs.declared.Refusal.{Refusal}
use Rattle.answers.specs.declared.Received.TheVariants.{Accepted, NoRow, TooShort}
use Rattle.answers.specs.declared.Framing.TheVariants.{Can}
use Rattle.answers.specs.declared.Taken.{Taken}
use Rattle.answers.specs.declared.Taken.TheVariants.{Frame}
use Rattle.model.specs.Calls.{reception, tick, take, received, ticked, taken, closed, the_model, Step, opening, call, Reply, opened, answered, replies}

-- "take 0; reception 0, ID 0020, one byte 2C; take 0; tick; tick; tick; take 0; tick; the same reception; take 0; receptions on node 0: ID 0021,
-- one byte 2C; ID 0020, no bytes." The report that a tick is lent has one byte, which was 9.
abbrev pub steps : List Step
steps =
    opening listing ∷ call (take 0) ∷ call (reception 0 (Standard 0x20) (0x2C ∷ [])) ∷ call (take 0) ∷ call (tick (9 ∷ [])) ∷ call (tick (9 ∷ []))
    ∷ call (tick (9 ∷ [])) ∷ call (take 0) ∷ call (tick (9 ∷ [])) ∷ call (reception 0 (Standard 0x20) (0x2C ∷ [])) ∷ call (take 0)
    ∷ call (reception 0 (Standard 0x21) (0x2C ∷ [])) ∷ call (reception 0 (Standard 0x20) []) ∷ []

-- Tx frame 0, after which none waits
abbrev pub a_frame : Result (Option Taken) Refusal
a_frame = Ok (Some (Frame (record { tx = record { 0 = 0 }; id = Standard 256; size = 2; waiting = 0; framing = Can })))

abbrev pub told : List Reply
told =
    opened (Ok (record { nodes = 1; tx = 1; rx = 1 }))
    ∷ answered (taken (Ok None) [])
    ∷ answered (received (Ok Accepted))
    ∷ answered (taken a_frame (0x02 ∷ 0xC0 ∷ []))
    ∷ answered (ticked (Ok tt) (0 ∷ []))
    ∷ answered (ticked (Ok tt) (1 ∷ []))
    ∷ answered (ticked (Ok tt) (0 ∷ []))
    ∷ answered (taken a_frame (0x02 ∷ 0xC1 ∷ []))
    ∷ answered (ticked (Ok tt) (2 ∷ []))
    ∷ answered (received (Ok Accepted))
    ∷ answered (taken (Ok None) [])
    ∷ answered (received (Ok (NoRow 1)))
    ∷ answered (received (Ok TooShort))
    ∷ []

abbrev pub ListingAnswered : Type 0
ListingAnswered = replies (the_model 32768) closed steps ≡ told
