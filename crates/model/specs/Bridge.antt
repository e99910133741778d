-- "29-bit identifiers from the bridge" (document 02, Ticket 6), as a case of the model: "ID 32 in one format is not ID 32 in the other." On node 0, Rx frame
-- 0 has the 11-bit ID 20 hex and Rx frame 1 the 29-bit ID 20 hex; the one is copied to the first byte of Tx frame 0, the other to its second byte. Tx frame
-- 0 has the 29-bit ID 09F80100 hex, and is sent on reception.
use Rattle.std.specs.Prelude.{◌≡◌, List, [], ◌∷◌, ℕ, Some, Ok}
use Rattle.records.specs.declared.record.Id.{Id}
use Rattle.records.specs.declared.record.Id.TheVariants.{Standard, Extended}
use Rattle.facts.specs.PlanCases.{bridge}
use Rattle.answers.specs.declared.Received.TheVariants.{Accepted, NoRow}
use Rattle.answers.specs.declared.Framing.TheVariants.{Can}
use Rattle.answers.specs.declared.Taken.TheVariants.{Frame}
use Rattle.model.specs.Calls.{reception, take, received, taken, closed, the_model, Step, opening, call, Reply, opened, answered, replies}

abbrev a_byte : Id → ℕ → Step
a_byte id byte = call (reception 0 id (byte ∷ []))

abbrev sent : ℕ → ℕ → Reply
sent first second =
    answered
    (taken (Ok (Some (Frame (record { tx = record { 0 = 0 }; id = Extended 0x09F80100; size = 2; waiting = 0; framing = Can })))) (first ∷ second ∷ []))

abbrev is_accepted : Reply
is_accepted = answered (received (Ok Accepted))

abbrev is_stranger : ℕ → Reply
is_stranger place = answered (received (Ok (NoRow place)))

abbrev pub bridge_steps : List Step
bridge_steps =
    opening bridge ∷ a_byte (Standard 0x20) 0xAA ∷ call (take 0) ∷ a_byte (Extended 0x20) 0xBB ∷ call (take 0)
    -- strangers: before, between and behind the two rows, and IDs that no row can have
    ∷ a_byte (Standard 0x1F) 0 ∷ a_byte (Standard 0x21) 0 ∷ a_byte (Standard 0x800) 0 ∷ a_byte (Extended 0x1F) 0 ∷ a_byte (Extended 0x21) 0
    ∷ a_byte (Extended 0x20000020) 0 ∷ a_byte (Extended 0x80000020) 0 ∷ []

abbrev pub bridge_replies : List Reply
bridge_replies =
    opened (Ok (record { nodes = 1; tx = 1; rx = 2 })) ∷ is_accepted ∷ sent 0xAA 0x00 ∷ is_accepted ∷ sent 0xAA 0xBB
    ∷ is_stranger 0 ∷ is_stranger 1 ∷ is_stranger 1 ∷ is_stranger 1 ∷ is_stranger 2 ∷ is_stranger 2 ∷ is_stranger 2 ∷ []

abbrev pub BridgeAnswered : Type 0
BridgeAnswered = replies (the_model 32768) closed bridge_steps ≡ bridge_replies
