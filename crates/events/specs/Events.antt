-- The bench program's input: "plan length (2 bytes), plan, then event records: kind 16 reception (node 1, ID 2, length 1, data 8), 17 tick (no
-- body), 18 take (node 1)"; kind 19 a reception with a "four-byte ID" (document 02, Ticket 6: node 1, ID 4, length 1, data 8); and for the calls of a LIN
-- node kind 20 response (node 1, ID 2, length 1, data 8, checksum 1), 21 no response (node 1, ID 2). Nothing but this file looks at the input's bytes.
use Rattle.std.specs.Prelude.{ℕ, ◌+◌, ◌-◌, ◌≤◌, ◌≡◌, List, length, take, drop, replicate, leb, ltb, eqb, Option, Some, None, Result, MatchResult, IfSome}
use Rattle.base.specs.Pick.{pick}
use Rattle.base.specs.Numbers.{byte_at, two_at, four_at}
use Rattle.records.specs.declared.record.Id.TheVariants.{Standard, Extended}
use Rattle.records.specs.Ids.{behind_id}
use Rattle.events.specs.declared.Event.{Event}
use Rattle.events.specs.declared.Event.TheVariants.{Reception, Tick, Take, Response, NoResponse, Bad}
use Rattle.events.specs.declared.Kind.{Kind}
use Rattle.events.specs.declared.Kind.TheVariants as kind
use Rattle.events.specs.declared.UnknownKind.{UnknownKind}

-- where the plan ends and the events begin: "input over 65,536 bytes, or too short for the plan length or its stated plan" is bad
unfoldable pub front_of : List ℕ → Option ℕ
front_of input =
    pick (ltb 65536 (length input)) None
    (pick (ltb (length input) 2) None
    (pick (ltb (length input) (2 + two_at input 0)) None
    (Some (2 + two_at input 0))))

-- the plan, where it ends at a place
abbrev pub plan_of : List ℕ → ℕ → List ℕ
plan_of input end = take (end - 2) (drop 2 input)

-- what the program relies on: the plan lies within the input, behind its length
abbrev pub Inside : List ℕ → Option ℕ → Type 0
Inside input f = IfSome f (λ end. (2 ≤ end) × (end ≤ length input))

-- the byte of a kind, and the kind of a byte, where it has one
abbrev pub byte_of : Kind → ℕ
byte_of kind.Reception = 16
byte_of kind.Tick = 17
byte_of kind.Take = 18
byte_of kind.ExtendedReception = 19
byte_of kind.Response = 20
byte_of kind.NoResponse = 21

abbrev pub KindOf : ℕ → Result Kind UnknownKind → Type 0
KindOf byte r = MatchResult r (λ k. byte_of k ≡ byte) (λ e. (e.0 ≡ byte) × ((k : Kind) → byte_of k ≡ byte → ⊥))

-- how many bytes an event record of a kind has, its kind byte among them; 0 where there is no such kind
unfoldable pub event_length : ℕ → ℕ
event_length kind =
    pick (eqb kind 16) 13
    (pick (eqb kind 17) 1
    (pick (eqb kind 18) 2
    (pick (eqb kind 19) 15
    (pick (eqb kind 20) 14
    (pick (eqb kind 21) 4
    0)))))

-- a whole event record of a kind
unfoldable pub whole_event : ℕ → List ℕ → ℕ → Event
whole_event kind input at =
    pick (eqb kind 16) (Reception (byte_at input (at + 1)) (Standard (two_at input (at + 2))) (byte_at input (at + 4)))
    (pick (eqb kind 17) Tick
    (pick (eqb kind 18) (Take (byte_at input (at + 1)))
    (pick (eqb kind 19) (Reception (byte_at input (at + 1)) (Extended (four_at input (at + 2))) (byte_at input (at + 6)))
    (pick (eqb kind 20) (Response (byte_at input (at + 1)) (two_at input (at + 2)) (byte_at input (at + 4)) (byte_at input (at + 13)))
    (pick (eqb kind 21) (NoResponse (byte_at input (at + 1)) (two_at input (at + 2)))
    Bad)))))

-- the event at a place: none at the input's end; "A cut or unknown event record"; or a whole one
unfoldable pub event_at : List ℕ → ℕ → Option Event
event_at input at =
    pick (leb (length input) at) None
    (pick (ltb (length input - at) (event_length (byte_at input at))) (Some Bad)
    (Some (whole_event (byte_at input at) input at)))

-- how many bytes an event takes; none where it is bad, which ends the program
unfoldable pub event_size : Event → ℕ
event_size (Reception node id size) = behind_id id + 9
event_size Tick = 1
event_size (Take node) = 2
event_size (Response node id size sum) = 14
event_size (NoResponse node id) = 4
event_size Bad = 0

-- what the program relies on: the event lies within the input
abbrev pub Within : List ℕ → ℕ → Option Event → Type 0
Within input at read = IfSome read (λ e. at + event_size e ≤ length input)

-- the payload that a reception or a response hands on whose length stands at a place: as many of the eight data bytes behind it as it says. "A length above
-- 8 is handed on as nine zero bytes, so that 13 is met."
unfoldable pub payload_at : List ℕ → ℕ → List ℕ
payload_at input at = pick (ltb 8 (byte_at input at)) (replicate 9 0) (take (byte_at input at) (drop (at + 1) input))
