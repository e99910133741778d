-- What an input asks of a gateway: "event records: kind 16 reception (node 1, ID 2, length 1, data 8), 17 tick (no body), 18 take (node 1)"; kind 19
-- a reception with a four-byte ID (document 02, Ticket 6); for the calls of a LIN node kind 20 response (node 1, ID 2, length 1, data 8, checksum 1), 21 no
-- response (node 1, ID 2).
use Rattle.std.specs.Prelude.{ℕ, zero, suc, ◌+◌, ◌-◌, Bool, true, false, List, [], ◌∷◌, length, replicate}
use Rattle.std.specs.Option.{option_map_or}
use Rattle.records.specs.Ids.{behind_id}
use Rattle.events.specs.declared.Event.{Event}
use Rattle.events.specs.declared.Event.TheVariants.{Reception, Tick, Take, Response, NoResponse, Bad}
use Rattle.events.specs.Events.{event_at, event_size, payload_at}
use Rattle.model.specs.Calls.{Call, reception, response, no_response, tick, take, Step, call}

-- the calls, in order, and whether a record behind them is bad
pub record Asked : Type 0 where
  pub steps : List Step
  pub bad : Bool

abbrev pub nothing : Asked
nothing = record { steps = []; bad = false }

abbrev pub first : Call → Asked → Asked
first c rest = record { steps = call c ∷ rest.steps; bad = rest.bad }

-- "A cut or unknown event record prints `input bad` and ends". Each tick is lent a report of one byte for each Rx frame.
unfoldable pub asked_by : Event → List ℕ → ℕ → ℕ → Asked → Asked
asked_by (Reception node id size) input at rx rest = first (reception node id (payload_at input (at + behind_id id))) rest
asked_by Tick input at rx rest = first (tick (replicate rx 0)) rest
asked_by (Take node) input at rx rest = first (take node) rest
asked_by (Response node id size sum) input at rx rest = first (response node id (payload_at input (at + 4)) sum) rest
asked_by (NoResponse node id) input at rx rest = first (no_response node id) rest
asked_by Bad input at rx rest = record { steps = []; bad = true }

-- the events from a place on; the first argument bounds how many are read
unfoldable pub asked_in : ℕ → List ℕ → ℕ → ℕ → Asked
asked_in zero input at rx = nothing
asked_in (suc bound) input at rx =
    option_map_or (λ e. asked_by e input at rx (asked_in bound input (at + event_size e) rx)) (event_at input at) nothing

-- a bound that suffices: each event has a byte at least
unfoldable pub asked_from : List ℕ → ℕ → ℕ → Asked
asked_from input at rx = asked_in (length input - at) input at rx
