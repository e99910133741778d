-- The bench program's input as it is written, and what the model's text for it is: document 01's sentences, by how bytes stand one after the other,
-- with no place and no bound.
use Rattle.std.specs.Prelude.{◌≡◌, List, [], ◌∷◌, ◌++◌, ℕ, ◌+◌, ◌*◌, ◌/◌, ◌%◌, ◌≤◌, ◌<◌, length, replicate, take as first_of, ltb, Ok, Err}
use Rattle.base.specs.Pick.{pick}
use Rattle.records.specs.declared.record.Id.{Id}
use Rattle.records.specs.declared.record.Id.TheVariants.{Standard, Extended}
use Rattle.facts.specs.Good.{Each}
use Rattle.answers.specs.declared.Refusal.{Refusal}
use Rattle.lines.specs.Lines.{plan_line, bad_line}
use Rattle.model.specs.Calls as calls
use Rattle.model.specs.Calls.{closed, Step, opening, call}
use Rattle.base.specs.Numbers.{Bytes}
use Rattle.listing.specs.Output.{bench, told, lines_of, model_output}

-- ---- "event records: kind 16 reception (node 1, ID 2, length 1, data 8), 17 tick (no body), 18 take (node 1)"; "Bench event kind 19 is such a
-- reception, four-byte ID" (document 02, Ticket 6); for the calls of a LIN node kind 20 response (node 1, ID 2, length 1, data 8, checksum 1), 21 no
-- response (node 1, ID 2)

pub data Entry : Type 0 where
  reception : ℕ → Id → ℕ → List ℕ → Entry
  tick : Entry
  take : ℕ → Entry
  response : ℕ → ℕ → ℕ → List ℕ → ℕ → Entry
  no_response : ℕ → ℕ → Entry

-- a reception up to its length, by the format of its ID
unfoldable pub reception_of : ℕ → Id → List ℕ
reception_of node (Standard n) = 16 ∷ node ∷ n / 256 ∷ n % 256 ∷ []
reception_of node (Extended n) = 19 ∷ node ∷ n / 16777216 ∷ n / 65536 % 256 ∷ n / 256 % 256 ∷ n % 256 ∷ []

unfoldable pub bytes_of : Entry → List ℕ
bytes_of (reception node id size bytes) = reception_of node id ++ size ∷ bytes
bytes_of tick = 17 ∷ []
bytes_of (take node) = 18 ∷ node ∷ []
bytes_of (response node id size bytes sum) = 20 ∷ node ∷ id / 256 ∷ id % 256 ∷ size ∷ (bytes ++ sum ∷ [])
bytes_of (no_response node id) = 21 ∷ node ∷ id / 256 ∷ id % 256 ∷ []

unfoldable pub Whole : Entry → Type 0
Whole (reception node id size bytes) = length bytes ≡ 8
Whole tick = Unit {0}
Whole (take node) = Unit {0}
Whole (response node id size bytes sum) = length bytes ≡ 8
Whole (no_response node id) = Unit {0}

unfoldable pub all_bytes : List Entry → List ℕ
all_bytes [] = []
all_bytes (e ∷ es) = bytes_of e ++ all_bytes es

-- "A cut or unknown event record": it begins with its kind, and has fewer bytes than that kind has; or the kind is no event's
pub record Broken (xs : List ℕ) : Type 0 where
  pub kind : ℕ
  pub rest : List ℕ
  pub begins : xs ≡ kind ∷ rest
  pub reception : kind ≡ 16 → length rest < 12
  pub tick : kind ≡ 17 → ⊥
  pub take : kind ≡ 18 → length rest < 1
  pub extended : kind ≡ 19 → length rest < 14
  pub response : kind ≡ 20 → length rest < 13
  pub no_response : kind ≡ 21 → length rest < 3

-- "plan length (2 bytes), plan, then event records"
abbrev pub input_of : List ℕ → List ℕ → List ℕ
input_of plan events = length plan / 256 ∷ length plan % 256 ∷ plan ++ events

-- ---- the calls that they are

-- "A length above 8 is handed on as nine zero bytes, so that 13 is met."
unfoldable pub payload_of : ℕ → List ℕ → List ℕ
payload_of size bytes = pick (ltb 8 size) (replicate 9 0) (first_of size bytes)

-- a tick is lent a report of one byte for each Rx frame
unfoldable pub step_of : ℕ → Entry → Step
step_of rx (reception node id size bytes) = call (calls.reception node id (payload_of size bytes))
step_of rx tick = call (calls.tick (replicate rx 0))
step_of rx (take node) = call (calls.take node)
step_of rx (response node id size bytes sum) = call (calls.response node id (payload_of size bytes) sum)
step_of rx (no_response node id) = call (calls.no_response node id)

unfoldable pub steps_of : ℕ → List Entry → List Step
steps_of rx [] = []
steps_of rx (e ∷ es) = step_of rx e ∷ steps_of rx es

-- ---- the text

-- what a function from inputs to texts must write
pub record InputRules (output : List ℕ → List ℕ) : Type 0 where
  -- "The first line is `plan ok NODES TX RX` .. Then one line per event"
  pub whole : (plan : List ℕ) (entries : List Entry) (nodes tx rx : ℕ) → bench.opens closed plan ≡ Ok (record { nodes = nodes; tx = tx; rx = rx }) → Each Whole entries
      → length (input_of plan (all_bytes entries)) ≤ 65536
      → output (input_of plan (all_bytes entries)) ≡ lines_of (told (opening plan ∷ steps_of rx entries))
  -- "A cut or unknown event record prints `input bad` and ends"
  pub broken : (plan : List ℕ) (entries : List Entry) (tail : List ℕ) (nodes tx rx : ℕ) → bench.opens closed plan ≡ Ok (record { nodes = nodes; tx = tx; rx = rx })
      → Each Whole entries → Broken tail → length (input_of plan (all_bytes entries ++ tail)) ≤ 65536
      → output (input_of plan (all_bytes entries ++ tail)) ≡ lines_of (told (opening plan ∷ steps_of rx entries)) ++ bad_line
  -- "or `plan refused NO RECORD`, which ends it"
  pub refused : (plan events : List ℕ) (why : Refusal) (number : ℕ) → bench.opens closed plan ≡ Err (record { why = why; record_number = number })
      → length (input_of plan events) ≤ 65536 → output (input_of plan events) ≡ plan_line (Err (record { why = why; record_number = number }))
  -- "input over 65,536 bytes, or too short for the plan length or its stated plan, prints that line alone"
  pub long : (input : List ℕ) → 65536 < length input → output input ≡ bad_line
  pub short : (input : List ℕ) → length input < 2 → output input ≡ bad_line
  pub cut : (high low : ℕ) (rest : List ℕ) → length rest < high * 256 + low → output (high ∷ low ∷ rest) ≡ bad_line

-- the model's text meets them, and for an input of bytes nothing else does
abbrev pub OutputMeets : Type 0
OutputMeets = InputRules model_output

abbrev pub OneOutput : Type 0
OneOutput = (output : List ℕ → List ℕ) → InputRules output → (input : List ℕ) → Bytes input → output input ≡ model_output input
