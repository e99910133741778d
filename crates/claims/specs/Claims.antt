-- The nodes, the frames, the rows and the claims of a plan in words of its records, split where one stands: a second text beside the recursion of `Rows`.
use Rattle.std.specs.Prelude.{◌≡◌, ◌≢◌, ◌⊎◌, List, ◌∷◌, ◌++◌, ℕ, ◌+◌, ◌<◌, length, get_or}
use Rattle.records.specs.declared.record.NodeType.{NodeType}
use Rattle.records.specs.declared.record.NodeBody.{NodeBody}
use Rattle.records.specs.declared.record.SignalBody.{SignalBody}
use Rattle.records.specs.declared.record.DestinationBody.{DestinationBody}
use Rattle.records.specs.declared.record.TxFrame.{TxFrame}
use Rattle.records.specs.declared.record.RxFrame.{RxFrame}
use Rattle.records.specs.declared.record.Record.{Record}
use Rattle.records.specs.declared.record.Record.TheVariants.{Node, Tx, Rx, Signal, Destination, Broken}
use Rattle.records.specs.declared.record.Fault.TheVariants.{Cut}
use Rattle.records.specs.Kinds.{node_stage, tx_stage, rx_stage, destination_stage}
use Rattle.records.specs.Nodes.{type_of}
use Rattle.plan.specs.Rows.{copy, failure, Claim, Row}
use Rattle.facts.specs.Good.{Each, count_of}

-- ---- records

-- a record that does not run past the plan's end; of one that does there is only the stage of its kind, which `count_of` counts
abbrev pub Whole : Record → Type 0
Whole r = (kind : ℕ) → r ≢ Broken (Cut kind)

abbrev pub IsSignal : Record → Type 0
IsSignal r = (g : SignalBody) × (r ≡ Signal g)

abbrev pub IsDestination : Record → Type 0
IsDestination r = (t : DestinationBody) × (r ≡ Destination t)

-- what an Rx frame may have of its own, and the records past that: none, or a first one that is no such record
abbrev pub Own : Record → Type 0
Own r = IsSignal r ⊎ IsDestination r

abbrev pub Beyond : List Record → Type 0
Beyond rest = (r : Record) (rs : List Record) → rest ≡ r ∷ rs → Own r → ⊥

-- ---- "Nodes, Tx and Rx frames are numbered from 0.": the number of a node or a frame is how many of its kind stand before it

-- "type: 0 CAN"; "Node type 1 is a LIN node" (document 02, Ticket 2)
pub record TypesOf (rs : List Record) (types : List NodeType) : Type 0 where
  pub many : length types ≡ count_of node_stage rs
  pub each : (front rest : List Record) (body : NodeBody) → rs ≡ front ++ Node body ∷ rest → (d : NodeType)
      → get_or types (count_of node_stage front) d ≡ type_of body.of

pub record FramesOf (rs : List Record) (frames : List TxFrame) : Type 0 where
  pub many : length frames ≡ count_of tx_stage rs
  pub each : (front rest : List Record) (x : TxFrame) → rs ≡ front ++ Tx x ∷ rest → (d : TxFrame) → get_or frames (count_of tx_stage front) d ≡ x

-- ---- the claims of an Rx frame with its number, by its own records

-- "signals are copied in plan order, each to its destinations in order": after the `first` claims there is one for each destination, of the last
-- signal before it
pub record Copies (first number : ℕ) (own : List Record) (claims : List Claim) : Type 0 where
  pub many : length claims ≡ first + count_of destination_stage own
  pub each : (before upto dests after : List Record) (g : SignalBody) (t : DestinationBody) → own ≡ before ++ Destination t ∷ after
      → before ≡ upto ++ Signal g ∷ dests → Each IsDestination dests → (d : Claim)
      → get_or claims (first + count_of destination_stage before) d ≡ record { rx = number; tx = t.tx.0; at = t.position; from = copy g.position g.size }

-- "An enabled failure indicator owns one bit, at its position, in the Tx frame of the first destination of its frame's first signal." It comes first:
-- "an enabled failure bit becomes 0; signals are copied"
pub record ClaimsOf (number : ℕ) (x : RxFrame) (own : List Record) (claims : List Claim) : Type 0 where
  pub disabled : x.enable ≢ 1 → Copies 0 number own claims
  pub enabled : x.enable ≡ 1 → 0 < count_of destination_stage own → Copies 1 number own claims
  pub failing : x.enable ≡ 1 → (g : SignalBody) (t : DestinationBody) (after : List Record) → own ≡ Signal g ∷ Destination t ∷ after → (d : Claim)
      → get_or claims 0 d ≡ record { rx = number; tx = t.tx.0; at = x.position; from = failure }
  -- with no destination there is no claim
  pub nothing : count_of destination_stage own ≡ 0 → length claims ≡ 0

-- ---- the rows

-- the row of Rx frame x, after which those records stand
pub record RowOf (n : ℕ) (x : RxFrame) (since : List Record) (row : Row) : Type 0 where
  pub number : row.number ≡ n
  pub frame : row.frame ≡ x
  pub claims : (own rest : List Record) → since ≡ own ++ rest → Each Own own → Beyond rest → ClaimsOf n x own row.claims

pub record RowsOf (rs : List Record) (rows : List Row) : Type 0 where
  pub many : length rows ≡ count_of rx_stage rs
  pub each : (front since : List Record) (x : RxFrame) → rs ≡ front ++ Rx x ∷ since → (d : Row)
      → RowOf (count_of rx_stage front) x since (get_or rows (count_of rx_stage front) d)

-- ---- plans in which these words leave nothing open

-- an enabled indicator's frame is followed by a signal and a destination
abbrev pub Indicated : List Record → Type 0
Indicated since = (g : SignalBody) × (t : DestinationBody) × (rest : List Record) × (since ≡ Signal g ∷ Destination t ∷ rest)

-- no destination stands before its frame's first signal
abbrev pub SignalFirst : List Record → Type 0
SignalFirst since = (t : DestinationBody) (rest : List Record) → since ≢ Destination t ∷ rest

pub record Regular (x : RxFrame) (since : List Record) : Type 0 where
  pub signalled : SignalFirst since
  pub indicated : x.enable ≡ 1 → Indicated since

-- an Rx frame stands before, and since it only what is its own
abbrev pub Framed : List Record → Type 0
Framed front = (upto : List Record) × (x : RxFrame) × (own : List Record) × (front ≡ upto ++ Rx x ∷ own) × Each Own own

-- "Rx frames, each followed by its signals, each followed by its destinations"
pub record Lawful (rs : List Record) : Type 0 where
  pub whole : Each Whole rs
  pub framed : (front rest : List Record) (r : Record) → rs ≡ front ++ r ∷ rest → Own r → Framed front
  pub regular : (front since : List Record) (x : RxFrame) → rs ≡ front ++ Rx x ∷ since → Regular x since
