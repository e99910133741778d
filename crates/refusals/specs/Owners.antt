-- Refusals 7, 8 and 9 (second half): the data of the frames, and the owners of their bits.
use Rattle.std.specs.Prelude.{◌≡◌, List, [], ◌∷◌, ℕ, ◌+◌, ◌*◌, ◌≤◌, ◌<◌}
use Rattle.records.specs.declared.record.SignalBody.{SignalBody}
use Rattle.records.specs.declared.record.DestinationBody.{DestinationBody}
use Rattle.records.specs.declared.record.Record.{Record}
use Rattle.records.specs.declared.record.Record.TheVariants.{Signal, Destination}
use Rattle.records.specs.Kinds.{tx_stage}
use Rattle.facts.specs.Good.{count_of}
use Rattle.refusals.specs.Before.{RxBefore, SignalBefore, TxBefore, Owned}

-- ---- 7: "a signal or destination passes its frame's data, or the Tx frame does not exist"

pub data PassesData (before : List Record) : Record → Type 0 where
  signal : (g : SignalBody) (rx : RxBefore before) → 8 * rx.frame.size < g.position + g.size → PassesData before (Signal g)
  no_frame : (t : DestinationBody) → count_of tx_stage before ≤ t.tx.0 → PassesData before (Destination t)
  destination : (t : DestinationBody) (tx : TxBefore t.tx.0 before) (signal : SignalBefore before) → 8 * tx.frame.size < t.position + signal.body.size
      → PassesData before (Destination t)

-- ---- 8: "a bit would have two owners". "A destination owns its bits in the Tx frame."

pub data TwoOwners (before : List Record) : Record → Type 0 where
  destination : (t : DestinationBody) (signal : SignalBefore before) (b : ℕ) → t.position ≤ b → b < t.position + signal.body.size
      → Owned before t.tx.0 b
      → TwoOwners before (Destination t)

-- ---- "An enabled failure indicator owns one bit, at its position, in the Tx frame of the first destination of its frame's first signal."

-- an enabled indicator's Rx frame and its first signal stand before, and nothing after them
pub record FailureBefore (before : List Record) : Type 0 where
  pub rx : RxBefore before
  pub enabled : rx.frame.enable ≡ 1
  pub body : SignalBody
  pub first : rx.since ≡ Signal body ∷ []

-- 9: "or its position passes the Tx data"
pub data FailurePasses (before : List Record) : Record → Type 0 where
  destination : (t : DestinationBody) (failure : FailureBefore before) (tx : TxBefore t.tx.0 before)
      → 8 * tx.frame.size ≤ failure.rx.frame.position → FailurePasses before (Destination t)

-- 8: the failure bit has an owner before, or is one of the destination's own
pub data FailureTaken (before : List Record) : Record → Type 0 where
  before_it : (t : DestinationBody) (failure : FailureBefore before) → Owned before t.tx.0 failure.rx.frame.position
      → FailureTaken before (Destination t)
  its_own : (t : DestinationBody) (failure : FailureBefore before) → t.position ≤ failure.rx.frame.position
      → failure.rx.frame.position < t.position + failure.body.size → FailureTaken before (Destination t)
