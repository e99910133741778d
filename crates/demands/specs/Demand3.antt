-- Demand 3: "Over any calls since the last successful opening, every kept payload bit equals the bit worked out afresh from the history. .. A
-- reception alters only bits owned by its frame, a tick only failure bits, a take none." The statements are in the crate history.
use Rattle.history.specs.Statements.{EveryBitFresh, PlanStays, CallsAlterTheirs}

pub record Demand3 : Type 0 where
  pub fresh : EveryBitFresh
  pub theirs : CallsAlterTheirs
  pub plan : PlanStays
