-- The bound of `AgeOfAFix` is the best one, and where the reload value is 0 or the indicator is off there is none.
use Rattle.std.specs.Prelude.{◌≡◌, List, ℕ, suc, ◌*◌, ◌≤◌, ◌<◌, length}
use Rattle.std.proofs.Math.Option.{some}
use Rattle.bits.specs.Payload.{bit_at}
use Rattle.clock.specs.Counter.{Prescaler}
use Rattle.records.specs.Records.{records}
use Rattle.plan.specs.Rows.{rows_of, order_in}
use Rattle.tables.specs.Reads.{row_at}
use Rattle.model.specs.Calls.{Step}
use Rattle.history.specs.Fresh.{signal, owner}
use Rattle.age.specs.Acceptance.{Acceptance, last_acceptance}
use Rattle.age.specs.AgeOfAFix.{Handed, Heard, handed_failure}

-- on an area: a plan with a source of this reload value and prescaler, and calls after which a take hands back a frame when so many unrefused ticks have
-- passed since the source's last acceptance
pub record Aged (a : List ℕ) (reload prescaler ticks : ℕ) : Type 0 where
  pub calls : List Step
  pub plan : List ℕ
  pub t : ℕ
  pub payload : List ℕ
  pub r : ℕ
  pub last : Acceptance
  pub handed : Handed a calls plan t payload
  pub row : r < length (rows_of plan)
  pub accepted : last_acceptance (row_at plan r).frame calls a ≡ some last
  pub its_reload : (row_at plan r).frame.reload ≡ reload
  pub its_prescaler : (row_at plan r).frame.prescaler ≡ prescaler
  pub its_ticks : last.ticks ≡ ticks

-- its failure bit stands there, and is still 0
pub record Still (a : List ℕ) (reload prescaler ticks : ℕ) : Type 0 where
  pub aged : Aged a reload prescaler ticks
  pub heard : Heard a aged.calls aged.plan aged.t aged.r aged.last
  pub zero : handed_failure aged.plan aged.payload aged.r ≡ 0

-- for every r from 1 to 255 and each prescaler p, r times p less one
abbrev pub BestBound : Type 0
BestBound =
    (a : List ℕ) → 32768 ≤ length a → (r p ticks : ℕ) → 0 < r → r < 256 → Prescaler p → suc ticks ≡ r * p → Still a r p ticks

-- so no smaller bound holds, whatever one makes of r and p
abbrev pub NoSmallerBound : Type 0
NoSmallerBound =
    (least : ℕ → ℕ → ℕ)
    → ((a : List ℕ) (calls : List Step) (plan : List ℕ) (t : ℕ) (payload : List ℕ) → Handed a calls plan t payload → (r : ℕ) (last : Acceptance)
    → Heard a calls plan t r last → 0 < (row_at plan r).frame.reload → handed_failure plan payload r ≡ 0
    → last.ticks < least (row_at plan r).frame.reload (row_at plan r).frame.prescaler)
    → (r p : ℕ) → 0 < r → r < 256 → Prescaler p → r * p ≤ least r p

-- ---- where there is none

-- its indicator is off, so that it has no failure bit, and a bit of its last acceptance is handed back
pub record Unflagged (a : List ℕ) (reload prescaler ticks : ℕ) : Type 0 where
  pub aged : Aged a reload prescaler ticks
  pub off : (row_at aged.plan aged.r).frame.enable ≡ 0
  pub bit : ℕ
  pub from : ℕ
  pub carries : owner aged.plan aged.t bit ≡ signal aged.r from
  pub value : bit_at (order_in (records aged.plan)) aged.payload bit ≡ bit_at (order_in (records aged.plan)) aged.last.payload from

-- a source whose reload value is 0 has a timer that stands still: of it, and of one whose indicator is off, a frame can be as old as any number of ticks
pub record Unbounded (a : List ℕ) (p ticks : ℕ) : Type 0 where
  pub stopped : Still a 0 p ticks
  pub off : (r : ℕ) → 0 < r → r < 256 → Unflagged a r p ticks

abbrev pub NoBound : Type 0
NoBound = (a : List ℕ) → 32768 ≤ length a → (p ticks : ℕ) → Prescaler p → Unbounded a p ticks
