-- "An enabled failure indicator owns one bit, at its position": so every source with its indicator enabled has its failure bit in one Tx frame, where
-- `AgeOfAFix` asks for it, and no other source has one.
use Rattle.std.specs.Prelude.{◌≡◌, List, ℕ, ◌<◌, length}
use Rattle.plan.specs.Rows.{rows_of}
use Rattle.refusals.specs.Table.{Unrefused}
use Rattle.tables.specs.Reads.{row_at}
use Rattle.history.specs.Fresh.{indicator, owner}

pub record FailureBit (plan : List ℕ) (r : ℕ) : Type 0 where
  pub stands : (row_at plan r).frame.enable ≡ 1 → (t : ℕ) × (owner plan t (row_at plan r).frame.position ≡ indicator r)
  pub enabled : (t b : ℕ) → owner plan t b ≡ indicator r → ((row_at plan r).frame.enable ≡ 1) × (b ≡ (row_at plan r).frame.position)
  pub one : (t u b c : ℕ) → owner plan t b ≡ indicator r → owner plan u c ≡ indicator r → t ≡ u

abbrev pub FailureBits : Type 0
FailureBits = (plan : List ℕ) → Unrefused plan → (r : ℕ) → r < length (rows_of plan) → FailureBit plan r
