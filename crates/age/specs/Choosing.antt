-- For those who choose a reload value r, a prescaler p and an initial payload.
use Rattle.std.specs.Prelude.{◌≡◌, List, ℕ, ◌+◌, ◌≤◌, ◌<◌, length}
use Rattle.std.proofs.Math.Option.{some}
use Rattle.plan.specs.Rows.{rows_of}
use Rattle.tables.specs.Reads.{initial, row_at}
use Rattle.model.specs.Calls.{Step}
use Rattle.history.specs.Fresh.{indicator, owner}
use Rattle.age.specs.Acceptance.{Acceptance, last_acceptance}
use Rattle.age.specs.AgeOfAFix.{Handed, Heard, handed_failure, bound}

-- a source that was accepted at most (r - 1) times p unrefused ticks ago is not flagged
abbrev pub NotEarly : Type 0
NotEarly =
    (a : List ℕ) (calls : List Step) (plan : List ℕ) (t : ℕ) (payload : List ℕ) → Handed a calls plan t payload
    → (r : ℕ) (last : Acceptance) → Heard a calls plan t r last → last.ticks + (row_at plan r).frame.prescaler ≤ bound plan r
    → handed_failure plan payload r ≡ 0

-- where the plan's initial payload has 1 there, a failure bit of 0 says by itself that the source was accepted since the opening
abbrev pub ZeroSaysAccepted : Type 0
ZeroSaysAccepted =
    (a : List ℕ) (calls : List Step) (plan : List ℕ) (t : ℕ) (payload : List ℕ) → Handed a calls plan t payload
    → (r : ℕ) → r < length (rows_of plan) → owner plan t (row_at plan r).frame.position ≡ indicator r
    → initial plan t (row_at plan r).frame.position ≡ 1 → handed_failure plan payload r ≡ 0
    → (last : Acceptance) × (last_acceptance (row_at plan r).frame calls a ≡ some last)
