-- Over any calls a long counter holds how many expiries are left until those in a row are a multiple of the long count.
use mathlib.Core.Path.{◌≡◌}
use mathlib.Core.List.{List, [], ◌++◌}
use mathlib.Core.Option.{some}
use Prim.Native.Nat.{ℕ, ◌<◌}
use lib.ListN.{length}
use Rattle.base.specs.Numbers.{byte_at}
use Rattle.plan.specs.Rows.{rows_of}
use Rattle.facts.specs.Good.{GoodPlan}
use Rattle.area.specs.Layout.{long}
use Rattle.area.specs.Claims.{RxEvent}
use Rattle.tables.specs.Reads.{row_at, Reads, Begun}
use Rattle.model.specs.Calls.{Step}
use Rattle.history.specs.Calls.{stepped, after_in}
use Rattle.history.specs.Past.{told, past_of}
use Rattle.history.specs.LongTimeouts.{in_a_row}
use Rattle.history.proofs.Later.{Later}
use Rattle.history.proofs.Always.{Held, always}
use Rattle.history.proofs.Replay.{replay}
use Rattle.history.proofs.Steps.{turns_on}
use Rattle.history.proofs.Longs.{turned_long, long_turns}
use Rattle.history.proofs.Left.{Left, Left-after}

abbrev Counted : List ℕ → List RxEvent → List ℕ → Type 0
Counted plan log a =
    (r : ℕ) → r < length (rows_of plan) → byte_at a (long r) ≡ replay (turned_long r (row_at plan r).frame.long) log (row_at plan r).frame.long

begins : (plan a : List ℕ) → GoodPlan plan → Reads plan a → Begun plan a → Counted plan [] a
unfolding replay
begins plan a good reads b r l = b.long r l

goes_on :
    (plan : List ℕ) → GoodPlan plan → (log : List RxEvent) (c : Step) → Later c → (a : List ℕ) → Reads plan a → Counted plan log a
    → Counted plan (log ++ told (some plan) c a) (stepped a c)
goes_on plan good log c later a reads counts r l =
    turns_on good (long_turns plan good r l) (row_at plan r).frame.long log c later a reads (counts r l)

abbrev pub Remaining : List ℕ → List RxEvent → List ℕ → Type 0
Remaining plan log a = (r : ℕ) → r < length (rows_of plan) → Left (row_at plan r).frame.long (in_a_row r 0 log) (byte_at a (long r))

pub remaining :
    (a : List ℕ) (calls : List Step) (plan : List ℕ) → (past_of calls a).plan ≡ some plan
    → Held Remaining plan (past_of calls a).log (after_in a calls)
remaining a calls plan is =
    let k = always Counted begins goes_on a calls plan is in
    record { good = k.good; reads = k.reads; holds = λ r l. rw (k.holds r l) (Left-after r _ (past_of calls a).log) }
