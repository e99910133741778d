-- An area that was just opened is ready to send: its queues are empty.
use mathlib.Core.Path.{◌≡◌}
use mathlib.Core.List.{List, []}
use Prim.Native.Nat.{ℕ}
use native.Mathlib.Omega.{arith}
use Rattle.facts.specs.Good.{GoodPlan}
use Rattle.facts.proofs.FactsGood.{facts_good}
use Rattle.area.specs.Queue.{ends_of, entries, queue_of}
use Rattle.tables.specs.Reads.{Reads, Begun}
use Rattle.sending.proofs.Plans.{Sendable, sendable}
use Rattle.sending.proofs.Waiters.{wait_small}
use Rattle.sending.proofs.Queues.{Queues}
use Rattle.sending.proofs.Holding.{holding}
use Rattle.sending.proofs.Lines.{line_empty, Queue-from_line}
use Rattle.sending.proofs.Moves.{Ready}

fit : (plan : List ℕ) → GoodPlan plan → Sendable plan
fit plan good = sendable plan _ _ _ (facts_good plan good)

-- ---- after an opening all queues are empty, and nobody is marked

empty : (a : List ℕ) (n : ℕ) → (ends_of a n).waiting ≡ 0 → queue_of a n ≡ []
unfolding queue_of entries
empty a n e = rw e

empty_queues : (plan a : List ℕ) → GoodPlan plan → Reads plan a → Begun plan a → Queues plan a
empty_queues plan a good reads begun =
    let s = fit plan good in
    record {
      queue = λ n h.
          let e = begun.empty n h in
          Queue-from_line (holding s reads) h (omega (arith, (reads.rings n h).room)) (rw (empty a n e.1) line_empty);
      stands = λ n k can d. absurd (d (begun.waits k (wait_small s can)));
    }

pub begins : (plan a : List ℕ) → GoodPlan plan → Reads plan a → Begun plan a → Ready plan a
begins plan a good reads begun = let s = fit plan good in record { holding = holding s reads; queues = empty_queues plan a good reads begun }
