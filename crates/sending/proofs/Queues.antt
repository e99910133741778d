-- A node's queue in an area that holds a plan: who waits in it, each once, and never more than there is room for.
use mathlib.Core.Path.{◌≡◌}
use mathlib.Core.Logic.{◌≢◌}
use mathlib.Core.List.{List}
use Prim.Native.Nat.{ℕ, ◌<◌, ◌≤◌}
use lib.ListN.{length, get_or}
use Rattle.base.specs.Numbers.{byte_at}
use Rattle.area.specs.Layout.{waits}
use Rattle.area.specs.Queue.{ends_of, queue_of, Sound}
use Rattle.tables.specs.Reads.{waiters_on}
use Rattle.sending.proofs.Waiters.{CanWait}
use Rattle.sending.proofs.Longer.{Longer}

-- the number of the i-th oldest of the frames and requests that wait on node n
abbrev pub waiter : List ℕ → ℕ → ℕ → ℕ
waiter a n i = get_or (queue_of a n) i 0

pub record Queue (plan a : List ℕ) (n : ℕ) : Type 0 where
  -- its ring is its own, and its ends lie in it
  pub sound : Sound (ends_of a n)
  -- those that wait are frames and requests that can wait on node n, and are marked as waiting
  pub can : (i : ℕ) → i < length (queue_of a n) → CanWait plan n (waiter a n i)
  pub marked : (i : ℕ) → i < length (queue_of a n) → byte_at a (waits (waiter a n i)) ≢ 0
  -- none stands in it twice: a frame and a request wait at most once
  pub once : (i j : ℕ) → i < j → j < length (queue_of a n) → waiter a n i ≢ waiter a n j
  -- so they are never more than can wait
  pub few : length (queue_of a n) ≤ waiters_on plan n

-- number k stands in node n's queue
pub record Stands (a : List ℕ) (n k : ℕ) : Type 0 where
  pub place : ℕ
  pub within : place < length (queue_of a n)
  pub there : waiter a n place ≡ k

pub record Queues (plan a : List ℕ) : Type 0 where
  pub queue : (n : ℕ) → n < 16 → Queue plan a n
  -- whoever can wait on a node and is marked as waiting stands in its queue
  pub stands : (n k : ℕ) → CanWait plan n k → byte_at a (waits k) ≢ 0 → Stands a n k

-- what a change that only adds to a queue, at its end, makes of it
abbrev pub Grows : List ℕ → List ℕ → ℕ → Type 0
Grows a b n = Longer (queue_of a n) (queue_of b n)
