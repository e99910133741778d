-- A change that only adds to the queues, at their ends: what it leaves of an area that holds a plan. Such changes follow one another, and one that
-- leaves the queues, their rings and the marks of those that wait is one.
use mathlib.Core.Path.{◌≡◌, refl}
use mathlib.Core.List.{List}
use Prim.Native.Nat.{ℕ, ◌+◌, ◌≤◌, ◌<◌}
use native.Mathlib.Omega.{arith}
use lib.ListN.{length-append, get_or-append}
use Rattle.base.specs.Numbers.{byte_at}
use Rattle.area.specs.Layout.{counter_byte, queues_start, tx_reloads_start, waits_start, payloads_start, masks_end, waiter_range, queue, waits}
use Rattle.area.specs.Queue.{ends_of, queue_of}
use Rattle.area.proofs.Frame.{Same, same_two, Same-fewer}
use Rattle.area.proofs.Kept.{Kept, Kept-refl, Kept-then}
use Rattle.area.proofs.QueueLaws.{queue_same}
use Rattle.sending.proofs.Waiters.{wait_small, wait_node}
use Rattle.sending.proofs.Longer.{Longer-same, Longer-then}
use Rattle.sending.proofs.Queues.{waiter, Queues, Stands, Grows}
use Rattle.sending.proofs.Holding.{Holding, Holding-kept}
use Rattle.sending.proofs.Lines.{Queue-stays}

-- the area holds a good plan, and its queues are as they should be
pub record Ready (plan a : List ℕ) : Type 0 where
  pub holding : Holding plan a
  pub queues : Queues plan a

-- invariant and growth in one, so that each step is proved once
pub record Moves (plan a b : List ℕ) : Type 0 where
  pub kept : Kept a b
  pub queues : Queues plan b
  pub grows : (n : ℕ) → n < 16 → Grows a b n

-- ---- growth

module _ {a : List ℕ} {n : ℕ} where
  -- who stands in a queue stays there
  pub grows_stands : {b : List ℕ} {k : ℕ} → Grows a b n → Stands a n k → Stands b n k
  grows_stands g s =
      record {
        place = s.place;
        within = rw (g.then, length-append) (omega (arith, s.within));
        there = rw (g.then, get_or-append (queue_of a n) g.new 0 s.place s.within) s.there;
      }

-- ---- one after the other

module _ {plan a : List ℕ} where
  pub Moves-refl : Ready plan a → Moves plan a a
  Moves-refl r = record { kept = Kept-refl a; queues = r.queues; grows = λ n h. Longer-same refl }

  moved : {b : List ℕ} → Ready plan a → Moves plan a b → Ready plan b
  moved r m = record { holding = Holding-kept m.kept r.holding; queues = m.queues }

  pub Moves-then : {b c : List ℕ} → Ready plan a → Moves plan a b → (Ready plan b → Moves plan b c) → Moves plan a c
  Moves-then r m next =
      let k = next (moved r m) in
      record { kept = Kept-then m.kept k.kept; queues = k.queues; grows = λ n h. Longer-then (m.grows n h) (k.grows n h) }

-- ---- changes beside the queues

-- all places but the reload values, timers and long counters, the payloads and masks, and the counter
pub record Resting (j : ℕ) : Type 0 where
  pub timers : tx_reloads_start ≤ j → j < waits_start → ⊥
  pub payloads : payloads_start ≤ j → j < masks_end → ⊥
  pub count : j ≡ counter_byte → ⊥

abbrev pub Rests : List ℕ → List ℕ → Type 0
Rests a b = Same Resting a b

-- where the oldest entry is stands in the records of the queues
pub first_same :
    {P : ℕ → Type 0} {a b : List ℕ} → ((j : ℕ) → queues_start ≤ j → j < tx_reloads_start → P j) → Same P a b
    → (n : ℕ) → n < 16 → (ends_of b n).first ≡ (ends_of a n).first
unfolding ends_of
first_same records s n h = same_two s (queue n + 4) (records _ (omega arith) (omega arith)) (records _ (omega arith) (omega arith))

module _ {a b : List ℕ} (s : Rests a b) where
  mark_rests : (k : ℕ) → k < waiter_range → byte_at b (waits k) ≡ byte_at a (waits k)
  mark_rests k h = s.at (waits k) (omega arith)

  kept_rests : Kept a b
  kept_rests = Same-fewer (λ j p. record { timers = λ x y. p.low x (omega arith); payloads = λ x y. p.high (omega arith) (omega arith); count = p.count }) s

  pub Moves-rests : {plan : List ℕ} → Ready plan a → Moves plan a b
  Moves-rests r =
      let holding = r.holding in
      let queues = r.queues in
      let later = Holding-kept kept_rests holding in
      let same = queue_same {P = Resting} (λ j l m. omega arith) (λ j l m. omega arith) s in
      let grows : (n : ℕ) → n < 16 → Grows a b n = λ n h. Longer-same (same n h) in
      record {
        kept = kept_rests;
        queues = record {
          queue = λ n h.
              let x = queues.queue n h in
              Queue-stays kept_rests later h (first_same (λ j l m. omega arith) s n h) (same n h)
              (λ i l. rw (mark_rests (waiter a n i) (wait_small holding.fit (x.can i l))) (x.marked i l)) x;
          stands = λ n k can d.
              grows_stands (grows n (wait_node holding.fit can)) (queues.stands n k can (rw (mark_rests k (wait_small holding.fit can)) at d));
        };
        grows = grows;
      }
