-- A take: the oldest frame or request of a node leaves its queue and its mark is cleared; the other queues stay.
use mathlib.Core.Path.{◌≡◌, refl, sym, ap, ◌∙◌}
use mathlib.Core.Logic.{◌≢◌}
use mathlib.Core.List.{List, ◌∷◌}
use Prim.Native.Nat.{ℕ, zero, suc, ◌<◌}
use native.Mathlib.Nat.{pos_of_ne-zero}
use native.Mathlib.Decide.{ℕ_discrete}
use native.Mathlib.Omega.{arith}
use borrow.Author.Tests.{ltb-true}
use lib.Dec.{ltb}
use lib.ListN.{length, get_or}
use lib.Seq.{get_or-set_same}
use Rattle.base.specs.Numbers.{byte_at}
use Rattle.base.proofs.Picks.{both, cases, by_eqb}
use Rattle.base.proofs.Ranges.{at_most-le}
use Rattle.area.specs.Layout.{node_count_byte, waits, node_count}
use Rattle.area.specs.Queue.{ends_of, removed, set_ends, oldest, dequeued, queue_of}
use Rattle.area.proofs.Frame.{Same-refl, Same-set_ends, Same-dequeued}
use Rattle.area.proofs.Kept.{Kept, Kept-dequeued}
use Rattle.area.proofs.QueueLaws.{ends_dequeued_other, queue_dequeued_other, queue_dequeued, sound_dequeued}
use Rattle.taking.specs.Taken.{oldest_area, taken_area}
use Rattle.sending.proofs.Longer.{Longer-same}
use Rattle.sending.proofs.Waiters.{CanWait, wait_small, wait_node, one_node}
use Rattle.sending.proofs.Queues.{waiter, Queue, Queues, Stands}
use Rattle.sending.proofs.Holding.{Holding, Holding-kept}
use Rattle.sending.proofs.Lines.{Line, line_of, Line-marked, Line-left, Queue-from_line, Queue-stays}
use Rattle.sending.proofs.Moves.{Ready, grows_stands}

module _ {plan a : List ℕ} (r : Ready plan a) (n : ℕ) (h : n < 16) (some : 0 < (ends_of a n).waiting) where
  open r use {holding, queues}

  -- the number of the oldest, and the area without it
  abbrev t : ℕ
  t = oldest a n

  abbrev b : List ℕ
  b = dequeued a n

  pub leaves : queue_of a n ≡ t ∷ queue_of b n
  leaves = queue_dequeued a n h holding.size (queues.queue n h).sound some

  line : Line plan a n (t ∷ queue_of b n)
  line = rw leaves at (line_of (queues.queue n h))

  pub oldest_can : CanWait plan n (oldest a n)
  oldest_can = line.can 0 (omega arith)

  -- ---- the marks

  pub cleared : byte_at b (waits t) ≡ 0
  unfolding dequeued
  cleared =
      let s = (Same-set_ends {P = λ j. ⊥} n (removed (ends_of a n)) (λ j x y p. p) (Same-refl a)).len in
      get_or-set_same (set_ends a n (removed (ends_of a n))) (waits t) 0 0 (omega (arith, wait_small holding.fit oldest_can, holding.size))

  mark_other : (u : ℕ) → u ≢ t → byte_at b (waits u) ≡ byte_at a (waits u)
  mark_other u d =
      (Same-dequeued {P = λ j. j ≡ waits u} a n (λ j x y p. omega arith) (λ p. d (omega arith))).at (waits u) refl

  -- ---- the queues

  kept : Kept a b
  kept = Kept-dequeued a n h

  later : Holding plan b
  later = Holding-kept kept holding

  -- what waits on another node is another
  marks : (m : ℕ) (l : m < 16) → m ≢ n → (i : ℕ) → i < length (queue_of a m) → byte_at b (waits (waiter a m i)) ≢ 0
  marks m l d i k =
      let x = queues.queue m l in
      rw (mark_other (waiter a m i) (λ e. d (one_node holding.fit (rw e at (x.can i k)) oldest_can))) (x.marked i k)

  queue : (m : ℕ) → m < 16 → Queue plan b m
  queue m l = go (ℕ_discrete m n)
    where
      go : Dec (m ≡ n) → Queue plan b m
      go (yes e) =
          let rest = Line-left t line in
          rw e
          (Queue-from_line later h (sound_dequeued a n h holding.size (queues.queue n h).sound some).first
          (Line-marked rest
          (λ i k. rw (mark_other (waiter b n i) (λ e. line.once 0 (suc i) (omega arith) (omega arith) (sym e))) (rest.marked i k))))
      go (no d) =
          Queue-stays kept later l (ap (λ e. e.first) (ends_dequeued_other a n h m l d)) (queue_dequeued_other a n h m l d) (marks m l d)
          (queues.queue m l)

  -- a place behind the oldest is one less
  behind : (u i : ℕ) → u ≢ t → i < length (t ∷ queue_of b n) → get_or (t ∷ queue_of b n) i 0 ≡ u → Stands b n u
  behind u zero d l e = absurd (d (sym e))
  behind u (suc i) d l e = record { place = i; within = omega arith; there = e }

  stands : (m u : ℕ) → CanWait plan m u → byte_at b (waits u) ≢ 0 → Stands b m u
  stands m u can mark = go (ℕ_discrete m n)
    where
      d : u ≢ t
      d e = mark (ap (λ x. byte_at b (waits x)) e ∙ cleared)

      s : Stands a m u
      s = queues.stands m u can (rw (mark_other u d) at mark)

      go : Dec (m ≡ n) → Stands b m u
      go (yes e) =
          let here : Stands a n u = rw e at s in
          rw e (behind u here.place d (rw leaves at here.within) (rw leaves at here.there))
      go (no e) = grows_stands (Longer-same (queue_dequeued_other a n h m (wait_node holding.fit can) e)) s

  queues_dequeued : Queues plan (dequeued a n)
  queues_dequeued = record { queue = queue; stands = stands }

-- ---- the call

pub Queues-taken : {plan a : List ℕ} (n : ℕ) → Ready plan a → Queues plan (taken_area a n)
unfolding taken_area oldest_area
Queues-taken {plan} {a} n r =
    let stay = r.queues in
    both (Queues plan) _ _ _
    (cases (Queues plan) (ltb n (node_count a)) _ _
    (λ e.
    let l = ltb-true n (node_count a) e in
    let h : n < 16 = omega (arith, at_most-le 16 (byte_at a node_count_byte)) in
    by_eqb (Queues plan) (ends_of a n).waiting 0 _ _ (λ z. stay) (λ d. queues_dequeued r n h (pos_of_ne-zero d)))
    (λ e. stay))
    stay
