-- One who can wait on a node and is not marked: it joins the node's queue at the end and is marked, and the other queues stay.
use mathlib.Core.Path.{◌≡◌, refl, ap, ◌∙◌}
use mathlib.Core.Logic.{◌≢◌}
use mathlib.Core.List.{List, [], ◌∷◌, ◌++◌}
use Prim.Native.Nat.{ℕ, ◌<◌}
use native.Mathlib.Decide.{ℕ_discrete}
use native.Mathlib.Omega.{arith}
use lib.ListN.{length, set, length-append}
use lib.Seq.{get_or-append_seam, get_or-set_same}
use Rattle.base.specs.Numbers.{byte_at}
use Rattle.area.specs.Layout.{waiter_range, waits}
use Rattle.area.specs.Queue.{ends_of, added, queued, queue_of, Sound}
use Rattle.area.proofs.Frame.{Same, Same-refl, Same-set, Same-queued}
use Rattle.area.proofs.Kept.{Kept, Kept-queued, Kept-low, room_kept}
use Rattle.area.proofs.QueueLaws.{length-queue_of, queue_same, ends_queued, queue_queued, ends_queued_other, queue_queued_other}
use Rattle.sending.proofs.Longer.{Longer-same}
use Rattle.sending.proofs.Waiters.{CanWait, wait_small, wait_node, one_node}
use Rattle.sending.proofs.Queues.{waiter, Queue, Stands, Grows}
use Rattle.sending.proofs.Holding.{Holding, Holding-kept}
use Rattle.sending.proofs.Lines.{Line, line_of, Line-marked, Line-joined, line_few, Queue-from_line, Queue-stays}
use Rattle.sending.proofs.Moves.{Ready, Moves, first_same, grows_stands}

-- the area with number k at the end of node n's queue, and marked
abbrev pub joined : List ℕ → ℕ → ℕ → List ℕ
joined a n k = set (queued a n k) (waits k) 1

module _ {plan a : List ℕ} (r : Ready plan a) (n k : ℕ) (can : CanWait plan n k) (free : byte_at a (waits k) ≡ 0) where
  open r use {holding, queues}

  abbrev b : List ℕ
  b = joined a n k

  below : n < 16
  below = wait_node holding.fit can

  few : k < waiter_range
  few = wait_small holding.fit can

  sound : Sound (ends_of a n)
  sound = (queues.queue n below).sound

  -- the mark stands off the queues
  beside : Same (λ j. j ≢ waits k) (queued a n k) b
  beside = Same-set (waits k) 1 (λ p. p refl) (Same-refl (queued a n k))

  kept : Kept a b
  kept = Kept-low (waits k) 1 (omega arith) (omega (arith, few)) (Kept-queued a n k below)

  after : Holding plan b
  after = Holding-kept kept holding

  -- ---- the marks

  marked : byte_at b (waits k) ≡ 1
  marked =
      let s = (Same-queued {P = λ j. ⊥} a n k (λ j x y p. p) (λ j x y p. p)).len in
      get_or-set_same (queued a n k) (waits k) 1 0 (omega (arith, holding.size, few))

  mark_other : (u : ℕ) → u < waiter_range → u ≢ k → byte_at b (waits u) ≡ byte_at a (waits u)
  mark_other u l d =
      beside.at (waits u) (λ e. d (omega arith))
      ∙ (Same-queued {P = λ j. j ≡ waits u} a n k (λ j x y p. omega (arith, below)) (λ j x y p. omega arith)).at (waits u) refl

  marks : (m : ℕ) (l : m < 16) (i : ℕ) → i < length (queue_of a m) → byte_at b (waits (waiter a m i)) ≢ 0
  marks m l i h =
      let x = queues.queue m l in
      rw (mark_other (waiter a m i) (wait_small holding.fit (x.can i h)) (λ e. x.marked i h (ap (λ u. byte_at a (waits u)) e ∙ free)))
      (x.marked i h)

  -- ---- the longer line, and that there is room for it

  line : Line plan b n (queue_of a n ++ (k ∷ []))
  line =
      let x = queues.queue n below in
      Line-joined k can (λ z. omega (arith, marked)) (λ i h z. x.marked i h (ap (λ y. byte_at a (waits y)) z ∙ free))
      (Line-marked (line_of x) (marks n below))

  some : (ends_of a n).waiting < (ends_of a n).room
  some = omega (arith, line_few holding.fit line, length-append (queue_of a n) (k ∷ []), length-queue_of a n, (holding.rings n below).room)

  -- ---- the queues

  pub queue_joins : queue_of (queued a n k) n ≡ queue_of a n ++ (k ∷ [])
  queue_joins = queue_queued a n k below holding.size sound few some

  pub queue_others : (m : ℕ) → m < 16 → m ≢ n → queue_of (queued a n k) m ≡ queue_of a m
  queue_others m l d = queue_queued_other a n k below holding.size sound few some m l d (queues.queue m l).sound ((holding.rings n below).apart m l d)

  same : (m : ℕ) → m < 16 → queue_of b m ≡ queue_of (queued a n k) m
  same = queue_same (λ j l h e. omega (arith, few)) (λ j l h e. omega (arith, few)) beside

  grows : (m : ℕ) → m < 16 → Grows a b m
  grows m l = go (ℕ_discrete m n)
    where
      go : Dec (m ≡ n) → Grows a b m
      go (yes e) = rw e (record { new = k ∷ []; then = same n below ∙ queue_joins })
      go (no d) = Longer-same (same m l ∙ queue_others m l d)

  first : (m : ℕ) → m < 16 → (ends_of b m).first ≡ (ends_of a m).first
  unfolding added
  first m l = first_same (λ j x y e. omega (arith, few)) beside m l ∙ go (ℕ_discrete m n)
    where
      go : Dec (m ≡ n) → (ends_of (queued a n k) m).first ≡ (ends_of a m).first
      go (yes e) = rw (e, ends_queued a n k below holding.size sound few some)
      go (no d) = rw (ends_queued_other a n k below holding.size sound few some m l d)

  queue : (m : ℕ) → m < 16 → Queue plan b m
  queue m l = go (ℕ_discrete m n)
    where
      go : Dec (m ≡ n) → Queue plan b m
      go (yes e) = rw e (Queue-from_line after below (rw (first n below, room_kept kept n below) sound.first) (rw (same n below, queue_joins) line))
      go (no d) = Queue-stays kept after l (first m l) (same m l ∙ queue_others m l d) (marks m l) (queues.queue m l)

  stands : (m u : ℕ) → CanWait plan m u → byte_at b (waits u) ≢ 0 → Stands b m u
  stands m u c d = go (ℕ_discrete u k)
    where
      go : Dec (u ≡ k) → Stands b m u
      go (yes e) =
          let home : m ≡ n = one_node holding.fit (rw e at c) can in
          rw (e, home)
          (record {
            place = length (queue_of a n);
            within = rw (same n below, queue_joins, length-append) (omega arith);
            there = rw (same n below, queue_joins) (get_or-append_seam (queue_of a n) k [] 0);
          })
      go (no e) =
          grows_stands (grows m (wait_node holding.fit c)) (queues.stands m u c (rw (mark_other u (wait_small holding.fit c) e) at d))

  pub moves_joined : Moves plan a (joined a n k)
  moves_joined = record { kept = kept; queues = record { queue = queue; stands = stands }; grows = grows }
