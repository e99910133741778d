-- A list of those that wait on a node: who may stand in it, and what one that joins or leaves makes of it.
use mathlib.Core.Path.{◌≡◌, sym}
use mathlib.Core.Logic.{◌≢◌, ◌⊎◌, inl, inr, ⊎_elim}
use mathlib.Core.List.{List, [], ◌∷◌, ◌++◌}
use Prim.Native.Nat.{ℕ, suc, ◌-◌, ◌≤◌, ◌<◌}
use native.Mathlib.Decide.{dec_lt}
use native.Mathlib.Omega.{arith}
use lib.ListN.{length, get_or, length-append, get_or-append}
use lib.Seq.{get_or_at}
use Rattle.base.specs.Numbers.{byte_at}
use Rattle.area.specs.Layout.{waits}
use Rattle.area.specs.Queue.{ends_of, queue_of}
use Rattle.area.proofs.Kept.{Kept, room_kept}
use Rattle.area.proofs.QueueLaws.{length-queue_of}
use Rattle.tables.specs.Reads.{waiters_on}
use Rattle.sending.proofs.Plans.{Sendable}
use Rattle.sending.proofs.Waiters.{CanWait}
use Rattle.sending.proofs.Queues.{waiter, Queue}
use Rattle.sending.proofs.Room.{room_for_all}
use Rattle.sending.proofs.Holding.{Holding}

pub record Line (plan a : List ℕ) (n : ℕ) (q : List ℕ) : Type 0 where
  pub can : (i : ℕ) → i < length q → CanWait plan n (get_or q i 0)
  pub marked : (i : ℕ) → i < length q → byte_at a (waits (get_or q i 0)) ≢ 0
  pub once : (i j : ℕ) → i < j → j < length q → get_or q i 0 ≢ get_or q j 0

-- ---- one more at the end

-- who stands at a place of the longer list: one of the shorter, or the last
abbrev Joined : List ℕ → ℕ → ℕ → Type 0
Joined q t i = ((i < length q) × (get_or (q ++ (t ∷ [])) i 0 ≡ get_or q i 0)) ⊎ ((i ≡ length q) × (get_or (q ++ (t ∷ [])) i 0 ≡ t))

Joined-at_end : (q : List ℕ) (t i : ℕ) → i < length (q ++ (t ∷ [])) → Joined q t i
Joined-at_end q t i h = go (dec_lt i (length q))
  where
    go : Dec (i < length q) → Joined q t i
    go (yes l) = inl (l, get_or-append q (t ∷ []) 0 i l)
    go (no l) =
        let e : i ≡ length q = omega (arith, length-append q (t ∷ [])) in
        inr (e, get_or_at q t [] 0 i (sym e))

each_joined :
    (P : ℕ → Type 0) (q : List ℕ) (t : ℕ) → ((i : ℕ) → i < length q → P (get_or q i 0)) → P t → (i : ℕ) → i < length (q ++ (t ∷ []))
    → P (get_or (q ++ (t ∷ [])) i 0)
each_joined P q t each last i h = ⊎_elim (λ x. rw x.1 (each i x.0)) (λ x. rw x.1 last) (Joined-at_end q t i h)

module _ {plan a : List ℕ} {n : ℕ} where
  pub line_empty : Line plan a n []
  line_empty =
      record {
        can = λ i h. absurd (omega arith);
        marked = λ i h. absurd (omega arith);
        once = λ i j h l. absurd (omega arith);
      }

  pub Line-joined :
      {q : List ℕ} (t : ℕ) → CanWait plan n t → byte_at a (waits t) ≢ 0 → ((i : ℕ) → i < length q → get_or q i 0 ≢ t) → Line plan a n q
      → Line plan a n (q ++ (t ∷ []))
  Line-joined {q} t can marked new line =
      record {
        can = each_joined (CanWait plan n) q t line.can can;
        marked = each_joined (λ x. byte_at a (waits x) ≢ 0) q t line.marked marked;
        once = λ i j h l.
            let old : get_or q i 0 ≢ get_or (q ++ (t ∷ [])) j 0 =
            ⊎_elim (λ x. rw x.1 (line.once i j h x.0)) (λ x. rw x.1 (new i (omega arith))) (Joined-at_end q t j l) in
            rw (get_or-append q (t ∷ []) 0 i (omega (arith, length-append q (t ∷ [])))) old;
      }

  -- ---- the first leaves

  pub Line-left : {q : List ℕ} (t : ℕ) → Line plan a n (t ∷ q) → Line plan a n q
  Line-left t line =
      record {
        can = λ i h. line.can (suc i) (omega arith);
        marked = λ i h. line.marked (suc i) (omega arith);
        once = λ i j h l. line.once (suc i) (suc j) (omega arith) (omega arith);
      }

  -- ---- a change that leaves their marks

  pub Line-marked :
      {b q : List ℕ} → Line plan a n q → ((i : ℕ) → i < length q → byte_at b (waits (get_or q i 0)) ≢ 0) → Line plan b n q
  Line-marked line marked = record { can = line.can; marked = marked; once = line.once }

  -- ---- so a node's queue is one of no more than can wait on it

  pub line_few : Sendable plan → {q : List ℕ} → Line plan a n q → length q ≤ waiters_on plan n
  line_few fit {q} line =
      room_for_all plan n fit (λ i. get_or q i 0) (length q) line.can (λ i j h l e. go i j h l e (dec_lt i j) (dec_lt j i))
    where
      go : (i j : ℕ) → i < length q → j < length q → get_or q i 0 ≡ get_or q j 0 → Dec (i < j) → Dec (j < i) → i ≡ j
      go i j h l e (yes x) y = absurd (line.once i j x l e)
      go i j h l e (no x) (yes y) = absurd (line.once j i y h (sym e))
      go i j h l e (no x) (no y) = omega arith

  pub line_of : Queue plan a n → Line plan a n (queue_of a n)
  line_of x = record { can = x.can; marked = x.marked; once = x.once }

  pub Queue-from_line : Holding plan a → n < 16 → (ends_of a n).first ≤ (ends_of a n).room - 1 → Line plan a n (queue_of a n) → Queue plan a n
  Queue-from_line holding h first line =
      let few = line_few holding.fit line in
      let ring = holding.rings n h in
      record {
        sound = record {
          ring = ring.within;
          few = omega (arith, length-queue_of a n, ring.room);
          first = first;
        };
        can = line.can;
        marked = line.marked;
        once = line.once;
        few = few;
      }

-- a queue that a change leaves, with the marks of those in it
pub Queue-stays :
    {plan a b : List ℕ} {n : ℕ} → Kept a b → Holding plan b → n < 16 → (ends_of b n).first ≡ (ends_of a n).first → queue_of b n ≡ queue_of a n
    → ((i : ℕ) → i < length (queue_of a n) → byte_at b (waits (waiter a n i)) ≢ 0) → Queue plan a n → Queue plan b n
Queue-stays {n} kept holding h first same marked x =
    Queue-from_line holding h (rw (first, room_kept kept n h) x.sound.first) (rw same (Line-marked (line_of x) marked))
