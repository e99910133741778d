-- A node's queue as a list, the oldest first: a frame or a request joins at the end, the oldest leaves, and every other node's queue stays.
use mathlib.Core.Path.{◌≡◌, refl, ap, ◌∙◌}
use mathlib.Core.Logic.{◌≢◌, ◌⊎◌, inl, inr, ⊎_elim}
use mathlib.Core.List.{List, [], ◌∷◌, ◌++◌}
use Prim.Native.Nat.{ℕ, zero, suc, ◌+◌, ◌-◌, ◌<◌, ◌≤◌}
use native.Mathlib.Decide.{dec_lt}
use native.Mathlib.Nat.{add-zero, zero-add, mod-eq_of_lt}
use native.Mathlib.Numerals.{add-one}
use native.Mathlib.Omega.{arith}
use lib.Dec.{ltb}
use borrow.Author.Tests.{eq-eqb, ne_eqb, ltb-true, ltb-false}
use lib.ListN.{length, length-set}
use Rattle.base.specs.Numbers.{byte_at, low_at, set_low}
use Rattle.base.proofs.Picks.{picks, passes, cases}
use Rattle.base.proofs.Ranges.{low_same}
use Rattle.area.specs.declared.queue.Ends.{Ends}
use Rattle.area.specs.Layout.{queues_start, tx_reloads_start, entries_start, payloads_start, requests_start, waiter_range, LongEnough}
use Rattle.area.specs.Layout.{queue, entry, waits, tx_timer, home_node}
use Rattle.area.specs.Queue.{ends_of, past, slot, behind, entry_at, added, removed, set_ends, queued, scheduled, requested, oldest, dequeued}
use Rattle.area.specs.Queue.{entries, queue_of, Sound, Apart}
use Rattle.area.proofs.Frame.{slot_low, slot_high, Same, Same-refl, same_two, Same-set, Same-set_low, Same-set_ends, Same-queued, Same-dequeued}

-- ---- lists

entries_last : (a : List ℕ) (e : Ends) (k c : ℕ) → entries a e k (suc c) ≡ entries a e k c ++ (entry_at a e (behind e (k + c)) ∷ [])
unfolding entries
entries_last a e k zero = rw add-zero
entries_last a e k (suc c) =
    let s : suc k + c ≡ k + suc c = omega arith in
    rw (← s) (ap (λ (l : List ℕ). entry_at a e (behind e k) ∷ l) (entries_last a e (suc k) c))

-- two rings whose entries are alike, the one moved on by m
entries_alike :
    (a b : List ℕ) (e f : Ends) (m k c : ℕ)
    → ((i : ℕ) → i < c → low_at b (slot f (behind f (k + i))) ≡ low_at a (slot e (behind e (m + k + i))))
    → entries b f k c ≡ entries a e (m + k) c
unfolding entries
entries_alike a b e f m k zero h = refl
entries_alike a b e f m k (suc c) h =
    let z : low_at b (slot f (behind f k)) ≡ low_at a (slot e (behind e (m + k))) = rw (add-zero, add-zero) at (h 0 (omega arith)) in
    let x : m + suc k ≡ suc (m + k) = omega arith in
    let later : (i : ℕ) → i < c → low_at b (slot f (behind f (suc k + i))) ≡ low_at a (slot e (behind e (m + suc k + i))) =
    λ i l.
    let p : suc k + i ≡ k + suc i = omega arith in
    let q : m + suc k + i ≡ m + k + suc i = omega arith in
    rw (p, q) (h (suc i) (omega arith)) in
    let r : entries b f (suc k) c ≡ entries a e (suc (m + k)) c = rw x at (entries_alike a b e f m (suc k) c later) in
    cc

entries-length : (a : List ℕ) (e : Ends) (k c : ℕ) → length (entries a e k c) ≡ c
unfolding entries
entries-length a e k zero = refl
entries-length a e k (suc c) = ap suc (entries-length a e (suc k) c)

pub length-queue_of : (a : List ℕ) (n : ℕ) → length (queue_of a n) ≡ (ends_of a n).waiting
unfolding queue_of
length-queue_of a n = entries-length a (ends_of a n) 0 (ends_of a n).waiting

-- ---- numbers of two bytes

-- the two bytes from j on
abbrev Two : ℕ → ℕ → Type 0
Two j k = (j ≤ k) × (k ≤ j + 1)

two_kept : {a b : List ℕ} (j : ℕ) → Same (Two j) a b → low_at b j ≡ low_at a j
two_kept j s = same_two s j (omega arith, omega arith) (omega arith, omega arith)

-- a number stored beside them
aside : {a b : List ℕ} (i v j : ℕ) → (j + 2 ≤ i) ⊎ (i + 2 ≤ j) → Same (Two j) a b → Same (Two j) a (set_low b i v)
aside i v j d s =
    Same-set_low i v (λ p. ⊎_elim (λ x. omega arith) (λ x. omega arith) d) (λ p. ⊎_elim (λ x. omega arith) (λ x. omega arith) d) s

two_other : (a : List ℕ) (i v j : ℕ) → (j + 2 ≤ i) ⊎ (i + 2 ≤ j) → low_at (set_low a i v) j ≡ low_at a j
two_other a i v j d =
    two_kept j (aside i v j d (Same-refl a))

-- ---- the record of a queue

abbrev InRecord : ℕ → ℕ → Type 0
InRecord n j = (queue n ≤ j) × (j < queue n + 8)

ends_same : {a b : List ℕ} (n : ℕ) → Same (InRecord n) a b → ends_of b n ≡ ends_of a n
unfolding ends_of
ends_same n s =
    rw (
      same_two s (queue n) (omega arith, omega arith) (omega arith, omega arith),
      same_two s (queue n + 2) (omega arith, omega arith) (omega arith, omega arith),
      same_two s (queue n + 4) (omega arith, omega arith) (omega arith, omega arith),
      same_two s (queue n + 6) (omega arith, omega arith) (omega arith, omega arith),
    )

ends_set_ends :
    (b : List ℕ) (n : ℕ) (f : Ends) → n < 16 → LongEnough b → f.first < 65536 → f.waiting < 65536
    → ends_of (set_ends b n f) n ≡ record { start = (ends_of b n).start; room = (ends_of b n).room; first = f.first; waiting = f.waiting }
unfolding ends_of set_ends
ends_set_ends b n f hn hb h l =
    let c = set_low b (queue n + 4) f.first in
    let g : queue n + 6 + 2 ≤ length c = simp length-set (omega arith) in
    rw (
      two_other c (queue n + 6) f.waiting (queue n) (inl (omega arith)) ∙ two_other b (queue n + 4) f.first (queue n) (inl (omega arith)),
      two_other c (queue n + 6) f.waiting (queue n + 2) (inl (omega arith))
          ∙ two_other b (queue n + 4) f.first (queue n + 2) (inl (omega arith)),
      two_other c (queue n + 6) f.waiting (queue n + 4) (inl (omega arith)) ∙ low_same b (queue n + 4) f.first (omega arith) h,
      low_same c (queue n + 6) f.waiting g l,
    )

-- ---- the entries of a ring

-- where a place of the ring is: not round yet, or once
wrap : (f k room : ℕ) → ((past f k room ≡ f + k) × (f + k < room)) ⊎ ((past f k room ≡ f + k - room) × (room ≤ f + k))
unfolding past
wrap f k room =
    cases (λ x. ((x ≡ f + k) × (f + k < room)) ⊎ ((x ≡ f + k - room) × (room ≤ f + k))) (ltb (f + k) room) (f + k) (f + k - room)
    (λ e. inl (refl, ltb-true (f + k) room e)) (λ e. inr (refl, omega (arith, ltb-false (f + k) room e)))

within : (f k room : ℕ) → f < room → k ≤ room → past f k room < room
within f k room h l = ⊎_elim (λ x. omega arith) (λ x. omega arith) (wrap f k room)

-- two places of one ring are two
turned : (f i k room : ℕ) → f < room → i < k → k < room → past f i room ≢ past f k room
turned f i k room h l m e =
    ⊎_elim
    (λ x. ⊎_elim (λ y. omega arith) (λ y. omega arith) (wrap f k room))
    (λ x. ⊎_elim (λ y. omega arith) (λ y. omega arith) (wrap f k room))
    (wrap f i room)

-- the first is where it is, and the one behind it is the first of what remains
past_first : (f room : ℕ) → f < room → past f 0 room ≡ f
past_first f room h = ⊎_elim (λ x. omega arith) (λ x. omega arith) (wrap f 0 room)

past_next : (f k room : ℕ) → f < room → k < room → past (past f 1 room) k room ≡ past f (1 + k) room
past_next f k room h l =
    let w = wrap (past f 1 room) k room in
    ⊎_elim
    (λ x. ⊎_elim (λ y. ⊎_elim (λ z. omega arith) (λ z. omega arith) w) (λ y. ⊎_elim (λ z. omega arith) (λ z. omega arith) w) (wrap f 1 room))
    (λ x. ⊎_elim (λ y. ⊎_elim (λ z. omega arith) (λ z. omega arith) w) (λ y. ⊎_elim (λ z. omega arith) (λ z. omega arith) w) (wrap f 1 room))
    (wrap f (1 + k) room)

-- and their entries have no common byte
far : (start x y p q : ℕ) → p ≡ entry (start + x) → q ≡ entry (start + y) → p ≢ q → (p + 2 ≤ q) ⊎ (q + 2 ≤ p)
far start x y p q e f d = go (dec_lt p q)
  where
    go : Dec (p < q) → (p + 2 ≤ q) ⊎ (q + 2 ≤ p)
    go (yes l) = inl (omega arith)
    go (no l) = inr (omega (arith, d))

-- where a sound ring has an entry, the oldest is one of them
inside : (e : Ends) → Sound e → 0 < e.room → e.first < e.room
inside e s h = omega (arith, s.first)

-- an entry of a sound ring stands where it should
slot_is : (e : Ends) → Sound e → (i : ℕ) → i < e.room → slot e i ≡ entry (e.start + i)
unfolding slot
slot_is e s i h = ap entry (mod-eq_of_lt (omega (arith, s.ring)))

-- ---- a queue that nothing moves

queue_alike :
    (a b : List ℕ) (n : ℕ) → ends_of b n ≡ ends_of a n
    → ((k : ℕ) → k < (ends_of a n).waiting → low_at b (slot (ends_of a n) (behind (ends_of a n) k)) ≡ low_at a (slot (ends_of a n) (behind (ends_of a n) k)))
    → queue_of b n ≡ queue_of a n
unfolding queue_of
queue_alike a b n e h = rw e (entries_alike a b (ends_of a n) (ends_of a n) 0 0 (ends_of a n).waiting (λ i l. h (0 + i) (omega arith)))

-- a change that leaves the records of the queues and their rings
pub queue_same :
    {P : ℕ → Type 0} {a b : List ℕ} → ((j : ℕ) → queues_start ≤ j → j < tx_reloads_start → P j)
    → ((j : ℕ) → entries_start ≤ j → j < payloads_start → P j) → Same P a b → (n : ℕ) → n < 16
    → queue_of b n ≡ queue_of a n
queue_same {P} {a} {b} records rings s n h =
    queue_alike a b n
    (ends_same n (record { len = s.len; at = λ j p. s.at j (records j (omega arith) (omega arith)) }))
    (λ k l.
    let low = slot_low (ends_of a n) (behind (ends_of a n) k) in
    let high = slot_high (ends_of a n) (behind (ends_of a n) k) in
    same_two s (slot (ends_of a n) (behind (ends_of a n) k)) (rings _ low (omega arith)) (rings _ (omega arith) (omega arith)))

-- ---- joining

module _ (a : List ℕ) (n t : ℕ) (hn : n < 16) (ha : LongEnough a) (s : Sound (ends_of a n)) where
  -- where t goes
  abbrev at : ℕ
  at = slot (ends_of a n) (behind (ends_of a n) (ends_of a n).waiting)

  -- what joining leaves beside the place that t goes to
  beside : (j : ℕ) → tx_reloads_start ≤ j → (j + 2 ≤ at) ⊎ (at + 2 ≤ j) → low_at (queued a n t) j ≡ low_at a j
  unfolding queued
  beside j l d =
      two_kept j (Same-set_ends n _ (λ k x y p. omega arith) (aside at t j d (Same-refl a)))

  module _ (ht : t < waiter_range) (some : (ends_of a n).waiting < (ends_of a n).room) where
    first_in : (ends_of a n).first < (ends_of a n).room
    first_in = inside (ends_of a n) s (omega arith)

    pub ends_queued : ends_of (queued a n t) n ≡ added (ends_of a n)
    unfolding queued added
    ends_queued =
        let low = slot_low (ends_of a n) (behind (ends_of a n) (ends_of a n).waiting) in
        let same = ends_same n (Same-set_low {P = InRecord n} at t (λ p. omega arith) (λ p. omega arith) (Same-refl a)) in
        ends_set_ends (set_low a at t) n (added (ends_of a n)) hn (simp length-set ha) (omega (arith, s.first, s.ring)) (omega (arith, s.ring))
        ∙ rw same

    joined : low_at (queued a n t) at ≡ t
    unfolding queued
    joined =
        let low = slot_low (ends_of a n) (behind (ends_of a n) (ends_of a n).waiting) in
        let high = slot_high (ends_of a n) (behind (ends_of a n) (ends_of a n).waiting) in
        two_kept at (Same-set_ends n _ (λ k x y p. omega arith) (Same-refl (set_low a at t))) ∙ low_same a at t (omega arith) (omega arith)

    earlier :
        (i : ℕ) → i < (ends_of a n).waiting
        → low_at (queued a n t) (slot (ends_of a n) (behind (ends_of a n) i)) ≡ low_at a (slot (ends_of a n) (behind (ends_of a n) i))
    earlier i l =
        let e = ends_of a n in
        let d = turned e.first i e.waiting e.room first_in l some in
        let p = slot_is e s (behind e i) (within e.first i e.room first_in (omega arith)) in
        let q = slot_is e s (behind e e.waiting) (within e.first e.waiting e.room first_in s.few) in
        beside (slot e (behind e i)) (omega (arith, slot_low e (behind e i))) (far e.start _ _ _ _ p q (λ e. d (omega arith)))

    -- "the frame joins its node's queue at the end"
    pub queue_queued : queue_of (queued a n t) n ≡ queue_of a n ++ (t ∷ [])
    unfolding queue_of added slot
    queue_queued =
        let e = ends_of a n in
        let rest : entries (queued a n t) (added e) 0 e.waiting ≡ entries a e 0 e.waiting =
        entries_alike a (queued a n t) e (added e) 0 0 e.waiting (λ i l. rw zero-add (earlier i l)) in
        let last : entry_at (queued a n t) (added e) (behind (added e) (0 + e.waiting)) ≡ t = rw (zero-add, joined, mod-eq_of_lt ht) in
        let one : entries (queued a n t) (added e) 0 (e.waiting + 1) ≡ entries a e 0 e.waiting ++ (t ∷ []) =
        ap (entries (queued a n t) (added e) 0) (add-one e.waiting) ∙ entries_last (queued a n t) (added e) 0 e.waiting ∙ rw (rest, last) in
        rw ends_queued one

    pub sound_queued : Sound (ends_of (queued a n t) n)
    unfolding added
    sound_queued = rw ends_queued (record { ring = s.ring; few = omega arith; first = s.first })

    -- the other nodes' queues stay
    module _ (m : ℕ) (hm : m < 16) (d : m ≢ n) where
      pub ends_queued_other : ends_of (queued a n t) m ≡ ends_of a m
      ends_queued_other = ends_same m (Same-queued a n t (λ j x y p. d (omega arith)) (λ j x y p. omega arith))

      pub queue_queued_other : Sound (ends_of a m) → Apart (ends_of a m) (ends_of a n) → queue_of (queued a n t) m ≡ queue_of a m
      queue_queued_other r apart =
          let e = ends_of a n in
          let f = ends_of a m in
          let j = within e.first e.waiting e.room first_in s.few in
          let q = slot_is e s (behind e e.waiting) j in
          queue_alike a (queued a n t) m ends_queued_other
          (λ k l.
          let i = within f.first k f.room (inside f r (omega (arith, r.few))) (omega (arith, r.few)) in
          let p = slot_is f r (behind f k) i in
          beside (slot f (behind f k)) (omega arith) (⊎_elim (λ x. inl (omega arith)) (λ x. inr (omega arith)) apart))

-- ---- leaving

module _ (a : List ℕ) (n : ℕ) (hn : n < 16) where
  rings : (e : Ends) (k : ℕ) → low_at (dequeued a n) (slot e k) ≡ low_at a (slot e k)
  unfolding oldest
  rings e k =
      let low = slot_low e k in
      two_kept (slot e k) (Same-dequeued a n (λ j x y p. omega arith) (λ p. omega arith))

  -- the other nodes' queues stay
  pub ends_dequeued_other : (m : ℕ) → m < 16 → m ≢ n → ends_of (dequeued a n) m ≡ ends_of a m
  unfolding oldest
  ends_dequeued_other m hm d = ends_same m (Same-dequeued a n (λ j x y p. d (omega arith)) (λ p. omega arith))

  pub queue_dequeued_other : (m : ℕ) → m < 16 → m ≢ n → queue_of (dequeued a n) m ≡ queue_of a m
  queue_dequeued_other m hm d = queue_alike a (dequeued a n) m (ends_dequeued_other m hm d) (λ k l. rings (ends_of a m) _)

  module _ (ha : LongEnough a) (s : Sound (ends_of a n)) (some : 0 < (ends_of a n).waiting) where
    oldest_in : (ends_of a n).first < (ends_of a n).room
    oldest_in = inside (ends_of a n) s (omega (arith, s.few))

    pub ends_dequeued : ends_of (dequeued a n) n ≡ removed (ends_of a n)
    unfolding dequeued removed oldest
    ends_dequeued =
        let l = within (ends_of a n).first 1 (ends_of a n).room oldest_in (omega (arith, oldest_in)) in
        ends_same n (Same-set {P = InRecord n} _ 0 (λ p. omega arith) (Same-refl _))
        ∙ ends_set_ends a n (removed (ends_of a n)) hn ha (omega (arith, s.ring)) (omega (arith, s.few, s.ring))

    moved : (k : ℕ) → k < (ends_of a n).room → slot (removed (ends_of a n)) (behind (removed (ends_of a n)) k) ≡ slot (ends_of a n) (behind (ends_of a n) (1 + k))
    unfolding slot removed
    moved k h = rw (past_next (ends_of a n).first k (ends_of a n).room oldest_in h)

    -- the oldest leaves
    pub queue_dequeued : queue_of a n ≡ oldest a n ∷ queue_of (dequeued a n) n
    unfolding queue_of oldest entries removed
    queue_dequeued =
        let e = ends_of a n in
        let w : e.waiting ≡ suc (e.waiting - 1) = omega arith in
        let head : entries a e 0 e.waiting ≡ entry_at a e (behind e 0) ∷ entries a e 1 (e.waiting - 1) = ap (entries a e 0) w in
        let rest : entries (dequeued a n) (removed e) 0 (e.waiting - 1) ≡ entries a e 1 (e.waiting - 1) =
        entries_alike a (dequeued a n) e (removed e) 1 0 (e.waiting - 1) (λ i l. rw (zero-add, moved i (omega (arith, s.few))) (rings e _)) in
        rw (ends_dequeued, head, past_first e.first e.room oldest_in, rest)

    pub sound_dequeued : Sound (ends_of (dequeued a n) n)
    unfolding removed
    sound_dequeued =
        rw ends_dequeued
        (record {
          ring = s.ring;
          few = omega (arith, s.few);
          first = omega (arith, within (ends_of a n).first 1 (ends_of a n).room oldest_in (omega (arith, oldest_in)));
        })

-- ---- scheduling

-- a frame that waits stays where it is
pub scheduled_waiting : (a : List ℕ) (t : ℕ) → byte_at a (waits t) ≢ 0 → scheduled a t ≡ a
unfolding scheduled
scheduled_waiting a t d = passes _ _ _ (ne_eqb _ _ d)

-- a frame that does not joins its node's queue: as far as the queues go, that is all
pub queue_scheduled :
    (a : List ℕ) (t m : ℕ) → t < 256 → m < 16 → byte_at a (waits t) ≡ 0 → queue_of (scheduled a t) m ≡ queue_of (queued a (home_node a t) t) m
unfolding scheduled
queue_scheduled a t m ht hm z =
    rw (picks _ _ _ (eq-eqb _ _ z))
    (queue_same {P = λ j. (j ≡ waits t → ⊥) × (j ≡ tx_timer t → ⊥)} (λ j l h. (λ e. omega arith, λ e. omega arith))
    (λ j l h. (λ e. omega arith, λ e. omega arith))
    (Same-set _ _ (λ p. p.1 refl) (Same-set _ _ (λ p. p.0 refl) (Same-refl _))) m hm)

-- ---- asking

-- a request that waits stays where it is
pub requested_waiting : (a : List ℕ) (r : ℕ) → byte_at a (waits (requests_start + r)) ≢ 0 → requested a r ≡ a
unfolding requested
requested_waiting a r d = passes _ _ _ (ne_eqb _ _ d)

-- one that does not joins its node's queue
pub queue_requested :
    (a : List ℕ) (r m : ℕ) → r < 256 → m < 16 → byte_at a (waits (requests_start + r)) ≡ 0
    → queue_of (requested a r) m ≡ queue_of (queued a (home_node a (requests_start + r)) (requests_start + r)) m
unfolding requested
queue_requested a r m hr hm z =
    rw (picks _ _ _ (eq-eqb _ _ z))
    (queue_same {P = λ j. j ≡ waits (requests_start + r) → ⊥} (λ j l h e. omega arith) (λ j l h e. omega arith)
    (Same-set _ _ (λ p. p refl) (Same-refl _)) m hm)
