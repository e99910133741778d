-- What a change of an area leaves: its length, and each byte at a place of P. One law for each definition, over any P that does not name a place
-- that the definition writes.
use mathlib.Core.Path.{◌≡◌, refl, ◌∙◌}
use mathlib.Core.Bool.{Bool}
use mathlib.Core.List.{List, [], ◌∷◌}
use Prim.Native.Nat.{ℕ, zero, suc, ◌+◌, ◌<◌, ◌≤◌, ◌/◌, ◌%◌}
use native.Mathlib.Nat.{add-zero, lt_of_lt_of_le}
use native.Mathlib.Omega.{arith}
use lib.ListN.{length, set, drop, length-set, length-drop}
use lib.Seq.{get_or-set_other, get_or-drop, ext_get_or}
use Rattle.base.specs.Pick.{pick}
use Rattle.base.specs.Numbers.{byte_at, low_at, set_low}
use Rattle.base.proofs.Picks.{both}
use Rattle.bits.specs.Payload.{bit_at, set_bit, copied}
use Rattle.bits.proofs.Fitting.{fitting-le}
use Rattle.plan.specs.Rows.{Source, copy, failure, width_of, Claim}
use Rattle.area.specs.declared.queue.Ends.{Ends}
use Rattle.area.specs.Layout.{tx_reloads_start, full_start, entries_start, payloads_start, masks_end, requests_start, queue, waits, tx_timer, spot}
use Rattle.area.specs.Queue.{ends_of, slot, behind, set_ends, queued, scheduled, requested, oldest, dequeued}
use Rattle.area.specs.Claims.{RxEvent, accepted, expired, sent_if, done_by, sent_by, done, all_done}

pub record Same (P : ℕ → Type 0) (a b : List ℕ) : Type 0 where
  pub len : length b ≡ length a
  pub at : (j : ℕ) → P j → byte_at b j ≡ byte_at a j

-- ---- the steps that every change is made of

module _ {P : ℕ → Type 0} where
  pub Same-refl : (a : List ℕ) → Same P a a
  Same-refl a = record { len = refl; at = λ j p. refl }

  pub Same-then : {a b c : List ℕ} → Same P a b → Same P b c → Same P a c
  Same-then s t = record { len = t.len ∙ s.len; at = λ j p. t.at j p ∙ s.at j p }

  pub Same-set : {a b : List ℕ} (i v : ℕ) → (P i → ⊥) → Same P a b → Same P a (set b i v)
  Same-set {a} {b} i v never s =
      record {
        len = length-set b i v ∙ s.len;
        at = λ j p. get_or-set_other b i j v 0 (λ e. never (rw e at p)) ∙ s.at j p;
      }

  pub Same-set_low : {a b : List ℕ} (i v : ℕ) → (P i → ⊥) → (P (i + 1) → ⊥) → Same P a b → Same P a (set_low b i v)
  Same-set_low i v high low s = Same-set (i + 1) _ low (Same-set i _ high s)

  pub Same-pick : {a : List ℕ} (t : Bool) (x y : List ℕ) → Same P a x → Same P a y → Same P a (pick t x y)
  Same-pick {a} t x y = both (Same P a) t x y

  pub Same-set_bit : (o : ℕ) {a b : List ℕ} (p v : ℕ) → (P (p / 8) → ⊥) → Same P a b → Same P a (set_bit o b p v)
  unfolding set_bit
  Same-set_bit o p v never s = Same-set _ _ never s

  pub Same-copied :
      (o : ℕ) (source : List ℕ) (p k : ℕ) {a b : List ℕ} (q : ℕ) → ((j : ℕ) → j < k → P ((q + j) / 8) → ⊥) → Same P a b
      → Same P a (copied o source p k b q)
  unfolding copied
  Same-copied o source p zero q never s = s
  Same-copied o source p (suc k) q never s =
      Same-set_bit o _ _ (never k (omega arith)) (Same-copied o source p k q (λ j l. never j (omega arith)) s)

  -- and what is read there
  pub same_two : {a b : List ℕ} → Same P a b → (i : ℕ) → P i → P (i + 1) → low_at b i ≡ low_at a i
  same_two s i high low = rw (s.at i high, s.at (i + 1) low)

  pub same_tail : (n : ℕ) {a b : List ℕ} → Same P a b → ((j : ℕ) → n ≤ j → P j) → drop n b ≡ drop n a
  same_tail n {a} {b} s all =
      ext_get_or 0 (drop n b) (drop n a) (simp (length-drop, s.len))
      (λ i h. rw (get_or-drop n b i, get_or-drop n a i) (s.at (n + i) (all (n + i) (omega arith))))

  pub same_bit : (o : ℕ) {a b : List ℕ} → Same P a b → (p : ℕ) → P (p / 8) → bit_at o b p ≡ bit_at o a p
  unfolding bit_at
  same_bit o s p h = rw (s.at (p / 8) h)

pub Same-fewer : {P Q : ℕ → Type 0} {a b : List ℕ} → ((j : ℕ) → Q j → P j) → Same P a b → Same Q a b
Same-fewer f s = record { len = s.len; at = λ j q. s.at j (f j q) }

-- ---- the queues

-- P names no end of node n's queue: the last four bytes of its record
abbrev pub NoEnds : (ℕ → Type 0) → ℕ → Type 0
NoEnds P n = (j : ℕ) → queue n + 4 ≤ j → j < queue n + 8 → P j → ⊥

-- nor a ring entry
abbrev pub NoRing : (ℕ → Type 0) → Type 0
NoRing P = (j : ℕ) → entries_start ≤ j → j < payloads_start → P j → ⊥

-- every entry lies among the entries
pub slot_low : (e : Ends) (i : ℕ) → entries_start ≤ slot e i
unfolding slot
slot_low e i = omega arith

pub slot_high : (e : Ends) (i : ℕ) → slot e i + 2 ≤ payloads_start
unfolding slot
slot_high e i = omega arith

module _ {P : ℕ → Type 0} where
  pub Same-set_ends : {a b : List ℕ} (n : ℕ) (e : Ends) → NoEnds P n → Same P a b → Same P a (set_ends b n e)
  unfolding set_ends
  Same-set_ends n e ends s =
      Same-set_low _ _ (ends _ (omega arith) (omega arith)) (ends _ (omega arith) (omega arith))
      (Same-set_low _ _ (ends _ (omega arith) (omega arith)) (ends _ (omega arith) (omega arith)) s)

  pub Same-queued : (a : List ℕ) (n t : ℕ) → NoEnds P n → NoRing P → Same P a (queued a n t)
  unfolding queued
  Same-queued a n t ends ring =
      let at = behind (ends_of a n) (ends_of a n).waiting in
      let low = slot_low (ends_of a n) at in
      let high = slot_high (ends_of a n) at in
      Same-set_ends n _ ends (Same-set_low _ _ (ring _ (omega arith) (omega arith)) (ring _ (omega arith) (omega arith)) (Same-refl a))

  pub Same-dequeued : (a : List ℕ) (n : ℕ) → NoEnds P n → (P (waits (oldest a n)) → ⊥) → Same P a (dequeued a n)
  unfolding dequeued
  Same-dequeued a n ends never = Same-set _ _ never (Same-set_ends n _ ends (Same-refl a))

-- P names no end of any queue, and no ring entry
module _ {P : ℕ → Type 0} (ends : (n : ℕ) → n < 16 → NoEnds P n) (ring : NoRing P) where
  pub Same-scheduled : (a : List ℕ) (t : ℕ) → (P (waits t) → ⊥) → (P (tx_timer t) → ⊥) → Same P a (scheduled a t)
  unfolding scheduled
  Same-scheduled a t never timer =
      Same-pick _ _ _
      (Same-set _ _ timer (Same-set _ _ never (Same-queued a _ t (ends _ (omega arith)) ring)))
      (Same-refl a)

  pub Same-requested : (a : List ℕ) (r : ℕ) → (P (waits (requests_start + r)) → ⊥) → Same P a (requested a r)
  unfolding requested
  Same-requested a r never = Same-pick _ _ _ (Same-set _ _ never (Same-queued a _ _ (ends _ (omega arith)) ring)) (Same-refl a)

  pub Same-sent_if :
      (flags : ℕ) (changed : Bool) (a : List ℕ) (t : ℕ) → (P (waits t) → ⊥) → (P (tx_timer t) → ⊥) → Same P a (sent_if flags changed a t)
  unfolding sent_if
  Same-sent_if flags changed a t never timer =
      let s = Same-scheduled a t never timer in
      Same-pick _ _ _ s (Same-pick _ _ _ (Same-pick _ _ _ s (Same-refl a)) (Same-refl a))

-- ---- the claims

-- P names no place that the claim may write: its bits, and its Tx frame's wait and timer
pub record Off (P : ℕ → Type 0) (c : Claim) : Type 0 where
  pub bits : (k : ℕ) → k < width_of c.from → P ((spot (c.tx % 256) c.at + k) / 8) → ⊥
  pub wait : P (waits (c.tx % 256)) → ⊥
  pub timer : P (tx_timer (c.tx % 256)) → ⊥

abbrev pub Each : {A : Type 0} → (A → Type 0) → List A → Type 0
Each Q [] = Unit {0}
Each Q (c ∷ cs) = Q c × Each Q cs

module _ {P : ℕ → Type 0} (ends : (n : ℕ) → n < 16 → NoEnds P n) (ring : NoRing P) where
  Same-done_by :
      (o : ℕ) (e : RxEvent) (a : List ℕ) (place : ℕ) (s : Source) → ((k : ℕ) → k < width_of s → P ((place + k) / 8) → ⊥)
      → Same P a (done_by o e a place s)
  unfolding done_by width_of
  Same-done_by o (accepted r pl) a place (copy p s) never =
      Same-copied o _ _ _ place (λ j l. never j (lt_of_lt_of_le l (fitting-le place s))) (Same-refl a)
  Same-done_by o (accepted r pl) a place failure never = Same-set_bit o place _ (λ p. never 0 (omega arith) (rw add-zero p)) (Same-refl a)
  Same-done_by o (expired r) a place (copy p s) never = Same-refl a
  Same-done_by o (expired r) a place failure never = Same-set_bit o place _ (λ p. never 0 (omega arith) (rw add-zero p)) (Same-refl a)

  Same-sent_by :
      (o : ℕ) (e : RxEvent) (a b : List ℕ) (t place : ℕ) (s : Source) → (P (waits t) → ⊥) → (P (tx_timer t) → ⊥)
      → Same P b (sent_by o e a b t place s)
  unfolding sent_by
  Same-sent_by o (accepted r pl) a b t place (copy p s) never timer = Same-sent_if ends ring _ _ b t never timer
  Same-sent_by o (accepted r pl) a b t place failure never timer = Same-refl b
  Same-sent_by o (expired r) a b t place (copy p s) never timer = Same-refl b
  Same-sent_by o (expired r) a b t place failure never timer = Same-refl b

  pub Same-done : (o : ℕ) (e : RxEvent) (a : List ℕ) (c : Claim) → Off P c → Same P a (done o e a c)
  unfolding done
  Same-done o e a c off =
      Same-then (Same-done_by o e a _ c.from off.bits) (Same-sent_by o e a _ _ _ c.from off.wait off.timer)

  pub Same-all_done : (o : ℕ) (e : RxEvent) (cs : List Claim) (a : List ℕ) → Each (Off P) cs → Same P a (all_done o e cs a)
  unfolding all_done
  Same-all_done o e [] a off = Same-refl a
  Same-all_done o e (c ∷ cs) a off = Same-then (Same-done o e a c off.0) (Same-all_done o e cs _ off.1)

-- ---- all of them at once, for a P that names no place that any of them writes

-- P: outside the ends of the queues, the timers, long counters and waits, and the entries, payloads and masks
pub record Spared (P : ℕ → Type 0) : Type 0 where
  pub ends : (n : ℕ) → n < 16 → NoEnds P n
  pub low : (j : ℕ) → tx_reloads_start ≤ j → j < full_start → P j → ⊥
  pub high : (j : ℕ) → entries_start ≤ j → j < masks_end → P j → ⊥

-- a claim as a plan of bytes states it: its bits may run past its Tx frame's payload, and end before the plan
pub record Narrow (c : Claim) : Type 0 where
  pub at : c.at < 256
  pub width : width_of c.from ≤ 256

module _ {P : ℕ → Type 0} (f : Spared P) where
  ring : NoRing P
  ring j l m = f.high j l (omega arith)

  pub spared_spot : (o : ℕ) {a b : List ℕ} (t q v : ℕ) → t < 256 → q < 256 → Same P a b → Same P a (set_bit o b (spot t q) v)
  spared_spot o t q v h l s = Same-set_bit o _ v (f.high _ (omega arith) (omega arith)) s

  pub spared_queued : (a : List ℕ) (n t : ℕ) → n < 16 → Same P a (queued a n t)
  spared_queued a n t h = Same-queued a n t (f.ends n h) ring

  pub spared_dequeued : (a : List ℕ) (n : ℕ) → n < 16 → Same P a (dequeued a n)
  unfolding oldest
  spared_dequeued a n h = Same-dequeued a n (f.ends n h) (f.low _ (omega arith) (omega arith))

  pub spared_scheduled : (a : List ℕ) (t : ℕ) → t < 256 → Same P a (scheduled a t)
  spared_scheduled a t h =
      Same-scheduled f.ends ring a t (f.low _ (omega arith) (omega arith)) (f.low _ (omega arith) (omega arith))

  pub spared_requested : (a : List ℕ) (r : ℕ) → r < 256 → Same P a (requested a r)
  spared_requested a r h = Same-requested f.ends ring a r (f.low _ (omega arith) (omega arith))

  pub spared_sent_if : (flags : ℕ) (changed : Bool) (a : List ℕ) (t : ℕ) → t < 256 → Same P a (sent_if flags changed a t)
  spared_sent_if flags changed a t h =
      Same-sent_if f.ends ring flags changed a t (f.low _ (omega arith) (omega arith)) (f.low _ (omega arith) (omega arith))

  spared_off : (c : Claim) → Narrow c → Off P c
  spared_off c n =
      record {
        bits = λ k l. f.high _ (omega (arith, n.at, n.width)) (omega (arith, n.at, n.width));
        wait = f.low _ (omega arith) (omega arith);
        timer = f.low _ (omega arith) (omega arith);
      }

  pub spared_done : (o : ℕ) (e : RxEvent) (a : List ℕ) (c : Claim) → Narrow c → Same P a (done o e a c)
  spared_done o e a c n = Same-done f.ends ring o e a c (spared_off c n)

  pub spared_all_done : (o : ℕ) (e : RxEvent) (cs : List Claim) (a : List ℕ) → Each Narrow cs → Same P a (all_done o e cs a)
  unfolding all_done
  spared_all_done o e [] a n = Same-refl a
  spared_all_done o e (c ∷ cs) a n = Same-then (spared_done o e a c n.0) (spared_all_done o e cs _ n.1)
