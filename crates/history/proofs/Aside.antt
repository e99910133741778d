-- What queues and timers leave, over any set of places P that names none of theirs, nor a payload where claims are acted on.
use mathlib.Core.Bool.{Bool}
use mathlib.Core.List.{List, [], ◌∷◌}
use Prim.Native.Nat.{ℕ, zero, suc, ◌<◌, ◌≤◌}
use native.Mathlib.Omega.{arith}
use lib.Dec.{ltb}
use borrow.Author.Tests.{ltb-true}
use Rattle.base.specs.Numbers.{byte_at}
use Rattle.base.proofs.Picks.{cases}
use Rattle.base.proofs.Ranges.{at_most-le}
use Rattle.plan.specs.Rows.{Claim}
use Rattle.facts.specs.Good.{Each}
use Rattle.facts.specs.Statements.{Small}
use Rattle.area.specs.Layout.{tx_timers_start, long_start, waits_start, full_start, payloads_start, tx_masks_start, node_count_byte}
use Rattle.area.specs.Layout.{waiter_range, tx_reload, tx_timer, long, waits, node_count}
use Rattle.area.specs.Queue.{scheduled, requested, oldest, dequeued}
use Rattle.area.specs.Claims.{RxEvent, sent_if, all_done}
use Rattle.area.proofs.Frame.{Same, NoEnds, NoRing, Off, Same-refl, Same-then, Same-set, Same-pick}
use Rattle.area.proofs.Frame.{Same-scheduled, Same-requested, Same-sent_if, Same-dequeued, Same-done}
use Rattle.ticking.specs.Tick.{timed, tx_tick, tx_ticks, long_lowered}
use Rattle.taking.specs.Taken.{oldest_area, taken_area}

-- P names no end of a queue and no ring entry, no timer and no wait
pub record Aside (P : ℕ → Type 0) : Type 0 where
  pub ends : (n : ℕ) → n < 16 → NoEnds P n
  pub ring : NoRing P
  pub timers : (j : ℕ) → tx_timers_start ≤ j → j < long_start → P j → ⊥
  pub waits : (j : ℕ) → waits_start ≤ j → j < full_start → P j → ⊥

module _ {P : ℕ → Type 0} (f : Aside P) where
  -- ---- timers and long counters

  pub aside_timed : (a : List ℕ) (reload at : ℕ) → tx_timers_start ≤ at → at < long_start → Same P a (timed a reload at)
  unfolding timed
  aside_timed a reload at l m = Same-set _ _ (f.timers at l m) (Same-refl a)

  pub aside_long : (a : List ℕ) (r : ℕ) → (P (long r) → ⊥) → Same P a (long_lowered a r)
  unfolding long_lowered
  aside_long a r never = Same-set _ _ never (Same-refl a)

  -- ---- queues

  wait : (k : ℕ) → k < waiter_range → P (waits k) → ⊥
  wait k h = f.waits _ (omega arith) (omega arith)

  timer : (t : ℕ) → t < 256 → P (tx_timer t) → ⊥
  timer t h = f.timers _ (omega arith) (omega arith)

  pub aside_scheduled : (a : List ℕ) (t : ℕ) → t < 256 → Same P a (scheduled a t)
  aside_scheduled a t h = Same-scheduled f.ends f.ring a t (wait t (omega arith)) (timer t h)

  pub aside_requested : (a : List ℕ) (r : ℕ) → r < 256 → Same P a (requested a r)
  aside_requested a r h = Same-requested f.ends f.ring a r (wait _ (omega arith))

  pub aside_sent_if : (flags : ℕ) (changed : Bool) (a : List ℕ) (t : ℕ) → t < 256 → Same P a (sent_if flags changed a t)
  aside_sent_if flags changed a t h = Same-sent_if f.ends f.ring flags changed a t (wait t (omega arith)) (timer t h)

  aside_dequeued : (a : List ℕ) (n : ℕ) → n < 16 → Same P a (dequeued a n)
  unfolding oldest
  aside_dequeued a n h = Same-dequeued a n (f.ends n h) (wait _ (omega arith))

  pub aside_taken : (a : List ℕ) (n : ℕ) → Same P a (taken_area a n)
  unfolding taken_area oldest_area
  aside_taken a n =
      Same-pick _ _ _
      (cases (Same P a) (ltb n (node_count a)) _ _
      (λ e.
      let l = ltb-true n (node_count a) e in
      Same-pick _ _ _ (Same-refl a) (aside_dequeued a n (omega (arith, at_most-le 16 (byte_at a node_count_byte)))))
      (λ e. Same-refl a))
      (Same-refl a)

  -- ---- Tx timers

  pub aside_tx_tick : (k : ℕ) (a : List ℕ) (t : ℕ) → t < 256 → Same P a (tx_tick k a t)
  unfolding tx_tick
  aside_tx_tick k a t h =
      let s = aside_timed a (tx_reload t) (tx_timer t) (omega arith) (omega arith) in
      Same-pick _ _ _ (Same-pick _ _ _ (Same-then s (aside_scheduled _ t h)) s) (Same-refl a)

  pub aside_tx_ticks : (k n : ℕ) (a : List ℕ) → n ≤ 256 → Same P a (tx_ticks k n a)
  unfolding tx_ticks
  aside_tx_ticks k zero a h = Same-refl a
  aside_tx_ticks k (suc n) a h = Same-then (aside_tx_ticks k n a (omega arith)) (aside_tx_tick k _ n (omega arith))

  -- ---- claims, where P names no payload either

  module _ (payloads : (j : ℕ) → payloads_start ≤ j → j < tx_masks_start → P j → ⊥) where
    off : (c : Claim) → Small c → Off P c
    off c s =
        record {
          bits = λ k l. payloads _ (omega (arith, s.bits)) (omega (arith, s.bits));
          wait = wait _ (omega arith);
          timer = timer _ (omega arith);
        }

    pub aside_all_done : (o : ℕ) (e : RxEvent) (cs : List Claim) (a : List ℕ) → Each Small cs → Same P a (all_done o e cs a)
    unfolding all_done Each
    aside_all_done o e [] a s = Same-refl a
    aside_all_done o e (c ∷ cs) a s = Same-then (Same-done f.ends f.ring o e a c (off c s.0)) (aside_all_done o e cs _ s.1)
