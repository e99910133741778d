-- What the steps of a tick leave, over any set of places P that no step writes.
use mathlib.Core.Path.{refl}
use mathlib.Core.List.{List}
use Prim.Native.Nat.{ℕ, zero, suc, ◌+◌, ◌/◌, ◌<◌, ◌≤◌}
use native.Mathlib.Omega.{arith}
use Rattle.base.proofs.Ranges.{at_most-le}
use Rattle.records.specs.Kinds.{rx_at}
use Rattle.area.specs.Layout.{counter_byte, requests_start, spot, long, waits, tx_reload, rx_reload, tx_timer, rx_timer, order, tx_count, rx_count}
use Rattle.area.specs.Layout.{rx_frame, claims}
use Rattle.area.specs.Claims.{expired, all_done, failure_written}
use Rattle.area.proofs.Frame.{Same, Same-refl, Same-then, Same-set, Same-pick, Same-set_bit, NoEnds, NoRing, Same-scheduled, Same-requested, Spared}
use Rattle.area.proofs.Kept.{Kept, planned}
use Rattle.ticking.specs.Tick.{timed, tx_tick, tx_ticks, long_lowered, expired_area, rx_expiry, rx_tick, rx_ticks, ticked}
use Rattle.ticking.proofs.ExpiryLaws.{failed}
use Rattle.ticking.proofs.Positions.{Positions, Positions-kept}

-- P names no byte that a failure bit at position q may stand in
abbrev pub Missed : (ℕ → Type 0) → ℕ → Type 0
Missed P q = (t : ℕ) → t < 256 → P (spot t q / 8) → ⊥

module _ {P : ℕ → Type 0} where
  Same-failed : (a : List ℕ) (r : ℕ) → Missed P (rx_frame a r).position → Same P a (all_done (order a) (expired r) (claims a r) a)
  unfolding failure_written rx_frame rx_at
  Same-failed a r missed = rw (failed a r) (Same-pick _ _ _ (Same-set_bit (order a) _ 1 (missed _ (omega arith)) (Same-refl a)) (Same-refl a))

  Same-timed : (a : List ℕ) (reload at : ℕ) → (P at → ⊥) → Same P a (timed a reload at)
  unfolding timed
  Same-timed a reload at never = Same-set _ _ never (Same-refl a)

  -- a timeout, and the expiry of an Rx timer
  pub Same-expired : (a : List ℕ) (r : ℕ) → (P (long r) → ⊥) → Missed P (rx_frame a r).position → Same P a (expired_area a r)
  unfolding expired_area long_lowered
  Same-expired a r never missed = Same-set _ _ never (Same-failed a r missed)

  module _ (ends : (n : ℕ) → n < 16 → NoEnds P n) (ring : NoRing P) where
    pub Same-expiry :
        (a : List ℕ) (r : ℕ) → (P (waits (requests_start + r)) → ⊥) → (P (long r) → ⊥) → Missed P (rx_frame a r).position → Same P a (rx_expiry a r)
    unfolding rx_expiry
    Same-expiry a r wait never missed = Same-pick _ _ _ (Same-requested ends ring a r wait) (Same-expired a r never missed)

    -- the turn of one timer
    pub Same-rx_tick :
        (k : ℕ) (a : List ℕ) (r : ℕ) → (P (rx_timer r) → ⊥) → (P (waits (requests_start + r)) → ⊥) → (P (long r) → ⊥)
        → Missed P (rx_frame (timed a (rx_reload r) (rx_timer r)) r).position → Same P a (rx_tick k a r)
    unfolding rx_tick
    Same-rx_tick k a r timer wait never missed =
        let s = Same-timed a (rx_reload r) (rx_timer r) timer in
        Same-pick _ _ _ (Same-pick _ _ _ (Same-then s (Same-expiry _ r wait never missed)) s) (Same-refl a)

    pub Same-tx_tick : (k : ℕ) (a : List ℕ) (t : ℕ) → (P (waits t) → ⊥) → (P (tx_timer t) → ⊥) → Same P a (tx_tick k a t)
    unfolding tx_tick
    Same-tx_tick k a t never timer =
        let s = Same-timed a (tx_reload t) (tx_timer t) timer in
        Same-pick _ _ _ (Same-pick _ _ _ (Same-then s (Same-scheduled ends ring _ t never timer)) s) (Same-refl a)

module _ {P : ℕ → Type 0} (f : Spared P) where
  spared_tx_tick : (k : ℕ) (a : List ℕ) (t : ℕ) → t < 256 → Same P a (tx_tick k a t)
  spared_tx_tick k a t h =
      Same-tx_tick f.ends (λ j l m. f.high j l (omega arith)) k a t (f.low _ (omega arith) (omega arith)) (f.low _ (omega arith) (omega arith))

  pub Same-tx_ticks : (k n : ℕ) (a : List ℕ) → n ≤ 256 → Same P a (tx_ticks k n a)
  unfolding tx_ticks
  Same-tx_ticks k zero a h = Same-refl a
  Same-tx_ticks k (suc n) a h = Same-then (Same-tx_ticks k n a (omega arith)) (spared_tx_tick k _ _ (omega arith))

  spared_rx_tick : (k : ℕ) (a : List ℕ) (r : ℕ) → r < 256 → Missed P (rx_frame (timed a (rx_reload r) (rx_timer r)) r).position → Same P a (rx_tick k a r)
  spared_rx_tick k a r h missed =
      Same-rx_tick f.ends (λ j l m. f.high j l (omega arith)) k a r (f.low _ (omega arith) (omega arith)) (f.low _ (omega arith) (omega arith))
      (f.low _ (omega arith) (omega arith)) missed

  -- P names no place of a failure bit, whatever its position
  pub Same-rx_ticks : ((q : ℕ) → Missed P q) → (k n : ℕ) (a : List ℕ) → n ≤ 256 → Same P a (rx_ticks k n a)
  unfolding rx_ticks
  Same-rx_ticks missed k zero a h = Same-refl a
  Same-rx_ticks missed k (suc n) a h = Same-then (Same-rx_ticks missed k n a (omega arith)) (spared_rx_tick k _ n (omega arith) (missed _))

  pub Same-ticked : ((q : ℕ) → Missed P q) → (P counter_byte → ⊥) → (a : List ℕ) → Same P a (ticked a)
  unfolding ticked
  Same-ticked missed two a =
      Same-set _ _ two (Same-then (Same-tx_ticks _ (tx_count a) a (at_most-le 256 _)) (Same-rx_ticks missed _ (rx_count a) _ (at_most-le 256 _)))

-- where the positions are bytes, what the plan says stays, and all from there on
pub Kept-rx_tick : (k : ℕ) (a : List ℕ) (r : ℕ) → r < 256 → Positions a → Kept a (rx_tick k a r)
Kept-rx_tick k a r h positions =
    let s = Positions-kept (Same-timed a (rx_reload r) (rx_timer r) (λ p. p.low (omega arith) (omega arith))) positions r h in
    spared_rx_tick planned k a r h (λ t l p. p.high (omega arith) (omega arith))

Kept-rx_ticks : (k n : ℕ) (a : List ℕ) → n ≤ 256 → Positions a → Kept a (rx_ticks k n a)
unfolding rx_ticks
Kept-rx_ticks k zero a h positions = Same-refl a
Kept-rx_ticks k (suc n) a h positions =
    let s = Kept-rx_ticks k n a (omega arith) positions in Same-then s (Kept-rx_tick k _ n (omega arith) (Positions-kept s positions))

pub Kept-ticked : (a : List ℕ) → Positions a → Kept a (ticked a)
unfolding ticked
Kept-ticked a positions =
    let s = Same-tx_ticks planned _ (tx_count a) a (at_most-le 256 _) in
    Same-set _ _ (λ p. p.count refl) (Same-then s (Kept-rx_ticks _ (rx_count a) _ (at_most-le 256 _) (Positions-kept s positions)))
