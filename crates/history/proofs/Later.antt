-- What each call after an opening leaves of an area that holds a good plan: every steady byte, and so all that is read there.
use mathlib.Core.Path.{refl}
use mathlib.Core.List.{List}
use Prim.Native.Nat.{ℕ, zero, suc, ◌<◌, ◌≤◌}
use native.Mathlib.Omega.{arith}
use lib.ListN.{length}
use Rattle.base.specs.Numbers.{low_at}
use Rattle.base.proofs.Ranges.{at_most-le}
use Rattle.plan.specs.Rows.{rows_of, no_row}
use Rattle.facts.specs.Good.{GoodPlan}
use Rattle.area.specs.Layout.{tx_count_bytes, payloads_start, tx_masks_start, rx_reload, rx_timer, counter, order, tx_count, rx_count, claims}
use Rattle.area.specs.Claims.{RxEvent, accepted, expired, all_done}
use Rattle.area.proofs.Frame.{Same, Same-refl, Same-then, Same-set, Same-pick}
use Rattle.reception.specs.Reception.{accepted_area}
use Rattle.polling.specs.Polling.{accepted_area as responded_with}
use Rattle.ticking.specs.Tick.{expired_area, rx_expiry, rx_tick, rx_ticks, ticked, tick_answer}
use Rattle.ticking.proofs.TickLaws.{by_answer as by_ticked}
use Rattle.tables.specs.Reads.{Reads}
use Rattle.model.specs.Calls.{Step, opening, reception, response, no_response, tick, take, fullness, call}
use Rattle.history.specs.Calls.{area_after, stepped}
use Rattle.facts.proofs.ByNumber.{row_small}
use Rattle.history.proofs.Aside.{Aside, aside_timed, aside_long, aside_requested, aside_taken, aside_tx_ticks, aside_all_done}
use Rattle.history.proofs.Steady.{Steady, steady_aside, steady_long, Reads-steady}
use Rattle.history.proofs.Again.{Again, again_restarted, again_long, aside_again}
use Rattle.history.proofs.Named.{reception_cases, response_cases, by_silence}

-- a call that is no opening
abbrev pub Later : Step → Type 0
Later (opening p) = ⊥
Later (call (reception n id payload)) = Unit {0}
Later (call (response n id payload sum)) = Unit {0}
Later (call (no_response n id)) = Unit {0}
Later (call (tick report)) = Unit {0}
Later (call (take n)) = Unit {0}
Later (call (fullness t)) = Unit {0}

module _ (plan : List ℕ) (good : GoodPlan plan) where
  few : (r : ℕ) → r < length (rows_of plan) → r < 256
  few r l = omega (arith, good.counts.rx)

  -- an event's claims, over places that are no payload's either
  pub aside_claims :
      {P : ℕ → Type 0} → Aside P → ((j : ℕ) → payloads_start ≤ j → j < tx_masks_start → P j → ⊥) → (a b : List ℕ) → Reads plan a
      → (e : RxEvent) (r : ℕ) → r < length (rows_of plan) → Same P b (all_done (order a) e (claims a r) b)
  aside_claims f payloads a b reads e r h =
      aside_all_done f payloads (order a) e (claims a r) b (rw (reads.rx r h).claims (row_small plan good no_row r h))

  pub steady_claims :
      (a b : List ℕ) → Reads plan a → (e : RxEvent) (r : ℕ) → r < length (rows_of plan) → Same Steady b (all_done (order a) e (claims a r) b)
  steady_claims = aside_claims steady_aside (λ j l m p. p.high (omega arith) m)

  -- an acceptance, on CAN and on LIN
  steady_again :
      (a b : List ℕ) → Reads plan a → (r : ℕ) (payload : List ℕ) → r < length (rows_of plan) → Again a r b
      → Same Steady a (all_done (order a) (accepted r payload) (claims a r) b)
  steady_again a b reads r payload h x =
      Same-then (aside_again steady_aside (few r h) (steady_long r (few r h)) x) (steady_claims a b reads (accepted r payload) r h)

  steady_accepted : (a : List ℕ) → Reads plan a → (r : ℕ) (payload : List ℕ) → r < length (rows_of plan) → Same Steady a (accepted_area a r payload)
  unfolding accepted_area
  steady_accepted a reads r payload h = steady_again a _ reads r payload h (again_restarted a r (few r h))

  steady_responded : (a : List ℕ) → Reads plan a → (r : ℕ) (payload : List ℕ) → r < length (rows_of plan) → Same Steady a (responded_with a r payload)
  unfolding responded_with
  steady_responded a reads r payload h = steady_again a _ reads r payload h (again_long a r (few r h))

  pub steady_expired : (a : List ℕ) → Reads plan a → (r : ℕ) → r < length (rows_of plan) → Same Steady a (expired_area a r)
  unfolding expired_area
  steady_expired a reads r h = Same-then (steady_claims a a reads (expired r) r h) (aside_long steady_aside _ r (steady_long r (few r h)))

  -- of an Rx timer: on LIN it asks
  steady_expiry : (a : List ℕ) → Reads plan a → (r : ℕ) → r < length (rows_of plan) → Same Steady a (rx_expiry a r)
  unfolding rx_expiry
  steady_expiry a reads r h = Same-pick _ _ _ (aside_requested steady_aside a r (few r h)) (steady_expired a reads r h)

  pub steady_rx_tick : (k : ℕ) (a : List ℕ) → Reads plan a → (r : ℕ) → r < length (rows_of plan) → Same Steady a (rx_tick k a r)
  unfolding rx_tick
  steady_rx_tick k a reads r h =
      let s = aside_timed steady_aside a (rx_reload r) (rx_timer r) (omega arith) (omega (arith, few r h)) in
      Same-pick _ _ _ (Same-pick _ _ _ (Same-then s (steady_expiry _ (Reads-steady s reads) r h)) s) (Same-refl a)

  pub steady_rx_ticks : (k n : ℕ) (a : List ℕ) → Reads plan a → n ≤ length (rows_of plan) → Same Steady a (rx_ticks k n a)
  unfolding rx_ticks
  steady_rx_ticks k zero a reads h = Same-refl a
  steady_rx_ticks k (suc n) a reads h =
      let s = steady_rx_ticks k n a reads (omega arith) in Same-then s (steady_rx_tick k _ (Reads-steady s reads) n (omega arith))

  pub steady_ticked : (a : List ℕ) → Reads plan a → Same Steady a (ticked a)
  unfolding ticked
  steady_ticked a reads =
      let s = aside_tx_ticks steady_aside (counter a) (tx_count a) a (at_most-le 256 (low_at a tx_count_bytes)) in
      Same-set _ _ (λ p. p.count refl)
      (Same-then s (steady_rx_ticks (counter a) (rx_count a) _ (Reads-steady s reads) (omega (arith, reads.header.rx))))

  pub steady_after : (c : Step) → Later c → (a : List ℕ) → Reads plan a → Same Steady a (stepped a c)
  unfolding area_after stepped
  steady_after (opening p) later a reads = absurd later
  steady_after (call (reception n id payload)) later a reads =
      reception_cases plan good a reads n id payload (λ x c. Same Steady a c) (λ x d. Same-refl a) (λ r x. steady_accepted a reads r payload x.exists)
  steady_after (call (response n id payload sum)) later a reads =
      response_cases plan good a reads n id payload sum (λ x c. Same Steady a c) (λ x d. Same-refl a) (λ r x. steady_responded a reads r payload x.exists)
  steady_after (call (no_response n id)) later a reads =
      by_silence plan good a reads n id (λ x c. Same Steady a c) (λ why. Same-refl a) (λ r x. steady_expired a reads r x.exists)
  steady_after (call (tick report)) later a reads = by_ticked (Same Steady a) (tick_answer a report) a (steady_ticked a reads) (Same-refl a)
  steady_after (call (take n)) later a reads = aside_taken steady_aside a n
  steady_after (call (fullness t)) later a reads = Same-refl a

  pub Reads-after : (c : Step) → Later c → (a : List ℕ) → Reads plan a → Reads plan (stepped a c)
  Reads-after c later a reads = Reads-steady (steady_after c later a reads) reads
