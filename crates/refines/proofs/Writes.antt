-- The single writes of a timer, a long counter and the tick counter, in an area and in the state that it shows.
use mathlib.Core.Path.{◌≡◌, refl, sym, ◌∙◌}
use mathlib.Core.Logic.{◌≢◌}
use mathlib.Core.List.{List}
use Prim.Native.Nat.{ℕ, ◌<◌}
use native.Mathlib.Omega.{arith}
use native.Mathlib.Decide.{ℕ_discrete}
use lib.ListN.{length, get_or, set, length-set}
use lib.Seq.{get_or-set_same, get_or-set_other}
use Rattle.base.specs.Numbers.{byte_at}
use Rattle.clock.specs.Counter.{counter_after}
use Rattle.plan.specs.Rows.{tx_of, rows_of}
use Rattle.area.specs.Layout.{counter_byte, tx_timer, rx_timer, long}
use Rattle.area.proofs.Frame.{Same-refl, Same-set}
use Rattle.model.specs.State.{State, with_tx_timer, with_rx_timer, with_long, with_number}
use Rattle.refines.proofs.Held.{Held, Held-rests, long_area}

-- a table of bytes in an area is a list of numbers, and so it stays where one of both is written
stored :
    (a : List ℕ) (place : ℕ → ℕ) → ((t u : ℕ) → place u ≡ place t → u ≡ t) → (xs : List ℕ) (n : ℕ) → length xs ≡ n
    → ((u : ℕ) → u < n → byte_at a (place u) ≡ get_or xs u 0) → (t v : ℕ) → t < n → place t < length a
    → (u : ℕ) → u < n → byte_at (set a (place t) v) (place u) ≡ get_or (set xs t v) u 0
stored a place apart xs n size same t v l m u k = go (ℕ_discrete u t)
  where
    go : Dec (u ≡ t) → byte_at (set a (place t) v) (place u) ≡ get_or (set xs t v) u 0
    go (yes e) = rw e (get_or-set_same a (place t) v 0 m ∙ sym (get_or-set_same xs t v 0 (omega arith)))
    go (no d) = get_or-set_other a (place t) (place u) v 0 (λ e. d (apart t u e)) ∙ same u k ∙ sym (get_or-set_other xs t u v 0 d)

module _ {plan a : List ℕ} {s : State} (h : Held plan a s) where
  tx_few : (t : ℕ) → t < length (tx_of plan) → t < 256
  tx_few t l = omega (arith, h.good.counts.tx)

  rx_few : (r : ℕ) → r < length (rows_of plan) → r < 256
  rx_few r l = omega (arith, h.good.counts.rx)

  -- what a store leaves
  other : (i v j : ℕ) → j ≢ i → byte_at (set a i v) j ≡ byte_at a j
  other i v j d = get_or-set_other a i j v 0 d

  pub write_tx : (t v : ℕ) → t < length (tx_of plan) → Held plan (set a (tx_timer t) v) (with_tx_timer s t v)
  write_tx t v l =
      let few = tx_few t l in
      let w = h.shape in
      Held-rests h (with_tx_timer s t v)
      (Same-set (tx_timer t) v (λ p. p.timers (omega arith) (omega arith)) (Same-refl a))
      (Same-set (tx_timer t) v (λ p. p.timers (omega arith) (omega arith)) (Same-refl a))
      (record {
        kept = w.kept;
        payload = w.payload;
        tx_timers = length-set s.tx_timers t v ∙ w.tx_timers;
        rx_timers = w.rx_timers;
        longs = w.longs;
        queues = w.queues;
      })
      refl
      (other _ v counter_byte (λ e. omega arith) ∙ h.shows.number)
      (λ u i m k. other _ v _ (λ e. omega arith) ∙ h.shows.kept u i m k)
      (stored a tx_timer (λ q u e. omega arith) s.tx_timers _ w.tx_timers h.shows.tx_timers t v l (omega (arith, long_area h)))
      (λ r m. other _ v _ (λ e. omega (arith, rx_few r m)) ∙ h.shows.rx_timers r m)
      (λ r m. other _ v _ (λ e. omega (arith, rx_few r m)) ∙ h.shows.longs r m)

  pub write_rx : (r v : ℕ) → r < length (rows_of plan) → Held plan (set a (rx_timer r) v) (with_rx_timer s r v)
  write_rx r v l =
      let few = rx_few r l in
      let w = h.shape in
      Held-rests h (with_rx_timer s r v)
      (Same-set (rx_timer r) v (λ p. p.timers (omega arith) (omega arith)) (Same-refl a))
      (Same-set (rx_timer r) v (λ p. p.timers (omega arith) (omega arith)) (Same-refl a))
      (record {
        kept = w.kept;
        payload = w.payload;
        tx_timers = w.tx_timers;
        rx_timers = length-set s.rx_timers r v ∙ w.rx_timers;
        longs = w.longs;
        queues = w.queues;
      })
      refl
      (other _ v counter_byte (λ e. omega arith) ∙ h.shows.number)
      (λ u i m k. other _ v _ (λ e. omega arith) ∙ h.shows.kept u i m k)
      (λ u m. other _ v _ (λ e. omega (arith, tx_few u m)) ∙ h.shows.tx_timers u m)
      (stored a rx_timer (λ q u e. omega arith) s.rx_timers _ w.rx_timers h.shows.rx_timers r v l (omega (arith, long_area h)))
      (λ q m. other _ v _ (λ e. omega (arith, rx_few q m)) ∙ h.shows.longs q m)

  pub write_long : (r v : ℕ) → r < length (rows_of plan) → Held plan (set a (long r) v) (with_long s r v)
  write_long r v l =
      let few = rx_few r l in
      let w = h.shape in
      Held-rests h (with_long s r v)
      (Same-set (long r) v (λ p. p.timers (omega arith) (omega arith)) (Same-refl a))
      (Same-set (long r) v (λ p. p.low (omega arith) (omega arith)) (Same-refl a))
      (record {
        kept = w.kept;
        payload = w.payload;
        tx_timers = w.tx_timers;
        rx_timers = w.rx_timers;
        longs = length-set s.longs r v ∙ w.longs;
        queues = w.queues;
      })
      refl
      (other _ v counter_byte (λ e. omega arith) ∙ h.shows.number)
      (λ u i m k. other _ v _ (λ e. omega arith) ∙ h.shows.kept u i m k)
      (λ u m. other _ v _ (λ e. omega (arith, tx_few u m)) ∙ h.shows.tx_timers u m)
      (λ u m. other _ v _ (λ e. omega (arith, rx_few u m)) ∙ h.shows.rx_timers u m)
      (stored a long (λ q u e. omega arith) s.longs _ w.longs h.shows.longs r v l (omega (arith, long_area h)))

  -- the counter moves on
  pub write_counter : (v k : ℕ) → v ≡ counter_after k → Held plan (set a counter_byte v) (with_number s k)
  write_counter v k e =
      let w = h.shape in
      Held-rests h (with_number s k)
      (Same-set counter_byte v (λ p. p.count refl) (Same-refl a))
      (Same-set counter_byte v (λ p. p.count refl) (Same-refl a))
      (record { kept = w.kept; payload = w.payload; tx_timers = w.tx_timers; rx_timers = w.rx_timers; longs = w.longs; queues = w.queues })
      refl
      (get_or-set_same a counter_byte v 0 (omega (arith, long_area h)) ∙ e)
      (λ u i m k. other _ v _ (λ e. omega arith) ∙ h.shows.kept u i m k)
      (λ u m. other _ v _ (λ e. omega arith) ∙ h.shows.tx_timers u m)
      (λ u m. other _ v _ (λ e. omega arith) ∙ h.shows.rx_timers u m)
      (λ u m. other _ v _ (λ e. omega arith) ∙ h.shows.longs u m)
