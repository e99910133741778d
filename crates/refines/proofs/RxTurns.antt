-- The Rx timers of a tick and the report, in an area and in the state that it shows.
use mathlib.Core.Path.{◌≡◌, sym, ap, ◌∙◌}
use mathlib.Core.List.{List, [], ◌∷◌}
use Prim.Native.Nat.{ℕ, zero, suc, ◌+◌, ◌%◌, ◌≤◌, ◌<◌}
use native.Mathlib.Omega.{arith}
use lib.Dec.{eqb}
use lib.ListN.{length, get_or}
use Rattle.base.specs.Numbers.{byte_at}
use Rattle.clock.specs.Counter.{counter_after}
use Rattle.clock.specs.Timer.{lowered}
use Rattle.records.specs.Records.{records}
use Rattle.plan.specs.Rows.{Source, copy, failure, width_of, Claim, tx_of, rows_of, order_in}
use Rattle.facts.specs.Good.{Each}
use Rattle.area.specs.Layout.{rx_reload, rx_timer, order, claims, spot}
use Rattle.area.specs.Claims.{expired, done_by, sent_by, done, all_done}
use Rattle.ticking.specs.Tick.{timed, long_lowered, expired_area, rx_expiry, rx_tick, rx_ticks}
use Rattle.tables.specs.Reads.{row_at}
use Rattle.refines.proofs.Prescalers.{rx_prescaler}
use Rattle.refines.proofs.Prescalers.{mask_divides}
use Rattle.model.specs.Plan.{said, row_in}
use Rattle.model.specs.State.{State}
use Rattle.model.specs.Tick.{handled, failed_by, failed, rx_lowered, rx_turn, rx_turns}
use Rattle.model.specs.Tick as model
use Rattle.model.proofs.Lawful.{Lawful}
use Rattle.refines.proofs.Held.{Held}
use Rattle.refines.proofs.Lin.{row_lin}
use Rattle.refines.proofs.Writes.{write_rx, write_long}
use Rattle.refines.proofs.Asking.{held-requested}
use Rattle.refines.proofs.Bits.{Held-set_bit}
use Rattle.refines.proofs.Follows.{chosen}
use Rattle.refines.proofs.Turns.{failed_bits, Later-rx_turns}

module _ {plan : List ℕ} (lawful : Lawful (said plan)) where
  -- ---- an expiry's claims

  Held-failed : {a : List ℕ} {s : State} (o r : ℕ) → o ≡ order_in (records plan) → (cs : List Claim) → Held plan a s
      → Each (λ c. c.tx < length (tx_of plan)) cs → Each (λ c. c.at + width_of c.from ≤ 64) cs
      → Held plan (all_done o (expired r) cs a) (failed (said plan) s cs)
  unfolding all_done failed Each
  Held-failed o r e [] h f g = h
  Held-failed {a} {s} o r e (c ∷ cs) h f g = Held-failed {a = done o (expired r) a c} o r e cs (step h) f.1 g.1
    where
      go : {a : List ℕ} {s : State} → Held plan a s → (t : ℕ) → t ≡ c.tx → (z : Source) → c.at + width_of z ≤ 64
          → Held plan (sent_by o (expired r) a (done_by o (expired r) a (spot t c.at) z) t (spot t c.at) z) (failed_by (said plan) s c z)
      go h t i (copy q k) m = unfold sent_by done_by failed_by in h
      go h t i failure m = unfold sent_by done_by failed_by width_of in
          rw (i, e) (Held-set_bit h c.tx f.0 (order_in (records plan)) c.at 1 (omega arith) (omega arith))

      step : {a : List ℕ} {s : State} → Held plan a s → Held plan (done o (expired r) a c) (failed_by (said plan) s c c.from)
      step h = unfold done in go h (c.tx % 256) (omega (arith, f.0, h.good.counts.tx)) c.from g.0

  -- ---- a turn

  Held-timed : {a : List ℕ} {s : State} → Held plan a s → (r : ℕ) → r < length (rows_of plan)
      → Held plan (timed a (rx_reload r) (rx_timer r)) (rx_lowered (said plan) s r)
  unfolding timed rx_lowered
  Held-timed {a} {s} h r l =
      let e : lowered (byte_at a (rx_reload r)) (byte_at a (rx_timer r)) ≡ lowered (row_in (said plan) r).frame.reload (get_or s.rx_timers r 0) =
      rw ((h.reads.rx r l).reload, h.shows.rx_timers r l) in
      rw e (write_rx h r _ l)

  pub Held-expired : {a : List ℕ} {s : State} → Held plan a s → (r : ℕ) → r < length (rows_of plan)
      → Held plan (expired_area a r) (model.expired (said plan) s r)
  unfolding expired_area long_lowered model.expired
  Held-expired {a} {s} h r l =
      let cs = (row_at plan r).claims in
      let y : Held plan (all_done (order a) (expired r) (claims a r) a) (failed (said plan) s cs) =
      rw (h.reads.rx r l).claims (Held-failed (order a) r h.reads.header.order cs h (lawful.frame r l) (lawful.bits r l)) in
      let f = y.shows.longs r l ∙ (failed_bits (said plan) r cs s).long in
      rw ((y.reads.rx r l).frame, f) (write_long y r _ l)

  Held-expiry : {a : List ℕ} {s : State} → Held plan a s → (r : ℕ) → r < length (rows_of plan)
      → Held plan (rx_expiry a r) (model.rx_expiry (said plan) s r)
  unfolding rx_expiry model.rx_expiry
  Held-expiry h r l =
      chosen (Held plan) _ _ (row_lin h r l) (λ on. held-requested h r l on) (λ off. Held-expired h r l)

  Held-rx_tick : {a : List ℕ} {s : State} (k : ℕ) → Held plan a s → k ≡ counter_after s.number → (r : ℕ) → r < length (rows_of plan)
      → Held plan (rx_tick k a r) (rx_turn (said plan) s r)
  unfolding rx_tick rx_turn handled
  Held-rx_tick {a} {s} k h e r l =
      let m = Held-timed h r l in
      chosen (Held plan) _ _ (mask_divides (rx_prescaler plan h.good r l) s.number k _ e (h.reads.rx r l).mask)
      (λ d. chosen (Held plan) _ _ (ap (λ v. eqb v 1) (h.shows.rx_timers r l)) (λ f. Held-expiry m r l) (λ f. m))
      (λ d. h)

  pub Held-rx_ticks : {a : List ℕ} {s : State} (k n : ℕ) → Held plan a s → k ≡ counter_after s.number → n ≤ length (rows_of plan)
      → Held plan (rx_ticks k n a) (rx_turns (said plan) n s)
  unfolding rx_ticks rx_turns
  Held-rx_ticks k zero h e l = h
  Held-rx_ticks {a} {s} k (suc n) h e l =
      Held-rx_tick k (Held-rx_ticks k n h e (omega arith)) (e ∙ ap counter_after (sym (Later-rx_turns (said plan) n n (omega arith) s).number)) n l
