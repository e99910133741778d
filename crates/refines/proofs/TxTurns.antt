-- The Tx timers of a tick, in an area and in the state that it shows.
use mathlib.Core.Path.{◌≡◌, sym, ap, ◌∙◌}
use mathlib.Core.List.{List}
use Prim.Native.Nat.{ℕ, zero, suc, ◌≤◌, ◌<◌}
use native.Mathlib.Omega.{arith}
use lib.Dec.{eqb}
use lib.ListN.{length, get_or}
use Rattle.base.specs.Numbers.{byte_at}
use Rattle.clock.specs.Counter.{counter_after}
use Rattle.clock.specs.Timer.{lowered}
use Rattle.plan.specs.Rows.{tx_of}
use Rattle.area.specs.Layout.{tx_reload, tx_timer}
use Rattle.ticking.specs.Tick.{timed, tx_tick, tx_ticks}
use Rattle.refines.proofs.Prescalers.{tx_prescaler}
use Rattle.refines.proofs.Prescalers.{mask_divides}
use Rattle.model.specs.Plan.{said, tx_in}
use Rattle.model.specs.State.{State}
use Rattle.model.specs.Tick.{handled, tx_lowered, tx_turn, tx_turns}
use Rattle.model.proofs.Lawful.{Lawful}
use Rattle.refines.proofs.Held.{Held}
use Rattle.refines.proofs.Writes.{write_tx}
use Rattle.refines.proofs.Follows.{chosen}
use Rattle.refines.proofs.Turns.{Later-tx_turns}
use Rattle.refines.proofs.Sched.{held-scheduled}

module _ {plan : List ℕ} (lawful : Lawful (said plan)) where
  Held-timed : {a : List ℕ} {s : State} → Held plan a s → (t : ℕ) → t < length (tx_of plan)
      → Held plan (timed a (tx_reload t) (tx_timer t)) (tx_lowered (said plan) s t)
  unfolding timed tx_lowered
  Held-timed {a} {s} h t l =
      let e : lowered (byte_at a (tx_reload t)) (byte_at a (tx_timer t)) ≡ lowered (tx_in (said plan) t).reload (get_or s.tx_timers t 0) =
      rw ((h.reads.tx t l).reload, h.shows.tx_timers t l) in
      rw e (write_tx h t _ l)

  Held-tx_tick : {a : List ℕ} {s : State} (k : ℕ) → Held plan a s → k ≡ counter_after s.number → (t : ℕ) → t < length (tx_of plan)
      → Held plan (tx_tick k a t) (tx_turn (said plan) s t)
  unfolding tx_tick tx_turn handled
  Held-tx_tick {a} {s} k h e t l =
      let m = Held-timed h t l in
      chosen (Held plan) _ _ (mask_divides (tx_prescaler plan h.good t l) s.number k _ e (h.reads.tx t l).mask)
      (λ d. chosen (Held plan) _ _ (ap (λ v. eqb v 1) (h.shows.tx_timers t l)) (λ f. held-scheduled lawful m t l) (λ f. m))
      (λ d. h)

  pub Held-tx_ticks : {a : List ℕ} {s : State} (k n : ℕ) → Held plan a s → k ≡ counter_after s.number → n ≤ length (tx_of plan)
      → Held plan (tx_ticks k n a) (tx_turns (said plan) n s)
  unfolding tx_ticks tx_turns
  Held-tx_ticks k zero h e l = h
  Held-tx_ticks {a} {s} k (suc n) h e l =
      Held-tx_tick k (Held-tx_ticks k n h e (omega arith)) (e ∙ ap counter_after (sym (Later-tx_turns (said plan) n n s).number)) n l
