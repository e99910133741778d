-- A tick of an area is the model's tick: its answer, every byte of its report, and the state that it leaves.
use mathlib.Core.Path.{◌≡◌, refl, sym, ap, ◌∙◌}
use mathlib.Core.Bool.{Bool, true, false}
use mathlib.Core.List.{List}
use Prim.Native.Nat.{ℕ, zero, suc, ◌≤◌, ◌<◌}
use native.Mathlib.Omega.{arith}
use lib.Dec.{leb}
use lib.ListN.{length}
use Rattle.std.specs.Prelude.{Ok, Err}
use Rattle.base.specs.Pick.{pick}
use Rattle.base.proofs.Picks.{picks}
use Rattle.clock.specs.Counter.{counter_after, counter_next}
use Rattle.plan.specs.Rows.{tx_of, rows_of}
use Rattle.area.specs.Layout.{counter}
use Rattle.answers.specs.declared.Refusal.TheVariants.{ShortReport}
use Rattle.ticking.specs.Tick.{tx_ticks, rx_ticks, expired_report, expiry_report, rx_report, reported, ticked, tick_answer, ticked_area, ticked_report}
use Rattle.refines.proofs.Prescalers.{rx_prescaler}
use Rattle.refines.proofs.Prescalers.{mask_divides}
use Rattle.model.specs.Plan.{Plan, said}
use Rattle.model.specs.State.{State}
use Rattle.model.specs.Tick.{handled, tx_turns, rx_turns, timeout_of, report_of, ticked_state, tick_report}
use Rattle.model.specs.Tick as model
use Rattle.model.specs.Calls as calls
use Rattle.model.proofs.Lawful.{Lawful}
use Rattle.history.specs.Calls.{answer_in, area_after}
use Rattle.refines.proofs.Held.{Held}
use Rattle.refines.proofs.Lin.{row_lin}
use Rattle.refines.proofs.Writes.{write_counter}
use Rattle.refines.proofs.Follows.{Follows, chosen}
use Rattle.refines.proofs.Turns.{Later, Later-then, Later-tx_turns, Later-rx_turns}
use Rattle.refines.proofs.TxTurns.{Held-tx_ticks}
use Rattle.refines.proofs.RxTurns.{Held-rx_ticks}

-- ---- the report's byte of a row is by what the row was before the tick

later_report : (p : Plan) {r : ℕ} {s x : State} → Later r s x → report_of p x r ≡ report_of p s r
unfolding report_of model.expiry_report timeout_of handled
later_report p l = rw (l.number, l.timer, l.long)

row_report : {plan a : List ℕ} {s : State} (k : ℕ) → Held plan a s → k ≡ counter_after s.number → (r : ℕ) → r < length (rows_of plan)
    → rx_report k a r ≡ report_of (said plan) s r
unfolding rx_report expiry_report expired_report report_of model.expiry_report timeout_of handled
row_report {plan} {a} {s} k h e r l =
    chosen (λ x y. x ≡ y) _ _ (mask_divides (rx_prescaler plan h.good r l) s.number k _ e (h.reads.rx r l).mask)
    (λ d. rw (h.shows.rx_timers r l, h.shows.longs r l, row_lin h r l))
    (λ d. refl)

module _ {plan a : List ℕ} {s : State} (lawful : Lawful (said plan)) (h : Held plan a s) where
  -- ---- the timers, Tx first

  abbrev tx_done : List ℕ
  tx_done = tx_ticks (counter a) (length (tx_of plan)) a

  abbrev tx_state : State
  tx_state = tx_turns (said plan) (length (tx_of plan)) s

  counts : counter a ≡ counter_after tx_state.number
  counts = h.shows.number ∙ ap counter_after (sym (Later-tx_turns (said plan) 0 (length (tx_of plan)) s).number)

  held_tx : Held plan tx_done tx_state
  held_tx = Held-tx_ticks lawful (counter a) (length (tx_of plan)) h h.shows.number (omega arith)

  Held-rx : (n : ℕ) → n ≤ length (rows_of plan) → Held plan (rx_ticks (counter a) n tx_done) (rx_turns (said plan) n tx_state)
  Held-rx n l = Held-rx_ticks lawful (counter a) n held_tx counts l

  held-ticked : Held plan (ticked a) (ticked_state (said plan) s)
  unfolding ticked ticked_state counter_after
  held-ticked =
      rw (h.reads.header.tx, h.reads.header.rx)
      (write_counter (Held-rx (length (rows_of plan)) (omega arith)) (counter_next (counter a)) (suc s.number) (ap counter_next h.shows.number))

  -- ---- the report

  same_report : (n : ℕ) → n ≤ length (rows_of plan) → (report : List ℕ) → reported (counter a) n tx_done report ≡ model.reported (said plan) s n report
  unfolding reported model.reported
  same_report zero l report = refl
  same_report (suc n) l report =
      let later = Later-rx_turns (said plan) n n (omega arith) tx_state in
      let e = counts ∙ ap counter_after (sym later.number) in
      let before = Later-then (Later-tx_turns (said plan) n (length (tx_of plan)) s) later in
      let byte = row_report (counter a) (Held-rx n (omega arith)) e n l ∙ later_report (said plan) before in
      rw (same_report n (omega arith) report, byte)

  -- ---- the call

  answered : (report : List ℕ) → tick_answer a report ≡ model.tick_answer (said plan) s report
  unfolding tick_answer model.tick_answer
  answered report = picks _ _ _ h.reads.header.mark ∙ rw h.reads.header.rx

  reports : (report : List ℕ) → ticked_report (Ok tt) a report ≡ model.reported (said plan) s (length (rows_of plan)) report
  unfolding ticked_report
  reports report = rw (h.reads.header.tx, h.reads.header.rx) (same_report (length (rows_of plan)) (omega arith) report)

  pub tick_follows : (report : List ℕ) → Follows plan a s (calls.tick report)
  unfolding answer_in area_after calls.answer_of calls.next_of model.tick_answer model.ticked tick_report ticked_area ticked_report pick
  tick_follows report = go (leb (length (rows_of plan)) (length report)) refl
    where
      go : (b : Bool) → leb (length (rows_of plan)) (length report) ≡ b → Follows plan a s (calls.tick report)
      go true e =
          let d : tick_answer a report ≡ Ok tt = answered report ∙ rw e in
          record { answer = rw (d, e) (ap (calls.ticked (Ok tt)) (reports report)); held = rw (d, e) held-ticked }
      go false e =
          let d : tick_answer a report ≡ Err ShortReport = answered report ∙ rw e in
          record { answer = rw (d, e); held = rw (d, e) h }
