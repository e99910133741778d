-- Scheduling in an area is scheduling in the state that it shows.
use mathlib.Core.Path.{◌≡◌, refl, sym, ap, ◌∙◌}
use mathlib.Core.Logic.{◌≢◌}
use mathlib.Core.List.{List, [], ◌∷◌, ◌++◌}
use Prim.Native.Nat.{ℕ, ◌≤◌, ◌<◌}
use native.Mathlib.Omega.{arith}
use native.Mathlib.Decide.{ℕ_discrete}
use lib.ListN.{length, get_or, set, length-set}
use lib.Seq.{get_or-set_same, get_or-set_other}
use Rattle.base.specs.Numbers.{byte_at}
use Rattle.base.proofs.Picks.{picks, passes}
use Rattle.records.specs.Records.{records}
use Rattle.records.specs.Nodes.{frame}
use Rattle.plan.specs.Rows.{tx_of, nodes_in}
use Rattle.area.specs.Layout.{queues_start, tx_reloads_start, entries_start, payloads_start, tx_timer, waits}
use Rattle.area.specs.Queue.{entry_of, queue_of, scheduled}
use Rattle.area.proofs.Frame.{Same-scheduled}
use Rattle.area.proofs.QueueLaws.{scheduled_waiting}
use Rattle.tables.specs.Reads.{planned_tx, Reads}
use Rattle.history.proofs.Steady.{steady_aside, Reads-steady}
use Rattle.history.proofs.Aside.{aside_scheduled}
use Rattle.sending.proofs.Waiters.{CanWait, of_frame}
use Rattle.sending.proofs.Scheduling.{joins, stays, reloads, moves_scheduled}
use Rattle.model.specs.Plan.{said, tx_in}
use Rattle.model.specs.State.{State, queue_on}
use Rattle.model.specs.Opening.{mapped}
use Rattle.model.specs.Scheduling.{joined}
use Rattle.model.specs.Scheduling as model
use Rattle.model.proofs.Lawful.{Lawful}
use Rattle.refines.specs.Shows.{waiting_on}
use Rattle.sending.proofs.Entries.{entry_frame}
use Rattle.refines.proofs.Entries.{mapped_last}
use Rattle.refines.proofs.Held.{Held, moved, below}
use Rattle.refines.proofs.Marks.{marked_in, unmarked_out}

module _ {plan a : List ℕ} {s : State} (lawful : Lawful (said plan)) (h : Held plan a s) (t : ℕ) (l : t < length (tx_of plan)) where
  abbrev n : ℕ
  n = (planned_tx plan t).node

  node : n < nodes_in (records plan)
  node = lawful.node t l

  few : t < 256
  few = omega (arith, h.good.counts.tx)

  can : CanWait plan n t
  can = of_frame l refl

  entry : entry_of t ≡ frame t
  entry = entry_frame t few

  -- a place past the queues' records and off the rings that scheduling leaves
  leaves : (j : ℕ) → (queues_start ≤ j → tx_reloads_start ≤ j) → (entries_start ≤ j → payloads_start ≤ j) → j ≢ waits t → j ≢ tx_timer t
      → byte_at (scheduled a t) j ≡ byte_at a j
  leaves j f g d e =
      (Same-scheduled {P = λ k. k ≡ j} (λ m k i x y p. omega (arith, f (omega arith))) (λ i x y p. omega (arith, g (omega arith))) a t
      (λ p. d (sym p)) (λ p. e (sym p))).at j refl

  reads : Reads plan (scheduled a t)
  reads = Reads-steady (aside_scheduled steady_aside a t few) h.reads

  joining : byte_at a (waits t) ≡ 0 → Held plan (scheduled a t) (joined (said plan) s t)
  unfolding joined
  joining z =
      let w = h.shape in
      record {
        good = h.good;
        reads = reads;
        ready = moved h.ready (moves_scheduled h.ready t l);
        shape =
            record {
              kept = w.kept;
              payload = w.payload;
              tx_timers = length-set s.tx_timers t _ ∙ w.tx_timers;
              rx_timers = w.rx_timers;
              longs = w.longs;
              queues = length-set s.queues n _ ∙ w.queues;
            };
        shows =
            record {
              number = leaves 2 (λ x. omega arith) (λ x. omega arith) (λ x. omega arith) (λ x. omega arith) ∙ h.shows.number;
              kept =
                  λ u i m k. leaves _ (λ x. omega arith) (λ x. omega arith) (λ x. omega (arith, few)) (λ x. omega (arith, few))
                  ∙ h.shows.kept u i m k;
              tx_timers = λ u m. timer u m (ℕ_discrete u t);
              rx_timers =
                  λ r m.
                  let rx = h.good.counts.rx in
                  leaves _ (λ x. omega arith) (λ x. omega arith) (λ x. omega arith) (λ x. omega (arith, few))
                  ∙ h.shows.rx_timers r m;
              longs =
                  λ r m.
                  let rx = h.good.counts.rx in
                  leaves _ (λ x. omega arith) (λ x. omega arith) (λ x. omega arith) (λ x. omega (arith, few))
                  ∙ h.shows.longs r m;
              queues = λ m k. line m k (ℕ_discrete m n);
            };
      }
    where
      timer : (u : ℕ) → u < length (tx_of plan) → Dec (u ≡ t)
          → byte_at (scheduled a t) (tx_timer u) ≡ get_or (set s.tx_timers t (tx_in (said plan) t).reload) u 0
      timer u m (yes e) =
          rw e
          (reloads h.ready t l z ∙ (h.reads.tx t l).reload ∙ sym (get_or-set_same s.tx_timers t _ 0 (omega (arith, h.shape.tx_timers))))
      timer u m (no d) =
          leaves _ (λ x. omega arith) (λ x. omega (arith, h.good.counts.tx)) (λ x. omega (arith, h.good.counts.tx)) (λ x. d (omega arith))
          ∙ h.shows.tx_timers u m ∙ sym (get_or-set_other s.tx_timers t u _ 0 d)

      line : (m : ℕ) → m < nodes_in (records plan) → Dec (m ≡ n)
          → waiting_on (scheduled a t) m ≡ get_or (set s.queues n (queue_on s n ++ (frame t ∷ []))) m []
      line m k (yes e) =
          rw e
          (ap (mapped entry_of) (joins h.ready t l z) ∙ mapped_last (queue_of a n) t
          ∙ rw (entry, h.shows.queues n node) (sym (get_or-set_same s.queues n _ [] (omega (arith, h.shape.queues, node)))))
      line m k (no d) =
          ap (mapped entry_of) (stays h.ready t l z m (below h m k) d) ∙ h.shows.queues m k ∙ sym (get_or-set_other s.queues n m _ [] d)

  pub held-scheduled : Held plan (scheduled a t) (model.scheduled (said plan) s t)
  unfolding model.scheduled
  held-scheduled = go (ℕ_discrete (byte_at a (waits t)) 0)
    where
      go : Dec (byte_at a (waits t) ≡ 0) → Held plan (scheduled a t) (model.scheduled (said plan) s t)
      go (yes z) = rw (passes _ _ _ (rw entry at (unmarked_out h n t node can z))) (joining z)
      go (no d) = rw (scheduled_waiting a t d, picks _ _ _ (rw entry at (marked_in h n t node can d))) h
