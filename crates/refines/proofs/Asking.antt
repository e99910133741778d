-- Asking for an Rx frame of a LIN node in an area is asking for it in the state that the area shows.
use mathlib.Core.Path.{◌≡◌, refl, sym, ap, ◌∙◌}
use mathlib.Core.Logic.{◌≢◌}
use mathlib.Core.Bool.{true}
use mathlib.Core.List.{List, [], ◌∷◌, ◌++◌}
use Prim.Native.Nat.{ℕ, ◌+◌, ◌≤◌, ◌<◌}
use native.Mathlib.Omega.{arith}
use native.Mathlib.Decide.{ℕ_discrete}
use lib.ListN.{length, get_or, set}
use lib.Seq.{get_or-set_same, get_or-set_other}
use Rattle.base.specs.Numbers.{byte_at}
use Rattle.base.proofs.Picks.{picks, passes}
use Rattle.records.specs.declared.record.NodeType.TheVariants.{Lin}
use Rattle.records.specs.Records.{records}
use Rattle.records.specs.Nodes.{request}
use Rattle.plan.specs.Rows.{rows_of, nodes_in}
use Rattle.area.specs.Layout.{queues_start, tx_reloads_start, entries_start, payloads_start, requests_start, waits}
use Rattle.area.specs.Queue.{entry_of, queue_of, requested}
use Rattle.area.proofs.Frame.{Same-requested}
use Rattle.area.proofs.QueueLaws.{requested_waiting}
use Rattle.tables.specs.Reads.{row_at, type_at, Reads}
use Rattle.tables.proofs.RowFacts.{row_ranges}
use Rattle.history.proofs.Steady.{steady_aside, Reads-steady}
use Rattle.history.proofs.Aside.{aside_requested}
use Rattle.sending.proofs.Waiters.{CanWait, of_request}
use Rattle.sending.proofs.Entries.{entry_request}
use Rattle.sending.proofs.Requesting.{joins, stays, moves_requested}
use Rattle.model.specs.Plan.{said, on_lin}
use Rattle.model.specs.State.{State, queue_on}
use Rattle.model.specs.Opening.{mapped}
use Rattle.model.specs.Scheduling.{asked}
use Rattle.model.specs.Scheduling as model
use Rattle.refines.specs.Shows.{waiting_on}
use Rattle.refines.proofs.Entries.{mapped_last}
use Rattle.refines.proofs.Lin.{lin_told}
use Rattle.refines.proofs.Held.{Held, moved, below, Shape-queue}
use Rattle.refines.proofs.Marks.{marked_in, unmarked_out}

module _ {plan a : List ℕ} {s : State} (h : Held plan a s) (r : ℕ) (l : r < length (rows_of plan))
    (on : on_lin (said plan) (row_at plan r).frame.node ≡ true) where
  abbrev n : ℕ
  n = (row_at plan r).frame.node

  node : n < nodes_in (records plan)
  node = (row_ranges plan h.good r l).node

  few : r < 256
  few = omega (arith, h.good.counts.rx)

  lin : type_at plan n ≡ Lin
  lin = lin_told (type_at plan n) on

  can : CanWait plan n (requests_start + r)
  can = of_request r refl l refl lin

  -- a place past the queues' records and off the rings that asking leaves
  leaves : (j : ℕ) → (queues_start ≤ j → tx_reloads_start ≤ j) → (entries_start ≤ j → payloads_start ≤ j) → j ≢ waits (requests_start + r)
      → byte_at (requested a r) j ≡ byte_at a j
  leaves j f g d =
      (Same-requested {P = λ k. k ≡ j} (λ m k i x y p. omega (arith, f (omega arith))) (λ i x y p. omega (arith, g (omega arith))) a r
      (λ p. d (sym p))).at j refl

  reads : Reads plan (requested a r)
  reads = Reads-steady (aside_requested steady_aside a r few) h.reads

  joining : byte_at a (waits (requests_start + r)) ≡ 0 → Held plan (requested a r) (asked (said plan) s r)
  unfolding asked
  joining z =
      let tx = h.good.counts.tx in
      let rx = h.good.counts.rx in
      record {
        good = h.good;
        reads = reads;
        ready = moved h.ready (moves_requested h.ready r l lin);
        shape = Shape-queue h.shape n _;
        shows =
            record {
              number = leaves 2 (λ x. omega arith) (λ x. omega arith) (λ x. omega arith) ∙ h.shows.number;
              kept = λ u i m k. leaves _ (λ x. omega arith) (λ x. omega arith) (λ x. omega (arith, few)) ∙ h.shows.kept u i m k;
              tx_timers = λ u m. leaves _ (λ x. omega arith) (λ x. omega arith) (λ x. omega arith) ∙ h.shows.tx_timers u m;
              rx_timers = λ q m. leaves _ (λ x. omega arith) (λ x. omega arith) (λ x. omega arith) ∙ h.shows.rx_timers q m;
              longs = λ q m. leaves _ (λ x. omega arith) (λ x. omega arith) (λ x. omega arith) ∙ h.shows.longs q m;
              queues = λ m k. line m k (ℕ_discrete m n);
            };
      }
    where
      line : (m : ℕ) → m < nodes_in (records plan) → Dec (m ≡ n)
          → waiting_on (requested a r) m ≡ get_or (set s.queues n (queue_on s n ++ (request r ∷ []))) m []
      line m k (yes e) =
          rw e
          (ap (mapped entry_of) (joins h.ready r l lin z) ∙ mapped_last (queue_of a n) (requests_start + r)
          ∙ rw (entry_request r, h.shows.queues n node) (sym (get_or-set_same s.queues n _ [] (omega (arith, h.shape.queues, node)))))
      line m k (no d) =
          ap (mapped entry_of) (stays h.ready r l lin z m (below h m k) d) ∙ h.shows.queues m k
          ∙ sym (get_or-set_other s.queues n m _ [] d)

  pub held-requested : Held plan (requested a r) (model.requested (said plan) s r)
  unfolding model.requested
  held-requested = go (ℕ_discrete (byte_at a (waits (requests_start + r))) 0)
    where
      go : Dec (byte_at a (waits (requests_start + r)) ≡ 0) → Held plan (requested a r) (model.requested (said plan) s r)
      go (yes z) = rw (passes _ _ _ (rw (entry_request r) at (unmarked_out h n _ node can z))) (joining z)
      go (no d) = rw (requested_waiting a r d, picks _ _ _ (rw (entry_request r) at (marked_in h n _ node can d))) h
