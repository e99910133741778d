-- An opened area shows the state in which the model begins.
use mathlib.Core.Path.{◌≡◌, sym, ap, ◌∙◌}
use mathlib.Core.List.{List, []}
use Prim.Native.Nat.{ℕ}
use native.Mathlib.Omega.{arith}
use lib.ListN.{get_or, get_or-replicate}
use Rattle.base.specs.Numbers.{Bytes}
use Rattle.clock.specs.Counter.{counter_after}
use Rattle.records.specs.Views.{no_tx}
use Rattle.records.specs.Records.{records, eight_bytes}
use Rattle.plan.specs.Check.{good_with, check_plan}
use Rattle.plan.specs.Rows.{tx_of, rows_of, nodes_in, no_row}
use Rattle.facts.proofs.GoodFacts.{good_facts}
use Rattle.area.specs.Layout.{LongEnough}
use Rattle.area.specs.Queue.{ends_of, entry_of, entries, queue_of}
use Rattle.opening.specs.Opened.{opened}
use Rattle.tables.proofs.Opened.{opened_reads}
use Rattle.tables.proofs.TxOpened.{opened_bytes}
use Rattle.sending.proofs.Begin.{begins as ready}
use Rattle.model.specs.Plan.{said}
use Rattle.model.specs.Opening.{mapped, begun}
use Rattle.model.proofs.Begins.{begins, mapped_at}
use Rattle.model.proofs.PlanBytes.{plan-payload}
use Rattle.refines.specs.Shows.{Shows}
use Rattle.refines.proofs.Held.{Held}

module _ (plan a : List ℕ) (n t r : ℕ) (e : check_plan plan ≡ good_with n t r) (long : LongEnough a) where
  empty : (m : ℕ) → (ends_of (opened plan a) m).waiting ≡ 0 → queue_of (opened plan a) m ≡ []
  unfolding queue_of entries
  empty m z = rw z

  shows : Shows plan (opened plan a) (begun (said plan))
  unfolding begun mapped counter_after
  shows =
      let b = (opened_reads plan a n t r e long).1 in
      let good = (good_facts plan n t r e).0 in
      record {
        number = b.count;
        kept =
            λ k i l m. opened_bytes plan a n t r e long k i l m
            ∙ ap (λ z. get_or z i 0) (sym (mapped_at (λ x. eight_bytes x.payload) no_tx [] (tx_of plan) k l));
        tx_timers = λ k l. b.tx_timer k l ∙ sym (mapped_at (λ x. x.initial) no_tx 0 (tx_of plan) k l);
        rx_timers = λ k l. b.rx_timer k l ∙ sym (mapped_at (λ x. x.frame.initial) no_row 0 (rows_of plan) k l);
        longs = λ k l. b.long k l ∙ sym (mapped_at (λ x. x.frame.long) no_row 0 (rows_of plan) k l);
        queues =
            λ m l. ap (mapped entry_of) (empty m (b.empty m (omega (arith, good.counts.nodes))).1) ∙ sym (get_or-replicate (nodes_in (records plan)) m [] [] l);
      }

  pub Held-opened : Bytes plan → Held plan (opened plan a) (begun (said plan))
  Held-opened b =
      record {
        good = (good_facts plan n t r e).0;
        reads = (opened_reads plan a n t r e long).0;
        ready = ready plan (opened plan a) (good_facts plan n t r e).0 (opened_reads plan a n t r e long).0 (opened_reads plan a n t r e long).1;
        shape = (begins (said plan) (plan-payload plan b)).shape;
        shows = shows;
      }
