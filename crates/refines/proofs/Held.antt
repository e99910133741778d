-- An area that holds a plan and shows a state, and the single writes that keep this.
use mathlib.Core.Path.{◌≡◌, sym, ap, ◌∙◌}
use mathlib.Core.List.{List, []}
use Prim.Native.Nat.{ℕ, ◌+◌, ◌<◌}
use native.Mathlib.Omega.{arith}
use lib.ListN.{length, get_or, length-set}
use Rattle.base.specs.Numbers.{byte_at}
use Rattle.clock.specs.Counter.{counter_after}
use Rattle.records.specs.Records.{records}
use Rattle.records.specs.declared.record.Entry.{Entry}
use Rattle.plan.specs.Rows.{tx_of, rows_of, nodes_in}
use Rattle.facts.specs.Good.{GoodPlan}
use Rattle.area.specs.Layout.{LongEnough, tx_timer, rx_timer, long, payload, counter}
use Rattle.area.specs.Queue.{entry_of}
use Rattle.area.proofs.Frame.{Same}
use Rattle.area.proofs.QueueLaws.{queue_same}
use Rattle.tables.specs.Reads.{Reads}
use Rattle.history.proofs.Steady.{Steady, Reads-steady}
use Rattle.sending.proofs.Holding.{Holding-kept}
use Rattle.sending.proofs.Moves.{Ready, Moves, Resting, Rests, Moves-rests}
use Rattle.model.specs.Plan.{Plan, said}
use Rattle.model.specs.State.{State, kept_of, with_queue}
use Rattle.model.specs.Opening.{mapped}
use Rattle.model.specs.Words.{Shape}
use Rattle.refines.specs.Shows.{Shows}

pub record Held (plan a : List ℕ) (s : State) : Type 0 where
  pub good : GoodPlan plan
  pub reads : Reads plan a
  pub ready : Ready plan a
  pub shape : Shape (said plan) s
  pub shows : Shows plan a s

-- a step of the queues' law leaves the area ready
pub moved : {plan a b : List ℕ} → Ready plan a → Moves plan a b → Ready plan b
moved r m = record { holding = Holding-kept m.kept r.holding; queues = m.queues }

-- another queue on one node leaves a state's shape
pub Shape-queue : {p : Plan} {s : State} → Shape p s → (n : ℕ) (q : List Entry) → Shape p (with_queue s n q)
Shape-queue {s = s} w n q =
    record {
      kept = w.kept;
      payload = w.payload;
      tx_timers = w.tx_timers;
      rx_timers = w.rx_timers;
      longs = w.longs;
      queues = length-set s.queues n q ∙ w.queues;
    }

module _ {plan a : List ℕ} {s : State} (h : Held plan a s) where
  pub below : (n : ℕ) → n < nodes_in (records plan) → n < 16
  below n l = omega (arith, h.good.counts.nodes)

  pub long_area : LongEnough a
  long_area = h.reads.header.size

  -- a change beside the queues
  pub Held-rests :
      {b : List ℕ} (x : State) → Rests a b → Same Steady a b → Shape (said plan) x → x.queues ≡ s.queues
      → counter b ≡ counter_after x.number
      → ((t i : ℕ) → t < length (tx_of plan) → i < 8 → byte_at b (payload t + i) ≡ get_or (kept_of x t) i 0)
      → ((t : ℕ) → t < length (tx_of plan) → byte_at b (tx_timer t) ≡ get_or x.tx_timers t 0)
      → ((r : ℕ) → r < length (rows_of plan) → byte_at b (rx_timer r) ≡ get_or x.rx_timers r 0)
      → ((r : ℕ) → r < length (rows_of plan) → byte_at b (long r) ≡ get_or x.longs r 0) → Held plan b x
  Held-rests x rests steady shape q number kept tx rx longs =
      record {
        good = h.good;
        reads = Reads-steady steady h.reads;
        ready = moved h.ready (Moves-rests rests h.ready);
        shape = shape;
        shows =
            record {
              number = number;
              kept = kept;
              tx_timers = tx;
              rx_timers = rx;
              longs = longs;
              queues =
                  λ n l. ap (mapped entry_of) (queue_same {P = Resting} (λ j i k. omega arith) (λ j i k. omega arith) rests n (below n l))
                  ∙ h.shows.queues n l
                  ∙ ap (λ z. get_or z n []) (sym q);
            };
      }
