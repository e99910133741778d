-- The model meets the rules of a tick.
use mathlib.Core.Path.{◌≡◌, refl, sym, ap, ◌∙◌}
use mathlib.Core.Logic.{inl, inr, ⊎_elim}
use mathlib.Core.Bool.{true, false≢true, true≢false}
use mathlib.Core.List.{List, ◌++◌, map, append-nil}
use Prim.Native.Nat.{ℕ, ◌+◌, ◌%◌, ◌<◌}
use native.Mathlib.Omega.{arith}
use lib.ListN.{length, get_or}
use borrow.Author.Tests.{eq-eqb, ne_eqb, le-leb, lt-leb, not-true}
use Rattle.base.specs.Pick.{pick}
use Rattle.base.proofs.Picks.{by_eqb, picks, passes}
use Rattle.clock.specs.Timer.{lowered}
use Rattle.records.specs.Nodes.{frame, request}
use Rattle.model.specs.Plan.{Plan, tx_in, row_in}
use Rattle.model.specs.State.{State, queue_on}
use Rattle.model.specs.Tick.{tx_turns, rx_turns, reported, ticked_state, tick_answer, ticked, tick_report}
use Rattle.model.specs.Calls.{running, answer_of, next_of}
use Rattle.model.specs.Words.{In, Shape}
use Rattle.model.specs.TickRules.{Falls, Sent, Asked, TimesOut, Ticks, TickRules}
use Rattle.model.proofs.Lawful.{Lawful}
use Rattle.model.proofs.Upto.{upto, Those-upto, In-left, In-either}
use Rattle.model.proofs.Entries.{request_no_frame, in_is_in, absent, in_map}
use Rattle.model.proofs.Nodes.{lin_on, lin_off, by_lin}
use Rattle.model.proofs.MeetsReport.{reports}
use Rattle.model.proofs.MeetsTx.{sent_on, tx_after, TxDone, turns as tx_turns_done}
use Rattle.model.proofs.MeetsRx.{rx_after, long_after, asked_on, RxDone, turns as rx_turns_done}

-- ---- a timer

lowered_falls : (reload old : ℕ) → 1 < old → lowered reload old + 1 ≡ old
unfolding lowered
lowered_falls reload old h =
    by_eqb (λ x. x + 1 ≡ old) old 0 _ _ (λ e. omega arith) (λ d. by_eqb (λ x. x + 1 ≡ old) old 1 _ _ (λ e. omega arith) (λ e. omega arith))

pub falls : {H : Type 0} (reload old new : ℕ) → ((H → ⊥) → new ≡ old) → (H → new ≡ lowered reload old) → Falls H reload old new
unfolding lowered pick
falls reload old new f g =
    record {
      unhandled = f;
      stopped = λ h e. g h ∙ rw e;
      expires = λ h e. g h ∙ rw e;
      falls = λ h l. rw (g h) (lowered_falls reload old l);
    }

module _ (p : Plan) (lawful : Lawful p) (s : State) (shape : Shape p s) where
  abbrev sent : State
  sent = tx_turns p (length p.tx) s

  abbrev all : State
  all = rx_turns p (length p.rows) sent

  tx : TxDone p lawful s shape (length p.tx) sent
  tx = tx_turns_done p lawful s shape (length p.tx) (omega arith)

  begin : RxDone p lawful s shape sent 0 sent
  unfolding upto
  begin =
      record {
        held = record { kept = ap length tx.kept ∙ shape.kept; payload = λ t l. rw tx.kept (shape.payload t l) };
        number = tx.number;
        lines = tx.lines ∙ shape.queues;
        queue = λ m l. sym (append-nil (queue_on sent m));
        tx_timers = refl;
        timers = ap length tx.rx_timers;
        counters = ap length tx.longs;
        before = λ r l. absurd (omega arith);
        later = λ r l. rw tx.rx_timers;
        long_before = λ r l. absurd (omega arith);
        long_later = λ r l. rw tx.longs;
        bits = λ t b l m. rw tx.kept (inl, λ w. ⊎_elim (λ e. e) (λ f. absurd (omega (arith, f.1))) w);
      }

  rx : RxDone p lawful s shape sent (length p.rows) all
  rx = rx_turns_done p lawful s shape sent begin (length p.rows) (omega arith)

  -- ---- who joins

  test_sent : (n t : ℕ) → t < length p.tx → sent_on p lawful s shape n t ≡ true → Sent p s n t
  unfolding sent_on
  test_sent n t l =
      by_eqb (λ x. x ≡ true → Sent p s n t) (s.number % (tx_in p t).prescaler) 0 _ _
      (λ e.
      by_eqb (λ x. x ≡ true → Sent p s n t) (get_or s.tx_timers t 0) 1 _ _
      (λ f.
      by_eqb (λ x. x ≡ true → Sent p s n t) (tx_in p t).node n _ _
      (λ g h.
      record {
        expires = record { frame = l; handled = e; last = f };
        node = g;
        new = λ i. true≢false (sym (in_is_in (frame t) (queue_on s n) i) ∙ not-true _ h);
      })
      (λ g h. absurd (false≢true h)))
      (λ f h. absurd (false≢true h)))
      (λ e h. absurd (false≢true h))

  sent_test : (n t : ℕ) → Sent p s n t → sent_on p lawful s shape n t ≡ true
  unfolding sent_on
  sent_test n t x =
      picks _ _ _ (eq-eqb _ 0 x.expires.handled) ∙ picks _ _ _ (eq-eqb _ 1 x.expires.last) ∙ picks _ _ _ (eq-eqb _ n x.node)
      ∙ absent (frame t) (queue_on s n) x.new

  -- ---- who is asked for

  -- a request waits after the Tx timers exactly where it did before: frames alone joined
  request-sent : (n r : ℕ) → n < p.nodes → In (request r) (queue_on sent n) → In (request r) (queue_on s n)
  request-sent n r l i =
      ⊎_elim (λ j. j) (λ j. absurd (request_no_frame (in_map frame (request r) (upto (sent_on p lawful s shape n) (length p.tx)) j).2))
      (In-either (request r) (queue_on s n) _ (rw (tx.queue n l) at i))

  test_asked : (n r : ℕ) → n < p.nodes → r < length p.rows → asked_on p lawful s shape sent n r ≡ true → Asked p s n r
  unfolding asked_on
  test_asked n r k l =
      by_eqb (λ x. x ≡ true → Asked p s n r) (s.number % (row_in p r).frame.prescaler) 0 _ _
      (λ e.
      by_eqb (λ x. x ≡ true → Asked p s n r) (get_or s.rx_timers r 0) 1 _ _
      (λ f.
      by_eqb (λ x. x ≡ true → Asked p s n r) (row_in p r).frame.node n _ _
      (λ g.
      by_lin p n (λ x. x ≡ true → Asked p s n r) _ _
      (λ c h.
      record {
        lin = c;
        expires = record { frame = l; handled = e; last = f };
        node = g;
        new =
            λ i.
            true≢false
            (sym (in_is_in (request r) (queue_on sent n) (rw (tx.queue n k) (In-left (request r) (queue_on s n) _ i))) ∙ not-true _ h);
      })
      (λ c h. absurd (false≢true h)))
      (λ g h. absurd (false≢true h)))
      (λ f h. absurd (false≢true h)))
      (λ e h. absurd (false≢true h))

  asked_test : (n r : ℕ) → n < p.nodes → Asked p s n r → asked_on p lawful s shape sent n r ≡ true
  unfolding asked_on
  asked_test n r k x =
      picks _ _ _ (eq-eqb _ 0 x.expires.handled) ∙ picks _ _ _ (eq-eqb _ 1 x.expires.last) ∙ picks _ _ _ (eq-eqb _ n x.node)
      ∙ picks _ _ _ (lin_on p n x.lin) ∙ absent (request r) (queue_on sent n) (λ i. x.new (request-sent n r k i))

  -- ---- the state

  long : (r : ℕ) → r < length p.rows → Falls (TimesOut p s r) (row_in p r).frame.long (get_or s.longs r 0) (long_after p lawful s shape sent r)
  unfolding long_after
  long r l =
      falls _ _ _
      (λ n.
      by_eqb Old (s.number % (row_in p r).frame.prescaler) 0 _ _
      (λ e.
      by_eqb Old (get_or s.rx_timers r 0) 1 _ _
      (λ f.
      by_lin p (row_in p r).frame.node Old _ _ (λ c. refl)
      (λ c. absurd (n (record { expires = record { frame = l; handled = e; last = f }; not_lin = c }))))
      (λ f. refl))
      (λ e. refl))
      (λ x.
      picks _ _ _ (eq-eqb _ 0 x.expires.handled) ∙ picks _ _ _ (eq-eqb _ 1 x.expires.last) ∙ passes _ _ _ (lin_off p _ x.not_lin))
    where
      Old : ℕ → Type 0
      Old x = x ≡ get_or s.longs r 0

  ticks : Ticks p s (ticked_state p s)
  unfolding ticked_state tx_after rx_after
  ticks =
      record {
        number = refl;
        shape =
            record {
              kept = rx.held.kept;
              payload = rx.held.payload;
              tx_timers = ap length rx.tx_timers ∙ tx.timers ∙ shape.tx_timers;
              rx_timers = rx.timers ∙ shape.rx_timers;
              longs = rx.counters ∙ shape.longs;
              queues = rx.lines;
            };
        tx_timers =
            λ t l. rw (rx.tx_timers, tx.before t l)
            (falls _ _ _ (λ n. passes _ _ _ (ne_eqb _ 0 n)) (λ e. picks _ _ _ (eq-eqb _ 0 e)));
        queues =
            λ n l.
            record {
              frames = upto (sent_on p lawful s shape n) (length p.tx);
              sent = Those-upto (sent_on p lawful s shape n) (length p.tx) (λ t. test_sent n t) (λ t x. x.expires.frame) (sent_test n);
              requests = upto (asked_on p lawful s shape sent n) (length p.rows);
              asked =
                  Those-upto (asked_on p lawful s shape sent n) (length p.rows) (λ r. test_asked n r l) (λ r x. x.expires.frame)
                  (λ r. asked_test n r l);
              then = rx.queue n l ∙ ap (λ z. z ++ map request (upto (asked_on p lawful s shape sent n) (length p.rows))) (tx.queue n l);
            };
        rx_timers = λ r l. rw (rx.before r l) (falls _ _ _ (λ n. passes _ _ _ (ne_eqb _ 0 n)) (λ e. picks _ _ _ (eq-eqb _ 0 e)));
        longs = λ r l. rw (rx.long_before r l) (long r l);
        kept =
            λ t b l m.
            let w = rx.bits t b l m in
            ((λ e. ⊎_elim inl (λ f. inr f.0) (w.0 e)), (λ v. w.1 (⊎_elim inl (λ f. inr (f, f.times_out.expires.frame)) v)));
      }

  pub meets_tick : (report : List ℕ) → TickRules p (running p) s report
  unfolding running answer_of next_of tick_answer ticked tick_report pick
  meets_tick report =
      record {
        refused = λ l. let e = lt-leb (length p.rows) (length report) l in record { answer = rw e; stays = rw e };
        done =
            λ l.
            let e = le-leb (length p.rows) (length report) l in
            record {
              given = reported p s (length p.rows) report;
              answer = rw e;
              reports = reports p s report l;
              ticks = rw e ticks;
            };
      }
