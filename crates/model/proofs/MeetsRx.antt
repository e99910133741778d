-- The model's Rx timers in a tick: what the first n turns leave.
use mathlib.Core.Path.{◌≡◌, refl, sym, ap, ◌∙◌}
use mathlib.Core.Logic.{◌≢◌, ◌⊎◌, inl, inr, ⊎_elim, ◌↔◌}
use mathlib.Core.Bool.{Bool, true, false, not}
use mathlib.Core.List.{List}
use Prim.Native.Nat.{ℕ, zero, suc, ◌%◌, ◌≤◌, ◌<◌}
use native.Mathlib.Omega.{arith}
use native.Mathlib.Decide.{ℕ_discrete}
use lib.Dec.{eqb}
use lib.ListN.{length, get_or, set, length-set}
use lib.Seq.{get_or-set_same, get_or-set_other, set-get_or}
use borrow.Author.Tests.{eq-eqb, ne_eqb}
use Rattle.base.specs.Pick.{pick}
use Rattle.base.proofs.Picks.{cases, by_eqb, picks, passes}
use Rattle.bits.specs.Payload.{bit_at}
use Rattle.clock.specs.Timer.{lowered}
use Rattle.records.specs.declared.record.Entry.{Entry}
use Rattle.records.specs.Nodes.{request}
use Rattle.model.specs.Plan.{Plan, row_in, on_lin}
use Rattle.model.specs.State.{State, kept_of, queue_on}
use Rattle.model.specs.Scheduling.{is_in, asked, requested}
use Rattle.model.specs.Tick.{failed, expired, rx_expiry, rx_lowered, handled, rx_turn, rx_turns}
use Rattle.model.specs.Words.{LinRow, Shape}
use Rattle.model.specs.TickRules.{Indicates, Fails}
use Rattle.model.proofs.Lawful.{Lawful}
use Rattle.model.proofs.Nodes.{lin_on, lin_off, by_lin}
use Rattle.model.proofs.Entries.{request_one}
use Rattle.model.proofs.Joining.{Joined, stays as line_stays, joins as line_joins, waits}
use Rattle.model.proofs.Failures.{Kept, Sets, Sets-none, Sets-indicated}

-- ---- the turns: s is the state before the tick, y that after the Tx timers

module _ (p : Plan) (lawful : Lawful p) (s : State) (shape : Shape p s) (y : State) where
  unfoldable pub rx_after : ℕ → ℕ
  rx_after r = pick (eqb (s.number % (row_in p r).frame.prescaler) 0) (lowered (row_in p r).frame.reload (get_or s.rx_timers r 0)) (get_or s.rx_timers r 0)

  unfoldable pub long_after : ℕ → ℕ
  long_after r =
      pick (eqb (s.number % (row_in p r).frame.prescaler) 0)
      (pick (eqb (get_or s.rx_timers r 0) 1)
      (pick (on_lin p (row_in p r).frame.node) (get_or s.longs r 0) (lowered (row_in p r).frame.long (get_or s.longs r 0)))
      (get_or s.longs r 0))
      (get_or s.longs r 0)

  -- Rx frame r expires, is of LIN node m, and its request does not wait there
  unfoldable pub asked_on : ℕ → ℕ → Bool
  asked_on m r =
      pick (eqb (s.number % (row_in p r).frame.prescaler) 0)
      (pick (eqb (get_or s.rx_timers r 0) 1)
      (pick (eqb (row_in p r).frame.node m) (pick (on_lin p m) (not (is_in (request r) (queue_on y m))) false) false)
      false)
      false

  abbrev pub InLine : ℕ → List (List Entry) → Type 0
  InLine n queues = Joined request p.nodes (λ m. queue_on y m) asked_on n queues

  -- an expiry of one of the first n rows sets the bit
  abbrev pub FailsBelow : ℕ → ℕ → ℕ → Type 0
  FailsBelow n t b = (f : Fails p s t b) × (f.row < n)

  pub record RxDone (n : ℕ) (x : State) : Type 0 where
    pub held : Kept p x
    pub number : x.number ≡ s.number
    pub lines : length x.queues ≡ p.nodes
    pub queue : InLine n x.queues
    pub tx_timers : x.tx_timers ≡ y.tx_timers
    pub timers : length x.rx_timers ≡ length s.rx_timers
    pub counters : length x.longs ≡ length s.longs
    pub before : (r : ℕ) → r < n → get_or x.rx_timers r 0 ≡ rx_after r
    pub later : (r : ℕ) → n ≤ r → get_or x.rx_timers r 0 ≡ get_or s.rx_timers r 0
    pub long_before : (r : ℕ) → r < n → get_or x.longs r 0 ≡ long_after r
    pub long_later : (r : ℕ) → n ≤ r → get_or x.longs r 0 ≡ get_or s.longs r 0
    pub bits : (t b : ℕ) → t < length p.tx → b < 64
        → (bit_at p.order (kept_of x t) b ≡ 1) ↔ ((bit_at p.order (kept_of s t) b ≡ 1) ⊎ FailsBelow n t b)

  module _ (n : ℕ) (l : n < length p.rows) (x : State) (d : RxDone n x) where
    -- x with timer n at v, long counter n at w, the payloads of z, and some queues
    turned : {P : ℕ → ℕ → Type 0} (v w : ℕ) (z : State) (q : List (List Entry)) → Sets p P x z → v ≡ rx_after n → w ≡ long_after n
        → length q ≡ p.nodes → InLine (suc n) q
        → ((t b : ℕ) → P t b → FailsBelow (suc n) t b) → ((t b : ℕ) → (f : Fails p s t b) → f.row ≡ n → P t b)
        → RxDone (suc n)
        (record {
          number = x.number;
          kept = z.kept;
          tx_timers = x.tx_timers;
          rx_timers = set x.rx_timers n v;
          longs = set x.longs n w;
          queues = q;
        })
    turned {P} v w z q a e f k j g h =
        record {
          held = record { kept = a.shape.kept; payload = a.shape.payload };
          number = d.number;
          lines = k;
          queue = j;
          tx_timers = d.tx_timers;
          timers = length-set x.rx_timers n v ∙ d.timers;
          counters = length-set x.longs n w ∙ d.counters;
          before = λ r i. at x.rx_timers v rx_after e (omega (arith, d.timers, shape.rx_timers)) d.before r i (ℕ_discrete r n);
          later = λ r i. get_or-set_other x.rx_timers n r v 0 (λ k. omega arith) ∙ d.later r (omega arith);
          long_before = λ r i. at x.longs w long_after f (omega (arith, d.counters, shape.longs)) d.long_before r i (ℕ_discrete r n);
          long_later = λ r i. get_or-set_other x.longs n r w 0 (λ k. omega arith) ∙ d.long_later r (omega arith);
          bits =
              λ t b i j.
              let u = d.bits t b i j in
              let k = a.bits t b i j in (
                (λ q. ⊎_elim (λ q. ⊎_elim (λ q. inl q) (λ m. inr (m.0, omega (arith, m.1))) (u.0 q)) (λ q. inr (g t b q)) (k.0 q)),
                (λ q.
                    ⊎_elim (λ q. k.1 (inl (u.1 (inl q))))
                    (λ m. fails t b m.0 m.1 (ℕ_discrete m.0.row n) (λ c. k.1 (inl (u.1 (inr (m.0, c))))) (λ c. k.1 (inr c))) q),
              );
        }
      where
        at : (xs : List ℕ) (v : ℕ) (f : ℕ → ℕ) → v ≡ f n → n < length xs → ((r : ℕ) → r < n → get_or xs r 0 ≡ f r)
            → (r : ℕ) → r < suc n → Dec (r ≡ n) → get_or (set xs n v) r 0 ≡ f r
        at xs v f e i k r j (yes q) = rw q (get_or-set_same xs n v 0 i ∙ e)
        at xs v f e i k r j (no q) = get_or-set_other xs n r v 0 q ∙ k r (omega arith)

        fails : {G : Type 0} (t b : ℕ) (m : Fails p s t b) → m.row < suc n → Dec (m.row ≡ n) → (m.row < n → G) → (P t b → G) → G
        fails t b m i (yes q) u v = v (h t b m q)
        fails t b m i (no q) u v = u (omega arith)

    abbrev own : ℕ
    own = get_or s.rx_timers n 0

    abbrev period : ℕ
    period = s.number % (row_in p n).frame.prescaler

    abbrev home : ℕ
    home = (row_in p n).frame.node

    abbrev Nothing : ℕ → ℕ → Type 0
    Nothing t b = ⊥

    -- no timeout, and some queues
    calm : (v : ℕ) (q : List (List Entry)) → v ≡ rx_after n → long_after n ≡ get_or s.longs n 0 → length q ≡ p.nodes → InLine (suc n) q
        → (period ≡ 0 → own ≡ 1 → (LinRow p n → ⊥) → ⊥)
        → RxDone (suc n)
        (record { number = x.number; kept = x.kept; tx_timers = x.tx_timers; rx_timers = set x.rx_timers n v; longs = x.longs; queues = q })
    calm v q e f k j g =
        let z =
        turned {P = Nothing} v (get_or x.longs n 0) x q (Sets-none p d.held (λ t b w. w)) e (d.long_later n (omega arith) ∙ sym f) k j
        (λ t b w. absurd w)
        (λ t b m w. let o = m.times_out in g (rw w at o.expires.handled) (rw w at o.expires.last) (rw w at o.not_lin)) in
        rw (set-get_or x.longs n 0) at z

    -- nothing is asked for
    unasked : ((m : ℕ) → m < p.nodes → asked_on m n ≡ false) → InLine (suc n) x.queues
    unasked f = line_stays request p.nodes (λ m. queue_on y m) asked_on n x.queues d.queue f

    unhandled : period ≢ 0 → RxDone (suc n) x
    unfolding rx_after long_after asked_on
    unhandled k =
        let f = ne_eqb period 0 k in
        let z =
        calm (get_or x.rx_timers n 0) x.queues (d.later n (omega arith) ∙ sym (passes _ _ _ f)) (passes _ _ _ f) d.lines
        (unasked (λ m i. passes _ _ _ f)) (λ e g c. k e) in
        rw (set-get_or x.rx_timers n 0) at z

    falls : period ≡ 0 → own ≢ 1 → RxDone (suc n) (rx_lowered p x n)
    unfolding rx_after long_after asked_on rx_lowered
    falls e k =
        let f = eq-eqb period 0 e in
        let o = ne_eqb own 1 k in
        calm _ x.queues (ap (lowered (row_in p n).frame.reload) (d.later n (omega arith)) ∙ sym (picks _ _ _ f))
        (picks _ _ _ f ∙ passes _ _ _ o) d.lines (unasked (λ m i. picks _ _ _ f ∙ passes _ _ _ o)) (λ q g c. k g)

    module _ (e : period ≡ 0) (k : own ≡ 1) where
      low : lowered (row_in p n).frame.reload (get_or x.rx_timers n 0) ≡ rx_after n
      unfolding rx_after
      low = ap (lowered (row_in p n).frame.reload) (d.later n (omega arith)) ∙ sym (picks _ _ _ (eq-eqb period 0 e))

      long : long_after n ≡ pick (on_lin p home) (get_or s.longs n 0) (lowered (row_in p n).frame.long (get_or s.longs n 0))
      unfolding long_after
      long = picks _ _ _ (eq-eqb period 0 e) ∙ picks _ _ _ (eq-eqb own 1 k)

      asks : (m : ℕ) → asked_on m n ≡ pick (eqb home m) (pick (on_lin p m) (not (is_in (request n) (queue_on y m))) false) false
      unfolding asked_on
      asks m = picks _ _ _ (eq-eqb period 0 e) ∙ picks _ _ _ (eq-eqb own 1 k)

      -- on a node that is not LIN
      expires : (LinRow p n → ⊥) → RxDone (suc n) (expired p (rx_lowered p x n) n)
      unfolding expired rx_lowered
      expires c =
          let low_state : State = rx_lowered p x n in
          let a = Sets-indicated p lawful n l low_state (record { kept = d.held.kept; payload = d.held.payload }) in
          let b :
          Sets p (Indicates p n) x
          (record {
            number = x.number;
            kept = (failed p low_state (row_in p n).claims).kept;
            tx_timers = x.tx_timers;
            rx_timers = x.rx_timers;
            longs = x.longs;
            queues = x.queues;
          }) =
          record {
            shape = record { kept = a.shape.kept; payload = a.shape.payload };
            number = refl;
            tx_timers = refl;
            rx_timers = refl;
            longs = refl;
            queues = refl;
            bits = a.bits;
          } in
          let z =
          turned {P = Indicates p n} _ _ _ x.queues b low
          (ap (lowered (row_in p n).frame.long) (d.long_later n (omega arith)) ∙ sym (long ∙ passes _ _ _ (lin_off p home c))) d.lines
          (unasked (λ m i. asks m ∙ by_eqb (λ w. w ≡ false) home m _ _ (λ j. rw (← j) (passes _ _ _ (lin_off p home c))) (λ j. refl)))
          (λ t b w. (
            record { row = n; times_out = record { expires = record { frame = l; handled = e; last = k }; not_lin = c }; indicates = w },
            omega arith,
          ))
          (λ t b m q. rw q at m.indicates) in
          rw (a.number, a.tx_timers, a.rx_timers, a.longs, a.queues) z

      -- on a LIN node
      module _ (c : LinRow p n) where
        as_before : (m : ℕ) → m < p.nodes → is_in (request n) (queue_on x m) ≡ is_in (request n) (queue_on y m)
        as_before = waits request p.nodes (λ m. queue_on y m) asked_on n x.queues d.queue (λ q r. request_one)

        waiting : is_in (request n) (queue_on x home) ≡ true → (m : ℕ) → m < p.nodes → asked_on m n ≡ false
        waiting w m i =
            asks m
            ∙ by_eqb (λ z. z ≡ false) home m _ _
            (λ j.
            let here : is_in (request n) (queue_on x m) ≡ true = rw (← j) w in
            picks _ _ _ (rw (← j) (lin_on p home c)) ∙ ap not (sym (as_before m i) ∙ here))
            (λ j. refl)

        requests : RxDone (suc n) (requested p (rx_lowered p x n) n)
        unfolding requested asked rx_lowered
        requests =
            cases (RxDone (suc n)) (is_in (request n) (queue_on x home)) _ _
            (λ w.
            calm _ x.queues low (long ∙ picks _ _ _ (lin_on p home c)) d.lines (unasked (waiting w)) (λ e k o. o c))
            (λ w.
            calm _ _ low (long ∙ picks _ _ _ (lin_on p home c)) (length-set x.queues home _ ∙ d.lines)
            (line_joins request p.nodes (λ m. queue_on y m) asked_on n x.queues d.queue home d.lines
            (λ i.
            asks home ∙ picks _ _ _ (eq-eqb home home refl) ∙ picks _ _ _ (lin_on p home c) ∙ ap not (sym (as_before home i) ∙ w))
            (λ m j. asks m ∙ passes _ _ _ (ne_eqb home m (λ q. j (sym q)))))
            (λ e k o. o c))

      expiry : RxDone (suc n) (rx_expiry p (rx_lowered p x n) n)
      unfolding rx_expiry
      expiry = by_lin p home (RxDone (suc n)) _ _ requests expires

    pub turn : RxDone (suc n) (rx_turn p x n)
    unfolding rx_turn handled
    turn =
        let e : period ≡ x.number % (row_in p n).frame.prescaler = ap (λ k. k % (row_in p n).frame.prescaler) (sym d.number) in
        let f : own ≡ get_or x.rx_timers n 0 = sym (d.later n (omega arith)) in
        by_eqb (RxDone (suc n)) (x.number % (row_in p n).frame.prescaler) 0 _ _
        (λ i. by_eqb (RxDone (suc n)) (get_or x.rx_timers n 0) 1 _ _ (λ k. expiry (e ∙ i) (f ∙ k)) (λ k. falls (e ∙ i) (λ z. k (sym f ∙ z))))
        (λ i. unhandled (λ z. i (sym e ∙ z)))

  pub turns : RxDone 0 y → (n : ℕ) → n ≤ length p.rows → RxDone n (rx_turns p n y)
  unfolding rx_turns
  turns d zero l = d
  turns d (suc n) l = turn n l (rx_turns p n y) (turns d n (omega arith))
