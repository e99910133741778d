-- The model's Tx timers in a tick: what the first n turns leave.
use mathlib.Core.Path.{◌≡◌, refl, sym, ap, ◌∙◌}
use mathlib.Core.Logic.{◌≢◌}
use mathlib.Core.Bool.{Bool, true, false, not}
use mathlib.Core.List.{List, append-nil}
use Prim.Native.Nat.{ℕ, zero, suc, ◌%◌, ◌≤◌, ◌<◌}
use native.Mathlib.Omega.{arith}
use native.Mathlib.Decide.{ℕ_discrete}
use lib.Dec.{eqb}
use lib.ListN.{length, get_or, set, length-set}
use lib.Seq.{get_or-set_same, get_or-set_other, set-get_or, set-set}
use borrow.Author.Tests.{eq-eqb, ne_eqb}
use Rattle.base.specs.Pick.{pick}
use Rattle.base.proofs.Picks.{cases, by_eqb, picks, passes}
use Rattle.clock.specs.Timer.{lowered}
use Rattle.records.specs.declared.record.Entry.{Entry}
use Rattle.records.specs.Nodes.{frame}
use Rattle.model.specs.Plan.{Plan, tx_in}
use Rattle.model.specs.State.{State, queue_on}
use Rattle.model.specs.Scheduling.{is_in, joined, scheduled}
use Rattle.model.specs.Tick.{handled, tx_lowered, tx_turn, tx_turns}
use Rattle.model.specs.Words.{Shape}
use Rattle.model.proofs.Lawful.{Lawful}
use Rattle.model.proofs.Upto.{upto}
use Rattle.model.proofs.Entries.{frame_one}
use Rattle.model.proofs.Joining.{Joined, stays as line_stays, joins as line_joins, waits}

module _ (p : Plan) (lawful : Lawful p) (s : State) (shape : Shape p s) where
  -- Tx frame t expires, is of node m and does not wait there
  unfoldable pub sent_on : ℕ → ℕ → Bool
  sent_on m t =
      pick (eqb (s.number % (tx_in p t).prescaler) 0)
      (pick (eqb (get_or s.tx_timers t 0) 1) (pick (eqb (tx_in p t).node m) (not (is_in (frame t) (queue_on s m))) false) false)
      false

  -- what the timer of Tx frame t holds after its turn
  unfoldable pub tx_after : ℕ → ℕ
  tx_after t = pick (eqb (s.number % (tx_in p t).prescaler) 0) (lowered (tx_in p t).reload (get_or s.tx_timers t 0)) (get_or s.tx_timers t 0)

  pub record TxDone (n : ℕ) (x : State) : Type 0 where
    pub number : x.number ≡ s.number
    pub kept : x.kept ≡ s.kept
    pub rx_timers : x.rx_timers ≡ s.rx_timers
    pub longs : x.longs ≡ s.longs
    pub timers : length x.tx_timers ≡ length s.tx_timers
    pub lines : length x.queues ≡ length s.queues
    pub before : (t : ℕ) → t < n → get_or x.tx_timers t 0 ≡ tx_after t
    pub later : (t : ℕ) → n ≤ t → get_or x.tx_timers t 0 ≡ get_or s.tx_timers t 0
    pub queue : Joined frame p.nodes (λ m. queue_on s m) sent_on n x.queues

  -- a turn that sets the timer and leaves the queues
  module _ (n : ℕ) (l : n < length p.tx) (x : State) (d : TxDone n x) where
    -- x with another value of timer n, and other queues
    abbrev moved : ℕ → List (List Entry) → State
    moved v q =
        record { number = x.number; kept = x.kept; tx_timers = set x.tx_timers n v; rx_timers = x.rx_timers; longs = x.longs; queues = q }

    turned : (v : ℕ) (q : List (List Entry)) → v ≡ tx_after n → length q ≡ length s.queues
        → Joined frame p.nodes (λ m. queue_on s m) sent_on (suc n) q → TxDone (suc n) (moved v q)
    turned v q e k f =
        record {
          number = d.number;
          kept = d.kept;
          rx_timers = d.rx_timers;
          longs = d.longs;
          timers = length-set x.tx_timers n v ∙ d.timers;
          lines = k;
          before = λ t i. at t i (ℕ_discrete t n);
          later = λ t i. get_or-set_other x.tx_timers n t v 0 (λ y. omega arith) ∙ d.later t (omega arith);
          queue = f;
        }
      where
        at : (t : ℕ) → t < suc n → Dec (t ≡ n) → get_or (set x.tx_timers n v) t 0 ≡ tx_after t
        at t i (yes y) = rw y (get_or-set_same x.tx_timers n v 0 (omega (arith, d.timers, shape.tx_timers)) ∙ e)
        at t i (no y) = get_or-set_other x.tx_timers n t v 0 y ∙ d.before t (omega arith)

    -- no frame joins
    quiet : (v : ℕ) → v ≡ tx_after n → ((m : ℕ) → sent_on m n ≡ false) → TxDone (suc n) (moved v x.queues)
    quiet v e f =
        turned v x.queues e d.lines (line_stays frame p.nodes (λ m. queue_on s m) sent_on n x.queues d.queue (λ m i. f m))

    -- ---- the turn of frame n

    abbrev own : ℕ
    own = get_or s.tx_timers n 0

    abbrev home : ℕ
    home = (tx_in p n).node

    unhandled : s.number % (tx_in p n).prescaler ≢ 0 → TxDone (suc n) x
    unfolding sent_on tx_after
    unhandled y =
        let f = ne_eqb (s.number % (tx_in p n).prescaler) 0 y in
        let z = quiet (get_or x.tx_timers n 0) (d.later n (omega arith) ∙ sym (passes _ _ _ f)) (λ m. passes _ _ _ f) in
        rw (set-get_or x.tx_timers n 0) at z

    falls : s.number % (tx_in p n).prescaler ≡ 0 → own ≢ 1 → TxDone (suc n) (tx_lowered p x n)
    unfolding sent_on tx_after tx_lowered
    falls y k =
        let f = eq-eqb (s.number % (tx_in p n).prescaler) 0 y in
        quiet _ (ap (lowered (tx_in p n).reload) (d.later n (omega arith)) ∙ sym (picks _ _ _ f))
        (λ m. picks _ _ _ f ∙ passes _ _ _ (ne_eqb own 1 k))

    module _ (y : s.number % (tx_in p n).prescaler ≡ 0) (k : own ≡ 1) where
      -- whether it joins, by node
      sends : (m : ℕ) → sent_on m n ≡ pick (eqb home m) (not (is_in (frame n) (queue_on s m))) false
      unfolding sent_on
      sends m = picks _ _ _ (eq-eqb _ 0 y) ∙ picks _ _ _ (eq-eqb own 1 k)

      loaded : tx_after n ≡ (tx_in p n).reload
      unfolding tx_after lowered pick
      loaded = rw (eq-eqb (s.number % (tx_in p n).prescaler) 0 y, k)

      stays : is_in (frame n) (queue_on s home) ≡ true → TxDone (suc n) (tx_lowered p x n)
      unfolding tx_lowered lowered pick
      stays e = quiet _ (rw (d.later n (omega arith), k) (sym loaded)) (λ m. sends m ∙ by_eqb (λ z. z ≡ false) home m _ _ (λ i. rw (← i, e)) (λ i. refl))

      joins : is_in (frame n) (queue_on s home) ≡ false → TxDone (suc n) (joined p (tx_lowered p x n) n)
      unfolding joined tx_lowered
      joins e =
          rw (set-set x.tx_timers n)
          (turned (tx_in p n).reload _ (sym loaded) (length-set x.queues home _ ∙ d.lines)
          (line_joins frame p.nodes (λ m. queue_on s m) sent_on n x.queues d.queue home (d.lines ∙ shape.queues)
          (λ i. sends home ∙ picks _ _ _ (eq-eqb home home refl) ∙ ap not e) (λ m j. sends m ∙ passes _ _ _ (ne_eqb home m (λ q. j (sym q))))))

      expires : TxDone (suc n) (scheduled p (tx_lowered p x n) n)
      unfolding scheduled tx_lowered
      expires =
          let w = waits frame p.nodes (λ m. queue_on s m) sent_on n x.queues d.queue (λ t u. frame_one) home (lawful.node n l) in
          cases (TxDone (suc n)) (is_in (frame n) (queue_on x home)) _ _ (λ e. stays (sym w ∙ e)) (λ e. joins (sym w ∙ e))

    pub turn : TxDone (suc n) (tx_turn p x n)
    unfolding tx_turn handled
    turn =
        let e : s.number % (tx_in p n).prescaler ≡ x.number % (tx_in p n).prescaler = ap (λ k. k % (tx_in p n).prescaler) (sym d.number) in
        let f : own ≡ get_or x.tx_timers n 0 = sym (d.later n (omega arith)) in
        by_eqb (TxDone (suc n)) (x.number % (tx_in p n).prescaler) 0 _ _
        (λ y. by_eqb (TxDone (suc n)) (get_or x.tx_timers n 0) 1 _ _ (λ k. expires (e ∙ y) (f ∙ k)) (λ k. falls (e ∙ y) (λ z. k (sym f ∙ z))))
        (λ y. unhandled (λ z. y (sym e ∙ z)))

  pub turns : (n : ℕ) → n ≤ length p.tx → TxDone n (tx_turns p n s)
  unfolding tx_turns upto
  turns zero l =
      record {
        number = refl;
        kept = refl;
        rx_timers = refl;
        longs = refl;
        timers = refl;
        lines = refl;
        before = λ t i. absurd (omega arith);
        later = λ t i. refl;
        queue = λ m i. sym (append-nil (queue_on s m));
      }
  turns (suc n) l = turn n l (tx_turns p n s) (turns n (omega arith))
