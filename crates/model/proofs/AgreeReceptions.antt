-- Two gateways that meet the rules of a reception answer it alike and leave one state.
use mathlib.Core.Path.{◌≡◌, refl, sym, ap, ◌∙◌}
use mathlib.Core.Logic.{◌⊎◌, inl, inr}
use mathlib.Core.Bool.{Bool, true, false, true≢false}
use mathlib.Core.List.{List, [], ◌∷◌}
use Prim.Native.Nat.{ℕ, ◌+◌, ◌-◌, ◌≤◌, ◌<◌}
use native.Mathlib.Omega.{arith}
use native.Mathlib.Decide.{ℕ_discrete, dec_lt}
use lib.ListN.{length, get_or}
use lib.Seq.{ext_get_or}
use Rattle.std.specs.Prelude.{Ok}
use Rattle.bits.specs.Payload.{bit_at, differs}
use Rattle.bits.proofs.CopyLaws.{differs_exactly}
use Rattle.records.specs.declared.record.Id.{Id}
use Rattle.records.specs.Nodes.{frame}
use Rattle.plan.specs.Rows.{Source, copy, failure, Claim}
use Rattle.answers.specs.declared.Received.TheVariants.{NoRow}
use Rattle.model.specs.Plan.{Plan, tx_in, row_in}
use Rattle.model.specs.State.{State, kept_of, queue_on}
use Rattle.model.specs.Calls.{reception, received, Running}
use Rattle.model.specs.Words.{In, LinNode, Names, Shape}
use Rattle.model.specs.ReceptionRules.{Copies, Wanted, Differs, Schedules, Puts, InOrder, Becomes, Recounts, Restarts, Accepts, Misses}
use Rattle.model.specs.ReceptionRules.{ReceptionRules}
use Rattle.model.proofs.Words.{state_same, those_same, dec_either, dec_both}
use Rattle.model.proofs.Entries.{dec_in}
use Rattle.model.proofs.Nodes.{dec_lin}
use Rattle.model.proofs.AgreeTicks.{Agree, agree, payloads, named}

-- ---- one destination

module _ (p : Plan) (payload : List ℕ) where
  dec_differs : (c : Claim) (from size : ℕ) (s : State) → Dec (Differs p payload c from size s)
  dec_differs c from size s = go (differs p.order payload from size (kept_of s c.tx) c.at) refl
    where
      go : (b : Bool) → differs p.order payload from size (kept_of s c.tx) c.at ≡ b → Dec (Differs p payload c from size s)
      go true e =
          let w = (differs_exactly p.order payload from (kept_of s c.tx) c.at size).0 e in
          yes (record { bit = w.0; below = w.1; differs = w.2 })
      go false e = no (λ w. true≢false (sym ((differs_exactly p.order payload from (kept_of s c.tx) c.at size).1 (w.bit, w.below, w.differs)) ∙ e))

  pub dec_wanted : (c : Claim) (from size : ℕ) (s : State) → Dec (Wanted p payload c from size s)
  dec_wanted c from size s =
      dec_either (dec_either (ℕ_discrete _ 1) (ℕ_discrete _ 3))
      (dec_both (dec_either (ℕ_discrete _ 2) (ℕ_discrete _ 3)) (dec_differs c from size s))

  module _ (s : State) (c : Claim) (x y : State) (a : Puts p payload c s x) (b : Puts p payload c s y) where
    -- what they do to the queues and the Tx timers
    sends : (W : Type 0) → Dec W → (t : ℕ) → Schedules p W t s x → Schedules p W t s y → (x.queues ≡ y.queues) × (x.tx_timers ≡ y.tx_timers)
    sends W d t u v = go d (dec_in (frame t) (queue_on s (tx_in p t).node))
      where
        go : Dec W → Dec (In (frame t) (queue_on s (tx_in p t).node)) → (x.queues ≡ y.queues) × (x.tx_timers ≡ y.tx_timers)
        go (no n) w = ((u.unwanted n).0 ∙ sym (v.unwanted n).0, (u.unwanted n).1 ∙ sym (v.unwanted n).1)
        go (yes k) (yes i) = ((u.waiting i).0 ∙ sym (v.waiting i).0, (u.waiting i).1 ∙ sym (v.waiting i).1)
        go (yes k) (no i) = (
          ext_get_or [] _ _ (a.shape.queues ∙ sym b.shape.queues) (λ m l. queue m (ℕ_discrete m _)),
          ext_get_or 0 _ _ (a.shape.tx_timers ∙ sym b.shape.tx_timers) (λ m l. timer m (ℕ_discrete m _)),
        )
          where
            queue : (m : ℕ) → Dec (m ≡ (tx_in p t).node) → queue_on x m ≡ queue_on y m
            queue m (yes e) = rw e (u.joins k i ∙ sym (v.joins k i))
            queue m (no n) = u.others m n ∙ sym (v.others m n)

            timer : (m : ℕ) → Dec (m ≡ t) → get_or x.tx_timers m 0 ≡ get_or y.tx_timers m 0
            timer m (yes e) = rw e (u.reloads k i ∙ sym (v.reloads k i))
            timer m (no n) = u.timers m n ∙ sym (v.timers m n)

    -- and to the payloads
    copies : (from size : ℕ) → Copies p payload c from size s x → Copies p payload c from size s y → (t i : ℕ) → i < 64
        → bit_at p.order (kept_of x t) i ≡ bit_at p.order (kept_of y t) i
    copies from size u v t i m = frame (ℕ_discrete t c.tx)
      where
        at : Dec (i < c.at) → Dec (i < c.at + size) → bit_at p.order (kept_of x c.tx) i ≡ bit_at p.order (kept_of y c.tx) i
        at (no d) (yes l) =
            let e : i ≡ c.at + (i - c.at) = omega arith in
            rw e (u.bits (i - c.at) (omega arith) ∙ sym (v.bits (i - c.at) (omega arith)))
        at (yes l) w = u.rest i m (λ k h e. omega arith) ∙ sym (v.rest i m (λ k h e. omega arith))
        at (no d) (no l) = u.rest i m (λ k h e. omega arith) ∙ sym (v.rest i m (λ k h e. omega arith))

        frame : Dec (t ≡ c.tx) → bit_at p.order (kept_of x t) i ≡ bit_at p.order (kept_of y t) i
        frame (yes e) = rw e (at (dec_lt i c.at) (dec_lt i (c.at + size)))
        frame (no d) = ap (λ z. bit_at p.order z i) (u.frames t d ∙ sym (v.frames t d))

    clears : c.from ≡ failure → (t i : ℕ) → bit_at p.order (kept_of x t) i ≡ bit_at p.order (kept_of y t) i
    clears f t i = frame (ℕ_discrete t c.tx) (ℕ_discrete i c.at)
      where
        frame : Dec (t ≡ c.tx) → Dec (i ≡ c.at) → bit_at p.order (kept_of x t) i ≡ bit_at p.order (kept_of y t) i
        frame (yes e) (yes k) = rw (e, k) (a.clears f ∙ sym (b.clears f))
        frame (yes e) (no k) = rw e (a.bits f i k ∙ sym (b.bits f i k))
        frame (no d) w = ap (λ z. bit_at p.order z i) (a.frames f t d ∙ sym (b.frames f t d))

    puts : x ≡ y
    puts = go c.from refl
      where
        whole : (x.queues ≡ y.queues) × (x.tx_timers ≡ y.tx_timers)
            → ((t i : ℕ) → i < 64 → bit_at p.order (kept_of x t) i ≡ bit_at p.order (kept_of y t) i) → x ≡ y
        whole q f =
            state_same x y (a.aside.number ∙ sym b.aside.number)
            (payloads p x y a.shape b.shape (λ t i l m. f t i m)) q.1
            (a.aside.rx_timers ∙ sym b.aside.rx_timers) (a.aside.longs ∙ sym b.aside.longs) q.0

        go : (z : Source) → c.from ≡ z → x ≡ y
        go (copy from size) e =
            whole (sends _ (dec_wanted c from size s) c.tx (a.sends from size e) (b.sends from size e))
            (copies from size (a.copies from size e) (b.copies from size e))
        go failure e =
            whole ((a.quiet e).0 ∙ sym (b.quiet e).0, (a.quiet e).1 ∙ sym (b.quiet e).1) (λ t i m. clears e t i)

  -- all destinations, in order
  pub in_order : (cs : List Claim) (s x y : State) → InOrder p payload cs s x → InOrder p payload cs s y → x ≡ y
  unfolding InOrder
  in_order [] s x y a b = a ∙ sym b
  in_order (c ∷ cs) s x y a b =
      let e : a.0 ≡ b.0 = puts s c _ _ a.1 b.1 in
      in_order cs b.0 x y (rw e at a.2) b.2

  -- and they leave one thing of each kind
  pub order_shape : (cs : List Claim) (s x : State) → Shape p s → InOrder p payload cs s x → Shape p x
  unfolding InOrder
  order_shape [] s x h a = rw a h
  order_shape (c ∷ cs) s x h a = order_shape cs a.0 x a.1.shape a.2

-- ---- the call

module _ (p : Plan) where
  pub recount_shape : (r : ℕ) (s x : State) → Shape p s → Recounts p r s x → length x.rx_timers ≡ length s.rx_timers → Shape p x
  recount_shape r s x h a e =
      record {
        kept = ap length a.kept ∙ h.kept;
        payload = λ t l. rw a.kept (h.payload t l);
        tx_timers = ap length a.tx_timers ∙ h.tx_timers;
        rx_timers = e ∙ h.rx_timers;
        longs = a.longs.size ∙ h.longs;
        queues = ap length a.queues ∙ h.queues;
      }

  pub restart_shape : (r : ℕ) (s x : State) → Shape p s → Restarts p r s x → Shape p x
  restart_shape r s x h a = recount_shape r s x h a.recounts a.rx_timers.size

  becomes : (r v : ℕ) (old x y : List ℕ) → Becomes r v old x → Becomes r v old y → x ≡ y
  becomes r v old x y a b = ext_get_or 0 x y (a.size ∙ sym b.size) (λ q l. at q (ℕ_discrete q r))
    where
      at : (q : ℕ) → Dec (q ≡ r) → get_or x q 0 ≡ get_or y q 0
      at q (yes e) = rw e (a.this ∙ sym b.this)
      at q (no d) = a.others q d ∙ sym (b.others q d)

  pub recounts : (r : ℕ) (s x y : State) → Recounts p r s x → Recounts p r s y → x.rx_timers ≡ y.rx_timers → x ≡ y
  recounts r s x y a b e =
      state_same x y (a.number ∙ sym b.number) (a.kept ∙ sym b.kept) (a.tx_timers ∙ sym b.tx_timers)
      e (becomes r _ _ _ _ a.longs b.longs) (a.queues ∙ sym b.queues)

  restarts : (r : ℕ) (s x y : State) → Restarts p r s x → Restarts p r s y → x ≡ y
  restarts r s x y a b = recounts r s x y a.recounts b.recounts (becomes r _ _ _ _ a.rx_timers b.rx_timers)

  module _ (g h : Running) (s : State) (shape : Shape p s) (n : ℕ) (i : Id) (payload : List ℕ) where
    accepts : (r : ℕ) → Accepts p g s n i payload r → Accepts p h s n i payload r → Agree g h s (reception n i payload)
    accepts r a b =
        record {
          answer = a.answer ∙ sym b.answer;
          next =
              let e : a.again ≡ b.again = restarts r s _ _ a.restarts b.restarts in
              in_order p payload (row_in p r).claims b.again _ _ (rw e at a.puts) b.puts;
        }

    misses : Misses p g s n i payload → Misses p h s n i payload → Agree g h s (reception n i payload)
    misses a b =
        record {
          answer = a.answers.answer ∙ ap (λ rows. received (Ok (NoRow (length rows)))) (those_same a.those b.those) ∙ sym b.answers.answer;
          next = a.answers.stays ∙ sym b.answers.stays;
        }

    pub reception_agrees : ReceptionRules p g s n i payload → ReceptionRules p h s n i payload → Agree g h s (reception n i payload)
    reception_agrees a b = go (dec_lt n p.nodes) (dec_lin p n) (dec_lt 8 (length payload)) (named p g h s shape n i)
      where
        row : n < p.nodes → (LinNode p n → ⊥) → length payload ≤ 8 → (r : ℕ) → Names p n i r → Dec (length payload < (row_in p r).frame.size)
            → Agree g h s (reception n i payload)
        row l c m r x (yes k) = agree p g h s shape (a.short l c m r x k) (b.short l c m r x k)
        row l c m r x (no k) = accepts r (a.accepted l c m r x (omega arith)) (b.accepted l c m r x (omega arith))

        go : Dec (n < p.nodes) → Dec (LinNode p n) → Dec (8 < length payload) → ((r : ℕ) × Names p n i r) ⊎ ((r : ℕ) → Names p n i r → ⊥)
            → Agree g h s (reception n i payload)
        go (no d) c w v = agree p g h s shape (a.refused (omega arith)) (b.refused (omega arith))
        go (yes l) (yes c) w v = agree p g h s shape (a.on_lin l c) (b.on_lin l c)
        go (yes l) (no c) (yes m) v = agree p g h s shape (a.long l c m) (b.long l c m)
        go (yes l) (no c) (no m) (inr f) = misses (a.no_row l c (omega arith) f) (b.no_row l c (omega arith) f)
        go (yes l) (no c) (no m) (inl (r, x)) = row l c (omega arith) r x (dec_lt _ _)
