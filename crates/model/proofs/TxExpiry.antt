-- A Tx timer loaded with v expires at its v-th handling: each call takes its handlings off what the timer holds.
use mathlib.Core.Path.{◌≡◌, refl, sym, ap, ◌∙◌}
use mathlib.Core.Logic.{inl, inr, ⊎_elim}
use mathlib.Core.List.{List, [], ◌∷◌, ◌++◌, map}
use Prim.Native.Nat.{ℕ, ◌+◌, ◌%◌, ◌≤◌, ◌<◌}
use native.Mathlib.Omega.{arith}
use native.Mathlib.Decide.{ℕ_discrete}
use lib.ListN.{length, get_or}
use Rattle.records.specs.Nodes.{frame}
use Rattle.plan.specs.Rows.{Source, copy, failure, Claim}
use Rattle.model.specs.Plan.{Plan, tx_in, row_in}
use Rattle.model.specs.State.{State, queue_on}
use Rattle.model.specs.Calls.{Call, reception, response, no_response, tick, take, fullness, Running}
use Rattle.model.specs.Words.{In, Shape}
use Rattle.model.specs.ReceptionRules.{Wanted, Puts, InOrder, Recounts}
use Rattle.model.specs.TickRules.{Joins}
use Rattle.model.specs.Rules.{Runs}
use Rattle.model.specs.Timers.{state_left, Throughout, handling_of, handlings, Spares, TxWaits, TxExpiry}
use Rattle.model.proofs.Entries.{dec_in, map_in}
use Rattle.model.proofs.Upto.{In-left, In-right}
use Rattle.model.proofs.AgreeReceptions.{dec_wanted}
use Rattle.model.proofs.Outcomes.{TickOutcome, reception_outcome, response_outcome, silence_outcome, tick_outcome, take_outcome, fullness_outcome}
use Rattle.model.proofs.Outcomes.{shaped}
use Rattle.model.proofs.Handlings.{undone, fallen}

module _ (p : Plan) (g : Running) (meets : Runs p g) where
  module _ (t : ℕ) (l : t < length p.tx) (on : (tx_in p t).node < p.nodes) where
    abbrev count : State → ℕ
    count s = get_or s.tx_timers t 0

    abbrev Waiting : State → Type 0
    Waiting s = In (frame t) (queue_on s (tx_in p t).node)

    -- one destination: who waits goes on waiting, and the timer is loaded only where the frame begins to wait
    link_waits : (payload : List ℕ) (c : Claim) (s m : State) → Puts p payload c s m → Waiting s → Waiting m
    link_waits payload c s m a w = go c.from refl
      where
        same : m.queues ≡ s.queues → Waiting m
        same e = rw e w

        joined : (from size : ℕ) → c.from ≡ copy from size → Dec (Wanted p payload c from size s) → Dec (In (frame c.tx) (queue_on s (tx_in p c.tx).node))
            → Dec ((tx_in p t).node ≡ (tx_in p c.tx).node) → Waiting m
        joined from size e (no n) i d = same ((a.sends from size e).unwanted n).0
        joined from size e (yes x) (yes i) d = same ((a.sends from size e).waiting i).0
        joined from size e (yes x) (no i) (no d) = rw ((a.sends from size e).others _ d) w
        joined from size e (yes x) (no i) (yes d) =
            rw (d, (a.sends from size e).joins x i) (In-left (frame t) (queue_on s (tx_in p c.tx).node) _ (rw d at w))

        go : (z : Source) → c.from ≡ z → Waiting m
        go failure e = same (a.quiet e).0
        go (copy from size) e = joined from size e (dec_wanted p payload c from size s) (dec_in _ _) (ℕ_discrete _ _)

    link_loads : (payload : List ℕ) (c : Claim) (s m : State) → Puts p payload c s m → (Waiting m → Waiting s) → count m ≡ count s
    link_loads payload c s m a f = go c.from refl
      where
        same : m.tx_timers ≡ s.tx_timers → count m ≡ count s
        same e = rw e

        loaded : (from size : ℕ) → c.from ≡ copy from size → Dec (Wanted p payload c from size s) → Dec (In (frame c.tx) (queue_on s (tx_in p c.tx).node))
            → Dec (t ≡ c.tx) → count m ≡ count s
        loaded from size e (no n) i d = same ((a.sends from size e).unwanted n).1
        loaded from size e (yes x) (yes i) d = same ((a.sends from size e).waiting i).1
        loaded from size e (yes x) (no i) (no d) = (a.sends from size e).timers t d
        loaded from size e (yes x) (no i) (yes d) =
            let new : Waiting m =
            rw (d, (a.sends from size e).joins x i) (In-right (frame c.tx) (queue_on s (tx_in p c.tx).node) _ (unfold In in inl refl)) in
            absurd (i (rw d at (f new)))

        go : (z : Source) → c.from ≡ z → count m ≡ count s
        go failure e = same (a.quiet e).1
        go (copy from size) e = loaded from size e (dec_wanted p payload c from size s) (dec_in _ _) (ℕ_discrete _ _)

    order_waits : (payload : List ℕ) (cs : List Claim) (s x : State) → InOrder p payload cs s x → Waiting s → Waiting x
    unfolding InOrder
    order_waits payload [] s x e w = rw e w
    order_waits payload (c ∷ cs) s x (m, a, b) w = order_waits payload cs m x b (link_waits payload c s m a w)

    order_tx : (payload : List ℕ) (cs : List Claim) (s x : State) → InOrder p payload cs s x → (Waiting x → Waiting s) → count x ≡ count s
    unfolding InOrder
    order_tx payload [] s x e f = ap (λ z. count z) e
    order_tx payload (c ∷ cs) s x (m, a, b) f =
        order_tx payload cs m x b (λ w. link_waits payload c s m a (f w))
        ∙ link_loads payload c s m a (λ w. f (order_waits payload cs m x b w))

    -- an acceptance, of a reception or a response
    accepted : (payload : List ℕ) (q : ℕ) (s m x : State) → Recounts p q s m → InOrder p payload (row_in p q).claims m x → (Waiting x → Waiting s)
        → count x ≡ count s
    accepted payload q s m x a b f =
        let before : m.queues ≡ s.queues = a.queues in
        order_tx payload (row_in p q).claims m x b (λ w. rw before (f w)) ∙ ap (λ z. get_or z t 0) a.tx_timers

    step_tx : (s : State) → Shape p s → (c : Call) → Spares p g t s c → handling_of p (tx_in p t).prescaler s c < count s
        → count (g.next s c) + handling_of p (tx_in p t).prescaler s c ≡ count s
    unfolding Spares handling_of
    step_tx s k (reception n i payload) f m =
        ⊎_elim (λ (x, d, w). rw w.stays (omega arith))
        (λ (q, x, c, w). omega (arith, accepted payload q s w.again _ w.restarts.recounts w.puts f)) (reception_outcome p g meets s k n i payload)
    step_tx s k (response n i payload sum) f m =
        ⊎_elim (λ (x, d, w). rw w.stays (omega arith))
        (λ (q, x, w). omega (arith, accepted payload q s w.again _ w.recounts w.puts f)) (response_outcome p g meets s k n i payload sum)
    step_tx s k (no_response n i) f m =
        ⊎_elim (λ (why, w). rw w.stays (omega arith)) (λ (q, x, w). rw w.tx_timers (omega arith)) (silence_outcome p g meets s k n i)
    step_tx s k (tick report) f m = go (tick_outcome p g meets s k report)
      where
        go : TickOutcome p g s report → count (g.next s (tick report)) + handling_of p (tx_in p t).prescaler s (tick report) ≡ count s
        go (inl (e, u)) = rw e (omega (arith, undone p (tx_in p t).prescaler s report u))
        go (inr (u, w)) = fallen p _ s report _ _ _ u (w.ticks.tx_timers t l) m
    step_tx s k (take n) f m =
        ⊎_elim (λ e. rw e (omega arith)) (λ (e, rest, q, answer, payload, x). rw x.tx_timers (omega arith)) (take_outcome p g meets s k n)
    step_tx s k (fullness u) f m = rw (fullness_outcome p g meets s k u) (omega arith)

    pub tx_waits : (s : State) → Shape p s → (cs : List Call) → Throughout (Spares p g t) g s cs
        → handlings p (tx_in p t).prescaler g s cs < count s → TxWaits p g s t cs
    unfolding state_left Throughout handlings
    tx_waits s k [] f m = record { left = omega arith; expires = last }
      where
        last : 1 ≡ count s → (report : List ℕ) → length p.rows ≤ length report → s.number % (tx_in p t).prescaler ≡ 0
            → In (frame t) (queue_on (g.next s (tick report)) (tx_in p t).node)
        last one report u e = go (dec_in (frame t) (queue_on s (tx_in p t).node))
          where
            joins : Joins p s (g.next s (tick report)) (tx_in p t).node
            joins = ((meets.tick s k report).done u).ticks.queues _ on

            sends : In (frame t) (queue_on s (tx_in p t).node ++ map frame joins.frames)
                → In (frame t) (queue_on (g.next s (tick report)) (tx_in p t).node)
            sends i = rw joins.then (In-left (frame t) (queue_on s (tx_in p t).node ++ map frame joins.frames) _ i)

            go : Dec (In (frame t) (queue_on s (tx_in p t).node)) → In (frame t) (queue_on (g.next s (tick report)) (tx_in p t).node)
            go (yes i) = sends (In-left (frame t) (queue_on s (tx_in p t).node) _ i)
            go (no n) =
                sends
                (In-right (frame t) (queue_on s (tx_in p t).node) _
                (map_in frame t joins.frames
                ((joins.sent.exactly t).1 (record { expires = record { frame = l; handled = e; last = sym one }; node = refl; new = n }))))
    tx_waits s k (c ∷ cs) f m =
        let e = step_tx s k c f.0 (omega arith) in
        let rest = tx_waits (g.next s c) (shaped p g meets s k c) cs f.1 (omega arith) in
        record { left = omega (arith, rest.left); expires = λ one. rest.expires (omega arith) }

pub tx_expiry_holds : TxExpiry
tx_expiry_holds p g meets s k t l on cs f m = tx_waits p g meets t l on s k cs f m
