-- An Rx timer loaded with v expires at its v-th handling: each call takes its handlings off what the timer holds.
use mathlib.Core.Path.{◌≡◌, ap, ◌∙◌}
use mathlib.Core.Logic.{◌≢◌, inl, inr, ⊎_elim}
use mathlib.Core.List.{List, [], ◌∷◌}
use Prim.Native.Nat.{ℕ, ◌+◌, ◌%◌, ◌<◌}
use native.Mathlib.Omega.{arith}
use native.Mathlib.Decide.{ℕ_discrete}
use lib.ListN.{length, get_or}
use Rattle.std.specs.Prelude.{Ok}
use Rattle.model.specs.Plan.{Plan, row_in}
use Rattle.model.specs.State.{State}
use Rattle.model.specs.Calls.{Call, reception, response, no_response, tick, take, fullness, ticked, Running}
use Rattle.model.specs.Words.{LinRow, Names, Shape}
use Rattle.model.specs.ReceptionRules.{Accepts}
use Rattle.model.specs.TickRules.{TimesOut}
use Rattle.model.specs.Rules.{Runs}
use Rattle.model.specs.Timers.{state_left, Throughout, handling_of, handlings, Leaves, Silent, RxExpiry}
use Rattle.model.proofs.Outcomes.{TickOutcome, reception_outcome, response_outcome, silence_outcome, tick_outcome, take_outcome, fullness_outcome}
use Rattle.model.proofs.Outcomes.{order_aside, shaped}
use Rattle.model.proofs.Handlings.{one_given, not_refused, handled_once, undone, fallen}

module _ (p : Plan) (g : Running) (meets : Runs p g) where
  -- calls leave one thing of each kind
  pub left_shape : (s : State) → Shape p s → (cs : List Call) → Shape p (state_left g s cs)
  unfolding state_left
  left_shape s k [] = k
  left_shape s k (c ∷ cs) = left_shape (g.next s c) (shaped p g meets s k c) cs

  module _ (r : ℕ) (l : r < length p.rows) where
    abbrev held : State → ℕ
    held s = get_or s.rx_timers r 0

    abbrev by : State → Call → ℕ
    by = handling_of p (row_in p r).frame.prescaler

    pub step_rx : (s : State) → Shape p s → (c : Call) → Leaves p g r s c → by s c < held s → held (g.next s c) + by s c ≡ held s
    unfolding Leaves handling_of
    step_rx s k (reception n i payload) f m =
        ⊎_elim (λ (x, d, w). rw w.stays (omega arith)) (λ (q, x, c, w). accepted q x w (ℕ_discrete r q)) (reception_outcome p g meets s k n i payload)
      where
        accepted : (q : ℕ) → Names p n i q → Accepts p g s n i payload q → Dec (r ≡ q)
            → held (g.next s (reception n i payload)) + 0 ≡ held s
        accepted q x w (yes e) = absurd (f w.answer (rw e x))
        accepted q x w (no d) =
            let same = (order_aside p payload (row_in p q).claims w.again _ w.puts).rx_timers in
            omega (arith, ap (λ z. get_or z r 0) same, w.restarts.rx_timers.others r d)
    step_rx s k (response n i payload sum) f m =
        ⊎_elim (λ (x, d, w). rw w.stays (omega arith))
        (λ (q, x, w).
        let same = (order_aside p payload (row_in p q).claims w.again _ w.puts).rx_timers ∙ w.rx_timers in
        omega (arith, ap (λ z. get_or z r 0) same))
        (response_outcome p g meets s k n i payload sum)
    step_rx s k (no_response n i) f m =
        ⊎_elim (λ (why, w). rw w.stays (omega arith)) (λ (q, x, w). rw w.rx_timers (omega arith)) (silence_outcome p g meets s k n i)
    step_rx s k (tick report) f m = go (tick_outcome p g meets s k report)
      where
        go : TickOutcome p g s report → held (g.next s (tick report)) + by s (tick report) ≡ held s
        go (inl (e, u)) = rw e (omega (arith, undone p (row_in p r).frame.prescaler s report u))
        go (inr (u, w)) = fallen p _ s report _ _ _ u (w.ticks.rx_timers r l) m
    step_rx s k (take n) f m =
        ⊎_elim (λ e. rw e (omega arith)) (λ (e, rest, q, answer, payload, x). rw x.rx_timers (omega arith)) (take_outcome p g meets s k n)
    step_rx s k (fullness t) f m = rw (fullness_outcome p g meets s k t) (omega arith)

    silent : (s : State) → Shape p s → (c : Call) → by s c < held s → Silent g r s c
    unfolding Silent
    silent s k (reception n i payload) m = tt
    silent s k (response n i payload sum) m = tt
    silent s k (no_response n i) m = tt
    silent s k (take n) m = tt
    silent s k (fullness t) m = tt
    silent s k (tick report) m = λ given a. go given a (tick_outcome p g meets s k report)
      where
        go : (given : List ℕ) → g.answer s (tick report) ≡ ticked (Ok tt) given → TickOutcome p g s report → get_or given r 0 ≡ 0
        go given a (inl (e, u)) = absurd (not_refused a ((meets.tick s k report).refused u).answer)
        go given a (inr (u, w)) =
            ap (λ z. get_or z r 0) (one_given a w.answer)
            ∙ w.reports.nothing r l (λ x. omega (arith, x.expires.last, handled_once p (row_in p r).frame.prescaler s report u x.expires.handled))

    pub rx_left : (s : State) → Shape p s → (cs : List Call) → Throughout (Leaves p g r) g s cs
        → handlings p (row_in p r).frame.prescaler g s cs < held s
        → held (state_left g s cs) + handlings p (row_in p r).frame.prescaler g s cs ≡ held s
    unfolding state_left Throughout handlings
    rx_left s k [] f m = omega arith
    rx_left s k (c ∷ cs) f m =
        let e = step_rx s k c f.0 (omega arith) in
        omega (arith, rx_left (g.next s c) (shaped p g meets s k c) cs f.1 (omega arith))

    silent_throughout : (s : State) → Shape p s → (cs : List Call) → Throughout (Leaves p g r) g s cs
        → handlings p (row_in p r).frame.prescaler g s cs < held s → Throughout (Silent g r) g s cs
    unfolding Throughout handlings
    silent_throughout s k [] f m = tt
    silent_throughout s k (c ∷ cs) f m =
        let e = step_rx s k c f.0 (omega arith) in
        (silent s k c (omega arith), silent_throughout (g.next s c) (shaped p g meets s k c) cs f.1 (omega arith))

    -- the last handling
    times_out : (LinRow p r → ⊥) → (s : State) → Shape p s → held s ≡ 1 → (report given : List ℕ) → s.number % (row_in p r).frame.prescaler ≡ 0
        → g.answer s (tick report) ≡ ticked (Ok tt) given → get_or given r 0 ≢ 0
    times_out c s k one report given e a z = go (tick_outcome p g meets s k report) (ℕ_discrete (get_or s.longs r 0) 1)
      where
        x : TimesOut p s r
        x = record { expires = record { frame = l; handled = e; last = one }; not_lin = c }

        go : TickOutcome p g s report → Dec (get_or s.longs r 0 ≡ 1) → ⊥
        go (inl (y, u)) d = not_refused a ((meets.tick s k report).refused u).answer
        go (inr (u, w)) (yes d) = omega (arith, ap (λ y. get_or y r 0) (one_given a w.answer), w.reports.long r x d)
        go (inr (u, w)) (no d) = omega (arith, ap (λ y. get_or y r 0) (one_given a w.answer), w.reports.short r x d)

pub rx_expiry_holds : RxExpiry
rx_expiry_holds p g meets s k r l c cs f m =
    let left = rx_left p g meets r l s k cs f m in
    record {
      left = left;
      silent = silent_throughout p g meets r l s k cs f m;
      expires = λ one. times_out p g meets r l c (state_left g s cs) (left_shape p g meets s k cs) (omega arith);
    }
