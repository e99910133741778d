-- An Rx timer of a LIN node loaded with v asks for its frame at its v-th handling, whatever is called, and no tick reports it.
use mathlib.Core.Path.{◌≡◌, refl, ap, ◌∙◌}
use mathlib.Core.Logic.{inl, inr, ⊎_elim}
use mathlib.Core.List.{List, [], ◌∷◌, ◌++◌, map}
use Prim.Native.Nat.{ℕ, ◌%◌, ◌≤◌, ◌<◌}
use native.Mathlib.Omega.{arith}
use native.Mathlib.Decide.{ℕ_discrete}
use lib.ListN.{length, get_or}
use Rattle.std.specs.Prelude.{Result, Ok}
use Rattle.records.specs.Nodes.{frame, request}
use Rattle.plan.specs.Rows.{Source, copy, failure, Claim}
use Rattle.answers.specs.declared.Refusal.{Refusal}
use Rattle.answers.specs.declared.Received.{Received}
use Rattle.answers.specs.declared.Received.TheVariants.{Accepted}
use Rattle.model.specs.Plan.{Plan, tx_in, row_in}
use Rattle.model.specs.State.{State, queue_on}
use Rattle.model.specs.Calls.{Call, reception, response, no_response, tick, take, fullness, Answer, received, ticked, Running}
use Rattle.model.specs.Words.{In, LinRow, Names, Shape}
use Rattle.model.specs.ReceptionRules.{Schedules, Puts, InOrder}
use Rattle.model.specs.TickRules.{Asked, Joins}
use Rattle.model.specs.Rules.{Runs}
use Rattle.model.specs.Timers.{state_left, Throughout, handling_of, handlings, Leaves, Silent, Unasked, AskExpiry, AskSilence}
use Rattle.model.proofs.Entries.{request_one, request_no_frame, dec_in, in_map, map_in}
use Rattle.model.proofs.Upto.{In-left, In-right, In-either}
use Rattle.model.proofs.AgreeReceptions.{dec_wanted}
use Rattle.model.proofs.Outcomes.{ReceptionOutcome, TickOutcome, TakeOutcome, reception_outcome, response_outcome, silence_outcome, tick_outcome}
use Rattle.model.proofs.Outcomes.{take_outcome, fullness_outcome, shaped}
use Rattle.model.proofs.Handlings.{one_given, not_refused, handled_once}
use Rattle.model.proofs.RxExpiry.{left_shape, step_rx, rx_left}

accepted_one : {x : Answer} {y : Result Received Refusal} → x ≡ received y → x ≡ received (Ok Accepted) → y ≡ Ok Accepted
accepted_one e f = cc

-- ---- a destination brings no request

module _ (p : Plan) (r n : ℕ) (payload : List ℕ) where
  abbrev Waits : State → Type 0
  Waits s = In (request r) (queue_on s n)

  sends_frames : (W : Type 0) → Dec W → (t : ℕ) (s x : State) → Schedules p W t s x → Waits x → Waits s
  sends_frames W d t s x a i = go d (dec_in (frame t) (queue_on s (tx_in p t).node)) (ℕ_discrete n (tx_in p t).node)
    where
      same : x.queues ≡ s.queues → Waits s
      same e = rw e at i

      go : Dec W → Dec (In (frame t) (queue_on s (tx_in p t).node)) → Dec (n ≡ (tx_in p t).node) → Waits s
      go (no w) k j = same (a.unwanted w).0
      go (yes w) (yes k) j = same (a.waiting k).0
      go (yes w) (no k) (no j) = rw (a.others n j) at i
      go (yes w) (no k) (yes j) =
          rw j
          (⊎_elim (λ f. f) (λ f. absurd (request_no_frame (in_map frame (request r) (t ∷ []) f).2))
          (In-either (request r) (queue_on s (tx_in p t).node) (frame t ∷ []) (rw (j, a.joins w k) at i)))

  link_request : (c : Claim) (s m : State) → Puts p payload c s m → Waits m → Waits s
  link_request c s m a i = go c.from refl
    where
      go : (z : Source) → c.from ≡ z → Waits s
      go failure e = rw (a.quiet e).0 at i
      go (copy from size) e = sends_frames _ (dec_wanted p payload c from size s) c.tx s m (a.sends from size e) i

  order_request : (cs : List Claim) (s x : State) → InOrder p payload cs s x → Waits x → Waits s
  unfolding InOrder
  order_request [] s x e i = rw e at i
  order_request (c ∷ cs) s x (m, a, b) i = link_request c s m a (order_request cs m x b i)

module _ (p : Plan) (g : Running) (meets : Runs p g) (r : ℕ) (l : r < length p.rows) (c : LinRow p r) where
  abbrev held : State → ℕ
  held s = get_or s.rx_timers r 0

  abbrev by : State → Call → ℕ
  by = handling_of p (row_in p r).frame.prescaler

  abbrev home : ℕ
  home = (row_in p r).frame.node

  -- ---- no call loads the timer

  leaves : (s : State) → Shape p s → (d : Call) → Leaves p g r s d
  unfolding Leaves
  leaves s k (reception n i payload) = λ e x. go e x (reception_outcome p g meets s k n i payload)
    where
      go : g.answer s (reception n i payload) ≡ received (Ok Accepted) → Names p n i r → ReceptionOutcome p g meets s k n i payload → ⊥
      go e x (inl (y, d, w)) = d (accepted_one w.answer e)
      go e x (inr (q, y, off, w)) = off (rw x.node at c)
  leaves s k (response n i payload sum) = tt
  leaves s k (no_response n i) = tt
  leaves s k (tick report) = tt
  leaves s k (take n) = tt
  leaves s k (fullness t) = tt

  leaves_throughout : (s : State) → Shape p s → (cs : List Call) → Throughout (Leaves p g r) g s cs
  unfolding Throughout
  leaves_throughout s k [] = tt
  leaves_throughout s k (d ∷ cs) = (leaves s k d, leaves_throughout (g.next s d) (shaped p g meets s k d) cs)

  -- ---- no tick reports the frame

  silent : (s : State) → Shape p s → (d : Call) → Silent g r s d
  unfolding Silent
  silent s k (reception n i payload) = tt
  silent s k (response n i payload sum) = tt
  silent s k (no_response n i) = tt
  silent s k (take n) = tt
  silent s k (fullness t) = tt
  silent s k (tick report) = λ given a. go given a (tick_outcome p g meets s k report)
    where
      go : (given : List ℕ) → g.answer s (tick report) ≡ ticked (Ok tt) given → TickOutcome p g s report → get_or given r 0 ≡ 0
      go given a (inl (e, u)) = absurd (not_refused a ((meets.tick s k report).refused u).answer)
      go given a (inr (u, w)) = ap (λ z. get_or z r 0) (one_given a w.answer) ∙ w.reports.nothing r l (λ x. x.not_lin c)

  pub silent_throughout : (s : State) → Shape p s → (cs : List Call) → Throughout (Silent g r) g s cs
  unfolding Throughout
  silent_throughout s k [] = tt
  silent_throughout s k (d ∷ cs) = (silent s k d, silent_throughout (g.next s d) (shaped p g meets s k d) cs)

  -- ---- who asks

  module _ (on : home < p.nodes) where
    unasked : (s : State) → Shape p s → (d : Call) → by s d < held s → Unasked p g r s d
    unasked s k (reception n i payload) m =
        λ j.
        ⊎_elim (λ (x, e, w). rw w.stays at j)
        (λ (q, x, off, w).
        rw w.restarts.recounts.queues at (order_request p r home payload (row_in p q).claims w.again _ w.puts j))
        (reception_outcome p g meets s k n i payload)
    unasked s k (response n i payload sum) m =
        λ j.
        ⊎_elim (λ (x, e, w). rw w.stays at j)
        (λ (q, x, w). rw w.recounts.queues at (order_request p r home payload (row_in p q).claims w.again _ w.puts j))
        (response_outcome p g meets s k n i payload sum)
    unasked s k (no_response n i) m =
        λ j. ⊎_elim (λ (why, w). rw w.stays at j) (λ (q, x, w). rw w.queues at j) (silence_outcome p g meets s k n i)
    unasked s k (fullness t) m = λ j. rw (fullness_outcome p g meets s k t) at j
    unasked s k (take n) m = λ j. go j (take_outcome p g meets s k n) (ℕ_discrete home n)
      where
        go : In (request r) (queue_on (g.next s (take n)) home) → TakeOutcome p g meets s k n → Dec (home ≡ n) → In (request r) (queue_on s home)
        go j (inl e) d = rw e at j
        go j (inr (e, rest, q, answer, payload, w)) (yes d) = rw (d, q) (In-right (request r) (e ∷ []) rest (rw (d, w.leaves) at j))
        go j (inr (e, rest, q, answer, payload, w)) (no d) = rw (w.others home d) at j
    unasked s k (tick report) m = λ j. go j (tick_outcome p g meets s k report)
      where
        early : length p.rows ≤ length report → Asked p s home r → ⊥
        early u x = omega (arith, x.expires.last, handled_once p (row_in p r).frame.prescaler s report u x.expires.handled)

        own : (xs : List ℕ) → In (request r) (map request xs) → In r xs
        own xs i = let w = in_map request (request r) xs i in rw (request_one w.2) w.1

        joined : (length p.rows ≤ length report) → (x : State) → Joins p s x home → In (request r) (queue_on x home) → In (request r) (queue_on s home)
        joined u x w j =
            ⊎_elim
            (λ i.
            ⊎_elim (λ e. e) (λ e. absurd (request_no_frame (in_map frame (request r) w.frames e).2))
            (In-either (request r) (queue_on s home) (map frame w.frames) i))
            (λ i. absurd (early u ((w.asked.exactly r).0 (own w.requests i))))
            (In-either (request r) (queue_on s home ++ map frame w.frames) (map request w.requests) (rw w.then at j))

        go : In (request r) (queue_on (g.next s (tick report)) home) → TickOutcome p g s report → In (request r) (queue_on s home)
        go j (inl (e, u)) = rw e at j
        go j (inr (u, w)) = joined u _ (w.ticks.queues home on) j

    unasked_throughout : (s : State) → Shape p s → (cs : List Call) → handlings p (row_in p r).frame.prescaler g s cs < held s
        → Throughout (Unasked p g r) g s cs
    unfolding Throughout handlings
    unasked_throughout s k [] m = tt
    unasked_throughout s k (d ∷ cs) m =
        let e = step_rx p g meets r l s k d (leaves s k d) (omega arith) in
        (unasked s k d (omega arith), unasked_throughout (g.next s d) (shaped p g meets s k d) cs (omega arith))

    -- the last handling
    asks : (s : State) → Shape p s → held s ≡ 1 → (report : List ℕ) → length p.rows ≤ length report → s.number % (row_in p r).frame.prescaler ≡ 0
        → In (request r) (queue_on (g.next s (tick report)) home)
    asks s k one report u e = go (dec_in (request r) (queue_on s home))
      where
        joins : Joins p s (g.next s (tick report)) home
        joins = ((meets.tick s k report).done u).ticks.queues home on

        go : Dec (In (request r) (queue_on s home)) → In (request r) (queue_on (g.next s (tick report)) home)
        go (yes i) =
            rw joins.then
            (In-left (request r) (queue_on s home ++ map frame joins.frames) _ (In-left (request r) (queue_on s home) (map frame joins.frames) i))
        go (no n) =
            rw joins.then
            (In-right (request r) (queue_on s home ++ map frame joins.frames) _
            (map_in request r joins.requests
            ((joins.asked.exactly r).1 (record { lin = c; expires = record { frame = l; handled = e; last = one }; node = refl; new = n }))))

pub ask_expiry : AskExpiry
ask_expiry p g meets s k r l c on cs m =
    let left = rx_left p g meets r l s k cs (leaves_throughout p g meets r l c s k cs) m in
    record {
      left = left;
      unasked = unasked_throughout p g meets r l c on s k cs m;
      expires = λ one. asks p g meets r l c on (state_left g s cs) (left_shape p g meets s k cs) (omega arith);
    }

pub ask_silence : AskSilence
ask_silence p g meets s k r l c cs = silent_throughout p g meets r l c s k cs
