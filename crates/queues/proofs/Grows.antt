-- Every call but a take on node n leaves that node's queue or adds to it at its end: this follows from the rules, for any gateway that meets them.
use mathlib.Core.Path.{◌≡◌, refl, sym, ap, ◌∙◌}
use mathlib.Core.Logic.{◌≢◌, ⊎_elim}
use mathlib.Core.List.{List, [], ◌∷◌, ◌++◌, map, append_assoc}
use Prim.Native.Nat.{ℕ, ◌<◌}
use native.Mathlib.Decide.{ℕ_discrete}
use lib.ListN.{get_or}
use Rattle.records.specs.declared.record.Entry.{Entry}
use Rattle.records.specs.Nodes.{frame, request}
use Rattle.plan.specs.Rows.{Source, copy, failure, Claim}
use Rattle.sending.proofs.Longer.{Longer, Longer-same, Longer-then}
use Rattle.model.specs.Plan.{Plan, tx_in, row_in}
use Rattle.model.specs.State.{State, queue_on}
use Rattle.model.specs.Calls.{Call, reception, response, no_response, tick, take, fullness, Running}
use Rattle.model.specs.Words.{In, Shape}
use Rattle.model.specs.ReceptionRules.{Schedules, Puts, InOrder}
use Rattle.model.specs.Rules.{Runs}
use Rattle.model.proofs.Entries.{dec_in}
use Rattle.model.proofs.AgreeReceptions.{dec_wanted}
use Rattle.model.proofs.Outcomes.{reception_outcome, response_outcome, silence_outcome, tick_outcome, take_outcome, fullness_outcome}

-- where all queues stay, that of node n does
same : (n : ℕ) {old now : List (List Entry)} → now ≡ old → Longer (get_or old n []) (get_or now n [])
same n e = Longer-same (ap (λ q. get_or q n []) e)

module _ (p : Plan) (n : ℕ) where
  abbrev Adds : State → State → Type 0
  Adds s x = Longer (queue_on s n) (queue_on x n)

  -- ---- the destinations of an acceptance

  scheduled : (W : Type 0) → Dec W → (t : ℕ) (s x : State) → Schedules p W t s x → Adds s x
  scheduled W d t s x u = go d (dec_in (frame t) (queue_on s (tx_in p t).node)) (ℕ_discrete n (tx_in p t).node)
    where
      go : Dec W → Dec (In (frame t) (queue_on s (tx_in p t).node)) → Dec (n ≡ (tx_in p t).node) → Adds s x
      go (no f) i e = same n (u.unwanted f).0
      go (yes w) (yes i) e = same n (u.waiting i).0
      go (yes w) (no i) (yes e) = rw e (record { new = frame t ∷ []; then = u.joins w i })
      go (yes w) (no i) (no d) = Longer-same (u.others n d)

  put : (payload : List ℕ) (c : Claim) (s x : State) → Puts p payload c s x → Adds s x
  put payload c s x a = go c.from refl
    where
      go : (z : Source) → c.from ≡ z → Adds s x
      go (copy from size) e = scheduled _ (dec_wanted p payload c from size s) c.tx s x (a.sends from size e)
      go failure e = same n (a.quiet e).0

  in_order : (payload : List ℕ) (cs : List Claim) (s x : State) → InOrder p payload cs s x → Adds s x
  unfolding InOrder
  in_order payload [] s x e = same n (ap (λ y. y.queues) e)
  in_order payload (c ∷ cs) s x (m, a, b) = Longer-then (put payload c s m a) (in_order payload cs m x b)

-- ---- the calls

module _ (p : Plan) (g : Running) (meets : Runs p g) (s : State) (k : Shape p s) (n : ℕ) (l : n < p.nodes) where
  -- a call that leaves the state
  left : (x : State) → x ≡ s → Adds p n s x
  left x e = same n (ap (λ y. y.queues) e)

  pub grows : (c : Call) → c ≢ take n → Longer (queue_on s n) (queue_on (g.next s c) n)
  grows (reception m i payload) d =
      ⊎_elim (λ (x, f, w). left _ w.stays)
      (λ (r, x, f, w).
      Longer-then (same n w.restarts.recounts.queues) (in_order p n payload (row_in p r).claims w.again _ w.puts))
      (reception_outcome p g meets s k m i payload)
  grows (response m i payload sum) d =
      ⊎_elim (λ (x, f, w). left _ w.stays)
      (λ (r, x, w). Longer-then (same n w.recounts.queues) (in_order p n payload (row_in p r).claims w.again _ w.puts))
      (response_outcome p g meets s k m i payload sum)
  grows (no_response m i) d = ⊎_elim (λ (why, w). left _ w.stays) (λ (r, x, w). same n w.queues) (silence_outcome p g meets s k m i)
  grows (tick report) d =
      ⊎_elim (λ w. left _ w.0)
      (λ w.
      let j = w.1.ticks.queues n l in
      record { new = map frame j.frames ++ map request j.requests; then = j.then ∙ append_assoc (queue_on s n) _ _ })
      (tick_outcome p g meets s k report)
  grows (take m) d =
      ⊎_elim (λ e. left _ e) (λ (e, rest, q, answer, payload, x). Longer-same (x.others n (λ f. d (ap take (sym f))))) (take_outcome p g meets s k m)
  grows (fullness t) d = left _ (fullness_outcome p g meets s k t)
