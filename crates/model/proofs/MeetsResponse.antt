-- The model meets the rules of a response on LIN and of "no response".
use mathlib.Core.Path.{◌≡◌, refl, ap, ◌∙◌}
use mathlib.Core.Logic.{◌≢◌, ⊎_elim}
use mathlib.Core.List.{List}
use Prim.Native.Nat.{ℕ, ◌<◌}
use native.Mathlib.Omega.{arith}
use lib.ListN.{length, get_or, set, length-set}
use lib.Seq.{get_or-set_same, get_or-set_other}
use borrow.Author.Tests.{eq-eqb, ne_eqb, lt-ltb, le-ltb, le-leb, lt-leb}
use Rattle.base.specs.Pick.{pick}
use Rattle.base.proofs.Picks.{picks, passes}
use Rattle.clock.specs.Timer.{lowered}
use Rattle.records.specs.declared.record.Id.TheVariants.{Standard}
use Rattle.model.specs.Plan.{Plan, row_in}
use Rattle.model.specs.State.{State, with_long}
use Rattle.model.specs.Reception.{at, nothing}
use Rattle.model.specs.Tick.{failed, expired}
use Rattle.model.specs.Response.{polled, is_sum, accepted, row_answer, row_state, polled_answer, polled_state, responded_answer, responded}
use Rattle.model.specs.Response.{silence_of, silenced_by, silent_answer, silent}
use Rattle.model.specs.Calls.{running, answer_of, next_of}
use Rattle.model.specs.Words.{Polls, NothingPolled, Shape}
use Rattle.model.specs.ResponseRules.{ResponseRules}
use Rattle.model.specs.SilenceRules.{Silences, SilenceRules}
use Rattle.model.proofs.Lawful.{Lawful}
use Rattle.model.proofs.Nodes.{lin_on, lin_off, by_lin}
use Rattle.model.proofs.AgreeReceptions.{recount_shape}
use Rattle.model.proofs.Lookup.{found, missed}
use Rattle.model.proofs.Failures.{Sets-indicated}
use Rattle.model.proofs.MeetsPuts.{in_order}
use Rattle.model.proofs.MeetsTick.{falls}
use Rattle.model.proofs.MeetsReception.{recount}

module _ (p : Plan) (lawful : Lawful p) where
  -- ---- which Rx frame is asked for

  polled-at : (n i r : ℕ) → Polls p n i r → polled p n i ≡ at r
  unfolding polled
  polled-at n i r x = picks _ _ _ (lin_on p n x.lin) ∙ found p lawful n (Standard i) r x.names

  polled-nothing : (n i : ℕ) → NothingPolled p n i → polled p n i ≡ nothing
  unfolding polled
  polled-nothing n i w =
      ⊎_elim (λ c. passes _ _ _ (lin_off p n c)) (λ f. by_lin p n (λ z. z ≡ nothing) _ _ (λ c. missed p lawful n (Standard i) f) (λ c. refl)) w

  -- ---- a response

  pub meets_response : (s : State) → Shape p s → (n i : ℕ) (payload : List ℕ) (sum : ℕ) → ResponseRules p (running p) s n i payload sum
  unfolding running answer_of next_of responded_answer responded polled_answer polled_state row_answer row_state is_sum accepted pick
  meets_response s shape n i payload sum =
      record {
        refused = λ l. let e = le-ltb n p.nodes l in record { answer = rw e; stays = rw e };
        wrong_call = λ l w. let e = lt-ltb n p.nodes l in let f = polled-nothing n i w in record { answer = rw (e, f); stays = rw (e, f) };
        long =
            λ r x m.
            let e = lt-ltb n p.nodes x.there in
            let f = polled-at n i r x in
            let g = lt-leb (length payload) 8 m in
            record { answer = rw (e, f, g); stays = rw (e, f, g) };
        short =
            λ r x m k.
            let e = lt-ltb n p.nodes x.there in
            let f = polled-at n i r x in
            let g = le-leb (length payload) 8 m in
            let h = lt-ltb (length payload) (row_in p r).frame.size k in
            record { answer = rw (e, f, g, h); stays = rw (e, f, g, h) };
        wrong_sum =
            λ r x m k d.
            let e = lt-ltb n p.nodes x.there in
            let f = polled-at n i r x in
            let g = le-leb (length payload) 8 m in
            let h = le-ltb (length payload) (row_in p r).frame.size k in
            let j = ne_eqb sum _ d in
            record { answer = rw (e, f, g, h, j); stays = rw (e, f, g, h, j) };
        accepted =
            λ r x m k d.
            let e = lt-ltb n p.nodes x.there in
            let f = polled-at n i r x in
            let g = le-leb (length payload) 8 m in
            let h = le-ltb (length payload) (row_in p r).frame.size k in
            let j = eq-eqb sum _ d in
            let exists = x.names.exists in
            let again = recount p r s shape exists in
            record {
              answer = rw (e, f, g, h, j);
              again = with_long s r (row_in p r).frame.long;
              recounts = again;
              rx_timers = refl;
              puts =
                  rw (e, f, g, h, j)
                  (in_order p lawful payload (row_in p r).claims _ (recount_shape p r s _ shape again refl) (lawful.frame r exists) (lawful.bits r exists));
            };
      }

  -- ---- no response

  silences : (r : ℕ) → r < length p.rows → (s : State) → Shape p s → Silences p r s (expired p s r)
  unfolding expired
  silences r l s shape =
      let a = Sets-indicated p lawful r l s (record { kept = shape.kept; payload = shape.payload }) in
      record {
        shape =
            record {
              kept = a.shape.kept;
              payload = a.shape.payload;
              tx_timers = ap length a.tx_timers ∙ shape.tx_timers;
              rx_timers = ap length a.rx_timers ∙ shape.rx_timers;
              longs = length-set (failed p s (row_in p r).claims).longs r _ ∙ ap length a.longs ∙ shape.longs;
              queues = ap length a.queues ∙ shape.queues;
            };
        longs = λ q m. falls _ _ _ (λ d. other a.longs q d) (λ e. this a.longs q e);
        kept = a.bits;
        number = a.number;
        tx_timers = a.tx_timers;
        rx_timers = a.rx_timers;
        queues = a.queues;
      }
    where
      new : ℕ
      new = lowered (row_in p r).frame.long (get_or s.longs r 0)

      other : {xs : List ℕ} → xs ≡ s.longs → (q : ℕ) → q ≢ r → get_or (set xs r new) q 0 ≡ get_or s.longs q 0
      other {xs} e q d = get_or-set_other xs r q new 0 d ∙ ap (λ z. get_or z q 0) e

      this : {xs : List ℕ} → xs ≡ s.longs → (q : ℕ) → q ≡ r → get_or (set xs r new) q 0 ≡ lowered (row_in p q).frame.long (get_or s.longs q 0)
      this {xs} e q d = rw d (get_or-set_same xs r new 0 (omega (arith, ap length e, shape.longs)))

  pub meets_silence : (s : State) → Shape p s → (n i : ℕ) → SilenceRules p (running p) s n i
  unfolding running answer_of next_of silent_answer silent silence_of silenced_by pick
  meets_silence s shape n i =
      record {
        refused = λ l. let e = le-ltb n p.nodes l in record { answer = rw e; stays = rw e };
        wrong_call = λ l w. let e = lt-ltb n p.nodes l in let f = polled-nothing n i w in record { answer = rw (e, f); stays = rw (e, f) };
        short = λ r x d. rw (lt-ltb n p.nodes x.there, polled-at n i r x, ne_eqb (get_or s.longs r 0) 1 d);
        long = λ r x d. rw (lt-ltb n p.nodes x.there, polled-at n i r x, eq-eqb (get_or s.longs r 0) 1 d);
        then = λ r x. rw (lt-ltb n p.nodes x.there, polled-at n i r x) (silences r x.names.exists s shape);
      }
