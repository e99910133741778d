-- The model meets the rules of a reception.
use mathlib.Core.Path.{refl}
use mathlib.Core.List.{List}
use Prim.Native.Nat.{ℕ, ◌<◌}
use native.Mathlib.Omega.{arith}
use lib.ListN.{length, set, length-set}
use lib.Seq.{get_or-set_same, get_or-set_other}
use borrow.Author.Tests.{lt-ltb, le-ltb, le-leb, lt-leb}
use Rattle.base.specs.Pick.{pick}
use Rattle.records.specs.declared.record.Id.{Id}
use Rattle.model.specs.Plan.{Plan, row_in}
use Rattle.model.specs.State.{State, with_long}
use Rattle.model.specs.Reception.{restarted, accepted, found_answer, found_state, received_answer, received}
use Rattle.model.specs.Calls.{running, answer_of, next_of}
use Rattle.model.specs.Words.{Shape}
use Rattle.model.specs.ReceptionRules.{Becomes, Recounts, Restarts, ReceptionRules}
use Rattle.model.proofs.Lawful.{Lawful}
use Rattle.model.proofs.Nodes.{lin_on, lin_off}
use Rattle.model.proofs.AgreeReceptions.{restart_shape}
use Rattle.model.proofs.Lookup.{found, missed}
use Rattle.model.proofs.Smaller.{many, Those-smaller}
use Rattle.model.proofs.MeetsPuts.{in_order}

module _ (p : Plan) where
  -- the row starts again
  becomes : (r v : ℕ) (xs : List ℕ) → r < length xs → Becomes r v xs (set xs r v)
  becomes r v xs l = record { this = get_or-set_same xs r v 0 l; others = λ q d. get_or-set_other xs r q v 0 d; size = length-set xs r v }

  pub recount : (r : ℕ) (s : State) → Shape p s → r < length p.rows → Recounts p r s (with_long s r (row_in p r).frame.long)
  recount r s shape l =
      record { longs = becomes r _ s.longs (omega (arith, shape.longs)); number = refl; kept = refl; tx_timers = refl; queues = refl }

  restart : (r : ℕ) (s : State) → Shape p s → r < length p.rows → Restarts p r s (restarted p s r)
  unfolding restarted
  restart r s shape l =
      let again = recount r s shape l in
      record {
        rx_timers = becomes r _ s.rx_timers (omega (arith, shape.rx_timers));
        recounts =
            record { longs = again.longs; number = again.number; kept = again.kept; tx_timers = again.tx_timers; queues = again.queues };
      }

  pub meets_reception : (lawful : Lawful p) → (s : State) → Shape p s → (n : ℕ) (i : Id) (payload : List ℕ) → ReceptionRules p (running p) s n i payload
  unfolding running answer_of next_of received_answer received found_answer found_state accepted pick
  meets_reception lawful s shape n i payload =
      record {
        refused = λ l. let e = le-ltb n p.nodes l in record { answer = rw e; stays = rw e };
        on_lin = λ l c. let e = lt-ltb n p.nodes l in let j = lin_on p n c in record { answer = rw (e, j); stays = rw (e, j) };
        long =
            λ l c m.
            let e = lt-ltb n p.nodes l in
            let j = lin_off p n c in
            let f = lt-leb (length payload) 8 m in
            record { answer = rw (e, j, f); stays = rw (e, j, f) };
        no_row =
            λ l c m k.
            let e = lt-ltb n p.nodes l in
            let j = lin_off p n c in
            let f = le-leb (length payload) 8 m in
            let g = missed p lawful n i k in
            record {
              rows = _;
              those = Those-smaller p n i;
              answers = record { answer = rw (e, j, f, g, many n i 0 p.rows); stays = rw (e, j, f, g) };
            };
        short =
            λ l c m r x k.
            let e = lt-ltb n p.nodes l in
            let j = lin_off p n c in
            let f = le-leb (length payload) 8 m in
            let g = found p lawful n i r x in
            let h = lt-ltb (length payload) (row_in p r).frame.size k in
            record { answer = rw (e, j, f, g, h); stays = rw (e, j, f, g, h) };
        accepted =
            λ l c m r x k.
            let e = lt-ltb n p.nodes l in
            let j = lin_off p n c in
            let f = le-leb (length payload) 8 m in
            let g = found p lawful n i r x in
            let h = le-ltb (length payload) (row_in p r).frame.size k in
            let again = restart r s shape x.exists in
            record {
              answer = rw (e, j, f, g, h);
              again = restarted p s r;
              restarts = again;
              puts =
                  rw (e, j, f, g, h)
                  (in_order p lawful payload (row_in p r).claims _ (restart_shape p r s _ shape again) (lawful.frame r x.exists)
                  (lawful.bits r x.exists));
            };
      }
