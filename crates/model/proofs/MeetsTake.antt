-- The model meets the rules of take and fullness.
use mathlib.Core.Path.{◌≡◌, refl}
use mathlib.Core.Logic.{inl, inr, ⊎_elim}
use mathlib.Core.Bool.{Bool, true, false, false≢true}
use mathlib.Core.List.{List, [], ◌∷◌}
use Prim.Native.Nat.{ℕ, zero, suc, ◌+◌, ◌<◌}
use native.Mathlib.Omega.{arith}
use lib.Dec.{eqb, leb, ltb}
use lib.ListN.{length, length-append, length-set}
use lib.Seq.{get_or-set_same, get_or-set_other}
use borrow.Author.Tests.{lt-ltb, le-ltb, le-leb, eq-eqb, eqb-true, leb-true, ltb-true}
use Rattle.std.specs.Prelude.{Some, Ok}
use Rattle.base.specs.Pick.{pick}
use Rattle.base.proofs.Picks.{cases, into, picks, passes}
use Rattle.records.specs.declared.record.Entry.{Entry}
use Rattle.records.specs.Nodes.{frame, request}
use Rattle.bits.proofs.CopyLaws.{either, or_right}
use Rattle.plan.specs.Rows.{width_of, Claim, all_claims}
use Rattle.facts.specs.Good.{Holds}
use Rattle.model.specs.Plan.{Plan, tx_in}
use Rattle.model.specs.State.{State, queue_on}
use Rattle.model.specs.Take.{handed, framing_of, entry_answer, taken_answer, taken_payload, taken, oldest_answer, oldest_payload, without_oldest}
use Rattle.model.specs.Fullness.{is_held, owned_below, fullness_of}
use Rattle.model.specs.Calls.{running, answer_of, next_of}
use Rattle.model.specs.Words.{In, Shape}
use Rattle.model.specs.TakeRules.{Takes, TakeRules}
use Rattle.model.specs.FullnessRules.{FullnessRules}
use Rattle.model.proofs.Nodes.{lin_on, lin_off}
use Rattle.model.proofs.Upto.{upto, Those-upto}

module _ (p : Plan) (s : State) (shape : Shape p s) where
  takes : (n : ℕ) → n < p.nodes → (x : Entry) (rest : List Entry) → queue_on s n ≡ x ∷ rest
      → Takes (running p) s n rest (Ok (Some (entry_answer p s n x (length rest)))) (handed p s x)
  unfolding running answer_of next_of taken_answer taken_payload taken pick oldest_answer oldest_payload without_oldest
  takes n l x rest q =
      let e = lt-ltb n p.nodes l in
      record {
        answer = rw (e, q);
        leaves = rw (e, q) (get_or-set_same s.queues n rest [] (omega (arith, shape.queues)));
        others = λ m d. rw (e, q) (get_or-set_other s.queues n m rest [] d);
        queues = rw (e, q) (length-set s.queues n rest);
        number = rw (e, q);
        kept = rw (e, q);
        tx_timers = rw (e, q);
        rx_timers = rw (e, q);
        longs = rw (e, q);
      }

  pub meets_take : (n : ℕ) → TakeRules p (running p) s n
  unfolding running answer_of next_of taken_answer taken_payload taken pick oldest_answer oldest_payload without_oldest entry_answer framing_of handed
  meets_take n =
      record {
        refused = λ l. let e = le-ltb n p.nodes l in record { answer = rw e; stays = rw e };
        none = λ l q. let e = lt-ltb n p.nodes l in record { answer = rw (e, q); stays = rw (e, q) };
        oldest_frame =
            λ l t rest q.
            record {
              payload = handed p s (frame t);
              whole = refl;
              framing = framing_of p n (tx_in p t).id (handed p s (frame t));
              takes = takes n l (frame t) rest q;
              can = λ c. passes _ _ _ (lin_off p n c);
              lin = λ c. picks _ _ _ (lin_on p n c);
            };
        oldest_request = λ l r rest q. takes n l (request r) rest q;
      }

-- ---- fullness

abbrev holds_test : Claim → ℕ → ℕ → Bool
holds_test c t b = pick (eqb c.tx t) (pick (leb c.at b) (ltb b (c.at + width_of c.from)) false) false

test_holds : (c : Claim) (t b : ℕ) → holds_test c t b ≡ true → Holds c t b
test_holds c t b =
    cases (λ x. x ≡ true → Holds c t b) (eqb c.tx t) _ _
    (λ e.
    cases (λ x. x ≡ true → Holds c t b) (leb c.at b) _ _
    (λ f g. record { frame = eqb-true _ _ e; low = leb-true _ _ f; high = ltb-true _ _ g })
    (λ f g. absurd (false≢true g)))
    (λ e g. absurd (false≢true g))

holds_test_true : (c : Claim) (t b : ℕ) → Holds c t b → holds_test c t b ≡ true
unfolding pick
holds_test_true c t b h = rw (eq-eqb _ _ h.frame, le-leb _ _ h.low, lt-ltb _ _ h.high)

held_in : (cs : List Claim) (t b : ℕ) → is_held cs t b ≡ true → (c : Claim) × In c cs × Holds c t b
unfolding is_held In
held_in [] t b e = absurd (false≢true e)
held_in (c ∷ cs) t b e =
    ⊎_elim (λ f. (c, inl refl, test_holds c t b f)) (λ f. let w = held_in cs t b f in (w.0, inr w.1, w.2))
    (either (holds_test c t b) (is_held cs t b) e)

in_held : (cs : List Claim) (t b : ℕ) (c : Claim) → In c cs → Holds c t b → is_held cs t b ≡ true
unfolding is_held In
in_held [] t b c i h = absurd i
in_held (d ∷ cs) t b c (inl e) h = rw (← e, holds_test_true c t b h)
in_held (d ∷ cs) t b c (inr i) h = or_right (holds_test d t b) (is_held cs t b) (in_held cs t b c i h)

count : (cs : List Claim) (t n : ℕ) → owned_below cs t n ≡ length (upto (is_held cs t) n)
unfolding owned_below upto
count cs t zero = refl
count cs t (suc n) = rw (length-append, into length (is_held cs t n) (n ∷ []) [], count cs t n)

module _ (p : Plan) (s : State) where
  pub meets_fullness : (t : ℕ) → FullnessRules p (running p) s t
  unfolding running answer_of next_of fullness_of pick
  meets_fullness t =
      record {
        refused = λ l. record { answer = rw (le-ltb t (length p.tx) l); stays = refl };
        counts =
            λ l.
            record {
              bits = upto (is_held (all_claims p.rows) t) 64;
              those =
                  Those-upto (is_held (all_claims p.rows) t) 64
                  (λ b k e. let w = held_in (all_claims p.rows) t b e in record { below = k; claim = w.0; there = w.1; holds = w.2 })
                  (λ b o. o.below) (λ b o. in_held (all_claims p.rows) t b o.claim o.there o.holds);
              answers = record { answer = rw (lt-ltb t (length p.tx) l, count (all_claims p.rows) t 64); stays = refl };
            };
      }
