-- A reception that answers 1 says how many Rx frames of its node have a smaller ID, and a row of that node and ID belongs behind them.
use mathlib.Core.Path.{◌≡◌}
use mathlib.Core.Logic.{◌⊎◌, inl, inr, ⊎_elim, ◌↔◌}
use mathlib.Core.List.{List}
use Prim.Native.Nat.{ℕ, ◌+◌, ◌≤◌, ◌<◌}
use native.Mathlib.Omega.{arith}
use native.Mathlib.Decide.{ℕ_discrete, dec_lt}
use lib.ListN.{length}
use Rattle.std.specs.Prelude.{Ok}
use Rattle.base.proofs.Apart.{differ}
use Rattle.base.specs.Numbers.{byte_at}
use Rattle.base.proofs.Ranges.{at_most-le}
use Rattle.records.specs.declared.record.Id.{Id}
use Rattle.records.specs.Ids.{Before}
use Rattle.plan.specs.Rows.{rows_of}
use Rattle.facts.specs.Good.{GoodPlan}
use Rattle.facts.proofs.FactsGood.{facts_good}
use Rattle.area.specs.Layout.{node_count_byte}
use Rattle.answers.specs.declared.Received.TheVariants.{NoRow}
use Rattle.reception.specs.Reception.{received_answer}
use Rattle.reception.proofs.ReceptionLaws.{missed}
use Rattle.tables.specs.Reads.{row_at}
use Rattle.tables.specs.Statements.{Places}
use Rattle.tables.proofs.Lookup.{lookup_finds}
use Rattle.tables.proofs.RowFacts.{nodes_rise, ids_rise}
use Rattle.model.specs.Plan.{said}
use Rattle.model.specs.Words.{Names, Smaller}
use Rattle.model.proofs.Ids.{dec_before, Before-then}
use Rattle.model.proofs.Words.{dec_either, dec_both}
use Rattle.model.proofs.Smaller.{run, run_many, those_run}
use Rattle.history.specs.Calls.{answer_in, after_in}
use Rattle.history.specs.Strangers.{Rise, Belongs, StrangersBelong}
use Rattle.history.proofs.Always.{always}
use Rattle.history.proofs.Inserted.{cut, Below, rises_there}

-- the rows of a node with a smaller ID stand one after the other, as many as the place says
pub Smaller-run :
    (plan : List ℕ) (n : ℕ) (i : Id) (place : ℕ) (x : Places plan n i place) (r : ℕ) → Smaller (said plan) n i r ↔ ((x.first ≤ r) × (r < x.first + place))
Smaller-run plan n i place x r = (
  (λ y. (x.exactly r).0 (record { exists = y.exists; node = y.node; id = y.id })),
  (λ b. let y = (x.exactly r).1 b in record { exists = y.exists; node = y.node; id = y.id }),
)

module _ (plan : List ℕ) (good : GoodPlan plan) where
  -- the rows of a good plan rise
  rise : Rise (rows_of plan)
  rise q r l h = go (ℕ_discrete (row_at plan q).frame.node (row_at plan r).frame.node)
    where
      go : Dec ((row_at plan q).frame.node ≡ (row_at plan r).frame.node)
          → ((row_at plan q).frame.node < (row_at plan r).frame.node)
          ⊎ (((row_at plan q).frame.node ≡ (row_at plan r).frame.node) × Before (row_at plan q).frame.id (row_at plan r).frame.id)
      go (yes e) = inr (e, ids_rise plan good q r l h e)
      go (no d) = inl (omega (arith, nodes_rise plan good q r l h))

  module _ (n : ℕ) (i : Id) where
    dec_below : (r : ℕ) → Dec (Below (row_at plan r) n i)
    dec_below r = dec_either (dec_lt _ n) (dec_both (ℕ_discrete _ n) (dec_before _ i))

    down : (q r : ℕ) → q < r → r < length (rows_of plan) → Below (row_at plan r) n i → Below (row_at plan q) n i
    down q r l h b =
        ⊎_elim
        (λ u. ⊎_elim (λ v. inl (omega arith)) (λ v. inl (omega arith)) b)
        (λ u. ⊎_elim (λ v. inl (omega arith)) (λ v. inr (omega arith, Before-then _ _ i u.1 v.1)) b)
        (rise q r l h)

    belongs : (place : ℕ) → ((r : ℕ) → Names (said plan) n i r → ⊥) → Places plan n i place → Belongs plan n i place
    belongs place unlisted x =
        let (end, most, f) = cut (λ r. Below (row_at plan r) n i) dec_below (length (rows_of plan)) down in
        record {
          unlisted = unlisted;
          rows = run x.first place;
          those = those_run x.first place (Smaller-run plan n i place x);
          many = run_many x.first place;
          behind = end;
          within = most;
          exactly = λ r h. (
            (λ l. ⊎_elim inl (λ (e, m). inr (record { exists = h; node = e; id = m })) ((f r h).0 l)),
            (λ b. (f r h).1 (⊎_elim inl (λ y. inr (y.node, y.id)) b)),
          );
          rises = λ y node id.
              rises_there n i (rows_of plan) rise end most f (λ r h a b. unlisted r (record { exists = h; node = a; id = b })) y node id;
        }

pub strangers_belong : StrangersBelong
unfolding answer_in
strangers_belong a calls plan is n id place payload answered =
    let h = always (λ plan log a. Unit {0}) (λ plan a good reads begun. tt) (λ plan good log c later a reads q. tt) a calls plan is in
    let now = after_in a calls in
    let w : received_answer now n id payload ≡ Ok (NoRow place) = cc in
    let (known, lost) = missed now n id payload place w in
    let finds = lookup_finds plan now _ _ _ (facts_good plan h.good) h.reads n id (omega (arith, known, at_most-le 16 (byte_at now node_count_byte))) in
    belongs plan h.good n id place
    (λ r x.
    let f = finds.finds r (record { exists = x.exists; node = x.node; id = x.id }) in
    absurd (differ cc))
    (finds.places place lost)
