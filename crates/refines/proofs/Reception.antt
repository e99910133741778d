-- A reception on an area is the model's reception: its answer and the state that it leaves.
use mathlib.Core.Path.{◌≡◌, refl, sym, ap, ◌∙◌}
use mathlib.Core.List.{List}
use Prim.Native.Nat.{ℕ, ◌<◌}
use native.Mathlib.Omega.{arith}
use lib.Dec.{leb, ltb}
use lib.ListN.{length}
use borrow.Author.Tests.{ltb-true}
use Rattle.std.specs.Prelude.{Ok}
use Rattle.base.proofs.Apart.{differ}
use Rattle.base.proofs.Picks.{picks}
use Rattle.records.specs.declared.record.Id.{Id}
use Rattle.records.specs.declared.record.RxFrame.{RxFrame}
use Rattle.records.specs.Records.{records}
use Rattle.plan.specs.Rows.{rows_of, nodes_in}
use Rattle.facts.proofs.FactsGood.{facts_good}
use Rattle.area.specs.Layout.{node_count, rx_frame}
use Rattle.answers.specs.declared.Received.TheVariants.{NoRow}
use Rattle.reception.specs.declared.lookup.Found.{Found}
use Rattle.reception.specs.declared.lookup.Found.TheVariants.{At, Nothing}
use Rattle.reception.specs.Lookup.{looked_up}
use Rattle.reception.specs.Reception.{found_answer, found_area, received_answer, received_area}
use Rattle.tables.specs.Reads.{row_at}
use Rattle.tables.specs.Statements.{Finds}
use Rattle.tables.proofs.Lookup.{lookup_finds}
use Rattle.model.specs.Plan.{said}
use Rattle.model.specs.State.{State}
use Rattle.model.specs.Reception.{find, smaller}
use Rattle.model.specs.Reception as model
use Rattle.model.specs.Calls as calls
use Rattle.model.specs.Words.{Names}
use Rattle.model.proofs.Lawful.{Lawful}
use Rattle.model.proofs.Lookup.{found, missed}
use Rattle.model.proofs.Smaller.{counts}
use Rattle.history.specs.Calls.{answer_in, area_after}
use Rattle.history.proofs.Strangers.{Smaller-run}
use Rattle.refines.proofs.Held.{Held}
use Rattle.refines.proofs.Lin.{lin_is}
use Rattle.refines.proofs.Follows.{Follows, chosen}
use Rattle.refines.proofs.Puts.{Held-accepted}

module _ {plan a : List ℕ} {s : State} (lawful : Lawful (said plan)) (h : Held plan a s) where
  -- ---- the lookup in the area finds what the model finds in the plan

  module _ (n : ℕ) (id : Id) (known : n < nodes_in (records plan)) where
    looks : Finds plan a n id
    looks = lookup_finds plan a _ _ _ (facts_good plan h.good) h.reads n id (omega (arith, h.good.counts.nodes))

    -- the place in the area is the model's count
    place_is : (place : ℕ) → looked_up a n id ≡ Nothing place → place ≡ smaller n id (rows_of plan)
    place_is place e =
        let x = looks.places place e in
        sym (counts (said plan) n id x.first place (Smaller-run plan n id place x))

    pub by_lookup : (P : Found → model.Found → Type 0) → ((place : ℕ) → place ≡ smaller n id (rows_of plan) → P (Nothing place) model.nothing)
        → ((r : ℕ) → r < length (rows_of plan) → P (At (record { 0 = r })) (model.at r)) → P (looked_up a n id) (find n id 0 (rows_of plan))
    by_lookup P none some = go (looked_up a n id) refl
      where
        go : (f : Found) → looked_up a n id ≡ f → P (looked_up a n id) (find n id 0 (rows_of plan))
        go (Nothing place) e = rw (e, missed (said plan) lawful n id (λ r x. cannot r x e)) (none place (place_is place e))
          where
            cannot : (r : ℕ) → Names (said plan) n id r → looked_up a n id ≡ Nothing place → ⊥
            cannot r x e =
                let f = looks.finds r (record { exists = x.exists; node = x.node; id = x.id }) in
                differ cc
        go (At x) e =
            let w = looks.found x e in
            rw (e, found (said plan) lawful n id x.0 (record { exists = w.exists; node = w.node; id = w.id })) (some x.0 w.exists)

  -- ---- the answer and what it leaves

  pub size_is : (r : ℕ) → r < length (rows_of plan) → (payload : List ℕ)
      → ltb (length payload) (rx_frame a r).size ≡ ltb (length payload) (row_at plan r).frame.size
  size_is r l payload = ap (λ (x : RxFrame). ltb (length payload) x.size) (h.reads.rx r l).frame

  pub known_is : (n : ℕ) → ltb n (node_count a) ≡ ltb n (nodes_in (records plan))
  known_is n = ap (ltb n) h.reads.header.nodes

  answered : (n : ℕ) (id : Id) (payload : List ℕ) → received_answer a n id payload ≡ model.received_answer (said plan) s n id payload
  unfolding received_answer model.received_answer found_answer model.found_answer
  answered n id payload =
      picks _ _ _ h.reads.header.mark
      ∙ chosen (λ x y. x ≡ y) _ _ (known_is n)
      (λ k. chosen (λ x y. x ≡ y) _ _ (lin_is h n (ltb-true n _ k)) (λ c. refl)
      (λ c. chosen (λ x y. x ≡ y) (leb (length payload) 8) _ refl
      (λ m. by_lookup n id (ltb-true n _ k) (λ f g. found_answer a f payload ≡ model.found_answer (said plan) n id g payload)
      (λ place e. ap (λ n. Ok (NoRow n)) e)
      (λ r l. chosen (λ x y. x ≡ y) _ _ (size_is r l payload) (λ e. refl) (λ e. refl)))
      (λ m. refl)))
      (λ k. refl)

  Held-received : (n : ℕ) (id : Id) (payload : List ℕ) → Held plan (received_area a n id payload) (model.received (said plan) s n id payload)
  unfolding received_area model.received found_area model.found_state
  Held-received n id payload =
      rw (picks _ _ _ h.reads.header.mark)
      (chosen (Held plan) _ _ (known_is n)
      (λ k. chosen (Held plan) _ _ (lin_is h n (ltb-true n _ k)) (λ c. h)
      (λ c. chosen (Held plan) (leb (length payload) 8) _ refl
      (λ m. by_lookup n id (ltb-true n _ k) (λ f g. Held plan (found_area a f payload) (model.found_state (said plan) s g payload)) (λ place e. h)
      (λ r l. chosen (Held plan) _ _ (size_is r l payload) (λ e. h) (λ e. Held-accepted lawful h r l payload)))
      (λ m. h)))
      (λ k. h))

  pub reception_follows : (n : ℕ) (id : Id) (payload : List ℕ) → Follows plan a s (calls.reception n id payload)
  unfolding answer_in area_after calls.answer_of calls.next_of
  reception_follows n id payload = record { answer = ap calls.received (answered n id payload); held = Held-received n id payload }
