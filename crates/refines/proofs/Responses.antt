-- A response on an area, and "no response", are the model's: their answers and the states that they leave.
use mathlib.Core.Path.{◌≡◌, refl, ap, ◌∙◌}
use mathlib.Core.List.{List}
use Prim.Native.Nat.{ℕ, ◌%◌, ◌<◌}
use native.Mathlib.Omega.{arith}
use lib.Dec.{leb, eqb}
use lib.ListN.{length}
use borrow.Author.Tests.{ltb-true}
use Rattle.base.proofs.Picks.{picks}
use Rattle.records.specs.declared.record.Id.TheVariants.{Standard}
use Rattle.records.specs.Records.{records}
use Rattle.plan.specs.Rows.{rows_of, nodes_in}
use Rattle.reception.specs.declared.lookup.Found.{Found}
use Rattle.reception.specs.declared.lookup.Found.TheVariants.{At, Nothing}
use Rattle.polling.specs.Polling.{polled, is_sum, row_answer, row_area, polled_answer, polled_area, responded_answer, responded_area}
use Rattle.polling.specs.Polling.{silence_of, silenced_by, silent_answer, silent_area}
use Rattle.model.specs.Plan.{said}
use Rattle.model.specs.State.{State}
use Rattle.model.specs.Reception as reception
use Rattle.model.specs.Response as model
use Rattle.model.specs.Calls as calls
use Rattle.model.proofs.Lawful.{Lawful}
use Rattle.history.specs.Calls.{answer_in, area_after}
use Rattle.refines.proofs.Held.{Held}
use Rattle.refines.proofs.Lin.{lin_is}
use Rattle.refines.proofs.Follows.{Follows, chosen}
use Rattle.refines.proofs.Reception.{by_lookup, size_is, known_is}
use Rattle.refines.proofs.Puts.{Held-response}
use Rattle.refines.proofs.RxTurns.{Held-expired}

module _ {plan a : List ℕ} {s : State} (lawful : Lawful (said plan)) (h : Held plan a s) where
  -- ---- the row that is polled in the area is the one that the model finds

  by_polled : (n id : ℕ) → n < nodes_in (records plan) → (P : Found → reception.Found → Type 0) → ((place : ℕ) → P (Nothing place) reception.nothing)
      → ((r : ℕ) → r < length (rows_of plan) → P (At (record { 0 = r })) (reception.at r)) → P (polled a n id) (model.polled (said plan) n id)
  unfolding polled model.polled
  by_polled n id known P none some =
      chosen P _ _ (lin_is h n known) (λ on. by_lookup lawful h n (Standard id) known P (λ place e. none place) some) (λ off. none 0)

  small : (r : ℕ) → r < length (rows_of plan) → r % 256 ≡ r
  small r l = omega (arith, h.good.counts.rx)

  -- ---- a response

  module _ (id : ℕ) (payload : List ℕ) (sum : ℕ) where
    sum_is : is_sum id payload sum ≡ model.is_sum id payload sum
    unfolding is_sum model.is_sum
    sum_is = refl

    row_answered : (r : ℕ) → r < length (rows_of plan) → row_answer a (r % 256) id payload sum ≡ model.row_answer (said plan) r id payload sum
    unfolding row_answer model.row_answer
    row_answered r l =
        rw (small r l)
        (chosen (λ x y. x ≡ y) _ _ (size_is lawful h r l payload) (λ e. refl) (λ e. chosen (λ x y. x ≡ y) _ _ sum_is (λ f. refl) (λ f. refl)))

    row_held : (r : ℕ) → r < length (rows_of plan) → Held plan (row_area a (r % 256) id payload sum) (model.row_state (said plan) s r id payload sum)
    unfolding row_area model.row_state
    row_held r l =
        rw (small r l)
        (chosen (Held plan) _ _ (size_is lawful h r l payload) (λ e. h)
        (λ e. chosen (Held plan) _ _ sum_is (λ f. Held-response lawful h r l payload) (λ f. h)))

    module _ (n : ℕ) where
      answered : responded_answer a n id payload sum ≡ model.responded_answer (said plan) s n id payload sum
      unfolding responded_answer model.responded_answer polled_answer model.polled_answer
      answered =
          picks _ _ _ h.reads.header.mark
          ∙ chosen (λ x y. x ≡ y) _ _ (known_is lawful h n)
          (λ k. by_polled n id (ltb-true n _ k) (λ f g. polled_answer a f id payload sum ≡ model.polled_answer (said plan) g id payload sum)
          (λ place. refl)
          (λ r l. chosen (λ x y. x ≡ y) (leb (length payload) 8) _ refl (λ m. row_answered r l) (λ m. refl)))
          (λ k. refl)

      held_responded : Held plan (responded_area a n id payload sum) (model.responded (said plan) s n id payload sum)
      unfolding responded_area model.responded polled_area model.polled_state
      held_responded =
          rw (picks _ _ _ h.reads.header.mark)
          (chosen (Held plan) _ _ (known_is lawful h n)
          (λ k. by_polled n id (ltb-true n _ k) (λ f g. Held plan (polled_area a f id payload sum) (model.polled_state (said plan) s g id payload sum))
          (λ place. h)
          (λ r l. chosen (Held plan) (leb (length payload) 8) _ refl (λ m. row_held r l) (λ m. h)))
          (λ k. h))

  pub response_follows : (n id : ℕ) (payload : List ℕ) (sum : ℕ) → Follows plan a s (calls.response n id payload sum)
  unfolding answer_in area_after calls.answer_of calls.next_of
  response_follows n id payload sum =
      record { answer = ap calls.responded (answered id payload sum n); held = held_responded id payload sum n }

  -- ---- "no response"

  module _ (n id : ℕ) where
    silence_answered : silent_answer a n id ≡ model.silent_answer (said plan) s n id
    unfolding silent_answer model.silent_answer silence_of model.silence_of
    silence_answered =
        picks _ _ _ h.reads.header.mark
        ∙ chosen (λ x y. x ≡ y) _ _ (known_is lawful h n)
        (λ k. by_polled n id (ltb-true n _ k) (λ f g. silence_of a f ≡ model.silence_of s g) (λ place. refl)
        (λ r l. rw (small r l) (chosen (λ x y. x ≡ y) _ _ (ap (λ v. eqb v 1) (h.shows.longs r l)) (λ e. refl) (λ e. refl))))
        (λ k. refl)

    held_silenced : Held plan (silent_area a n id) (model.silent (said plan) s n id)
    unfolding silent_area model.silent silenced_by model.silenced_by
    held_silenced =
        rw (picks _ _ _ h.reads.header.mark)
        (chosen (Held plan) _ _ (known_is lawful h n)
        (λ k. by_polled n id (ltb-true n _ k) (λ f g. Held plan (silenced_by a f) (model.silenced_by (said plan) s g)) (λ place. h)
        (λ r l. rw (small r l) (Held-expired lawful h r l)))
        (λ k. h))

  pub silence_follows : (n id : ℕ) → Follows plan a s (calls.no_response n id)
  unfolding answer_in area_after calls.answer_of calls.next_of
  silence_follows n id = record { answer = ap calls.silent (silence_answered n id); held = held_silenced n id }
