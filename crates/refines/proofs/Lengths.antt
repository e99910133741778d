-- No call changes the length of an area, whatever stands in it.
use mathlib.Core.Path.{◌≡◌, refl, ◌∙◌}
use mathlib.Core.List.{List, [], ◌∷◌}
use Prim.Native.Nat.{ℕ, ◌%◌}
use lib.ListN.{length, length-set}
use Rattle.std.specs.Prelude.{Result, Ok, Err}
use Rattle.base.proofs.Picks.{both}
use Rattle.records.specs.declared.record.Id.{Id}
use Rattle.plan.specs.Rows.{Claim}
use Rattle.area.specs.Layout.{order, claims}
use Rattle.area.specs.Claims.{RxEvent, accepted, expired, all_done}
use Rattle.area.proofs.Frame.{Same, Each, Off, Same-all_done, Same-dequeued}
use Rattle.plan.specs.declared.verdict.PlanCounts.{PlanCounts}
use Rattle.answers.specs.declared.Refusal.{Refusal}
use Rattle.answers.specs.declared.RefusedPlan.{RefusedPlan}
use Rattle.opening.specs.Opened.{opened_area}
use Rattle.opening.proofs.OpenedLaws.{opened-length}
use Rattle.reception.specs.Reception.{restarted, accepted_area, received_area}
use Rattle.reception.proofs.ReceptionLaws.{by_answer}
use Rattle.reception.specs.declared.lookup.Found.{Found}
use Rattle.reception.specs.declared.lookup.Found.TheVariants.{At, Nothing}
use Rattle.polling.specs.Polling.{long_again, row_area, polled_area, responded_area, silenced_by, silent_area}
use Rattle.polling.specs.Polling as lin
use Rattle.ticking.specs.Tick.{long_lowered, expired_area, ticked_area}
use Rattle.ticking.proofs.TickLaws.{length-ticked, by_answer as by_tick}
use Rattle.taking.specs.Taken.{oldest_area, taken_area}
use Rattle.model.specs.Calls.{Call, reception, response, no_response, tick, take, fullness}
use Rattle.history.specs.Calls.{area_after}

-- a change of an area, of which nothing but its length is said
abbrev Sized : List ℕ → List ℕ → Type 0
Sized a b = Same (λ j. ⊥) a b

offs : (cs : List Claim) → Each (Off (λ j. ⊥)) cs
offs [] = tt
offs (c ∷ cs) = (record { bits = λ k l x. x; wait = λ x. x; timer = λ x. x }, offs cs)

Sized-done : (o : ℕ) (e : RxEvent) (cs : List Claim) (a : List ℕ) → Sized a (all_done o e cs a)
Sized-done o e cs a = Same-all_done (λ n h j l m x. x) (λ j l m x. x) o e cs a (offs cs)

pub opened_sized : (x : Result PlanCounts RefusedPlan) (plan a : List ℕ) → length (opened_area x plan a) ≡ length a
unfolding opened_area
opened_sized (Ok counts) plan a = opened-length plan a
opened_sized (Err refused) plan a = refl

restarted_sized : (a : List ℕ) (r : ℕ) → length (restarted a r) ≡ length a
unfolding restarted
restarted_sized a r = simp length-set

accepted_sized : (a : List ℕ) (r : ℕ) (payload : List ℕ) → length (accepted_area a r payload) ≡ length a
unfolding accepted_area
accepted_sized a r payload = (Sized-done (order a) (accepted r payload) (claims a r) _).len ∙ restarted_sized a r

received_sized : (a : List ℕ) (n : ℕ) (id : Id) (payload : List ℕ) → length (received_area a n id payload) ≡ length a
received_sized a n id payload =
    by_answer a n id payload (λ x b. length b ≡ length a) (λ x d. refl) (λ r f. accepted_sized a r.0 payload)

again_sized : (a : List ℕ) (r : ℕ) (payload : List ℕ) → length (lin.accepted_area a r payload) ≡ length a
unfolding lin.accepted_area long_again
again_sized a r payload = (Sized-done (order a) (accepted r payload) (claims a r) _).len ∙ simp length-set

polled_sized : (a : List ℕ) (f : Found) (id : ℕ) (payload : List ℕ) (sum : ℕ) → length (polled_area a f id payload sum) ≡ length a
unfolding polled_area row_area
polled_sized a (Nothing place) id payload sum = refl
polled_sized a (At r) id payload sum =
    let P : List ℕ → Type 0 = λ b. length b ≡ length a in both P _ _ _ (both P _ _ _ refl (both P _ _ _ (again_sized a _ payload) refl)) refl

responded_sized : (a : List ℕ) (n id : ℕ) (payload : List ℕ) (sum : ℕ) → length (responded_area a n id payload sum) ≡ length a
unfolding responded_area
responded_sized a n id payload sum =
    let P : List ℕ → Type 0 = λ b. length b ≡ length a in both P _ _ _ (both P _ _ _ (polled_sized a _ id payload sum) refl) refl

silenced_sized : (a : List ℕ) (f : Found) → length (silenced_by a f) ≡ length a
unfolding silenced_by expired_area long_lowered
silenced_sized a (Nothing place) = refl
silenced_sized a (At r) = simp length-set (Sized-done (order a) (expired (r.0 % 256)) (claims a (r.0 % 256)) a).len

silent_sized : (a : List ℕ) (n id : ℕ) → length (silent_area a n id) ≡ length a
unfolding silent_area
silent_sized a n id = let P : List ℕ → Type 0 = λ b. length b ≡ length a in both P _ _ _ (both P _ _ _ (silenced_sized a _) refl) refl

ticked_sized : (x : Result (Unit {0}) Refusal) (a : List ℕ) → length (ticked_area x a) ≡ length a
ticked_sized x a = by_tick (λ b. length b ≡ length a) x a (length-ticked a) refl

taken_sized : (a : List ℕ) (n : ℕ) → length (taken_area a n) ≡ length a
unfolding taken_area oldest_area
taken_sized a n =
    let P : List ℕ → Type 0 = λ b. length b ≡ length a in
    both P _ _ _ (both P _ _ _ (both P _ _ _ refl (Same-dequeued {P = λ j. ⊥} a n (λ j l m x. x) (λ x. x)).len) refl) refl

pub call_sized : (a : List ℕ) (c : Call) → length (area_after a c) ≡ length a
unfolding area_after
call_sized a (reception n id payload) = received_sized a n id payload
call_sized a (response n id payload sum) = responded_sized a n id payload sum
call_sized a (no_response n id) = silent_sized a n id
call_sized a (tick report) = ticked_sized _ a
call_sized a (take n) = taken_sized a n
call_sized a (fullness t) = refl
