-- One opening or call on an area and on the world that it stands for.
use mathlib.Core.Path.{◌≡◌, refl, sym, ◌∙◌}
use mathlib.Core.Bool.{Bool, true, false, true≢false, false≢true}
use mathlib.Core.List.{List}
use Prim.Native.Nat.{ℕ}
use lib.Dec.{leb, eqb}
use lib.ListN.{length}
use borrow.Author.Tests.{eq-eqb, le-leb, eqb-true, leb-true}
use Rattle.std.specs.Prelude.{Err, Result, Ok}
use Rattle.base.specs.Pick.{pick}
use Rattle.base.specs.Numbers.{byte_at, Bytes}
use Rattle.base.proofs.Picks.{picks, passes, cases}
use Rattle.plan.specs.declared.verdict.PlanCounts.{PlanCounts}
use Rattle.plan.specs.declared.verdict.BadRecord.{BadRecord}
use Rattle.plan.specs.Check.{check_plan}
use Rattle.area.specs.Layout.{area_length, marked}
use Rattle.answers.specs.declared.Refusal.{Refusal}
use Rattle.answers.specs.declared.Refusal.TheVariants.{Plan as BadPlan, ShortArea}
use Rattle.opening.specs.Opened.{opened_answer, opened_area}
use Rattle.reception.specs.Reception.{received_answer, received_area}
use Rattle.polling.specs.Polling.{responded_answer, responded_area, silent_answer, silent_area}
use Rattle.ticking.specs.Tick.{tick_answer, ticked_area, ticked_report}
use Rattle.taking.specs.Taken.{taken_answer, taken_area, taken_payload, fullness_answer}
use Rattle.model.specs.Opening.{open_answer}
use Rattle.model.specs.Calls.{Call, reception, response, no_response, tick, take, fullness, World, closed, holding, refused_closed, next_from, open_next}
use Rattle.model.specs.Calls as model
use Rattle.model.proofs.Lawful.{lawful}
use Rattle.history.specs.Calls.{answer_in, area_after}
use Rattle.refines.specs.Shows.{Marked, Stands}
use Rattle.refines.proofs.Held.{Held}
use Rattle.refines.proofs.Follows.{Follows, chosen}
use Rattle.refines.proofs.Tick.{tick_follows}
use Rattle.refines.proofs.Take.{take_follows}
use Rattle.refines.proofs.Reception.{reception_follows}
use Rattle.refines.proofs.Responses.{response_follows, silence_follows}
use Rattle.refines.proofs.Fullness.{fullness_follows}
use Rattle.refines.proofs.Opened.{Held-opened}

-- ---- the mark, by its test

pub marks : {a : List ℕ} → Marked a → marked a ≡ true
unfolding marked
marks {a} m =
    picks _ _ _ (le-leb area_length (length a) m.size) ∙ picks _ _ _ (eq-eqb (byte_at a 0) 0x47 m.first) ∙ eq-eqb (byte_at a 1) 0x57 m.second

pub is_marked : (a : List ℕ) → marked a ≡ true → Marked a
unfolding marked
is_marked a =
    cases (λ x. x ≡ true → Marked a) (leb area_length (length a)) _ _
    (λ l.
    cases (λ x. x ≡ true → Marked a) (eqb (byte_at a 0) 0x47) _ _
    (λ e f. record { size = leb-true _ _ l; first = eqb-true _ _ e; second = eqb-true _ _ f })
    (λ e f. absurd (false≢true f)))
    (λ l f. absurd (false≢true f))

pub unmarked : (a : List ℕ) → (Marked a → ⊥) → marked a ≡ false
unmarked a n = go (marked a) refl
  where
    go : (b : Bool) → marked a ≡ b → marked a ≡ false
    go true e = absurd (n (is_marked a e))
    go false e = e

-- ---- an area and a world, with all that the calls need

unfoldable pub Agrees : List ℕ → World → Type 0
Agrees a closed = marked a ≡ false
Agrees a (holding plan s) = Held plan a s

pub stands : (a : List ℕ) (w : World) → Agrees a w → Stands a w
unfolding Agrees Stands
stands a closed k = λ m. true≢false (sym (marks m) ∙ k)
stands a (holding plan s) k = (is_marked a k.reads.header.mark, k.shows)

-- ---- a call

-- where nothing is open it is refused, and "A refusal writes nothing."
shut : (a : List ℕ) → marked a ≡ false → (c : Call) → (answer_in a c ≡ refused_closed c) × (area_after a c ≡ a)
unfolding answer_in area_after refused_closed received_answer received_area responded_answer responded_area silent_answer silent_area tick_answer ticked_area ticked_report
    taken_answer taken_area taken_payload fullness_answer pick
shut a m (reception n id payload) = (rw m, rw m)
shut a m (response n id payload sum) = (rw m, rw m)
shut a m (no_response n id) = (rw m, rw m)
shut a m (tick report) = (rw m, rw m)
shut a m (take n) = (rw m, rw m)
shut a m (fullness t) = (rw m, refl)

pub follows : {plan a : List ℕ} {s : _} → Held plan a s → (c : Call) → Follows plan a s c
follows {plan} h (reception n id payload) = reception_follows (lawful plan h.good) h n id payload
follows {plan} h (response n id payload sum) = response_follows (lawful plan h.good) h n id payload sum
follows {plan} h (no_response n id) = silence_follows (lawful plan h.good) h n id
follows {plan} h (tick report) = tick_follows (lawful plan h.good) h report
follows h (take n) = take_follows h n
follows h (fullness t) = fullness_follows h t

pub call_agrees : (a : List ℕ) (w : World) → Agrees a w → (c : Call) → (answer_in a c ≡ model.answer_from w c) × Agrees (area_after a c) (next_from w c)
unfolding Agrees model.answer_from next_from
call_agrees a closed k c = let x = shut a k c in (x.0, rw x.1 k)
call_agrees a (holding plan s) k c = let x = follows k c in (x.answer, x.held)

-- ---- an opening

pub opening_answer : (room : ℕ) (v : Result PlanCounts BadRecord) → opened_answer v room ≡ open_answer room v
unfolding opened_answer open_answer
opening_answer room (Ok counts) = refl
opening_answer room (Err bad) = refl

-- whatever stands in the area; the world before matters where the opening is refused
pub opening_agrees :
    (a plan : List ℕ) → Bytes plan → (w : World)
    → ((why : Refusal) (number : ℕ) → opened_answer (check_plan plan) (length a) ≡ Err (record { why = why; record_number = number }) → Agrees a w)
    → Agrees (opened_area (opened_answer (check_plan plan) (length a)) plan a) (open_next (open_answer (length a) (check_plan plan)) w plan)
unfolding opened_answer open_answer opened_area open_next
opening_agrees a plan b w k = go (check_plan plan) refl
  where
    P : Result PlanCounts BadRecord → Type 0
    P v = Agrees (opened_area (opened_answer v (length a)) plan a) (open_next (open_answer (length a) v) w plan)

    go : (v : Result PlanCounts BadRecord) → check_plan plan ≡ v → P (check_plan plan)
    go (Ok counts) e =
        rw e
        (chosen (λ x y. Agrees (opened_area x plan a) (open_next y w plan)) (leb area_length (length a)) _ refl
        (λ l. unfold Agrees in Held-opened plan a counts.nodes counts.tx counts.rx e (leb-true _ _ l) b)
        (λ l. k ShortArea 0 (rw e (passes _ _ _ l))))
    go (Err bad) e = rw e (k (BadPlan bad.reason) bad.record_number (rw e))
