-- Demand 1.
use mathlib.Core.Path.{◌≡◌, refl}
use mathlib.Core.Bool.{Bool, true, false}
use mathlib.Core.List.{List}
use Prim.Native.Nat.{ℕ, ◌%◌}
use lib.Dec.{ltb}
use Rattle.std.specs.Prelude.{Ok, Err}
use Rattle.base.specs.Pick.{pick}
use Rattle.base.proofs.Picks.{both}
use Rattle.plan.specs.Refusals.{number_of}
use Rattle.area.specs.Layout.{marked, node_count}
use Rattle.answers.specs.declared.Refusal.{Refusal}
use Rattle.answers.specs.declared.Responded.TheVariants.{Accepted}
use Rattle.answers.specs.Answers.{refusal_number, received_number, responded_number, silence_number}
use Rattle.opening.specs.Opened.{opened_area}
use Rattle.reception.proofs.ReceptionLaws.{stays}
use Rattle.polling.specs.Polling.{responded_answer, responded_area, silent_answer, silent_area}
use Rattle.ticking.specs.Tick.{expired_area, ticked_area, ticked_report}
use Rattle.taking.specs.Taken.{taken_answer, taken_area, taken_payload}
use Rattle.history.specs.Calls.{area_after, stepped}
use Rattle.history.proofs.Responses.{by_responded, by_silent}
use Rattle.demands.specs.Numbers.{Numbers}
use Rattle.demands.specs.Demand1.{RefusalsWriteNothing, Demand1}
use Rattle.demands.proofs.NotOpened.{no, not_opened, taken_unrefused}
use Rattle.demands.proofs.OpeningAnswers.{opening_answers}
use Rattle.demands.proofs.Kept.{step_stays}

-- ---- a refusal writes nothing

-- what a test chooses for the answer and for the area
chosen :
    {A : Type 0} (v : A) (a : List ℕ) (t : Bool) {x y : A} {b c : List ℕ} → (x ≡ v → b ≡ a) → (y ≡ v → c ≡ a) → pick t x y ≡ v → pick t b c ≡ a
unfolding pick
chosen v a true p q e = p e
chosen v a false p q e = q e

taken_stays : (a : List ℕ) (n : ℕ) (why : Refusal) → taken_answer a n ≡ Err why → taken_area a n ≡ a
unfolding taken_answer taken_area
taken_stays a n why =
    chosen (Err why) a (marked a)
    (chosen (Err why) a (ltb n (node_count a)) (λ e. absurd (taken_unrefused a n why e)) (λ e. refl))
    (λ e. refl)

response_stays : (a : List ℕ) (n id : ℕ) (payload : List ℕ) (sum : ℕ) → (responded_answer a n id payload sum ≡ Ok Accepted → ⊥)
    → responded_area a n id payload sum ≡ a
response_stays a n id payload sum =
    by_responded a n id payload sum (λ x b. (x ≡ Ok Accepted → ⊥) → b ≡ a) (λ x d e. refl) (λ k r f d. absurd (d refl))

silence_stays : (a : List ℕ) (n id : ℕ) (why : Refusal) → silent_answer a n id ≡ Err why → silent_area a n id ≡ a
silence_stays a n id why =
    by_silent a n id (λ x b. x ≡ Err why → b ≡ a) (λ w e. refl)
    (λ k r f. both (λ x. x ≡ Err why → expired_area a (r.0 % 256) ≡ a) _ _ _ (λ e. absurd (no cc)) (λ e. absurd (no cc)))

writes_nothing : (a : List ℕ) → RefusalsWriteNothing a
unfolding area_after stepped opened_area ticked_area ticked_report taken_payload
writes_nothing a =
    record {
      of_opening = λ plan why at e. rw e;
      of_reception = λ n id payload why e. stays a n id payload (λ d. no cc);
      of_response = λ n id payload sum why e. response_stays a n id payload sum (λ d. no cc);
      of_no_response = λ n id why e. silence_stays a n id why e;
      of_wrong_sum = λ n id payload sum e. response_stays a n id payload sum (λ d. no cc);
      of_tick = λ report why e. rw e;
      of_report = λ report why e. rw e;
      of_take = λ n why e. taken_stays a n why e;
      of_payload = λ n why e. rw e;
      of_none = λ n e. rw e;
      of_request = λ n x e. rw e;
    }

-- ---- the numbers

numbers : Numbers
unfolding refusal_number number_of received_number responded_number silence_number
numbers =
    record {
      one = refl;
      two = refl;
      three = refl;
      four = refl;
      five = refl;
      six = refl;
      seven = refl;
      eight = refl;
      nine = refl;
      ten = refl;
      eleven = refl;
      twelve = refl;
      thirteen = refl;
      fourteen = refl;
      fifteen = refl;
      sixteen = refl;
      accepted = refl;
      no_row = λ place. refl;
      too_short = refl;
      refused = λ why. refl;
      responded = refl;
      short_response = refl;
      wrong_sum = refl;
      refused_response = λ why. refl;
      short_silence = refl;
      long_silence = refl;
      refused_silence = λ why. refl;
    }

pub demand_1 : Demand1
demand_1 = record { opening = opening_answers; not_opened = not_opened; writes_nothing = writes_nothing; numbers = numbers; stays = step_stays }
