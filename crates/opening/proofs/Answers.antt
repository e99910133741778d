-- What the call answers and leaves, by the verdict and the area's length.
use Rattle.std.proofs.Common.{◌≡◌, ℕ, ◌<◌, ◌≤◌, List, length, refl, arith, le-leb}
use borrow.Author.Tests.{lt-leb}
use Rattle.std.specs.Prelude.{Result, Ok, Err}
use Rattle.base.specs.Pick.{pick}
use Rattle.records.specs.Records.{records}
use Rattle.plan.specs.declared.verdict.Reason.{Reason}
use Rattle.plan.specs.declared.verdict.PlanCounts.{PlanCounts}
use Rattle.plan.specs.Check.{good_with, refused_at, check_plan, sets_of}
use Rattle.facts.proofs.Bounds.{good_bounds}
use Rattle.area.specs.Layout.{area_length, plan_room, LongEnough}
use Rattle.answers.specs.declared.Refusal.TheVariants.{Plan, ShortArea}
use Rattle.answers.specs.declared.RefusedPlan.{RefusedPlan}
use Rattle.opening.specs.Opened.{blank, with_records, with_rings, with_fullness, opened, opened_answer, opened_area}

-- a good plan fits behind the tables
pub good_short : (plan : List ℕ) (n t r : ℕ) → check_plan plan ≡ good_with n t r → length plan ≤ plan_room
good_short plan n t r good = omega (arith, (good_bounds plan n t r good).short)

-- what the call promises: its answer r, and the area b in place of a
abbrev Meets : List ℕ → List ℕ → Result PlanCounts RefusedPlan → List ℕ → Type 0
Meets plan a r b = (r ≡ opened_answer (check_plan plan) (length a)) × (b ≡ opened_area r plan a)

module _ (plan a : List ℕ) where
  pub answers_refused :
      (reason : Reason) (number : ℕ) → check_plan plan ≡ refused_at reason number
      → Meets plan a (Err (record { why = Plan reason; record_number = number })) a
  unfolding opened_answer opened_area
  answers_refused reason number e = (rw e, refl)

  module _ (n t r : ℕ) (good : check_plan plan ≡ good_with n t r) where
    pub answers_short : length a < area_length → Meets plan a (Err (record { why = ShortArea; record_number = 0 })) a
    unfolding opened_answer opened_area pick
    answers_short h = (rw (good, lt-leb area_length (length a) h), refl)

    pub answers_open :
        (sets b : List ℕ) → LongEnough a → sets ≡ sets_of plan
        → b ≡ with_fullness sets 256 (with_rings 16 (with_records 0 (records plan) (blank plan a)))
        → Meets plan a (Ok (record { nodes = n; tx = t; rx = r })) b
    unfolding opened opened_answer opened_area pick
    answers_open sets b h owned filled = (rw (good, le-leb area_length (length a) h), rw (filled, owned))
