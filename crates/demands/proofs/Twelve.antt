-- The twelve cases.
use mathlib.Core.Path.{◌≡◌, sym, ◌∙◌}
use mathlib.Core.List.{List, [], ◌∷◌}
use Prim.Native.Nat.{ℕ, zero, suc}
use Rattle.bits.proofs.CopyLaws.{copied_whole}
use Rattle.bits.proofs.CopyCases.{copies_hold as copies}
use Rattle.clock.proofs.ClockCases.{clock_cases_hold as clocks}
use Rattle.plan.specs.Check.{check_plan}
use Rattle.facts.specs.PlanCases.{PlanCase, plan_cases, VerdictsHold}
use Rattle.facts.proofs.PlanCases.{plan_cases_hold}
use Rattle.demands.specs.Twelve.{TwelveCases}

-- the n-th of the small plans
abbrev Nth : ℕ → List PlanCase → Type 0
Nth n [] = Unit {0}
Nth zero (c ∷ cs) = check_plan c.plan ≡ c.verdict
Nth (suc n) (c ∷ cs) = Nth n cs

nth : (n : ℕ) (cs : List PlanCase) → VerdictsHold cs → Nth n cs
nth n [] h = tt
nth zero (c ∷ cs) h = h.0
nth (suc n) (c ∷ cs) h = nth n cs h.1

pub twelve_cases : TwelveCases
twelve_cases =
    record {
      one = copies.0;
      two = copies.1.0;
      three = copies.1.1.0;
      four = copies.1.1.1.0;
      five = λ order x y ex ey.
          rw ey.eight at (copied_whole order x y (ex.eight ∙ sym ey.eight) ex.bytes ey.bytes);
      six = clocks.six;
      seven = clocks.seven;
      eight = (clocks.eight_0, clocks.eight_20, clocks.eight_160, clocks.eight_159);
      nine = clocks.nine;
      ten = (nth 19 plan_cases plan_cases_hold, nth 20 plan_cases plan_cases_hold);
      eleven = (nth 21 plan_cases plan_cases_hold, nth 8 plan_cases plan_cases_hold);
      twelve = (nth 0 plan_cases plan_cases_hold, nth 22 plan_cases plan_cases_hold);
    }
