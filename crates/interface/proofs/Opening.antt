-- An opening's struct gives back its answer, so no two answers have one struct.
use mathlib.Core.Path.{◌≡◌, refl}
use mathlib.Core.List.{List}
use Prim.Native.Nat.{ℕ, ◌%◌, ◌<◌}
use native.Mathlib.Omega.{arith}
use borrow.Author.Tests.{ne_eqb}
use Rattle.std.specs.Prelude.{Result, Ok, Err}
use Rattle.base.specs.Pick.{pick}
use Rattle.base.proofs.Picks.{both}
use Rattle.base.proofs.Ranges.{at_most_is}
use Rattle.plan.specs.declared.verdict.PlanCounts.{PlanCounts}
use Rattle.plan.specs.declared.verdict.BadRecord.{BadRecord}
use Rattle.plan.specs.Check.{check_plan}
use Rattle.facts.proofs.Bounds.{good_bounds}
use Rattle.answers.specs.declared.Refusal.{Refusal}
use Rattle.answers.specs.declared.Refusal.TheVariants.{Plan, ShortArea}
use Rattle.answers.specs.declared.RefusedPlan.{RefusedPlan}
use Rattle.answers.specs.Answers.{refusal_number}
use Rattle.opening.specs.Opened.{opened_answer}
use Rattle.interface.specs.Structs.{opened_struct}
use Rattle.interface.specs.Back.{opened_of}
use Rattle.interface.proofs.Numbers.{numbered}
use Rattle.interface.proofs.Records.{Low, plan_low}

abbrev Back : Result PlanCounts RefusedPlan → Type 0
Back o = opened_of (opened_struct o) ≡ o

open_back : (n t r : ℕ) → n < 65536 → t < 65536 → r < 65536 → Back (Ok (record { nodes = n; tx = t; rx = r }))
unfolding opened_of opened_struct pick
open_back n t r hn ht hr =
    let en : n % 65536 ≡ n = omega arith in
    let et : t % 65536 ≡ t = omega arith in
    let er : r % 65536 ≡ r = omega arith in
    rw (en, et, er)

refused_back : (why : Refusal) (k : ℕ) → k < 65536 → Back (Err (record { why = why; record_number = k }))
unfolding opened_of opened_struct pick
refused_back why k h =
    let n = numbered why in
    rw (at_most_is 65535 k (omega arith), ne_eqb (refusal_number why) 0 (omega arith), n.back)

pub opened_back : (plan : List ℕ) (n : ℕ) → opened_of (opened_struct (opened_answer (check_plan plan) n)) ≡ opened_answer (check_plan plan) n
unfolding opened_answer Low
opened_back plan n = go (check_plan plan) refl
  where
    go : (v : Result PlanCounts BadRecord) → check_plan plan ≡ v → Back (opened_answer v n)
    go (Ok counts) e =
        let b = good_bounds plan counts.nodes counts.tx counts.rx e in
        both Back _ _ _
        (open_back counts.nodes counts.tx counts.rx (omega (arith, b.nodes)) (omega (arith, b.tx)) (omega (arith, b.rx)))
        (refused_back ShortArea 0 (omega arith))
    go (Err bad) e = let l = rw e at (plan_low plan) in refused_back (Plan bad.reason) bad.record_number (omega (arith, l))
