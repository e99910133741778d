-- `bench::opening` meets its contract: by the opening's answer; a good plan has no more Rx frames than a report has bytes.
use Prim.Native.Nat.{ℕ, ◌≤◌}
use mathlib.Core.Path.{◌≡◌, refl, sym, ap, ◌∙◌}
use mathlib.Core.List.{List}
use native.Mathlib.Omega.{arith}
use lib.Dec.{leb}
use lib.ListN.{length, replicate, length-replicate}
use Rattle.std.specs.Prelude.{Result, Ok, Err}
use Rattle.base.proofs.Apart.{differ}
use Rattle.base.proofs.Picks.{both}
use Rattle.plan.specs.declared.verdict.BadRecord.{BadRecord}
use Rattle.plan.specs.Check.{check_plan}
use Rattle.facts.proofs.Bounds.{good_bounds}
use Rattle.area.specs.Layout.{area_length}
use Rattle.plan.specs.declared.verdict.PlanCounts.{PlanCounts}
use Rattle.answers.specs.declared.RefusedPlan.{RefusedPlan}
use Rattle.opening.specs.Opened.{opened_answer, opened_area}
use Rattle.events.specs.Events.{plan_of}
use Rattle.text.proofs.TextLaws.{put_shows}
use Rattle.output.specs.Output.{open_of, plan_text}
use Rattle.output.proofs.OutputLaws.{first_good, first_refused}
use Rattle.bench.proofs.opening.Goals as goal

abbrev Few : Result PlanCounts RefusedPlan → Type 0
Few o = (counts : PlanCounts) → o ≡ Ok counts → counts.rx ≤ 256

refused_few : (refused : RefusedPlan) → Few (Err refused)
refused_few refused counts e = absurd (differ cc)

verdict_few : (plan : List ℕ) (size : ℕ) (v : Result PlanCounts BadRecord) → check_plan plan ≡ v → Few (opened_answer v size)
unfolding opened_answer
verdict_few plan size (Ok good) e =
    both Few (leb area_length size) _ _
    (λ counts o. let same : good.rx ≡ counts.rx = cc in rw same at (good_bounds plan good.nodes good.tx good.rx e).rx)
    (refused_few _)
verdict_few plan size (Err bad) e = refused_few _

-- the program's area is zeros
on_zeros : (input area : List ℕ) (end : ℕ) (answer : Result PlanCounts RefusedPlan) → area ≡ replicate area_length 0
    → answer ≡ opened_answer (check_plan (plan_of input end)) (length area) → plan_text answer input end ≡ plan_text (open_of input end) input end
on_zeros input area end answer zeros e =
    let long = ap length zeros ∙ length-replicate {A = ℕ} area_length 0 in
    ap (λ (o : Result PlanCounts RefusedPlan). plan_text o input end) (e ∙ ap (λ (n : ℕ). opened_answer (check_plan (plan_of input end)) n) long)

pub returns-in-Ok : goal.returns-in-Ok
returns-in-Ok c =
    let input = c.args.input.now in
    let end = c.args.end in
    let answer = c.open-answer.result in
    let bytes = c.open-answer.ensures.bytes ∙ ap (λ (a : List ℕ). opened_area answer (plan_of input end) a) c.requires.2 in
    let shows = put_shows c.plan_line-size.ensures.0 (omega arith) in record {
      text = first_good input c.plan_line-size.new.line c.open-answer.new.area end c.plan_line-size.result _ answer c.in-Ok.is shows bytes
          ∙ on_zeros input c.args.area.now end answer c.requires.2 c.open-answer.ensures.answer;
      next = (omega arith, omega arith, verdict_few _ _ _ refl _ (sym c.open-answer.ensures.answer ∙ c.in-Ok.is));
    }

pub returns-in-Err : goal.returns-in-Err
returns-in-Err c =
    let input = c.args.input.now in
    let end = c.args.end in
    let answer = c.open-answer.result in
    let shows = put_shows c.plan_line-size.ensures.0 (omega arith) in record {
      text = first_refused input c.plan_line-size.new.line c.open-answer.new.area end c.plan_line-size.result _ answer c.in-Err.is shows
          ∙ on_zeros input c.args.area.now end answer c.requires.2 c.open-answer.ensures.answer;
      next = (omega arith, omega arith, omega arith);
    }
