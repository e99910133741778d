-- Each return has passed the tests that the definition passes to the same record.
use Rattle.std.proofs.Common.{◌≡◌, ap, sym, ◌∙◌, arith}
use Rattle.base.specs.Numbers.{byte_at}
use Rattle.records.specs.Kinds.{length_of, fields_at}
use Rattle.records.proofs.RecordLaws.{no_length, step_bad, step_whole, step_cut, step_end}
use Rattle.records.proofs.KindLaws.{none_decodes}
use Rattle.records.proofs.decode.step_at.Goals as goal

pub returns-then-plan-at : goal.returns-then-plan-at
returns-then-plan-at c = step_end _ _ (omega arith)

pub returns-in_default : goal.returns-in_default
returns-in_default c = step_bad _ _ (omega arith) (sym (no_length _ (none_decodes c.in_default.ensures.1)))

pub returns-then-plan-at-2 : goal.returns-then-plan-at-2
returns-then-plan-at-2 c =
    let size : c.length-size.result ≡ length_of (byte_at c.args.plan.now c.args.at) = c.length-size.ensures.value ∙ ap length_of c.in-Ok.ensures in
    step_cut _ _ (omega arith) (omega (arith, size, c.length-size.ensures.some)) (omega (arith, size))

pub returns : goal.returns
returns c =
    let size : c.length-size.result ≡ length_of (byte_at c.args.plan.now c.args.at) = c.length-size.ensures.value ∙ ap length_of c.in-Ok.ensures in
    step_whole _ _ (omega arith) (c.fields_at-found.ensures ∙ ap (λ k. fields_at k c.args.plan.now c.args.at) c.in-Ok.ensures) size c.length-size.ensures.some
    (omega arith)
