-- The first eight of the eight bytes from the place on.
use Rattle.std.proofs.Common.{◌+◌, ◌-◌, ◌∙◌, arith, drop}
use Rattle.std.proofs.lemmas.List.{take-take}
use Rattle.records.proofs.Payloads.{eight_taken}
use Rattle.records.proofs.decode.eight_at.Goals as goal

pub returns : goal.returns
returns c =
    c.in-Some.ensures.cases.same ∙ take-take 8 (c.args.at + 8 - c.args.at) (drop c.args.at c.args.plan.now) (omega arith) ∙ eight_taken _ _ c.requires
