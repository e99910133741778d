-- `interface::gateway_respond` meets its contract: its number is that of the call's answer.
use mathlib.Core.Path.{ap, ◌∙◌}
use Rattle.answers.specs.Answers.{responded_number}
use Rattle.interface.proofs.gateway_respond.Goals as goal

pub returns : goal.returns
returns c = let call = c.respond in
    record { answer = c.responded_number.ensures ∙ ap responded_number call.ensures.answer; bytes = call.ensures.bytes }
