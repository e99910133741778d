-- `interface::gateway_no_response` meets its contract: its number is that of the call's answer.
use mathlib.Core.Path.{ap, ◌∙◌}
use Rattle.answers.specs.Answers.{silence_number}
use Rattle.interface.proofs.gateway_no_response.Goals as goal

pub returns : goal.returns
returns c = let call = c.no_response in
    record { answer = c.silence_number.ensures ∙ ap silence_number call.ensures.answer; bytes = call.ensures.bytes }
