-- `interface::gateway_take` meets its contract: its struct is that of the call's answer.
use mathlib.Core.Path.{ap, ◌∙◌}
use Rattle.interface.specs.Structs.{taken_struct}
use Rattle.interface.proofs.gateway_take.Goals as goal

pub returns : goal.returns
returns c = let call = c.take in
    record { answer = c.taken_struct.ensures ∙ ap taken_struct call.ensures.answer; bytes = call.ensures.bytes }
