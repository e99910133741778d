-- `interface::gateway_open` meets its contract: its struct is that of the call's answer.
use mathlib.Core.Path.{ap, ◌∙◌}
use Rattle.interface.specs.Structs.{opened_struct}
use Rattle.interface.proofs.gateway_open.Goals as goal

pub returns : goal.returns
returns c =
    let call = c.«open».ensures in
    record { answer = c.opened_struct.ensures ∙ ap opened_struct call.answer; bytes = rw call.answer at call.bytes }
