-- `interface::gateway_receive` meets its contract: its struct is that of the call's answer.
use mathlib.Core.Path.{ap, ◌∙◌}
use Rattle.interface.specs.Structs.{received_struct}
use Rattle.interface.proofs.gateway_receive.Goals as goal

pub returns : goal.returns
returns c =
    let call = rw c.id_in.ensures at c.receive.ensures in
    record { answer = c.received_struct.ensures ∙ ap received_struct call.answer; bytes = call.bytes }
