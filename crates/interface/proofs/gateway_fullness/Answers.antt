-- `interface::gateway_fullness` meets its contract: its struct is that of the call's answer.
use mathlib.Core.Path.{ap, ◌∙◌}
use Rattle.interface.specs.Structs.{fullness_struct}
use Rattle.interface.proofs.gateway_fullness.Goals as goal

pub returns : goal.returns
returns c = record { answer = c.fullness_struct.ensures ∙ ap fullness_struct c.fullness.ensures }
