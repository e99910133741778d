-- `interface::gateway_tick` meets its contract: its number is that of the call's answer.
use mathlib.Core.Path.{ap, ◌∙◌}
use Rattle.interface.specs.Structs.{ticked_number}
use Rattle.interface.proofs.gateway_tick.Goals as goal

pub returns : goal.returns
returns c =
    let call = c.tick.ensures in
    record {
      answer = c.ticked_number.ensures ∙ ap ticked_number call.answer;
      bytes = rw call.answer at call.bytes;
      report = rw call.answer at call.report;
    }
