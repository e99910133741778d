-- `interface::gateway_payload` meets its contract: the part that the struct says is the payload.
use Rattle.interface.specs.Back.{taken_of}
use Rattle.interface.proofs.Parts.{part_payload, part_inside}
use Rattle.interface.proofs.gateway_payload.Goals as goal

pub returns : goal.returns
returns c =
    let area = c.args.area.now in
    let taken = taken_of c.args.taken in
    record {
      answer = c.payload_struct.ensures;
      part = rw c.payload_struct.ensures (part_payload area taken);
      inside = rw c.payload_struct.ensures (part_inside area taken);
    }
