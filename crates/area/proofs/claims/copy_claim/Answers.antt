-- `area::claims::copy_claim` meets its contract: it copies in the order that the byte tells, and no definition tells that order from the byte.
use Rattle.bits.proofs.OrderLaws.{ones_of_told, Bits-told}
use Rattle.area.specs.Claims.{accepted}
use Rattle.area.proofs.ClaimLaws.{done_told}
use Rattle.area.proofs.claims.copy_claim.Goals as goal

pub copy_claim_in-requires : goal.copy_claim_in-requires
copy_claim_in-requires c = (rw (c.from.ensures, ones_of_told c.args.order) c.requires.0, c.requires.1, c.requires.2, c.requires.3)

pub returns : goal.returns
returns c source has =
    let v = c.args in
    let put = rw c.from.ensures at c.copy_claim_in.ensures in
    rw (← done_told v.order (accepted 0 source) v.area.now _)
    (put source (Bits-told v.order v.signal.bits source v.signal.position v.signal.size has))
