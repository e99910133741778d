-- `bits::owners::count` meets its contract: the count of a set is that of its ones.
use Rattle.bits.proofs.OwnerLaws.{owners-ones, owners-le}
use Rattle.bits.proofs.owners.count.Goals as goal

pub returns : goal.returns
returns c = let e = owners-ones 64 c.args.set c.ranges.set.fits in (e, rw e (owners-le c.args.set 64))
