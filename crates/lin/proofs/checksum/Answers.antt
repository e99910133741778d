-- The fold of the code is that of the definition.
use Rattle.std.proofs.Common.{rules, ◌≡◌}
use Rattle.std.specs.List.{fold}
use Rattle.lin.specs.Checksum.{carried}
use Rattle.lin.proofs.Sums.{checksum_from}
use Rattle.lin.proofs.checksum.Goals as goal

pub returns : goal.returns
returns c =
    let all : c.fold.result ≡ fold carried c.args.protected c.args.bytes.now = search rules in
    rw all (checksum_from c.args.protected c.args.bytes.now c.ranges.protected.fits)
