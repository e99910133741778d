-- A byte that no kind has.
use Rattle.std.proofs.Common.{arith}
use Rattle.records.proofs.RecordLaws.{no_length}
use Rattle.records.proofs.KindLaws.{none_decodes}
use Rattle.records.proofs.decode.length_of.Goals as goal

pub returns-in-Err : goal.returns-in-Err
returns-in-Err c = (no_length _ (none_decodes c.in-Err.ensures.1), omega arith)
