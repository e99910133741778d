-- A byte that no kind has.
use Rattle.records.proofs.RecordLaws.{no_stage}
use Rattle.records.proofs.KindLaws.{none_decodes}
use Rattle.records.proofs.decode.stage_of_kind.Goals as goal

pub returns-in-Err : goal.returns-in-Err
returns-in-Err c = no_stage _ (none_decodes c.in-Err.ensures.1)
