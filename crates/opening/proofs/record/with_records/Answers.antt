-- `opening::record::with_records` meets its contract: at each record the rest of the records gives what the whole plan does, and what is
-- passed over puts nothing into the area.
use Rattle.std.proofs.Common.{refl, ◌∙◌, arith}
use Rattle.records.specs.Records.{records}
use Rattle.records.proofs.RecordLaws.{goes_on}
use Rattle.opening.proofs.Turn.{turns, ends}
use Rattle.opening.proofs.record.with_records.Goals as goal

pub loop-at-init : goal.loop-at-init
unfolding records
loop-at-init c = (refl, omega arith, refl)

pub past_claims-at-requires : goal.past_claims-at-requires
past_claims-at-requires c =
    (goes_on _ _ c.read_record-step.ensures c.loop-at-test.true).1

pub loop-at-smaller : goal.loop-at-smaller
loop-at-smaller c =
    omega (arith, (goes_on _ _ c.read_record-step.ensures c.loop-at-test.true).0, c.past_claims-at.ensures.onward)

pub loop-at-preserved : goal.loop-at-preserved
loop-at-preserved c =
    let past = c.past_claims-at.ensures in
    let rest = turns _ _ _ _ _ _ c.loop-at-test.true c.read_record-step.ensures c.with_record.ensures in
    (past.leaves _ ∙ rest c.loop-at.invariant.0, past.within, cc)

pub returns : goal.returns
returns c = ends _ _ _ _ (omega arith) c.loop-at.invariant.0
