-- `opening::record::with_records` meets its contract: at each record the rest of the records gives what the whole plan does, and what is
-- passed over puts nothing into the area.
use Rattle.std.proofs.Common.{◌≡◌, ◌-◌, ◌≤◌, length}
use Rattle.records.specs.Records.{records_at, records}
use Rattle.opening.specs.Opened.{with_records}
use Rattle.opening.proofs.record.with_records.Given as goal

abbrev pub invariant-loop-at : goal.invariant-loop-at
invariant-loop-at l = (with_records l.at (records_at l.plan l.at) l.area ≡ with_records 0 (records l.plan) l.initial.area) × (l.at ≤ length l.plan) × (length l.area ≡ length l.initial.area)

abbrev pub decreases-loop-at : goal.decreases-loop-at
decreases-loop-at l = length l.plan - l.at
