-- One turn of filling the area: the rest of the records gives what the whole plan does.
use Rattle.std.proofs.Common.{◌≡◌, ℕ, ◌<◌, ◌≤◌, List, length}
use Rattle.records.specs.declared.decode.Step.{Step}
use Rattle.records.specs.Records.{records_at}
use Rattle.records.specs.Reading.{step_at}
use Rattle.records.proofs.RecordLaws.{records_end, records_step}
use Rattle.opening.specs.Opened.{with_record, with_records}

pub turns :
    (plan : List ℕ) (at : ℕ) (x : Step) (a b whole : List ℕ) → at < length plan → x ≡ step_at plan at → b ≡ with_record at x.found a
    → with_records at (records_at plan at) a ≡ whole → with_records x.next (records_at plan x.next) b ≡ whole
unfolding with_records
turns plan at x a b whole here read done rest = rw (done, read) (rw (records_step plan at here) at rest)

pub ends : (plan : List ℕ) (at : ℕ) (a whole : List ℕ) → length plan ≤ at → with_records at (records_at plan at) a ≡ whole → a ≡ whole
unfolding with_records
ends plan at a whole h rest = rw (records_end plan at h) at rest
