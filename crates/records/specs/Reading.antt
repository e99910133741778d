-- "The plan is read through a struct of plan slice and cursor": a reader gives the record that it stands on, and goes on behind it.
use Rattle.std.specs.Prelude.{ℕ, ◌+◌, List}
use Rattle.records.specs.declared.record.Record.{Record}
use Rattle.records.specs.declared.record.Follower.{Follower}
use Rattle.records.specs.declared.record.Follower.TheVariants as follower
use Rattle.records.specs.declared.decode.Step.{Step}
use Rattle.records.specs.declared.reader.Reader.{Reader}
use Rattle.records.specs.declared.reader.Read.{Read}
use Rattle.records.specs.Views.{in_row}
use Rattle.records.specs.Records.{record_at, size_of}

-- the record at a place of a plan, and the place behind it
abbrev pub step_at : List ℕ → ℕ → Step
step_at plan at = record { found = record_at plan at; next = at + size_of (record_at plan at) }

-- the reader behind the record that it stands on
abbrev pub gone_on : Reader → Reader
gone_on r = record { plan = r.plan; at = (step_at r.plan.now r.at).next }

-- that record, and the reader behind it
abbrev pub read_on : Reader → Read
read_on r = record { found = record_at r.plan.now r.at; rest = gone_on r }

-- a signal or a destination, and no other record
unfoldable pub follower_of : Record → Follower
follower_of r = in_row follower.Other (λ frame. follower.Other) follower.Signal follower.Destination r

abbrev pub follower_at : List ℕ → ℕ → Follower
follower_at plan at = follower_of (record_at plan at)
