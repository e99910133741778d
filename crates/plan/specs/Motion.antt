-- What the code keeps of the check's progress and tables, so that no sum of it wraps and no index is out of range.
use Rattle.std.specs.Prelude.{◌≡◌, ℕ, ◌^◌, ◌≤◌, ◌<◌, List, length, get_or, Result, Ok, Err}
use Rattle.records.specs.declared.record.Record.{Record}
use Rattle.records.specs.Kinds.{signal_stage}
use Rattle.plan.specs.Limits.{most_nodes, most_tx, most_rx, most_signals, most_in_frame, most_destinations, most_of_signal}
use Rattle.plan.specs.declared.progress.Progress.{Progress}
use Rattle.plan.specs.declared.verdict.BadRecord.{BadRecord}
use Rattle.plan.specs.Check.{sizes_after, sets_after}

-- the bounds that progress keeps
pub record Fair (p : Progress) : Type 0 where
  pub number : p.number < 2 ^ 63
  pub nodes : p.counts.nodes ≤ most_nodes
  pub can : p.counts.can ≤ p.counts.nodes
  pub tx : p.counts.tx ≤ most_tx
  pub rx : p.counts.rx ≤ most_rx
  pub signals : p.counts.signals ≤ most_signals
  pub destinations : p.counts.destinations ≤ most_destinations
  pub in_frame : p.row.signals ≤ most_in_frame
  pub of_signal : p.row.destinations ≤ most_of_signal
  pub size : p.row.size ≤ 64
  pub sized : signal_stage ≤ p.stage → 0 < p.row.size

-- those that the Tx frames' sizes keep
pub record Tables (sizes : List ℕ) : Type 0 where
  pub long : length sizes ≡ most_tx
  pub small : (i : ℕ) → get_or sizes i 0 ≤ 8

-- the Tx frames' sizes and sets after a record that was taken; a refused one leaves them
abbrev pub sizes_then : Result Progress BadRecord → Progress → List ℕ → Record → List ℕ
sizes_then (Ok q) p sizes r = sizes_after p.counts.tx sizes r
sizes_then (Err bad) p sizes r = sizes

abbrev pub sets_then : Result Progress BadRecord → Progress → List ℕ → Record → List ℕ
sets_then (Ok q) p sets r = sets_after p.row sets r
sets_then (Err bad) p sets r = sets
