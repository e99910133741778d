-- The state of a gateway: what the calls move, in lists and numbers, with no byte of an area in it.
use Rattle.std.specs.Prelude.{ℕ, List, [], get_or, set}
use Rattle.records.specs.declared.record.Entry.{Entry}

pub record State : Type 0 where
  -- the number of the next tick
  pub number : ℕ
  -- of each Tx frame: its kept payload, eight bytes, and what its timer holds
  pub kept : List (List ℕ)
  pub tx_timers : List ℕ
  -- of each Rx frame: what its timer and its long counter hold
  pub rx_timers : List ℕ
  pub longs : List ℕ
  -- of each node: the Tx frames and requests that wait, the oldest first
  pub queues : List (List Entry)

abbrev pub kept_of : State → ℕ → List ℕ
kept_of s t = get_or s.kept t []

abbrev pub queue_on : State → ℕ → List Entry
queue_on s n = get_or s.queues n []

-- ---- one thing replaced

abbrev pub with_kept : State → ℕ → List ℕ → State
with_kept s t v = record { number = s.number; kept = set s.kept t v; tx_timers = s.tx_timers; rx_timers = s.rx_timers; longs = s.longs; queues = s.queues }

abbrev pub with_tx_timer : State → ℕ → ℕ → State
with_tx_timer s t v =
    record { number = s.number; kept = s.kept; tx_timers = set s.tx_timers t v; rx_timers = s.rx_timers; longs = s.longs; queues = s.queues }

abbrev pub with_rx_timer : State → ℕ → ℕ → State
with_rx_timer s r v =
    record { number = s.number; kept = s.kept; tx_timers = s.tx_timers; rx_timers = set s.rx_timers r v; longs = s.longs; queues = s.queues }

abbrev pub with_long : State → ℕ → ℕ → State
with_long s r v = record { number = s.number; kept = s.kept; tx_timers = s.tx_timers; rx_timers = s.rx_timers; longs = set s.longs r v; queues = s.queues }

abbrev pub with_queue : State → ℕ → List Entry → State
with_queue s n q = record { number = s.number; kept = s.kept; tx_timers = s.tx_timers; rx_timers = s.rx_timers; longs = s.longs; queues = set s.queues n q }

abbrev pub with_number : State → ℕ → State
with_number s k = record { number = k; kept = s.kept; tx_timers = s.tx_timers; rx_timers = s.rx_timers; longs = s.longs; queues = s.queues }
