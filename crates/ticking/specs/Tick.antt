-- "Tick. .. The counter moves on last. .. Tx timers go first, in number order: expiry reloads and schedules. Rx timers follow, in number order."
use Rattle.std.specs.Prelude.{ℕ, zero, suc, ◌+◌, Bool, List, leb, eqb, length, set, Option, Some, None, Result, Ok, Err}
use Rattle.base.specs.Pick.{pick}
use Rattle.base.specs.Numbers.{byte_at}
use Rattle.records.specs.Nodes.{is_lin}
use Rattle.clock.specs.Counter.{counter_next, no_common_bit}
use Rattle.clock.specs.Timer.{lowered}
use Rattle.area.specs.Layout.{counter_byte, requests_start, tx_reload, rx_reload, tx_timer, rx_timer, long, tx_mask, rx_mask}
use Rattle.area.specs.Layout.{marked, counter, order, type_on, tx_count, rx_count, home_node, rx_frame, claims}
use Rattle.area.specs.Queue.{scheduled, requested}
use Rattle.area.specs.Claims.{expired, all_done}
use Rattle.answers.specs.declared.Refusal.{Refusal}
use Rattle.answers.specs.declared.Refusal.TheVariants.{NotOpen, ShortReport}
use Rattle.answers.specs.declared.Timeout.{Timeout}
use Rattle.answers.specs.declared.Timeout.TheVariants.{Short, Long}

-- ---- a timer at a place

-- "A timer holding 0 is left so. Otherwise it falls by one; at 0 it has expired and takes its reload value." The places are that of its reload
-- value, and that of its count
unfoldable pub timed : List ℕ → ℕ → ℕ → List ℕ
timed a reload at = set a at (lowered (byte_at a reload) (byte_at a at))

-- ---- Tx timers

unfoldable pub tx_tick : ℕ → List ℕ → ℕ → List ℕ
tx_tick k a t =
    pick (no_common_bit k (byte_at a (tx_mask t)))
    (pick (eqb (byte_at a (tx_timer t)) 1) (scheduled (timed a (tx_reload t) (tx_timer t)) t) (timed a (tx_reload t) (tx_timer t)))
    a

-- the first n
unfoldable pub tx_ticks : ℕ → ℕ → List ℕ → List ℕ
tx_ticks k zero a = a
tx_ticks k (suc n) a = tx_tick k (tx_ticks k n a) n

-- ---- Rx timers

-- "expiry sets the enabled failure bit and lowers the long counter if it is above 0; falling to 0 is a long timeout and the counter takes the
-- long count again"
unfoldable pub long_lowered : List ℕ → ℕ → List ℕ
long_lowered a r = set a (long r) (lowered (rx_frame a r).long (byte_at a (long r)))

unfoldable pub expired_area : List ℕ → ℕ → List ℕ
expired_area a r = long_lowered (all_done (order a) (expired r) (claims a r) a) r

-- the timeout of Rx frame r
unfoldable pub timed_out : List ℕ → ℕ → Timeout
timed_out a r = pick (eqb (byte_at a (long r)) 1) Long Short

-- its byte of the report: "0 nothing, 1 short, 2 long"
unfoldable pub report_number : Option Timeout → ℕ
report_number None = 0
report_number (Some Short) = 1
report_number (Some Long) = 2

-- "1 short, 2 long"
unfoldable pub expired_report : List ℕ → ℕ → ℕ
expired_report a r = pick (eqb (byte_at a (long r)) 1) 2 1

-- whether Rx frame r is one of a LIN node
unfoldable pub rx_on_lin : List ℕ → ℕ → Bool
rx_on_lin a r = is_lin (type_on a (home_node a (requests_start + r)))

-- on a LIN node "expiry queues a request, once while it waits; bit and long counter stay" (document 02, Ticket 2)
unfoldable pub rx_expiry : List ℕ → ℕ → List ℕ
rx_expiry a r = pick (rx_on_lin a r) (requested a r) (expired_area a r)

-- "0 nothing, 1 short, 2 long"; of a request: "its report byte 0" (document 02, Ticket 2)
unfoldable pub expiry_report : List ℕ → ℕ → ℕ
expiry_report a r = pick (rx_on_lin a r) 0 (expired_report a r)

unfoldable pub rx_tick : ℕ → List ℕ → ℕ → List ℕ
rx_tick k a r =
    pick (no_common_bit k (byte_at a (rx_mask r)))
    (pick (eqb (byte_at a (rx_timer r)) 1) (rx_expiry (timed a (rx_reload r) (rx_timer r)) r) (timed a (rx_reload r) (rx_timer r)))
    a

unfoldable pub rx_report : ℕ → List ℕ → ℕ → ℕ
rx_report k a r = pick (no_common_bit k (byte_at a (rx_mask r))) (pick (eqb (byte_at a (rx_timer r)) 1) (expiry_report a r) 0) 0

unfoldable pub rx_ticks : ℕ → ℕ → List ℕ → List ℕ
rx_ticks k zero a = a
rx_ticks k (suc n) a = rx_tick k (rx_ticks k n a) n

-- "The report gets one byte per Rx frame in order: 0 nothing, 1 short, 2 long; its further bytes stay."
unfoldable pub reported : ℕ → ℕ → List ℕ → List ℕ → List ℕ
reported k zero a report = report
reported k (suc n) a report = set (reported k n a report) n (rx_report k (rx_ticks k n a) n)

-- ---- the call

unfoldable pub ticked : List ℕ → List ℕ
ticked a =
    set (rx_ticks (counter a) (rx_count a) (tx_ticks (counter a) (tx_count a) a)) counter_byte (counter_next (counter a))

-- "For calls: 11, then .. 14."
unfoldable pub tick_answer : List ℕ → List ℕ → Result (Unit {0}) Refusal
tick_answer a report = pick (marked a) (pick (leb (rx_count a) (length report)) (Ok tt) (Err ShortReport)) (Err NotOpen)

unfoldable pub ticked_area : Result (Unit {0}) Refusal → List ℕ → List ℕ
ticked_area (Ok done) a = ticked a
ticked_area (Err why) a = a

unfoldable pub ticked_report : Result (Unit {0}) Refusal → List ℕ → List ℕ → List ℕ
ticked_report (Ok done) a report = reported (counter a) (rx_count a) (tx_ticks (counter a) (tx_count a) a) report
ticked_report (Err why) a report = report
