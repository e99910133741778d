-- How the code handles sixteen timers at once: all that do not expire fall together, and then those that do expire are handled, in number order.
-- proofs/Sixteens.antt has that this is the same as one timer after the other.
use Rattle.std.specs.Prelude.{Bool, true, false, List, ℕ, zero, suc, ◌+◌, ◌-◌, ltb, eqb, replicate, set}
use Rattle.base.specs.Pick.{pick}
use Rattle.base.specs.Numbers.{byte_at}
use Rattle.clock.specs.Counter.{no_common_bit}
use Rattle.clock.specs.Timer.{lowered}
use Rattle.area.specs.Layout.{tx_reload, rx_reload, tx_timer, rx_timer, tx_mask}
use Rattle.area.specs.Queue.{scheduled}
use Rattle.ticking.specs.Tick.{tx_tick, tx_ticks, rx_expiry, expiry_report, rx_tick, rx_ticks, rx_report, reported}

-- a change at each of the n numbers from j on, in their order
unfoldable pub each : (List ℕ → ℕ → List ℕ) → ℕ → ℕ → List ℕ → List ℕ
each f j zero a = a
each f j (suc n) a = f (each f j n a) (j + n)

-- ---- one timer, by whether it is handled at this tick

-- its count, where it does not expire
unfoldable pub fallen : Bool → ℕ → ℕ
fallen handled count = pick handled (pick (ltb 1 count) (count - 1) count) count

-- 1 where it expires
unfoldable pub expiring : Bool → ℕ → ℕ
expiring handled count = pick handled (pick (eqb count 1) 1 0) 0

-- ---- the timers as one table: Rx timer r is timer 256 + r of it

unfoldable pub fell : ℕ → List ℕ → ℕ → List ℕ
fell k a j = set a (tx_timer j) (fallen (no_common_bit k (byte_at a (tx_mask j))) (byte_at a (tx_timer j)))

unfoldable pub mark_of : ℕ → List ℕ → ℕ → ℕ
mark_of k a j = expiring (no_common_bit k (byte_at a (tx_mask j))) (byte_at a (tx_timer j))

-- sixteen bytes with the marks of the n timers from j on
unfoldable pub marks_of : ℕ → ℕ → ℕ → List ℕ → List ℕ
marks_of k j zero a = replicate 16 0
marks_of k j (suc n) a = set (marks_of k j n a) n (mark_of k a (j + n))

-- whether any of the first n bytes is not 0
unfoldable pub any_of : ℕ → List ℕ → Bool
any_of zero m = false
any_of (suc n) m = pick (eqb (byte_at m n) 0) (any_of n m) true

-- a change at each of the n numbers from j on whose mark is 1
unfoldable pub each_marked : (List ℕ → ℕ → List ℕ) → List ℕ → ℕ → ℕ → List ℕ → List ℕ
each_marked f m j zero a = a
each_marked f m j (suc n) a = pick (eqb (byte_at m n) 1) (f (each_marked f m j n a) (j + n)) (each_marked f m j n a)

-- ---- a timer that holds 1 is handled: it expires

unfoldable pub tx_step : List ℕ → ℕ → List ℕ
tx_step a t = scheduled (set a (tx_timer t) (lowered (byte_at a (tx_reload t)) 1)) t

unfoldable pub rx_step : List ℕ → ℕ → List ℕ
rx_step a r = rx_expiry (set a (rx_timer r) (lowered (byte_at a (rx_reload r)) 1)) r

-- ---- the report of a part of the Rx timers

-- one timer after the other
unfoldable pub reported_from : ℕ → ℕ → ℕ → List ℕ → List ℕ → List ℕ
reported_from k j zero a report = report
reported_from k j (suc n) a report = set (reported_from k j n a report) (j + n) (rx_report k (each (rx_tick k) j n a) (j + n))

-- zeros go in first
unfoldable pub with_zeros : ℕ → ℕ → List ℕ → List ℕ
with_zeros j zero report = report
with_zeros j (suc n) report = set (with_zeros j n report) (j + n) 0

-- and then what each expiry answers
unfoldable pub marked_report : List ℕ → ℕ → ℕ → List ℕ → List ℕ → List ℕ
marked_report m j zero a report = report
marked_report m j (suc n) a report =
    pick (eqb (byte_at m n) 1)
    (set (marked_report m j n a report) (j + n) (expiry_report (each_marked rx_step m j n a) (j + n)))
    (marked_report m j n a report)

-- ---- the timers of a kind: Rx timers with the report where `rx` says so, and else Tx timers, which have none

-- the number of timer n in the one table
unfoldable pub table_of : Bool → ℕ → ℕ
table_of true n = 256 + n
table_of false n = n

unfoldable pub tick_of : Bool → ℕ → List ℕ → ℕ → List ℕ
tick_of true = rx_tick
tick_of false = tx_tick

unfoldable pub ticks_of : Bool → ℕ → ℕ → List ℕ → List ℕ
ticks_of true = rx_ticks
ticks_of false = tx_ticks

unfoldable pub step_of : Bool → List ℕ → ℕ → List ℕ
step_of true = rx_step
step_of false = tx_step

unfoldable pub tick_told : Bool → ℕ → List ℕ → ℕ → List ℕ → List ℕ
tick_told true k a n report = set report n (rx_report k a n)
tick_told false k a n report = report

unfoldable pub step_told : Bool → List ℕ → ℕ → List ℕ → List ℕ
step_told true a n report = set report n (expiry_report a n)
step_told false a n report = report

unfoldable pub reported_by : Bool → ℕ → ℕ → List ℕ → List ℕ → List ℕ
reported_by true k n a report = reported k n a report
reported_by false k n a report = report

unfoldable pub told_from : Bool → ℕ → ℕ → ℕ → List ℕ → List ℕ → List ℕ
told_from true k j n a report = reported_from k j n a report
told_from false k j n a report = report

unfoldable pub told_marked : Bool → List ℕ → ℕ → ℕ → List ℕ → List ℕ → List ℕ
told_marked true m j n a report = marked_report m j n a report
told_marked false m j n a report = report

-- zeros for the sixteen from j on
unfoldable pub cleared_by : Bool → ℕ → List ℕ → List ℕ
cleared_by true j report = with_zeros j 16 report
cleared_by false j report = report
