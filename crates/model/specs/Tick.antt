-- "Tick." A timer is handled "at ticks numbered from 0 that the prescaler divides. The counter moves on last."
use Rattle.std.specs.Prelude.{ℕ, zero, suc, ◌%◌, Bool, List, [], ◌∷◌, eqb, leb, length, get_or, set, Result, Ok, Err}
use Rattle.base.specs.Pick.{pick}
use Rattle.bits.specs.Payload.{set_bit}
use Rattle.clock.specs.Timer.{lowered}
use Rattle.plan.specs.Rows.{Source, copy, failure, Claim}
use Rattle.answers.specs.declared.Refusal.{Refusal}
use Rattle.answers.specs.declared.Refusal.TheVariants.{ShortReport}
use Rattle.model.specs.Plan.{Plan, tx_in, row_in, on_lin}
use Rattle.model.specs.State.{State, kept_of, with_kept, with_tx_timer, with_rx_timer, with_long, with_number}
use Rattle.model.specs.Scheduling.{scheduled, requested}

unfoldable pub handled : State → ℕ → Bool
handled s prescaler = eqb (s.number % prescaler) 0

-- "Tx timers go first, in number order: expiry reloads and schedules."
unfoldable pub tx_lowered : Plan → State → ℕ → State
tx_lowered p s t = with_tx_timer s t (lowered (tx_in p t).reload (get_or s.tx_timers t 0))

unfoldable pub tx_turn : Plan → State → ℕ → State
tx_turn p s t =
    pick (handled s (tx_in p t).prescaler)
    (pick (eqb (get_or s.tx_timers t 0) 1) (scheduled p (tx_lowered p s t) t) (tx_lowered p s t))
    s

-- of the first n
unfoldable pub tx_turns : Plan → ℕ → State → State
tx_turns p zero s = s
tx_turns p (suc n) s = tx_turn p (tx_turns p n s) n

-- "expiry sets the enabled failure bit": of an Rx frame's claims, that of its failure
unfoldable pub failed_by : Plan → State → Claim → Source → State
failed_by p s c (copy at size) = s
failed_by p s c failure = with_kept s c.tx (set_bit p.order (kept_of s c.tx) c.at 1)

unfoldable pub failed : Plan → State → List Claim → State
failed p s [] = s
failed p s (c ∷ cs) = failed p (failed_by p s c c.from) cs

-- "and lowers the long counter if it is above 0; falling to 0 is a long timeout and the counter takes the long count again"
unfoldable pub expired : Plan → State → ℕ → State
expired p s r = with_long (failed p s (row_in p r).claims) r (lowered (row_in p r).frame.long (get_or s.longs r 0))

-- "1 short, 2 long"
unfoldable pub timeout_of : State → ℕ → ℕ
timeout_of s r = pick (eqb (get_or s.longs r 0) 1) 2 1

-- on a LIN node: "expiry queues a request, once while it waits; bit and long counter stay" (document 02, Ticket 2)
unfoldable pub rx_expiry : Plan → State → ℕ → State
rx_expiry p s r = pick (on_lin p (row_in p r).frame.node) (requested p s r) (expired p s r)

unfoldable pub rx_lowered : Plan → State → ℕ → State
rx_lowered p s r = with_rx_timer s r (lowered (row_in p r).frame.reload (get_or s.rx_timers r 0))

unfoldable pub rx_turn : Plan → State → ℕ → State
rx_turn p s r =
    pick (handled s (row_in p r).frame.prescaler)
    (pick (eqb (get_or s.rx_timers r 0) 1) (rx_expiry p (rx_lowered p s r) r) (rx_lowered p s r))
    s

unfoldable pub rx_turns : Plan → ℕ → State → State
rx_turns p zero s = s
rx_turns p (suc n) s = rx_turn p (rx_turns p n s) n

-- "0 nothing, 1 short, 2 long"; of a request: "its report byte 0" (document 02, Ticket 2)
unfoldable pub expiry_report : Plan → State → ℕ → ℕ
expiry_report p s r = pick (on_lin p (row_in p r).frame.node) 0 (timeout_of s r)

unfoldable pub report_of : Plan → State → ℕ → ℕ
report_of p s r = pick (handled s (row_in p r).frame.prescaler) (pick (eqb (get_or s.rx_timers r 0) 1) (expiry_report p s r) 0) 0

-- "The report gets one byte per Rx frame in order .. ; its further bytes stay."
unfoldable pub reported : Plan → State → ℕ → List ℕ → List ℕ
reported p s zero report = report
reported p s (suc n) report = set (reported p s n report) n (report_of p s n)

unfoldable pub ticked_state : Plan → State → State
ticked_state p s = let t = rx_turns p (length p.rows) (tx_turns p (length p.tx) s) in with_number t (suc s.number)

-- 14: "the report is shorter than the Rx frame count"
unfoldable pub tick_answer : Plan → State → List ℕ → Result (Unit {0}) Refusal
tick_answer p s report = pick (leb (length p.rows) (length report)) (Ok tt) (Err ShortReport)

unfoldable pub ticked : Plan → State → List ℕ → State
ticked p s report = pick (leb (length p.rows) (length report)) (ticked_state p s) s

unfoldable pub tick_report : Plan → State → List ℕ → List ℕ
tick_report p s report = pick (leb (length p.rows) (length report)) (reported p s (length p.rows) report) report
