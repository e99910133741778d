-- What a caller knows of a source, tied to the state: the payload accepted last; and of a source that is not LIN, if its timer has not expired since,
-- that it will within the bound.
use mathlib.Core.Path.{◌≡◌, refl, ap}
use mathlib.Core.Logic.{◌⊎◌, ⊎_elim}
use mathlib.Core.List.{List, []}
use mathlib.Core.Option.{Option, none, some}
use Prim.Native.Nat.{ℕ, ◌+◌, ◌≤◌, ◌<◌}
use lib.ListN.{length, get_or}
use Rattle.base.proofs.Apart.{differ}
use Rattle.plan.specs.Rows.{rows_of}
use Rattle.facts.specs.Good.{GoodPlan}
use Rattle.area.specs.Claims.{RxEvent}
use Rattle.tables.specs.Reads.{row_at}
use Rattle.model.specs.Plan.{said}
use Rattle.model.specs.State.{State}
use Rattle.model.specs.Calls.{take, fullness, Running, running}
use Rattle.model.specs.Words.{LinRow, Shape}
use Rattle.model.proofs.Meets.{runs}
use Rattle.model.proofs.Outcomes.{take_outcome, fullness_outcome}
use Rattle.history.specs.Fresh.{last_accepted, last_failed}
use Rattle.refines.proofs.Prescalers.{rx_prescaler}
use Rattle.age.specs.Acceptance.{Acceptance}
use Rattle.age.specs.AgeOfAFix.{bound}
use Rattle.age.proofs.Due.{prescaler_range, Due}

abbrev pub payload_of : Option Acceptance → Option (List ℕ)
payload_of none = none
payload_of (some x) = some x.payload

abbrev pub ages_of : Option Acceptance → ℕ
ages_of none = 0
ages_of (some x) = x.ticks

-- so many ticks are left that those since an acceptance come to the bound at most, and to more than that less one prescaler
abbrev pub Soon : List ℕ → ℕ → State → Acceptance → Type 0
Soon plan r s x =
    (ticks : ℕ) × Due (row_at plan r).frame.prescaler s.number (get_or s.rx_timers r 0) ticks × (x.ticks + ticks ≤ bound plan r)
    × (bound plan r < x.ticks + ticks + (row_at plan r).frame.prescaler)

-- or none is, since the timer has expired
abbrev pub Timed : List ℕ → ℕ → State → List RxEvent → Acceptance → Type 0
Timed plan r s log x =
    ((last_failed r log ≡ some 0) × Soon plan r s x) ⊎ ((last_failed r log ≡ some 1) × (bound plan r < x.ticks + (row_at plan r).frame.prescaler))

pub record Knows (plan : List ℕ) (r : ℕ) (s : State) (log : List RxEvent) (last : Option Acceptance) : Type 0 where
  pub payload : last_accepted r log ≡ payload_of last
  -- on LIN no acceptance loads the timer, and its expiry is a request
  pub timed : (LinRow (said plan) r → ⊥) → 0 < (row_at plan r).frame.reload → (x : Acceptance) → last ≡ some x → Timed plan r s log x

-- where nothing was accepted
pub Knows-nothing : (plan : List ℕ) (r : ℕ) (s : State) → Knows plan r s [] none
unfolding last_accepted
Knows-nothing plan r s = record { payload = refl; timed = λ c h x e. absurd (differ cc) }

pub its_prescaler : {plan : List ℕ} → GoodPlan plan → (r : ℕ) → r < length (rows_of plan) → 0 < (row_at plan r).frame.prescaler
its_prescaler {plan} good r l = (prescaler_range (rx_prescaler plan good r l)).0

-- a state whose timer and tick number are as they were
pub Knows-still :
    {plan : List ℕ} {r : ℕ} {s z : State} {log : List RxEvent} {last : Option Acceptance} → z.number ≡ s.number
    → get_or z.rx_timers r 0 ≡ get_or s.rx_timers r 0 → Knows plan r s log last → Knows plan r z log last
Knows-still e f k = record { payload = k.payload; timed = λ c h x is. rw (e, f) (k.timed c h x is) }

-- ---- a take, and a fullness

module _ {plan : List ℕ} (good : GoodPlan plan) (r : ℕ) (l : r < length (rows_of plan)) (s : State) (shape : Shape (said plan) s)
    {log : List RxEvent} {last : Option Acceptance} (k : Knows plan r s log last) where
  abbrev g : Running
  g = running (said plan)

  pub Knows-taken : (n : ℕ) → Knows plan r (g.next s (take n)) log last
  Knows-taken n =
      ⊎_elim (λ e. rw e k) (λ (e, rest, q, answer, payload, x). Knows-still x.number (ap (λ xs. get_or xs r 0) x.rx_timers) k)
      (take_outcome (said plan) g (runs plan good) s shape n)

  pub Knows-full : (t : ℕ) → Knows plan r (g.next s (fullness t)) log last
  Knows-full t = rw (fullness_outcome (said plan) g (runs plan good) s shape t) k
