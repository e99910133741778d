-- A bit of a kept payload, worked out afresh from the plan and what has happened since it was opened. In the user's words:
-- "A signal's bit is its source bit in its source frame's last accepted reception, or the plan's initial bit if there was none. A failure bit is
-- 1 if the latest of its source's timer expiries and accepted receptions was an expiry, 0 if a reception, initial if neither. An unowned bit is
-- initial."
use Rattle.std.specs.Prelude.{ℕ, ◌+◌, ◌-◌, Bool, false, List, [], ◌∷◌, leb, ltb, eqb}
use Rattle.std.proofs.Math.Option.{Option, none, some}
use Rattle.base.specs.Pick.{pick}
use Rattle.bits.specs.Payload.{bit_at}
use Rattle.records.specs.Records.{records}
use Rattle.plan.specs.Rows.{Source, copy, failure, width_of, Claim, claims_of, order_in}
use Rattle.area.specs.Claims.{RxEvent, accepted, expired}
use Rattle.tables.specs.Reads.{initial}

-- ---- who owns a bit

-- nobody; a signal of Rx frame r, of whose payload it is bit k; the failure indicator of Rx frame r
pub data Owner : Type 0 where
  nobody : Owner
  signal : ℕ → ℕ → Owner
  indicator : ℕ → Owner

-- a claim holds bit b of Tx frame t
unfoldable pub holds : Claim → ℕ → ℕ → Bool
holds c t b = pick (eqb c.tx t) (pick (leb c.at b) (ltb b (c.at + width_of c.from)) false) false

unfoldable pub owner_from : Source → ℕ → ℕ → Owner
owner_from (copy p s) r k = signal r (p + k)
owner_from failure r k = indicator r

-- the first claim that holds the bit has it; in a good plan there is no second
unfoldable pub owner_in : List Claim → ℕ → ℕ → Owner
owner_in [] t b = nobody
owner_in (c ∷ cs) t b = pick (holds c t b) (owner_from c.from c.rx (b - c.at)) (owner_in cs t b)

unfoldable pub owner : List ℕ → ℕ → ℕ → Owner
owner plan t b = owner_in (claims_of plan) t b

-- ---- what has happened, the oldest first

-- the first, or else the second
unfoldable pub or_else {ℓ} : {A : Type ℓ} → Option A → Option A → Option A
or_else (some x) y = some x
or_else none y = y

-- the payload of Rx frame r's last accepted reception
unfoldable pub accepted_of : ℕ → RxEvent → Option (List ℕ)
accepted_of r (accepted q payload) = pick (eqb r q) (some payload) none
accepted_of r (expired q) = none

unfoldable pub last_accepted : ℕ → List RxEvent → Option (List ℕ)
last_accepted r [] = none
last_accepted r (e ∷ log) = or_else (last_accepted r log) (accepted_of r e)

-- 1 where the latest of Rx frame r's expiries and accepted receptions was an expiry, 0 where a reception
unfoldable pub failed_by : ℕ → RxEvent → Option ℕ
failed_by r (accepted q payload) = pick (eqb r q) (some 0) none
failed_by r (expired q) = pick (eqb r q) (some 1) none

unfoldable pub last_failed : ℕ → List RxEvent → Option ℕ
last_failed r [] = none
last_failed r (e ∷ log) = or_else (last_failed r log) (failed_by r e)

-- ---- the bit

unfoldable pub source_bit : ℕ → Option (List ℕ) → ℕ → ℕ → ℕ
source_bit order (some payload) k first = bit_at order payload k
source_bit order none k first = first

unfoldable pub failure_bit : Option ℕ → ℕ → ℕ
failure_bit (some x) first = x
failure_bit none first = first

unfoldable pub fresh_by : ℕ → Owner → List RxEvent → ℕ → ℕ
fresh_by order nobody log first = first
fresh_by order (signal r k) log first = source_bit order (last_accepted r log) k first
fresh_by order (indicator r) log first = failure_bit (last_failed r log) first

unfoldable pub fresh : List ℕ → List RxEvent → ℕ → ℕ → ℕ
fresh plan log t b = fresh_by (order_in (records plan)) (owner plan t b) log (initial plan t b)
