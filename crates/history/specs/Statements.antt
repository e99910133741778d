-- Demand 3: "Over any calls since the last successful opening, every kept payload bit equals the bit worked out afresh from the history." The
-- calls are any, on any area, openings among them, good and refused.
use Rattle.std.specs.Prelude.{◌≡◌, ◌≢◌, List, ℕ, ◌<◌, length}
use Rattle.std.proofs.Math.Option.{some}
use Rattle.records.specs.declared.record.Id.{Id}
use Rattle.records.specs.declared.record.Id.TheVariants.{Standard}
use Rattle.bits.specs.Payload.{bit_at}
use Rattle.records.specs.Records.{records}
use Rattle.plan.specs.Rows.{tx_of, order_in}
use Rattle.area.specs.Layout.{spot}
use Rattle.tables.specs.Statements.{Names}
use Rattle.tables.specs.Reads.{Reads}
use Rattle.model.specs.Calls.{Step, reception, response, no_response, tick, take, fullness, call}
use Rattle.history.specs.Calls.{stepped, after_in}
use Rattle.history.specs.Past.{past_of}
use Rattle.history.specs.Fresh.{Owner, nobody, signal, indicator, owner, fresh}

-- bit b of Tx frame t's payload, as an area keeps it, in the order of the plan
abbrev pub kept_bit : List ℕ → List ℕ → ℕ → ℕ → ℕ
kept_bit plan a t b = bit_at (order_in (records plan)) a (spot t b)

abbrev pub EveryBitFresh : Type 0
EveryBitFresh =
    (a : List ℕ) (calls : List Step) (plan : List ℕ) → (past_of calls a).plan ≡ some plan → (t b : ℕ) → t < length (tx_of plan) → b < 64
    → kept_bit plan (after_in a calls) t b ≡ fresh plan (past_of calls a).log t b

-- the area still holds the plan last opened: every table says what the plan says
abbrev pub PlanStays : Type 0
PlanStays = (a : List ℕ) (calls : List Step) (plan : List ℕ) → (past_of calls a).plan ≡ some plan → Reads plan (after_in a calls)

-- ---- "A reception alters only bits owned by its frame, a tick only failure bits, a take none.": so does a response, and "no response" only its frame's
-- failure bit

-- a bit that Rx frame r owns, as a signal's or as its failure bit
unfoldable pub OwnedBy : ℕ → Owner → Type 0
OwnedBy r nobody = ⊥
OwnedBy r (signal q k) = r ≡ q
OwnedBy r (indicator q) = r ≡ q

unfoldable pub IsIndicator : Owner → Type 0
IsIndicator nobody = ⊥
IsIndicator (signal r k) = ⊥
IsIndicator (indicator r) = Unit {0}

-- of an area that some calls left, with the plan last opened there
pub record OnlyTheirs (plan a : List ℕ) (t b : ℕ) : Type 0 where
  pub reception : (n : ℕ) (id : Id) (payload : List ℕ) → ((r : ℕ) → Names plan n id r → OwnedBy r (owner plan t b) → ⊥)
      → kept_bit plan (stepped a (call (reception n id payload))) t b ≡ kept_bit plan a t b
  pub response : (n id : ℕ) (payload : List ℕ) (sum : ℕ) → ((r : ℕ) → Names plan n (Standard id) r → OwnedBy r (owner plan t b) → ⊥)
      → kept_bit plan (stepped a (call (response n id payload sum))) t b ≡ kept_bit plan a t b
  pub no_response : (n id : ℕ) → ((r : ℕ) → Names plan n (Standard id) r → owner plan t b ≢ indicator r)
      → kept_bit plan (stepped a (call (no_response n id))) t b ≡ kept_bit plan a t b
  pub tick : (report : List ℕ) → (IsIndicator (owner plan t b) → ⊥) → kept_bit plan (stepped a (call (tick report))) t b ≡ kept_bit plan a t b
  pub take : (n : ℕ) → kept_bit plan (stepped a (call (take n))) t b ≡ kept_bit plan a t b
  pub fullness : (x : ℕ) → kept_bit plan (stepped a (call (fullness x))) t b ≡ kept_bit plan a t b

abbrev pub CallsAlterTheirs : Type 0
CallsAlterTheirs =
    (a : List ℕ) (calls : List Step) (plan : List ℕ) → (past_of calls a).plan ≡ some plan → (t b : ℕ) → t < length (tx_of plan) → b < 64
    → OnlyTheirs plan (after_in a calls) t b
