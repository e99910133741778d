-- Which bits have an owner, in words of the records.
use Rattle.std.specs.Prelude.{◌≡◌, ◌↔◌, List, ◌∷◌, ◌++◌, ℕ, ◌+◌, ◌≤◌, ◌<◌}
use Rattle.records.specs.declared.record.RxFrame.{RxFrame}
use Rattle.records.specs.declared.record.SignalBody.{SignalBody}
use Rattle.records.specs.declared.record.Record.{Record}
use Rattle.records.specs.declared.record.Record.TheVariants.{Rx, Signal, Destination}
use Rattle.plan.specs.Rows.{copy, failure, Claim}
use Rattle.facts.specs.Good.{Each, Holds}
use Rattle.claims.specs.Claims.{IsDestination}

-- a list has an element
abbrev pub Has : {A : Type 0} → List A → A → Type 0
Has {A} xs x = (front : List A) × (rest : List A) × (xs ≡ front ++ x ∷ rest)

-- the bits that a claim holds: those of the signal's size from its position on, or the one of the failure
pub record Bits (c : Claim) (t b : ℕ) : Type 0 where
  pub copied : (p s : ℕ) → c.from ≡ copy p s → Holds c t b ↔ ((c.tx ≡ t) × (c.at ≤ b) × (b < c.at + s))
  pub failed : c.from ≡ failure → Holds c t b ↔ ((c.tx ≡ t) × (b ≡ c.at))

-- bit b of Tx frame t has an owner
pub data Owner (rs : List Record) (t b : ℕ) : Type 0 where
  -- "A destination owns its bits in the Tx frame.": as many as the last signal before it has
  destination : (upto dests rest : List Record) (g : SignalBody) (q : ℕ)
      → rs ≡ upto ++ Signal g ∷ (dests ++ Destination (record { tx = record { 0 = t }; position = q }) ∷ rest)
      → Each IsDestination dests → q ≤ b → b < q + g.size → Owner rs t b
  -- "An enabled failure indicator owns one bit, at its position, in the Tx frame of the first destination of its frame's first signal."
  indicator : (front rest : List Record) (x : RxFrame) (g : SignalBody) (q : ℕ)
      → rs ≡ front ++ Rx x ∷ Signal g ∷ Destination (record { tx = record { 0 = t }; position = q }) ∷ rest
      → x.enable ≡ 1 → b ≡ x.position → Owner rs t b
