-- What the stage of a record says of it, and the records of a frame's own.
use mathlib.Core.Path.{◌≡◌, refl, ap}
use mathlib.Core.Logic.{◌⊎◌, inl, inr}
use mathlib.Core.Bool.{true≢false}
use mathlib.Core.List.{List, [], ◌∷◌}
use Prim.Native.Nat.{◌≤◌, ◌<◌}
use native.Mathlib.Omega.{arith}
use Rattle.records.specs.declared.record.NodeBody.{NodeBody}
use Rattle.records.specs.declared.record.SignalBody.{SignalBody}
use Rattle.records.specs.declared.record.DestinationBody.{DestinationBody}
use Rattle.records.specs.declared.record.TxFrame.{TxFrame}
use Rattle.records.specs.declared.record.RxFrame.{RxFrame}
use Rattle.records.specs.declared.record.Fault.{Fault}
use Rattle.records.specs.declared.record.Fault.TheVariants.{End, BadKind, Cut}
use Rattle.records.specs.declared.record.Record.{Record}
use Rattle.records.specs.declared.record.Record.TheVariants.{Head, Node, Tx, Rx, Signal, Destination, Broken}
use Rattle.records.specs.Kinds.{fault_stage, stage_of}
use Rattle.plan.specs.Tests.{is_whole}
use Rattle.facts.specs.Good.{Each}
use Rattle.facts.proofs.Lists.{Each-map}
use Rattle.claims.specs.Claims.{Whole, IsSignal, IsDestination, Own}

-- ---- the stage of a whole record says which it is

pub record Named (r : Record) : Type 0 where
  pub node : stage_of r ≡ 2 → (body : NodeBody) × (r ≡ Node body)
  pub tx : stage_of r ≡ 3 → (x : TxFrame) × (r ≡ Tx x)
  pub rx : stage_of r ≡ 4 → (x : RxFrame) × (r ≡ Rx x)
  pub signal : stage_of r ≡ 5 → IsSignal r
  pub destination : stage_of r ≡ 6 → IsDestination r

none_of : (r : Record) → stage_of r < 2 → Named r
none_of r l =
    record {
      node = λ e. absurd (omega arith);
      tx = λ e. absurd (omega arith);
      rx = λ e. absurd (omega arith);
      signal = λ e. absurd (omega arith);
      destination = λ e. absurd (omega arith);
    }

-- a fault that is no cut record has no stage
pub no_stage : (fault : Fault) → Whole (Broken fault) → fault_stage fault ≡ 0
no_stage End w = refl
no_stage BadKind w = refl
no_stage (Cut kind) w = absurd (w kind refl)

pub named : (r : Record) → Whole r → Named r
unfolding stage_of
named (Head order) w = none_of (Head order) (omega arith)
named (Node body) w =
    record {
      node = λ e. (body, refl);
      tx = λ e. absurd (omega arith);
      rx = λ e. absurd (omega arith);
      signal = λ e. absurd (omega arith);
      destination = λ e. absurd (omega arith);
    }
named (Tx x) w =
    record {
      node = λ e. absurd (omega arith);
      tx = λ e. (x, refl);
      rx = λ e. absurd (omega arith);
      signal = λ e. absurd (omega arith);
      destination = λ e. absurd (omega arith);
    }
named (Rx x) w =
    record {
      node = λ e. absurd (omega arith);
      tx = λ e. absurd (omega arith);
      rx = λ e. (x, refl);
      signal = λ e. absurd (omega arith);
      destination = λ e. absurd (omega arith);
    }
named (Signal body) w =
    record {
      node = λ e. absurd (omega arith);
      tx = λ e. absurd (omega arith);
      rx = λ e. absurd (omega arith);
      signal = λ e. (body, refl);
      destination = λ e. absurd (omega arith);
    }
named (Destination body) w =
    record {
      node = λ e. absurd (omega arith);
      tx = λ e. absurd (omega arith);
      rx = λ e. absurd (omega arith);
      signal = λ e. absurd (omega arith);
      destination = λ e. (body, refl);
    }
named (Broken fault) w = none_of (Broken fault) (omega (arith, no_stage fault w))

-- ---- a signal or a destination

pub on_own : (P : Record → Type 0) → ((g : SignalBody) → P (Signal g)) → ((t : DestinationBody) → P (Destination t)) → (r : Record) → Own r → P r
on_own P f g r (inl o) = rw o.1 (f o.0)
on_own P f g r (inr o) = rw o.1 (g o.0)

pub for_destination : (P : Record → Type 0) → ((t : DestinationBody) → P (Destination t)) → (r : Record) → IsDestination r → P r
for_destination P g r o = rw o.1 (g o.0)

pub own_whole : (r : Record) → Own r → Whole r
unfolding is_whole
own_whole = on_own Whole (λ g kind e. true≢false (ap is_whole e)) (λ t kind e. true≢false (ap is_whole e))

own_stage : (r : Record) → Own r → 5 ≤ stage_of r
unfolding stage_of
own_stage = on_own (λ r. 5 ≤ stage_of r) (λ g. omega arith) (λ t. omega arith)

pub own? : (r : Record) → Own r ⊎ (Own r → ⊥)
unfolding stage_of
own? (Head order) = inr (λ o. absurd (omega (arith, own_stage (Head order) o)))
own? (Node body) = inr (λ o. absurd (omega (arith, own_stage (Node body) o)))
own? (Tx x) = inr (λ o. absurd (omega (arith, own_stage (Tx x) o)))
own? (Rx x) = inr (λ o. absurd (omega (arith, own_stage (Rx x) o)))
own? (Signal body) = inl (inl (body, refl))
own? (Destination body) = inl (inr (body, refl))
own? (Broken fault) = inr (λ o. absurd (omega (arith, own_stage (Broken fault) o, no_stage fault (own_whole (Broken fault) o))))

pub destinations_own : (rs : List Record) → Each IsDestination rs → Each Own rs
destinations_own = Each-map (λ r d. inr d)

-- by the records of a frame's own, from the last on
pub by_own :
    (P : List Record → Type 0) → P [] → ((g : SignalBody) (rs : List Record) → P rs → P (Signal g ∷ rs))
    → ((t : DestinationBody) (rs : List Record) → P rs → P (Destination t ∷ rs)) → (rs : List Record) → Each Own rs → P rs
unfolding Each
by_own P e f g [] h = e
by_own P e f g (r ∷ rs) h =
    on_own (λ (y : Record). P (y ∷ rs)) (λ y. f y rs (by_own P e f g rs h.1)) (λ t. g t rs (by_own P e f g rs h.1)) r h.0
