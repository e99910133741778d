-- What a test that is passed says of the fields.
use mathlib.Core.Path.{◌≡◌, refl}
use mathlib.Core.Bool.{Bool, true, false, ◌&&◌, false≢true}
use mathlib.Core.List.{List}
use Prim.Native.Nat.{ℕ, ◌≤◌, ◌<◌}
use native.Mathlib.Omega.{arith}
use borrow.Author.Tests.{ltb-true, leb-true, lt-ltb}
use Rattle.records.specs.declared.record.Id.{Id}
use Rattle.records.specs.declared.record.Id.TheVariants.{Standard, Extended}
use Rattle.records.specs.declared.record.TxFrame.{TxFrame}
use Rattle.records.specs.declared.record.RxFrame.{RxFrame}
use Rattle.records.specs.declared.record.Fault.{Fault}
use Rattle.records.specs.declared.record.Fault.TheVariants.{End, BadKind, Cut}
use Rattle.records.specs.declared.record.Record.TheVariants.{Broken}
use Rattle.records.specs.Ids.{Possible}
use Rattle.plan.specs.Limits.{id_range, extended_id_range}
use Rattle.plan.specs.Tests.{is_kind, is_whole, is_prescaler, zero_past, id_in_range, tx_in_range, rx_in_range}

-- two tests that are passed together are passed
pub and_both : (x y : Bool) → (x && y) ≡ true → (x ≡ true) × (y ≡ true)
and_both true y e = (refl, e)
and_both false y e = absurd (false≢true e)

-- past eight bytes there is none
pub zero_full : (size : ℕ) (b : List ℕ) → 8 ≤ size → true ≡ zero_past size b
unfolding zero_past
zero_full size b h =
    rw (
      lt-ltb 0 size (omega arith),
      lt-ltb 1 size (omega arith),
      lt-ltb 2 size (omega arith),
      lt-ltb 3 size (omega arith),
      lt-ltb 4 size (omega arith),
      lt-ltb 5 size (omega arith),
      lt-ltb 6 size (omega arith),
      lt-ltb 7 size (omega arith),
    )

-- no broken record has a kind and is whole
pub no_fault : (fault : Fault) → is_kind (Broken fault) ≡ true → is_whole (Broken fault) ≡ true → ⊥
unfolding is_kind is_whole
no_fault End known whole = false≢true known
no_fault BadKind known whole = false≢true known
no_fault (Cut kind) known whole = false≢true whole

pub id_possible : (id : Id) → id_in_range id ≡ true → Possible id
unfolding id_in_range Possible
id_possible (Standard n) e = omega (arith, ltb-true n id_range e)
id_possible (Extended n) e = omega (arith, ltb-true n extended_id_range e)

pub record TxRanges (nodes : ℕ) (x : TxFrame) : Type 0 where
  pub node : x.node < nodes
  pub id : Possible x.id
  pub size : x.size ≤ 8
  pub prescaler : is_prescaler x.prescaler ≡ true
  pub flags : x.flags ≤ 3
  pub payload : zero_past x.size x.payload ≡ true

pub tx_ranges : (nodes : ℕ) (x : TxFrame) → tx_in_range nodes x ≡ true → TxRanges nodes x
unfolding tx_in_range
tx_ranges nodes x e =
    let a = and_both _ _ e in
    let b = and_both _ _ a.0 in
    let c = and_both _ _ b.0 in
    let d = and_both _ _ c.0 in
    let f = and_both _ _ d.0 in
    record {
      node = ltb-true _ _ f.0;
      id = id_possible _ f.1;
      size = leb-true _ _ d.1;
      prescaler = c.1;
      flags = leb-true _ _ b.1;
      payload = a.1;
    }

pub record RxRanges (nodes : ℕ) (x : RxFrame) : Type 0 where
  pub node : x.node < nodes
  pub id : Possible x.id
  pub size : x.size ≤ 8
  pub prescaler : is_prescaler x.prescaler ≡ true
  pub enable : x.enable ≤ 1
  pub position : x.position ≤ 63
  pub long : x.long ≤ 15

pub rx_ranges : (nodes : ℕ) (x : RxFrame) → rx_in_range nodes x ≡ true → RxRanges nodes x
unfolding rx_in_range
rx_ranges nodes x e =
    let a = and_both _ _ e in
    let b = and_both _ _ a.0 in
    let c = and_both _ _ b.0 in
    let d = and_both _ _ c.0 in
    let f = and_both _ _ d.0 in
    let g = and_both _ _ f.0 in
    record {
      node = ltb-true _ _ g.0;
      id = id_possible _ g.1;
      size = leb-true _ _ f.1;
      prescaler = d.1;
      enable = leb-true _ _ c.1;
      position = leb-true _ _ b.1;
      long = leb-true _ _ a.1;
    }
