-- The test of 6 fails exactly where that line applies: the check compares one number of each row, in which the key of the ID stands below the node.
use mathlib.Core.Path.{◌≡◌}
use mathlib.Core.Bool.{true, false, true≢false}
use mathlib.Core.List.{List}
use Prim.Native.Nat.{◌≤◌, ◌<◌}
use native.Mathlib.Decide.{dec_lt}
use native.Mathlib.Omega.{arith}
use Rattle.records.specs.declared.record.Id.{Id}
use Rattle.records.specs.declared.record.Id.TheVariants.{Standard, Extended}
use Rattle.records.specs.declared.record.RxFrame.{RxFrame}
use Rattle.records.specs.declared.record.Record.{Record}
use Rattle.records.specs.declared.record.Record.TheVariants.{Rx}
use Rattle.records.specs.Ids.{Before, Possible, key_of}
use Rattle.records.proofs.IdLaws.{key_before, key_four}
use Rattle.plan.specs.Progress.{row_key}
use Rattle.plan.specs.Tests.{in_range, rises}
use Rattle.facts.specs.Statements.{State}
use Rattle.refusals.specs.Before.{RxBefore}
use Rattle.refusals.specs.Fields.{Falls, NotAbove, lower_node, same_node}
use Rattle.refusals.specs.Fields as F
use Rattle.refusals.proofs.Passing.{Whole, head, node, tx_frame, rx_frame, signal, destination, row_in, counts_in, stage_in}
use Rattle.refusals.proofs.SoFar.{SoFar}
use Rattle.refusals.proofs.Fails.{Fails, most}

-- ---- an ID is not above another where its key is not

not_falls : (u v : Id) → (Before u v → ⊥) → Falls u v
unfolding Before
not_falls (Standard m) (Standard n) d = F.standard m n (omega arith)
not_falls (Standard m) (Extended n) d = absurd (d tt)
not_falls (Extended m) (Standard n) d = F.formats m n
not_falls (Extended m) (Extended n) d = F.extended m n (omega arith)

falls_not : (u v : Id) → Falls u v → Before u v → ⊥
unfolding Before
falls_not u v (F.standard m n l) b = omega arith
falls_not u v (F.extended m n l) b = omega arith
falls_not u v (F.formats m n) b = b

key_falls : (u v : Id) → Possible u → key_of v ≤ key_of u → Falls u v
key_falls u v p l = not_falls u v (λ b. omega (arith, l, (key_before u v p).1 b))

falls_key : (u v : Id) → Possible u → Falls u v → key_of v ≤ key_of u
falls_key u v p f = let d : key_of u < key_of v → ⊥ = λ l. falls_not u v f ((key_before u v p).0 l) in omega arith

-- ---- and a row is not above another where its number is not

module _ (x y : RxFrame) where
  row_below : x.node < y.node → row_key x ≤ row_key y
  unfolding row_key
  row_below l = omega (arith, key_four x.id)

  row_equal : x.node ≡ y.node → key_of x.id ≤ key_of y.id → row_key x ≤ row_key y
  unfolding row_key
  row_equal e l = omega (arith, e, l)

  same : row_key x ≤ row_key y → (x.node < y.node → ⊥) → x.node ≡ y.node
  unfolding row_key
  same l k = omega (arith, l, k, key_four y.id)

  id_most : row_key x ≤ row_key y → x.node ≡ y.node → key_of x.id ≤ key_of y.id
  unfolding row_key
  id_most l e = omega (arith, l, e)

module _ (before : List Record) (s : State) (h : SoFar before s) where
  -- the numbers that the check compares
  above : (x : RxFrame) (y : RxBefore before) → row_key x < (row_in s).floor → NotAbove before (Rx x)
  above x y m = go (dec_lt x.node y.frame.node)
    where
      l : row_key x ≤ row_key y.frame
      l = omega (arith, m, (h.reading y).floor)

      go : Dec (x.node < y.frame.node) → NotAbove before (Rx x)
      go (yes k) = lower_node x y k
      go (no k) = let e = same x y.frame l k in same_node x y e (key_falls _ _ (h.possible y) (id_most x y.frame l e))

  falls : (r : Record) → Whole r → in_range (counts_in s).nodes r ≡ true → rises (row_in s) r ≡ false → NotAbove before r
  unfolding rises in_range
  falls r (head order) i e = absurd (true≢false e)
  falls r (node body) i e = absurd (true≢false e)
  falls r (tx_frame x) i e = absurd (true≢false e)
  falls r (rx_frame x) i e = go (dec_lt (stage_in s) 4)
    where
      m : row_key x < (row_in s).floor
      m = (most _ _).says e

      go : Dec (stage_in s < 4) → NotAbove before (Rx x)
      go (yes l) = absurd (omega (arith, m, h.stands.floor l))
      go (no l) = above x (h.stands.rx (omega arith)) m
  falls r (signal g) i e = absurd (true≢false e)
  falls r (destination t) i e = absurd (true≢false e)

  not_rising : (r : Record) → NotAbove before r → rises (row_in s) r ≡ false
  unfolding rises
  not_rising r (lower_node x y l) = (most (row_in s).floor (row_key x)).back (omega (arith, row_below x y.frame l, (h.reading y).floor))
  not_rising r (same_node x y e f) =
      (most (row_in s).floor (row_key x)).back
      (omega (arith, row_equal x y.frame e (falls_key _ _ (h.possible y) f), (h.reading y).floor))

  pub order : (r : Record) → Whole r → in_range (counts_in s).nodes r ≡ true → Fails (rises (row_in s) r) (NotAbove before r)
  order r w i = record { says = falls r w i; back = not_rising r }
