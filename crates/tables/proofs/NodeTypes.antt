-- Which Rx frames are asked for: the count of CAN nodes says it as the nodes' types do.
use mathlib.Core.Path.{◌≡◌, refl}
use mathlib.Core.Bool.{Bool, true, false}
use mathlib.Core.List.{List, [], ◌∷◌}
use Prim.Native.Nat.{ℕ, ◌<◌, ◌≤◌}
use native.Mathlib.Decide.{dec_lt}
use native.Mathlib.Omega.{arith}
use borrow.Author.Tests.{ne_eqb}
use lib.Dec.{ltb, eqb}
use Rattle.base.specs.Pick.{pick}
use Rattle.base.proofs.Picks.{passes, alike}
use Rattle.records.specs.declared.record.NodeType.TheVariants.{Can, Lin}
use Rattle.records.specs.Records.{records}
use Rattle.records.specs.Nodes.{is_lin}
use Rattle.plan.specs.Rows.{Row, rows_of, nodes_in, cans_in}
use Rattle.facts.specs.Good.{Each, GoodPlan}
use Rattle.facts.proofs.ByNumber.{good_types}
use Rattle.tables.specs.Reads.{rows_on, type_at}
use Rattle.tables.proofs.RowFacts.{Ranged, rows_range}

-- a node past the last one has no row
none_past : (m n : ℕ) (rows : List Row) → Ranged m rows → m ≤ n → rows_on n rows ≡ 0
unfolding Each rows_on
none_past m n [] each h = refl
none_past m n (s ∷ rows) each h =
    let z = passes {A = ℕ} (eqb s.frame.node n) 1 0 (ne_eqb s.frame.node n (λ e. omega (arith, each.0.node))) in
    omega (arith, none_past m n rows each.1 h)

by_type : (t : Bool) (v : ℕ) → pick t 0 v ≡ pick (is_lin (pick t Can Lin)) v 0
unfolding pick is_lin
by_type true v = refl
by_type false v = refl

pub asked_by_type :
    (plan : List ℕ) → GoodPlan plan → (n : ℕ)
    → pick (ltb n (cans_in (records plan))) 0 (rows_on n (rows_of plan)) ≡ pick (is_lin (type_at plan n)) (rows_on n (rows_of plan)) 0
unfolding rows_of
asked_by_type plan good n = go (dec_lt n (nodes_in (records plan)))
  where
    go : Dec (n < nodes_in (records plan))
        → pick (ltb n (cans_in (records plan))) 0 (rows_on n (rows_of plan)) ≡ pick (is_lin (type_at plan n)) (rows_on n (rows_of plan)) 0
    go (yes h) = rw (good_types plan good n h) (by_type (ltb n (cans_in (records plan))) (rows_on n (rows_of plan)))
    go (no h) =
        let none : rows_on n (rows_of plan) ≡ 0 =
        none_past (nodes_in (records plan)) n (rows_of plan) (rows_range _ 0 (records plan) good.ranges) (omega arith) in
        rw (none, alike {A = ℕ} (ltb n (cans_in (records plan))) 0, alike {A = ℕ} (is_lin (type_at plan n)) 0)
