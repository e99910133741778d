-- The type of a node and of an Rx frame's node is the plan's.
use mathlib.Core.Path.{◌≡◌, refl, ap, ◌∙◌}
use mathlib.Core.Bool.{true, false≢true}
use mathlib.Core.List.{List}
use Prim.Native.Nat.{ℕ, ◌<◌}
use lib.ListN.{length}
use Rattle.records.specs.declared.record.NodeType.{NodeType}
use Rattle.records.specs.declared.record.NodeType.TheVariants.{Can, Lin}
use Rattle.records.specs.Records.{records}
use Rattle.records.specs.Nodes.{is_lin}
use Rattle.plan.specs.Rows.{rows_of, nodes_in}
use Rattle.area.specs.Layout.{type_on}
use Rattle.ticking.specs.Tick.{rx_on_lin}
use Rattle.tables.specs.Reads.{row_at}
use Rattle.tables.proofs.RowFacts.{row_ranges}
use Rattle.model.specs.Plan.{said, row_in, on_lin}
use Rattle.model.specs.State.{State}
use Rattle.refines.proofs.Held.{Held}

pub lin_told : (x : NodeType) → is_lin x ≡ true → x ≡ Lin
unfolding is_lin
lin_told Can e = absurd (false≢true e)
lin_told Lin e = refl

module _ {plan a : List ℕ} {s : State} (h : Held plan a s) where
  pub lin_is : (n : ℕ) → n < nodes_in (records plan) → is_lin (type_on a n) ≡ on_lin (said plan) n
  lin_is n l = ap is_lin (h.reads.header.types n l)

  pub row_lin : (r : ℕ) → r < length (rows_of plan) → rx_on_lin a r ≡ on_lin (said plan) (row_in (said plan) r).frame.node
  unfolding rx_on_lin
  row_lin r l =
      let n = (row_at plan r).frame.node in
      let m = (row_ranges plan h.good r l).node in
      ap (λ (k : ℕ). is_lin (type_on a k)) (h.reads.rx r l).home ∙ lin_is n m
