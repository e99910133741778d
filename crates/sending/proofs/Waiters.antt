-- Who can wait on a node: each of its Tx frames, and on a LIN node the request for each of its Rx frames. Each goes by its number.
use mathlib.Core.Path.{◌≡◌, sym, ap, ◌∙◌}
use mathlib.Core.List.{List}
use Prim.Native.Nat.{ℕ, ◌+◌, ◌<◌}
use native.Mathlib.Omega.{arith}
use lib.ListN.{length}
use Rattle.records.specs.declared.record.NodeType.TheVariants.{Lin}
use Rattle.plan.specs.Rows.{rows_of, tx_of}
use Rattle.area.specs.Layout.{requests_start, waiter_range}
use Rattle.tables.specs.Reads.{planned_tx, row_at, type_at}
use Rattle.sending.proofs.Plans.{Sendable}

-- number k is that of a frame or a request that can wait on node n
pub data CanWait (plan : List ℕ) (n k : ℕ) : Type 0 where
  of_frame : k < length (tx_of plan) → (planned_tx plan k).node ≡ n → CanWait plan n k
  of_request : (r : ℕ) → k ≡ requests_start + r → r < length (rows_of plan) → (row_at plan r).frame.node ≡ n → type_at plan n ≡ Lin → CanWait plan n k

module _ {plan : List ℕ} (fit : Sendable plan) where
  pub wait_small : {n k : ℕ} → CanWait plan n k → k < waiter_range
  wait_small (of_frame h e) = omega (arith, fit.tx)
  wait_small (of_request r is h e lin) = omega (arith, fit.rx)

  pub wait_node : {n k : ℕ} → CanWait plan n k → n < 16
  wait_node {n} {k} (of_frame h e) = rw (← e) (fit.node k h)
  wait_node (of_request r is h e lin) = rw (← e) (fit.row r h)

  -- and it can wait on that node only
  pub one_node : {m n k : ℕ} → CanWait plan m k → CanWait plan n k → m ≡ n
  one_node (of_frame h e) (of_frame l f) = sym e ∙ f
  one_node (of_frame h e) (of_request r is l f lin) = absurd (omega (arith, fit.tx))
  one_node (of_request r is h e lin) (of_frame l f) = absurd (omega (arith, fit.tx))
  one_node (of_request q is h e lin) (of_request r are l f lin') =
      let same : q ≡ r = omega arith in
      sym e ∙ ap (λ x. (row_at plan x).frame.node) same ∙ f
