-- What a good plan says of its nodes, its Tx frames, its rows and their claims, by number.
use mathlib.Core.Path.{◌≡◌, sym, subst, ◌∙◌}
use mathlib.Core.List.{List, [], ◌∷◌, ◌++◌}
use Prim.Native.Nat.{ℕ, zero, suc, ◌≤◌, ◌<◌}
use native.Mathlib.Omega.{arith}
use lib.Dec.{ltb}
use lib.ListN.{length, get_or}
use borrow.Author.Tests.{le-ltb}
use Rattle.base.specs.Pick.{pick}
use Rattle.base.proofs.Picks.{passes}
use Rattle.records.specs.declared.record.NodeType.{NodeType}
use Rattle.records.specs.declared.record.NodeType.TheVariants.{Can, Lin}
use Rattle.records.specs.declared.record.TxFrame.{TxFrame}
use Rattle.records.specs.declared.record.Record.{Record}
use Rattle.records.specs.Records.{records}
use Rattle.records.proofs.Variants.{by_tx, by_rx}
use Rattle.plan.specs.Rows.{Claim, Row, all_claims, claims_of, row_of, rows_from, rows_of, tx_frames, tx_of, nodes_in, cans_in, types_in}
use Rattle.plan.proofs.TestLaws.{TxRanges}
use Rattle.facts.specs.Good.{Each, OnLin, InLinRange, GoodPlan}
use Rattle.facts.specs.Statements.{Small}
use Rattle.facts.proofs.Lists.{each_at}
use Rattle.facts.proofs.Lin.{types_by_number, cans_most}
use Rattle.facts.proofs.FactsGood.{facts_good}
use Rattle.facts.proofs.Bounds.{ranges, good_bounds}

-- ---- the nodes: first the CAN nodes, then the LIN nodes

module _ (plan : List ℕ) (good : GoodPlan plan) where
  pub good_types : (n : ℕ) → n < nodes_in (records plan) → get_or (types_in (records plan)) n Can ≡ pick (ltb n (cans_in (records plan))) Can Lin
  good_types n l = types_by_number (records plan) good.lin n l

  pub lin_node : (n : ℕ) → n < nodes_in (records plan) → cans_in (records plan) ≤ n → get_or (types_in (records plan)) n Can ≡ Lin
  lin_node n l m = good_types n l ∙ passes (ltb n (cans_in (records plan))) Can Lin (le-ltb n (cans_in (records plan)) m)

  pub cans_few : cans_in (records plan) ≤ 16
  cans_few = omega (arith, cans_most (records plan), good.counts.nodes)

-- ---- the Tx frames

pub frame_ranges : (plan : List ℕ) → GoodPlan plan → (d : TxFrame) (t : ℕ) → t < length (tx_of plan)
    → TxRanges (nodes_in (records plan)) (get_or (tx_of plan) t d)
unfolding tx_of
frame_ranges plan good d t h = each_at _ _ d t h (ranges _ (records plan) good.ranges)

-- ---- the frames on a LIN node

abbrev pub TxOnLin : List NodeType → TxFrame → Type 0
TxOnLin types x = OnLin types x.node x.id x.size

Each-tx : (types : List NodeType) (rs : List Record) → Each (InLinRange types) rs → Each (TxOnLin types) (tx_frames rs)
unfolding Each tx_frames
Each-tx types [] h = tt
Each-tx types (r ∷ rs) h =
    by_tx (λ r. InLinRange types r → Each (TxOnLin types) (tx_frames (r ∷ rs))) (λ x on. (on, Each-tx types rs h.1))
    (λ r no on. subst (Each (TxOnLin types)) (sym (no.by _ _)) (Each-tx types rs h.1)) r h.0

abbrev pub RowOnLin : List NodeType → Row → Type 0
RowOnLin types row = OnLin types row.frame.node row.frame.id row.frame.size

Each-row : (types : List NodeType) (n : ℕ) (rs : List Record) → Each (InLinRange types) rs → Each (RowOnLin types) (rows_from n rs)
unfolding Each rows_from row_of
Each-row types n [] h = tt
Each-row types n (r ∷ rs) h =
    by_rx (λ r. InLinRange types r → Each (RowOnLin types) (rows_from n (r ∷ rs))) (λ x on. (on, Each-row types (suc n) rs h.1))
    (λ r no on. subst (Each (RowOnLin types)) (sym (no.by _ _)) (Each-row types n rs h.1)) r h.0

module _ (plan : List ℕ) (good : GoodPlan plan) where
  pub tx_on_lin : (d : TxFrame) (t : ℕ) → t < length (tx_of plan) → TxOnLin (types_in (records plan)) (get_or (tx_of plan) t d)
  unfolding tx_of
  tx_on_lin d t l = each_at _ _ d t l (Each-tx (types_in (records plan)) (records plan) good.lin_ranges)

  pub row_on_lin : (d : Row) (r : ℕ) → r < length (rows_of plan) → RowOnLin (types_in (records plan)) (get_or (rows_of plan) r d)
  unfolding rows_of
  row_on_lin d r l = each_at _ _ d r l (Each-row (types_in (records plan)) 0 (records plan) good.lin_ranges)

-- ---- what holds of each claim of the plan holds of each of a row

Each-left : (Q : Claim → Type 0) (xs ys : List Claim) → Each Q (xs ++ ys) → Each Q xs
unfolding Each
Each-left Q [] ys h = tt
Each-left Q (x ∷ xs) ys h = (h.0, Each-left Q xs ys h.1)

Each-right : (Q : Claim → Type 0) (xs ys : List Claim) → Each Q (xs ++ ys) → Each Q ys
unfolding Each
Each-right Q [] ys h = h
Each-right Q (x ∷ xs) ys h = Each-right Q xs ys h.1

pub row_each : (Q : Claim → Type 0) (rs : List Row) (d : Row) (r : ℕ) → r < length rs → Each Q (all_claims rs) → Each Q (get_or rs r d).claims
unfolding all_claims
row_each Q [] d r l h = absurd (omega arith)
row_each Q (x ∷ rs) d zero l h = Each-left Q x.claims (all_claims rs) h
row_each Q (x ∷ rs) d (suc r) l h = row_each Q rs d r (omega arith) (Each-right Q x.claims (all_claims rs) h)

pub claims_small : (plan : List ℕ) → GoodPlan plan → Each Small (claims_of plan)
claims_small plan good = (good_bounds plan _ _ _ (facts_good plan good)).claims

pub row_small : (plan : List ℕ) → GoodPlan plan → (d : Row) (r : ℕ) → r < length (rows_of plan) → Each Small (get_or (rows_of plan) r d).claims
unfolding claims_of
row_small plan good d r l = row_each Small (rows_of plan) d r l (claims_small plan good)
