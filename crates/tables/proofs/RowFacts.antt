-- The rows of a good plan by their numbers: their frames are in range, their nodes rise, and of one node their IDs.
use mathlib.Core.Path.{◌≡◌}
use mathlib.Core.Bool.{true}
use mathlib.Core.List.{List, [], ◌∷◌}
use Prim.Native.Nat.{ℕ, zero, suc, ◌<◌, ◌≤◌}
use native.Mathlib.Omega.{arith}
use lib.ListN.{length, get_or}
use Rattle.records.specs.declared.record.Record.{Record}
use Rattle.records.specs.Records.{records}
use Rattle.records.specs.Ids.{Possible, Before, key_of}
use Rattle.records.proofs.IdLaws.{key_four, key_before}
use Rattle.plan.specs.Progress.{row_key}
use Rattle.plan.specs.Tests.{in_range}
use Rattle.plan.specs.Rows.{Row, row_of, rows_from, rows_of, nodes_in, no_row}
use Rattle.plan.proofs.TestLaws.{RxRanges, rx_ranges}
use Rattle.facts.specs.Good.{Each, Rising, GoodPlan}
use Rattle.facts.proofs.Lists.{each_at}
use Rattle.tables.specs.Reads.{row_at}
use Rattle.tables.proofs.RxSide.{Kind, frame, other, kind}

abbrev pub Ranged : ℕ → List Row → Type 0
Ranged m rows = Each (λ (s : Row). RxRanges m s.frame) rows

pub rows_range : (m n : ℕ) (rs : List Record) → Each (λ r. in_range m r ≡ true) rs → Ranged m (rows_from n rs)
unfolding Each rows_from row_of in_range
rows_range m n [] h = tt
rows_range m n (r ∷ rs) h = go (kind 0 r) (λ k. rows_range m k rs h.1)
  where
    go : Kind 0 r → ((k : ℕ) → Ranged m (rows_from k rs)) → Ranged m (rows_from n (r ∷ rs))
    go (frame x e) ih = rw e (rx_ranges m x (rw e at h.0), ih (suc n))
    go (other none s) ih = rw (none n rs) (ih n)

rising_at :
    (rows : List Row) (d : Row) (i j : ℕ) → Rising rows → i < j → j < length rows → row_key (get_or rows i d).frame < row_key (get_or rows j d).frame
unfolding Rising
rising_at [] d i j s l h = absurd (omega arith)
rising_at (r ∷ rs) d i zero s l h = absurd (omega arith)
rising_at (r ∷ rs) d zero (suc j) s l h = each_at (λ (q : Row). row_key r.frame < row_key q.frame) rs d j (omega arith) s.0
rising_at (r ∷ rs) d (suc i) (suc j) s l h = rising_at rs d i j s.1 (omega arith) (omega arith)

module _ (plan : List ℕ) (good : GoodPlan plan) where
  pub row_ranges : (r : ℕ) → r < length (rows_of plan) → RxRanges (nodes_in (records plan)) (row_at plan r).frame
  unfolding rows_of
  row_ranges r h = each_at _ (rows_of plan) no_row r h (rows_range _ 0 (records plan) good.ranges)

  pub row_node : (r : ℕ) → r < length (rows_of plan) → (row_at plan r).frame.node < 16
  row_node r h = omega (arith, (row_ranges r h).node, good.counts.nodes)

  pub row_possible : (r : ℕ) → r < length (rows_of plan) → Possible (row_at plan r).frame.id
  row_possible r h = (row_ranges r h).id

  module _ (i j : ℕ) (l : i < j) (h : j < length (rows_of plan)) where
    pub nodes_rise : (row_at plan i).frame.node ≤ (row_at plan j).frame.node
    unfolding row_key
    nodes_rise =
        omega (arith, rising_at (rows_of plan) no_row i j good.rising l h, key_four (row_at plan i).frame.id, key_four (row_at plan j).frame.id)

    -- the one fact about ordered rows: within a node their keys rise
    pub keys_rise : (row_at plan i).frame.node ≡ (row_at plan j).frame.node → key_of (row_at plan i).frame.id < key_of (row_at plan j).frame.id
    unfolding row_key
    keys_rise e = omega (arith, rising_at (rows_of plan) no_row i j good.rising l h)

    pub ids_rise : (row_at plan i).frame.node ≡ (row_at plan j).frame.node → Before (row_at plan i).frame.id (row_at plan j).frame.id
    ids_rise e = (key_before _ _ (row_possible i (omega arith))).0 (keys_rise e)
