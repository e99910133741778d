-- What the rules use of a plan's frames and rows, and that a good plan has it.
use mathlib.Core.Path.{◌≡◌, refl}
use mathlib.Core.List.{List, [], ◌∷◌}
use Prim.Native.Nat.{ℕ, zero, suc, ◌+◌, ◌≤◌, ◌<◌}
use native.Mathlib.Omega.{arith}
use lib.ListN.{length, get_or}
use Rattle.records.specs.declared.record.Id.{Id}
use Rattle.records.specs.Views.{no_tx}
use Rattle.plan.specs.Progress.{row_key}
use Rattle.plan.specs.Rows.{width_of, Row, rows_of, claims_of, tx_of, no_row}
use Rattle.facts.specs.Good.{Each, Rising, GoodPlan}
use Rattle.facts.proofs.Lists.{each_at, Each-map}
use Rattle.facts.proofs.Sizes.{sizes_length}
use Rattle.facts.proofs.ByNumber.{frame_ranges, row_each, claims_small}
use Rattle.model.specs.Plan.{Plan, said, tx_in, row_in}
use Rattle.model.specs.Words.{Names}

pub record Lawful (p : Plan) : Type 0 where
  pub node : (t : ℕ) → t < length p.tx → (tx_in p t).node < p.nodes
  pub flags : (t : ℕ) → t < length p.tx → (tx_in p t).flags ≤ 3
  pub one : (n : ℕ) (id : Id) (q r : ℕ) → Names p n id q → Names p n id r → q ≡ r
  pub frame : (r : ℕ) → r < length p.rows → Each (λ c. c.tx < length p.tx) (row_in p r).claims
  pub bits : (r : ℕ) → r < length p.rows → Each (λ c. c.at + width_of c.from ≤ 64) (row_in p r).claims

-- ---- the rows: their keys rise, so two of one key are one

rows_one :
    (rs : List Row) → Rising rs → (q r : ℕ) → q < length rs → r < length rs
    → row_key (get_or rs q no_row).frame ≡ row_key (get_or rs r no_row).frame → q ≡ r
unfolding Rising
rows_one [] h q r k l e = absurd (omega arith)
rows_one (x ∷ rs) h zero zero k l e = refl
rows_one (x ∷ rs) h zero (suc r) k l e =
    let above = each_at (λ s. row_key x.frame < row_key s.frame) rs no_row r (omega arith) h.0 in absurd (omega arith)
rows_one (x ∷ rs) h (suc q) zero k l e =
    let above = each_at (λ s. row_key x.frame < row_key s.frame) rs no_row q (omega arith) h.0 in absurd (omega arith)
rows_one (x ∷ rs) h (suc q) (suc r) k l e = let same = rows_one rs h.1 q r (omega arith) (omega arith) e in omega arith

same_key : (plan : List ℕ) (n : ℕ) (i : Id) (q r : ℕ) → Names (said plan) n i q → Names (said plan) n i r
    → row_key (row_in (said plan) q).frame ≡ row_key (row_in (said plan) r).frame
unfolding row_key
same_key plan n i q r x y = rw (x.node, x.id, y.node, y.id)

-- ---- a good plan

module _ (plan : List ℕ) (good : GoodPlan plan) where
  pub lawful : Lawful (said plan)
  unfolding claims_of
  lawful =
      record {
        node = λ t h. (frame_ranges plan good no_tx t h).node;
        flags = λ t h. (frame_ranges plan good no_tx t h).flags;
        one = λ n i q r x y. rows_one (rows_of plan) good.rising q r x.exists y.exists (same_key plan n i q r x y);
        frame =
            λ r h. row_each _ (rows_of plan) no_row r h
            (Each-map (λ c f. omega (arith, sizes_length (tx_of plan), f.exists)) (claims_of plan) good.fits);
        bits =
            λ r h. row_each _ (rows_of plan) no_row r h
            (Each-map (λ c f. f.bits) (claims_of plan) (claims_small plan good));
      }
