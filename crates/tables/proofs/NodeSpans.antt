-- The rows of a node among the first rows of a good plan: they follow each other, and one row more keeps that.
use mathlib.Core.Path.{◌≡◌}
use mathlib.Core.Logic.{⊎_elim}
use mathlib.Core.List.{List}
use Prim.Native.Nat.{ℕ, suc, ◌+◌, ◌-◌, ◌<◌, ◌≤◌}
use native.Mathlib.Nat.{eq-or-lt_of_le}
use native.Mathlib.Omega.{arith}
use lib.ListN.{length}
use Rattle.plan.specs.Rows.{rows_of}
use Rattle.facts.specs.Good.{GoodPlan}
use Rattle.tables.specs.Reads.{row_at}
use Rattle.tables.proofs.RowFacts.{nodes_rise}

abbrev pub node_at : List ℕ → ℕ → ℕ
node_at plan r = (row_at plan r).frame.node

-- of the first k rows, those of node n are c that begin at f
pub record Among (plan : List ℕ) (n k f c : ℕ) : Type 0 where
  pub within : f + c ≤ k
  pub theirs : (i : ℕ) → i < c → node_at plan (f + i) ≡ n
  pub all : (r : ℕ) → r < k → node_at plan r ≡ n → (f ≤ r) × (r < f + c)

module _ (plan : List ℕ) (n k f c : ℕ) (p : Among plan n k f c) where
  pub Among-other : (node_at plan k ≡ n → ⊥) → Among plan n (suc k) f c
  Among-other d =
      record {
        within = omega (arith, p.within);
        theirs = p.theirs;
        all = λ r l e.
            ⊎_elim (λ (i : r ≡ k). absurd (d (rw i at e))) (λ (b : r < k). p.all r b e) (eq-or-lt_of_le (omega arith));
      }

  pub Among-first : node_at plan k ≡ n → c ≡ 0 → Among plan n (suc k) k 1
  Among-first e z =
      record {
        within = omega arith;
        theirs = λ i l. let s : k + i ≡ k = omega arith in rw s e;
        all = λ r l is.
            ⊎_elim (λ (i : r ≡ k). omega arith) (λ (b : r < k). omega (arith, p.all r b is)) (eq-or-lt_of_le (omega arith));
      }

  -- between two rows of a node there is none of another, since the nodes rise: so the last of them was the row before
  last : GoodPlan plan → k < length (rows_of plan) → node_at plan k ≡ n → 0 < c → f + c ≡ k
  last good h e some =
      ⊎_elim
      (λ (s : f + c ≡ k). s)
      (λ (b : f + c < k).
      let one = nodes_rise plan good (f + (c - 1)) (f + c) (omega arith) (omega arith) in
      let two = nodes_rise plan good (f + c) k b h in
      let is : node_at plan (f + c) ≡ n = omega (arith, p.theirs (c - 1) (omega arith)) in
      absurd (omega (arith, p.all (f + c) b is)))
      (eq-or-lt_of_le p.within)

  pub Among-next : GoodPlan plan → k < length (rows_of plan) → node_at plan k ≡ n → 0 < c → Among plan n (suc k) f (c + 1)
  Among-next good h e some =
      let end = last good h e some in
      record {
        within = omega arith;
        theirs = λ i l.
            ⊎_elim (λ (s : i ≡ c). rw (s, end) e) (λ (b : i < c). p.theirs i b) (eq-or-lt_of_le (omega arith));
        all = λ r l is.
            ⊎_elim (λ (s : r ≡ k). omega (arith, p.within)) (λ (b : r < k). omega (arith, p.all r b is)) (eq-or-lt_of_le (omega arith));
      }
