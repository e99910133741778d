-- The bounds of a good plan, from its facts.
use mathlib.Core.Path.{◌≡◌, sym, subst, ◌∙◌}
use mathlib.Core.Bool.{true}
use mathlib.Core.List.{List, [], ◌∷◌}
use Prim.Native.Nat.{ℕ, zero, suc, ◌+◌, ◌≤◌, ◌<◌}
use native.Mathlib.Omega.{arith}
use lib.ListN.{length, get_or}
use Rattle.records.specs.declared.record.TxFrame.{TxFrame}
use Rattle.records.specs.declared.record.Record.{Record}
use Rattle.records.specs.declared.record.Record.TheVariants.{Head, Node, Tx, Rx, Signal, Destination, Broken}
use Rattle.records.specs.Records.{records}
use Rattle.plan.specs.Tests.{in_range}
use Rattle.plan.specs.Rows.{Row, row_of, rows_from, rows_of, claims_of, tx_frames, tx_of}
use Rattle.plan.proofs.TestLaws.{TxRanges, tx_ranges}
use Rattle.records.proofs.Variants.{by_tx}
use Rattle.facts.specs.Good.{Each, sizes_of, GoodPlan}
use Rattle.facts.specs.Statements.{Small, GoodBounds, RowNumbers}
use Rattle.facts.proofs.Lists.{Each-map}
use Rattle.facts.proofs.Totals.{rows_count}
use Rattle.facts.proofs.Lengths.{plan_length_bound}
use Rattle.facts.proofs.Sizes.{sizes_length}
use Rattle.facts.proofs.GoodFacts.{good_facts}

-- the Tx frames are in their ranges, so none has more than eight bytes
pub ranges : (n : ℕ) (rs : List Record) → Each (λ r. in_range n r ≡ true) rs → Each (TxRanges n) (tx_frames rs)
unfolding Each tx_frames in_range
ranges n [] h = tt
ranges n (r ∷ rs) h =
    by_tx (λ r. in_range n r ≡ true → Each (TxRanges n) (tx_frames (r ∷ rs))) (λ x e. (tx_ranges n x e, ranges n rs h.1))
    (λ r no e. subst (Each (TxRanges n)) (sym (no.by _ _)) (ranges n rs h.1)) r h.0

tx_size : (n : ℕ) (xs : List TxFrame) (t : ℕ) → Each (TxRanges n) xs → get_or (sizes_of xs) t 0 ≤ 8
unfolding Each sizes_of
tx_size n [] t h = omega arith
tx_size n (x ∷ xs) zero h = h.0.size
tx_size n (x ∷ xs) (suc t) h = tx_size n xs t h.1

small : (plan : List ℕ) → GoodPlan plan → Each Small (claims_of plan)
unfolding tx_of
small plan h =
    Each-map
    (λ c f. record {
      frame = omega (arith, f.exists, sizes_length (tx_frames (records plan)), h.counts.tx);
      bits = omega (arith, f.inside, tx_size _ (tx_frames (records plan)) c.tx (ranges _ (records plan) h.ranges));
    })
    (claims_of plan) h.fits

pub good_bounds : GoodBounds
unfolding tx_of rows_of
good_bounds plan n t r e =
    let h = good_facts plan n t r e in
    let f = h.0 in
    let a = h.1 in
    let k = f.counts in
    record {
      nodes = omega (arith, a.nodes, k.nodes);
      tx = omega (arith, a.tx, k.tx);
      rx = omega (arith, a.rx, k.rx);
      short = omega (arith, plan_length_bound plan f.place, rows_count (records plan) 0 0 f.place, k.nodes, k.tx, k.rx, k.signals, k.destinations);
      claims = small plan f;
    }

-- ---- the rows' numbers

rows_number : (n : ℕ) (rs : List Record) (d : Row) (k : ℕ) → k < length (rows_from n rs) → (get_or (rows_from n rs) k d).number ≡ n + k
unfolding rows_from row_of
rows_number n [] d k l = absurd (omega arith)
rows_number n (Rx x ∷ rs) d zero l = omega arith
rows_number n (Rx x ∷ rs) d (suc k) l = rows_number (suc n) rs d k (omega arith) ∙ omega arith
rows_number n (Head order ∷ rs) d k l = rows_number n rs d k l
rows_number n (Node body ∷ rs) d k l = rows_number n rs d k l
rows_number n (Tx x ∷ rs) d k l = rows_number n rs d k l
rows_number n (Signal body ∷ rs) d k l = rows_number n rs d k l
rows_number n (Destination body ∷ rs) d k l = rows_number n rs d k l
rows_number n (Broken fault ∷ rs) d k l = rows_number n rs d k l

pub row_numbers : RowNumbers
unfolding rows_of
row_numbers plan d k l = rows_number 0 (records plan) d k l ∙ omega arith
