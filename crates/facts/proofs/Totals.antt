-- The counts at the end of the check are those at its start and those of the records.
use mathlib.Core.Path.{◌≡◌, refl}
use mathlib.Core.Bool.{Bool, true, false}
use mathlib.Core.List.{List, [], ◌∷◌}
use Prim.Native.Nat.{ℕ, suc, ◌+◌}
use native.Mathlib.Omega.{arith}
use lib.Dec.{eqb}
use lib.ListN.{length}
use Rattle.base.specs.Pick.{pick}
use Rattle.records.specs.declared.record.Record.{Record}
use Rattle.records.specs.declared.record.Record.TheVariants.{Head, Node, Tx, Rx, Signal, Destination, Broken}
use Rattle.records.specs.Kinds.{stage_of}
use Rattle.plan.specs.declared.progress.Counts.{Counts}
use Rattle.plan.specs.Progress.{counted}
use Rattle.plan.proofs.TestLaws.{no_fault}
use Rattle.plan.specs.Rows.{rows_from, tx_frames, nodes_in, cans_in}
use Rattle.facts.specs.Good.{InPlace, count_of}
use Rattle.facts.proofs.Passes.{finally}

pub record Totals (c : Counts) (rs : List Record) (d : Counts) : Type 0 where
  pub nodes : d.nodes ≡ c.nodes + nodes_in rs
  pub can : d.can ≡ c.can + cans_in rs
  pub tx : d.tx ≡ c.tx + length (tx_frames rs)
  pub rx : d.rx ≡ c.rx + count_of 4 rs
  pub signals : d.signals ≡ c.signals + count_of 5 rs
  pub destinations : d.destinations ≡ c.destinations + count_of 6 rs

pub one_more : (t : Bool) (m n : ℕ) → pick t (m + 1) m + n ≡ m + pick t (suc n) n
unfolding pick
one_more true m n = omega arith
one_more false m n = refl

pub totals : (rs : List Record) (stage : ℕ) (c : Counts) → InPlace stage rs → Totals c rs (finally c rs)
unfolding finally counted nodes_in cans_in tx_frames count_of stage_of pick InPlace
totals [] stage c h = omega arith
totals (Head order ∷ rs) stage c h = let k = totals rs _ (counted c (Head order)) h.1 in omega arith
totals (Node body ∷ rs) stage c h =
    let k = totals rs _ (counted c (Node body)) h.1 in
    let more = one_more (eqb body.of 0) c.can (cans_in rs) in
    omega arith
totals (Tx x ∷ rs) stage c h = let k = totals rs _ (counted c (Tx x)) h.1 in omega arith
totals (Rx x ∷ rs) stage c h = let k = totals rs _ (counted c (Rx x)) h.1 in omega arith
totals (Signal body ∷ rs) stage c h = let k = totals rs _ (counted c (Signal body)) h.1 in omega arith
totals (Destination body ∷ rs) stage c h = let k = totals rs _ (counted c (Destination body)) h.1 in omega arith
totals (Broken fault ∷ rs) stage c h = absurd (no_fault fault h.0.known h.0.whole)

pub rows_count : (rs : List Record) (stage n : ℕ) → InPlace stage rs → length (rows_from n rs) ≡ count_of 4 rs
unfolding rows_from count_of stage_of pick InPlace
rows_count [] stage n h = refl
rows_count (Head order ∷ rs) stage n h = omega (arith, rows_count rs _ n h.1)
rows_count (Node body ∷ rs) stage n h = omega (arith, rows_count rs _ n h.1)
rows_count (Tx x ∷ rs) stage n h = omega (arith, rows_count rs _ n h.1)
rows_count (Rx x ∷ rs) stage n h = omega (arith, rows_count rs _ (suc n) h.1)
rows_count (Signal body ∷ rs) stage n h = omega (arith, rows_count rs _ n h.1)
rows_count (Destination body ∷ rs) stage n h = omega (arith, rows_count rs _ n h.1)
rows_count (Broken fault ∷ rs) stage n h = absurd (no_fault fault h.0.known h.0.whole)
