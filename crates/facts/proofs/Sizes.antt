-- The Tx frames' sizes that the check has at the end are those of the plan's Tx frames.
use mathlib.Core.Path.{◌≡◌, refl, ap, ◌∙◌}
use mathlib.Core.List.{List, [], ◌∷◌}
use Prim.Native.Nat.{ℕ, zero, suc, ◌+◌, ◌≤◌, ◌<◌}
use native.Mathlib.Omega.{arith}
use lib.ListN.{length, get_or, set, length-set}
use lib.Seq.{get_or-set_same, get_or-set_other}
use Rattle.records.specs.declared.record.TxFrame.{TxFrame}
use Rattle.records.specs.declared.record.Record.{Record}
use Rattle.records.specs.declared.record.Record.TheVariants.{Head, Node, Tx, Rx, Signal, Destination, Broken}
use Rattle.plan.specs.declared.progress.Counts.{Counts}
use Rattle.plan.specs.Progress.{counted}
use Rattle.plan.specs.Check.{sizes_after}
use Rattle.plan.specs.Rows.{tx_frames}
use Rattle.records.proofs.Variants.{by_tx}
use Rattle.facts.specs.Good.{sizes_of}
use Rattle.facts.proofs.Passes.{sizes_finally}

pub sizes_length : (xs : List TxFrame) → length (sizes_of xs) ≡ length xs
unfolding sizes_of
sizes_length [] = refl
sizes_length (x ∷ xs) = ap suc (sizes_length xs)

-- a size that is known stays
low_after : (c : Counts) (sizes : List ℕ) (r : Record) (t : ℕ) → t < c.tx → (get_or (sizes_after c.tx sizes r) t 0 ≡ get_or sizes t 0) × (t < (counted c r).tx)
unfolding sizes_after counted
low_after c sizes =
    by_tx (λ r. (t : ℕ) → t < c.tx → (get_or (sizes_after c.tx sizes r) t 0 ≡ get_or sizes t 0) × (t < (counted c r).tx))
    (λ x t l. (get_or-set_other sizes c.tx t x.size 0 (omega arith), omega arith))
    (λ r no t l. (ap (λ (xs : List ℕ). get_or xs t 0) (no.by _ _), rw (no.by c.tx (λ x. c.tx + 1)) l))

pub sizes_low : (rs : List Record) (c : Counts) (sizes : List ℕ) (t : ℕ) → t < c.tx → get_or (sizes_finally c sizes rs) t 0 ≡ get_or sizes t 0
unfolding sizes_finally
sizes_low [] c sizes t l = refl
sizes_low (r ∷ rs) c sizes t l = let h = low_after c sizes r t l in sizes_low rs _ _ t h.1 ∙ h.0

-- and those to come are stored one after the other
pub sizes_high :
    (rs : List Record) (c : Counts) (sizes : List ℕ) (k : ℕ) → c.tx + length (tx_frames rs) ≤ length sizes → k < length (tx_frames rs)
    → get_or (sizes_finally c sizes rs) (c.tx + k) 0 ≡ get_or (sizes_of (tx_frames rs)) k 0
unfolding sizes_finally sizes_after counted tx_frames sizes_of
sizes_high [] c sizes k room l = absurd (omega arith)
sizes_high (Tx x ∷ rs) c sizes zero room l =
    let e : c.tx + 0 ≡ c.tx = omega arith in
    rw e (sizes_low rs (counted c (Tx x)) (set sizes c.tx x.size) c.tx (omega arith) ∙ get_or-set_same sizes c.tx x.size 0 (omega arith))
sizes_high (Tx x ∷ rs) c sizes (suc k) room l =
    let e : c.tx + suc k ≡ c.tx + 1 + k = omega arith in
    rw e (sizes_high rs (counted c (Tx x)) (set sizes c.tx x.size) k (simp length-set (omega arith)) (omega arith))
sizes_high (Head order ∷ rs) c sizes k room l = sizes_high rs c sizes k room l
sizes_high (Node body ∷ rs) c sizes k room l = sizes_high rs (counted c (Node body)) sizes k room l
sizes_high (Rx x ∷ rs) c sizes k room l = sizes_high rs (counted c (Rx x)) sizes k room l
sizes_high (Signal body ∷ rs) c sizes k room l = sizes_high rs (counted c (Signal body)) sizes k room l
sizes_high (Destination body ∷ rs) c sizes k room l = sizes_high rs (counted c (Destination body)) sizes k room l
sizes_high (Broken fault ∷ rs) c sizes k room l = sizes_high rs c sizes k room l
