-- The ranges: a frame is judged by the nodes before it, which are all the nodes there are, and of which the CAN nodes are all CAN nodes.
use mathlib.Core.Path.{◌≡◌, refl, ap, ◌∙◌}
use mathlib.Core.Bool.{true}
use mathlib.Core.List.{List, [], ◌∷◌}
use Prim.Native.Nat.{ℕ, ◌≤◌}
use native.Mathlib.Omega.{arith}
use Rattle.records.specs.declared.record.Record.{Record}
use Rattle.records.specs.declared.record.Record.TheVariants.{Head, Node, Tx, Rx, Signal, Destination, Broken}
use Rattle.records.specs.Kinds.{stage_of}
use Rattle.plan.specs.declared.progress.Counts.{Counts}
use Rattle.plan.specs.declared.progress.Progress.{Progress}
use Rattle.plan.specs.Progress.{counted, after}
use Rattle.plan.specs.Tests.{tx_in_range, rx_in_range, in_range, frame_fits, fits_node}
use Rattle.facts.specs.Good.{Each, InPlace}
use Rattle.facts.proofs.Passes.{Passes, finally}
use Rattle.facts.proofs.Places.{passes_place, same_nodes, nodes_stay}

-- only a frame has a node
range_by : (m n : ℕ) (r : Record) → (3 ≤ stage_of r → m ≡ n) → in_range m r ≡ in_range n r
unfolding in_range stage_of
range_by m n (Head order) h = refl
range_by m n (Node body) h = refl
range_by m n (Tx x) h = ap (λ (k : ℕ). tx_in_range k x) (h (omega arith))
range_by m n (Rx x) h = ap (λ (k : ℕ). rx_in_range k x) (h (omega arith))
range_by m n (Signal body) h = refl
range_by m n (Destination body) h = refl
range_by m n (Broken fault) h = refl

pub range_same : (c : Counts) (r : Record) (rs : List Record) → InPlace (stage_of r) rs → in_range (finally (counted c r) rs).nodes r ≡ in_range c.nodes r
range_same c r rs i = range_by _ _ r (λ k. (nodes_stay rs (stage_of r) (counted c r) i k).0 ∙ (same_nodes c r k).0)

fits_by : (c d : Counts) (r : Record) → (3 ≤ stage_of r → c.can ≡ d.can) → fits_node c r ≡ fits_node d r
unfolding fits_node stage_of
fits_by c d (Head order) h = refl
fits_by c d (Node body) h = refl
fits_by c d (Tx x) h = ap (λ (k : ℕ). frame_fits k x.node x.id x.size) (h (omega arith))
fits_by c d (Rx x) h = ap (λ (k : ℕ). frame_fits k x.node x.id x.size) (h (omega arith))
fits_by c d (Signal body) h = refl
fits_by c d (Destination body) h = refl
fits_by c d (Broken fault) h = refl

pub fits_same : (c : Counts) (r : Record) (rs : List Record) → InPlace (stage_of r) rs → fits_node (finally (counted c r) rs) r ≡ fits_node c r
fits_same c r rs i = fits_by _ _ r (λ k. (nodes_stay rs (stage_of r) (counted c r) i k).1 ∙ (same_nodes c r k).1)

pub passes_fits :
    (rs : List Record) (p : Progress) (sizes sets : List ℕ) → Passes p sizes sets rs → Each (λ r. fits_node (finally p.counts rs) r ≡ true) rs
unfolding Passes Each finally after
passes_fits [] p sizes sets h = tt
passes_fits (r ∷ rs) p sizes sets h =
    (fits_same p.counts r rs (passes_place rs _ _ _ h.1) ∙ h.0.fits, passes_fits rs _ _ _ h.1)

pub passes_ranges :
    (rs : List Record) (p : Progress) (sizes sets : List ℕ) → Passes p sizes sets rs
    → Each (λ r. in_range (finally p.counts rs).nodes r ≡ true) rs
unfolding Passes Each finally after
passes_ranges [] p sizes sets h = tt
passes_ranges (r ∷ rs) p sizes sets h =
    (range_same p.counts r rs (passes_place rs _ _ _ h.1) ∙ h.0.range, passes_ranges rs _ _ _ h.1)
