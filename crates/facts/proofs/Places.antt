-- What the order of the records gives: after a Tx frame there is no node, after an Rx frame no Tx frame, and before the first Rx frame no signal
-- and no destination.
use mathlib.Core.Path.{◌≡◌, refl, ◌∙◌}
use mathlib.Core.List.{List, [], ◌∷◌}
use mathlib.Core.Option.{Option}
use Prim.Native.Nat.{ℕ, ◌≤◌, ◌<◌}
use native.Mathlib.Omega.{arith}
use lib.Dec.{leb, ltb}
use borrow.Author.Tests.{leb-true, eqb-true}
use Rattle.base.specs.Pick.{pick}
use Rattle.records.specs.declared.record.Record.{Record}
use Rattle.records.specs.declared.record.Record.TheVariants.{Head, Node, Tx, Rx, Signal, Destination, Broken}
use Rattle.records.specs.Kinds.{stage_of}
use Rattle.plan.specs.declared.progress.Counts.{Counts}
use Rattle.plan.specs.declared.progress.Progress.{Progress}
use Rattle.plan.specs.Progress.{counted, after}
use Rattle.plan.specs.Tests.{may_stand}
use Rattle.plan.specs.Check.{sizes_after}
use Rattle.plan.specs.Rows.{claims_from}
use Rattle.plan.proofs.TestLaws.{and_both, no_fault}
use Rattle.records.proofs.Variants.{by_node, by_tx}
use Rattle.facts.specs.Good.{Placed, InPlace, signals_of, destinations_of}
use Rattle.facts.proofs.Passes.{Passes, finally, sizes_finally}

pub passes_place : (rs : List Record) (p : Progress) (sizes sets : List ℕ) → Passes p sizes sets rs → InPlace p.stage rs
unfolding Passes InPlace after
passes_place [] p sizes sets h = tt
passes_place (r ∷ rs) p sizes sets h =
    (record { known = h.0.known; whole = h.0.whole; stands = h.0.stands }, passes_place rs _ _ _ h.1)

-- ---- no kind stands after a later one

-- what follows a record is no head, what follows frames are frames, and what follows Rx frames are they and what belongs to them
pub record Later (stage : ℕ) (r : Record) : Type 0 where
  pub kind : 1 ≤ stage_of r
  pub body : 1 ≤ stage → 2 ≤ stage_of r
  pub frames : 3 ≤ stage → 3 ≤ stage_of r
  pub rows : 4 ≤ stage → 4 ≤ stage_of r

pub later : (stage : ℕ) (r : Record) → Placed stage r → Later stage r
unfolding stage_of may_stand
later stage (Head order) h = let e = eqb-true stage 0 h.stands in omega arith
later stage (Node body) h = let e = leb-true stage 2 (and_both (ltb 0 stage) (leb stage 2) h.stands).1 in omega arith
later stage (Tx x) h = let e = leb-true stage 3 (and_both (ltb 0 stage) (leb stage 3) h.stands).1 in omega arith
later stage (Rx x) h = omega arith
later stage (Signal body) h = omega arith
later stage (Destination body) h = omega arith
later stage (Broken fault) h = absurd (no_fault fault h.known h.whole)

-- what a record of a later kind leaves as it is
pub same_nodes : (c : Counts) (r : Record) → 3 ≤ stage_of r → ((counted c r).nodes ≡ c.nodes) × ((counted c r).can ≡ c.can)
unfolding stage_of counted
same_nodes c =
    by_node (λ r. 3 ≤ stage_of r → ((counted c r).nodes ≡ c.nodes) × ((counted c r).can ≡ c.can)) (λ body h. absurd (omega arith))
    (λ r no h. (no.by _ _, no.by _ _))

Same-tx : (c : Counts) (sizes : List ℕ) (r : Record) → 4 ≤ stage_of r → ((counted c r).tx ≡ c.tx) × ((t : ℕ) → sizes_after t sizes r ≡ sizes)
unfolding stage_of counted sizes_after
Same-tx c sizes =
    by_tx (λ r. 4 ≤ stage_of r → ((counted c r).tx ≡ c.tx) × ((t : ℕ) → sizes_after t sizes r ≡ sizes)) (λ x h. absurd (omega arith))
    (λ r no h. (no.by _ _, λ k. no.by _ _))

-- ---- so the nodes are all there when a frame is met, and the Tx frames when an Rx frame is

pub nodes_stay :
    (rs : List Record) (stage : ℕ) (c : Counts) → InPlace stage rs → 3 ≤ stage → ((finally c rs).nodes ≡ c.nodes) × ((finally c rs).can ≡ c.can)
unfolding InPlace finally
nodes_stay [] stage c h l = (refl, refl)
nodes_stay (r ∷ rs) stage c h l =
    let k = (later stage r h.0).frames l in
    let rest = nodes_stay rs (stage_of r) (counted c r) h.1 k in
    let here = same_nodes c r k in
    (rest.0 ∙ here.0, rest.1 ∙ here.1)

pub tx_stay : (rs : List Record) (stage : ℕ) (c : Counts) → InPlace stage rs → 4 ≤ stage → (finally c rs).tx ≡ c.tx
unfolding InPlace finally
tx_stay [] stage c h l = refl
tx_stay (r ∷ rs) stage c h l =
    let k = (later stage r h.0).rows l in
    tx_stay rs (stage_of r) (counted c r) h.1 k ∙ (Same-tx c [] r k).0

pub sizes_stay : (rs : List Record) (stage : ℕ) (c : Counts) (sizes : List ℕ) → InPlace stage rs → 4 ≤ stage → sizes_finally c sizes rs ≡ sizes
unfolding InPlace sizes_finally
sizes_stay [] stage c sizes h l = refl
sizes_stay (r ∷ rs) stage c sizes h l =
    let k = (later stage r h.0).rows l in
    sizes_stay rs (stage_of r) (counted c r) (sizes_after c.tx sizes r) h.1 k ∙ (Same-tx c sizes r k).1 c.tx

-- ---- where no Rx frame is being read nothing is left of one, and where no signal is, no destination

pub record Nothing (rs : List Record) : Type 0 where
  pub signals : signals_of rs ≡ 0
  pub destinations : destinations_of rs ≡ 0
  pub claims : (n : ℕ) (w : Option ℕ) (p s : ℕ) → claims_from n w p s rs ≡ []

pub nothing : (rs : List Record) (stage : ℕ) → InPlace stage rs → stage < 4 → Nothing rs
unfolding InPlace signals_of destinations_of claims_from stage_of may_stand pick
nothing [] stage h l = record { signals = refl; destinations = refl; claims = λ n w p s. refl }
nothing (Head order ∷ rs) stage h l = record { signals = refl; destinations = refl; claims = λ n w p s. refl }
nothing (Node body ∷ rs) stage h l = record { signals = refl; destinations = refl; claims = λ n w p s. refl }
nothing (Tx x ∷ rs) stage h l = record { signals = refl; destinations = refl; claims = λ n w p s. refl }
nothing (Rx x ∷ rs) stage h l = record { signals = refl; destinations = refl; claims = λ n w p s. refl }
nothing (Signal body ∷ rs) stage h l = let e = leb-true 4 stage h.0.stands in absurd (omega arith)
nothing (Destination body ∷ rs) stage h l = let e = leb-true 5 stage h.0.stands in absurd (omega arith)
nothing (Broken fault ∷ rs) stage h l = absurd (no_fault fault h.0.known h.0.whole)

pub no_destinations : (rs : List Record) (stage : ℕ) → InPlace stage rs → stage < 5 → destinations_of rs ≡ 0
unfolding InPlace destinations_of stage_of may_stand pick
no_destinations [] stage h l = refl
no_destinations (Head order ∷ rs) stage h l = refl
no_destinations (Node body ∷ rs) stage h l = refl
no_destinations (Tx x ∷ rs) stage h l = refl
no_destinations (Rx x ∷ rs) stage h l = refl
no_destinations (Signal body ∷ rs) stage h l = refl
no_destinations (Destination body ∷ rs) stage h l = let e = leb-true 5 stage h.0.stands in absurd (omega arith)
no_destinations (Broken fault ∷ rs) stage h l = absurd (no_fault fault h.0.known h.0.whole)
