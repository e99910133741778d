-- The counts of all records: the test of each bounds them.
use mathlib.Core.Path.{◌≡◌}
use mathlib.Core.Bool.{true}
use mathlib.Core.List.{List, [], ◌∷◌}
use Prim.Native.Nat.{ℕ, ◌≤◌}
use native.Mathlib.Omega.{arith}
use lib.Dec.{ltb}
use borrow.Author.Tests.{ltb-true}
use Rattle.records.specs.declared.record.Record.{Record}
use Rattle.records.specs.declared.record.Record.TheVariants.{Head, Node, Tx, Rx, Signal, Destination, Broken}
use Rattle.plan.specs.Limits.{most_nodes, most_tx, most_rx, most_signals, most_in_frame, most_destinations, most_of_signal}
use Rattle.plan.specs.declared.progress.Counts.{Counts}
use Rattle.plan.specs.declared.progress.RowSoFar.{RowSoFar}
use Rattle.plan.specs.declared.progress.Progress.{Progress}
use Rattle.plan.specs.Progress.{counted, after}
use Rattle.plan.specs.Tests.{has_room}
use Rattle.plan.proofs.TestLaws.{and_both}
use Rattle.facts.specs.Good.{InPlace}
use Rattle.facts.proofs.Passes.{Passes, finally}
use Rattle.facts.proofs.Totals.{totals}

pub record Bounded (c : Counts) : Type 0 where
  pub nodes : c.nodes ≤ most_nodes
  pub tx : c.tx ≤ most_tx
  pub rx : c.rx ≤ most_rx
  pub signals : c.signals ≤ most_signals
  pub destinations : c.destinations ≤ most_destinations

pub Bounded-more : (c : Counts) (row : RowSoFar) (r : Record) → has_room c row r ≡ true → Bounded c → Bounded (counted c r)
unfolding has_room counted
Bounded-more c row (Head order) e h = h
Bounded-more c row (Node body) e h = let l = ltb-true c.nodes most_nodes e in omega arith
Bounded-more c row (Tx x) e h = let l = ltb-true c.tx most_tx e in omega arith
Bounded-more c row (Rx x) e h = let l = ltb-true c.rx most_rx e in omega arith
Bounded-more c row (Signal body) e h = let l = ltb-true c.signals most_signals (and_both _ (ltb row.signals most_in_frame) e).0 in omega arith
Bounded-more c row (Destination body) e h = let l = ltb-true c.destinations most_destinations
    (and_both _ (ltb row.destinations most_of_signal) e).0 in omega arith
Bounded-more c row (Broken fault) e h = h

pub passes_bounded : (rs : List Record) (p : Progress) (sizes sets : List ℕ) → Passes p sizes sets rs → Bounded p.counts → Bounded (finally p.counts rs)
unfolding Passes finally after
passes_bounded [] p sizes sets h b = b
passes_bounded (r ∷ rs) p sizes sets h b = passes_bounded rs _ _ _ h.1 (Bounded-more p.counts p.row r h.0.room b)

-- what is bounded at the end was bounded before
pub Bounded-before : (rs : List Record) (stage : ℕ) (c : Counts) → InPlace stage rs → Bounded (finally c rs) → Bounded c
Bounded-before rs stage c i h = let t = totals rs stage c i in omega arith
