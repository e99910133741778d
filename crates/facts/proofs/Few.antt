-- The signals of a frame and the destinations of a signal: the test of each record bounds them, and where all counts are bounded each record
-- has room.
use mathlib.Core.Path.{◌≡◌, refl}
use mathlib.Core.Bool.{true}
use mathlib.Core.List.{List, [], ◌∷◌}
use Prim.Native.Nat.{ℕ, ◌+◌, ◌≤◌}
use native.Mathlib.Omega.{arith}
use lib.Dec.{ltb}
use borrow.Author.Tests.{ltb-true, lt-ltb}
use Rattle.base.specs.Pick.{pick}
use Rattle.records.specs.declared.record.Record.{Record}
use Rattle.records.specs.declared.record.Record.TheVariants.{Head, Node, Tx, Rx, Signal, Destination, Broken}
use Rattle.records.specs.Kinds.{stage_of}
use Rattle.plan.specs.Limits.{most_nodes, most_tx, most_rx, most_signals, most_in_frame, most_destinations, most_of_signal}
use Rattle.plan.specs.declared.progress.Counts.{Counts}
use Rattle.plan.specs.declared.progress.RowSoFar.{RowSoFar}
use Rattle.plan.specs.declared.progress.Progress.{Progress}
use Rattle.plan.specs.Progress.{counted, row_after, after}
use Rattle.plan.specs.Tests.{has_room, is_kind, is_whole}
use Rattle.plan.proofs.TestLaws.{and_both, no_fault}
use Rattle.facts.specs.Good.{Along, InPlace, signals_of, destinations_of, Few}
use Rattle.facts.proofs.Passes.{Passes}
use Rattle.facts.proofs.Counts.{Bounded}
use Rattle.facts.proofs.Places.{nothing, no_destinations}

-- those so far and those to come
pub record FewMore (row : RowSoFar) (rs : List Record) : Type 0 where
  pub signals : row.signals + signals_of rs ≤ most_in_frame
  pub destinations : row.destinations + destinations_of rs ≤ most_of_signal

record FewSoFar (row : RowSoFar) : Type 0 where
  signals : row.signals ≤ most_in_frame
  destinations : row.destinations ≤ most_of_signal

few_so_far : (n : ℕ) (c : Counts) (row : RowSoFar) (r : Record) → has_room c row r ≡ true → FewSoFar row → FewSoFar (row_after n row r)
unfolding has_room row_after
few_so_far n c row (Head order) e h = h
few_so_far n c row (Node body) e h = h
few_so_far n c row (Tx x) e h = h
few_so_far n c row (Rx x) e h = omega arith
few_so_far n c row (Signal body) e h = let l = ltb-true row.signals most_in_frame (and_both (ltb c.signals most_signals) _ e).1 in omega arith
few_so_far n c row (Destination body) e h = let l = ltb-true row.destinations most_of_signal
    (and_both (ltb c.destinations most_destinations) _ e).1 in omega arith
few_so_far n c row (Broken fault) e h = h

-- one record more in front
few_back :
    (n : ℕ) (row : RowSoFar) (r : Record) (rs : List Record) → is_kind r ≡ true → is_whole r ≡ true → FewSoFar row → FewMore (row_after n row r) rs
    → FewMore row (r ∷ rs) × Few r rs
unfolding row_after signals_of destinations_of stage_of pick
few_back n row (Head order) rs known whole h k = omega arith
few_back n row (Node body) rs known whole h k = omega arith
few_back n row (Tx x) rs known whole h k = omega arith
few_back n row (Rx x) rs known whole h k = omega arith
few_back n row (Signal body) rs known whole h k = omega arith
few_back n row (Destination body) rs known whole h k = omega arith
few_back n row (Broken fault) rs known whole h k = absurd (no_fault fault known whole)

passes_few_more : (rs : List Record) (p : Progress) (sizes sets : List ℕ) → Passes p sizes sets rs → FewSoFar p.row → FewMore p.row rs × Along Few rs
unfolding Passes Along after signals_of destinations_of
passes_few_more [] p sizes sets h b = (omega arith, tt)
passes_few_more (r ∷ rs) p sizes sets h b =
    let k = passes_few_more rs _ _ _ h.1 (few_so_far p.number p.counts p.row r h.0.room b) in
    let m = few_back p.number p.row r rs h.0.known h.0.whole b k.0 in
    (m.0, (m.1, k.1))

pub passes_few :
    (rs : List Record) (p : Progress) (sizes sets : List ℕ) → Passes p sizes sets rs → p.row.signals ≤ most_in_frame → p.row.destinations ≤ most_of_signal
    → Along Few rs
passes_few rs p sizes sets h a b = (passes_few_more rs p sizes sets h (record { signals = a; destinations = b })).1

-- and one less
pub few_next :
    (n : ℕ) (row : RowSoFar) (r : Record) (rs : List Record) → is_kind r ≡ true → is_whole r ≡ true → InPlace (stage_of r) rs → FewMore row (r ∷ rs) → Few r rs
    → FewMore (row_after n row r) rs
unfolding row_after signals_of destinations_of stage_of pick
few_next n row (Head order) rs known whole i h k = omega (arith, nothing rs 1 i (omega arith))
few_next n row (Node body) rs known whole i h k = omega (arith, nothing rs 2 i (omega arith))
few_next n row (Tx x) rs known whole i h k = omega (arith, nothing rs 3 i (omega arith))
few_next n row (Rx x) rs known whole i h k = omega (arith, k.signals refl, no_destinations rs 4 i (omega arith))
few_next n row (Signal body) rs known whole i h k = omega (arith, k.destinations refl)
few_next n row (Destination body) rs known whole i h k = omega arith
few_next n row (Broken fault) rs known whole i h k = absurd (no_fault fault known whole)

-- ---- what is bounded has room

pub bounded_room : (c : Counts) (row : RowSoFar) (r : Record) (rs : List Record) → Bounded (counted c r) → FewMore row (r ∷ rs) → has_room c row r ≡ true
unfolding has_room counted signals_of destinations_of stage_of pick
bounded_room c row (Head order) rs b h = refl
bounded_room c row (Node body) rs b h = lt-ltb c.nodes most_nodes (omega arith)
bounded_room c row (Tx x) rs b h = lt-ltb c.tx most_tx (omega arith)
bounded_room c row (Rx x) rs b h = lt-ltb c.rx most_rx (omega arith)
bounded_room c row (Signal body) rs b h = rw (lt-ltb c.signals most_signals (omega arith), lt-ltb row.signals most_in_frame (omega arith))
bounded_room c row (Destination body) rs b h = rw
    (lt-ltb c.destinations most_destinations (omega arith), lt-ltb row.destinations most_of_signal (omega arith))
bounded_room c row (Broken fault) rs b h = refl
