-- The signals fit their Rx frame's data exactly where each passes its test.
use mathlib.Core.Path.{◌≡◌}
use mathlib.Core.Bool.{true}
use mathlib.Core.List.{List, [], ◌∷◌}
use Prim.Native.Nat.{ℕ, ◌+◌}
use borrow.Author.Tests.{leb-true}
use Rattle.records.specs.declared.record.Record.{Record}
use Rattle.records.specs.declared.record.Record.TheVariants.{Head, Node, Tx, Rx, Signal, Destination, Broken}
use Rattle.plan.specs.declared.progress.Counts.{Counts}
use Rattle.plan.specs.declared.progress.RowSoFar.{RowSoFar}
use Rattle.plan.specs.declared.progress.Progress.{Progress}
use Rattle.plan.specs.Progress.{row_after, after}
use Rattle.plan.specs.Tests.{in_data}
use Rattle.facts.specs.Good.{SignalsFit}
use Rattle.facts.proofs.Passes.{Passes}

-- one record more in front
signals_back :
    (n : ℕ) (c : Counts) (row : RowSoFar) (sizes : List ℕ) (r : Record) (rs : List Record) → in_data c row sizes r ≡ true
    → SignalsFit (row_after n row r).room rs → SignalsFit row.room (r ∷ rs)
unfolding in_data row_after SignalsFit
signals_back n c row sizes (Signal body) rs e h = (leb-true (body.position + body.size) row.room e, h)
signals_back n c row sizes (Head order) rs e h = h
signals_back n c row sizes (Node body) rs e h = h
signals_back n c row sizes (Tx x) rs e h = h
signals_back n c row sizes (Rx x) rs e h = h
signals_back n c row sizes (Destination body) rs e h = h
signals_back n c row sizes (Broken fault) rs e h = h

pub passes_signals : (rs : List Record) (p : Progress) (sizes sets : List ℕ) → Passes p sizes sets rs → SignalsFit p.row.room rs
unfolding Passes SignalsFit after
passes_signals [] p sizes sets h = tt
passes_signals (r ∷ rs) p sizes sets h = signals_back p.number p.counts p.row sizes r rs h.0.inside (passes_signals rs _ _ _ h.1)

-- and one less
pub signals_next : (n : ℕ) (row : RowSoFar) (r : Record) (rs : List Record) → SignalsFit row.room (r ∷ rs) → SignalsFit (row_after n row r).room rs
unfolding row_after SignalsFit
signals_next n row (Signal body) rs h = h.1
signals_next n row (Head order) rs h = h
signals_next n row (Node body) rs h = h
signals_next n row (Tx x) rs h = h
signals_next n row (Rx x) rs h = h
signals_next n row (Destination body) rs h = h
signals_next n row (Broken fault) rs h = h
