-- The rows' keys rise where each is above the floor that the one before leaves.
use mathlib.Core.Path.{◌≡◌, refl}
use mathlib.Core.Bool.{true}
use mathlib.Core.List.{List, [], ◌∷◌}
use Prim.Native.Nat.{ℕ, suc, ◌+◌, ◌≤◌}
use native.Mathlib.Numerals.{add-one}
use native.Mathlib.Omega.{arith}
use borrow.Author.Tests.{leb-true, le-leb}
use Rattle.records.specs.declared.record.Record.{Record}
use Rattle.records.specs.declared.record.Record.TheVariants.{Head, Node, Tx, Rx, Signal, Destination, Broken}
use Rattle.plan.specs.declared.progress.Counts.{Counts}
use Rattle.plan.specs.declared.progress.RowSoFar.{RowSoFar}
use Rattle.plan.specs.declared.progress.Progress.{Progress}
use Rattle.plan.specs.Progress.{row_key, counted, row_after, after}
use Rattle.plan.specs.Tests.{rises}
use Rattle.plan.specs.Rows.{Row, row_of, rows_from}
use Rattle.facts.specs.Good.{Each, Rising}
use Rattle.facts.proofs.Passes.{Passes}
use Rattle.facts.proofs.Lists.{Each-map}

-- the rows to come: they rise, and none is below the floor
pub record RisingOver (floor : ℕ) (rows : List Row) : Type 0 where
  pub above : Each (λ r. floor ≤ row_key r.frame) rows
  pub rising : Rising rows

-- one record more in front
rising_back :
    (n : ℕ) (c : Counts) (row : RowSoFar) (r : Record) (rs : List Record) → rises row r ≡ true
    → RisingOver (row_after n row r).floor (rows_from (counted c r).rx rs) → RisingOver row.floor (rows_from c.rx (r ∷ rs))
unfolding rises row_after counted rows_from row_of Each Rising
rising_back n c row (Rx x) rs e h =
    let k : RisingOver (row_key x + 1) (rows_from (suc c.rx) rs) = rw (add-one c.rx) at h in
    let l = leb-true row.floor (row_key x) e in
    record {
      above = (l, Each-map (λ r a. omega arith) (rows_from (suc c.rx) rs) k.above);
      rising = (Each-map (λ r a. omega arith) (rows_from (suc c.rx) rs) k.above, k.rising);
    }
rising_back n c row (Head order) rs e h = h
rising_back n c row (Node body) rs e h = h
rising_back n c row (Tx x) rs e h = h
rising_back n c row (Signal body) rs e h = h
rising_back n c row (Destination body) rs e h = h
rising_back n c row (Broken fault) rs e h = h

pub passes_rising : (rs : List Record) (p : Progress) (sizes sets : List ℕ) → Passes p sizes sets rs → RisingOver p.row.floor (rows_from p.counts.rx rs)
unfolding Passes rows_from Each Rising after
passes_rising [] p sizes sets h = record { above = tt; rising = tt }
passes_rising (r ∷ rs) p sizes sets h =
    rising_back p.number p.counts p.row r rs h.0.order (passes_rising rs _ _ _ h.1)

-- and one less
pub rising_next :
    (n : ℕ) (c : Counts) (row : RowSoFar) (r : Record) (rs : List Record) → RisingOver row.floor (rows_from c.rx (r ∷ rs))
    → (rises row r ≡ true) × RisingOver (row_after n row r).floor (rows_from (counted c r).rx rs)
unfolding rises row_after counted rows_from row_of Each Rising
rising_next n c row (Rx x) rs h =
    let k : RisingOver (row_key x + 1) (rows_from (suc c.rx) rs) =
    record { above = Each-map (λ r a. omega arith) (rows_from (suc c.rx) rs) h.rising.0; rising = h.rising.1 } in
    (le-leb row.floor (row_key x) h.above.0, rw (add-one c.rx) k)
rising_next n c row (Head order) rs h = (refl, h)
rising_next n c row (Node body) rs h = (refl, h)
rising_next n c row (Tx x) rs h = (refl, h)
rising_next n c row (Signal body) rs h = (refl, h)
rising_next n c row (Destination body) rs h = (refl, h)
rising_next n c row (Broken fault) rs h = (refl, h)
