-- The claims to come fit and keep off the owned bits exactly where each destination passes its tests.
use mathlib.Core.Path.{◌≡◌, refl}
use mathlib.Core.Bool.{Bool, true, false}
use mathlib.Core.List.{List, [], ◌∷◌, ◌++◌}
use mathlib.Core.Option.{Option, none, some}
use Prim.Native.Nat.{ℕ, ◌+◌, ◌≤◌, ◌<◌}
use native.Mathlib.Numerals.{add-one}
use native.Mathlib.Omega.{arith}
use lib.Dec.{eqb}
use lib.ListN.{length}
use borrow.Author.Tests.{le-leb}
use Rattle.base.specs.Pick.{pick}
use Rattle.records.specs.declared.record.RxFrame.{RxFrame}
use Rattle.records.specs.declared.record.SignalBody.{SignalBody}
use Rattle.records.specs.declared.record.Record.{Record}
use Rattle.records.specs.declared.record.Record.TheVariants.{Head, Node, Tx, Rx, Signal, Destination, Broken}
use Rattle.records.specs.Kinds.{stage_of}
use Rattle.plan.specs.declared.progress.Counts.{Counts}
use Rattle.plan.specs.declared.progress.RowSoFar.{RowSoFar}
use Rattle.plan.specs.declared.progress.Progress.{Progress}
use Rattle.plan.specs.Progress.{counted, row_after, after}
use Rattle.plan.specs.Tests.{is_kind, is_whole, in_data, is_free, indicator_in_data, indicator_is_free}
use Rattle.plan.specs.Check.{sizes_after, sets_after}
use Rattle.plan.proofs.TestLaws.{no_fault}
use Rattle.plan.proofs.Turn.{sets_length}
use Rattle.plan.specs.Rows.{Claim, with_failure, claims_from, awaited, row_of, rows_from, all_claims}
use Rattle.plan.proofs.Turn.{sets_length}
use Rattle.facts.specs.Good.{Each, InPlace, SignalsFit, Once}
use Rattle.facts.proofs.Passes.{Passes, finally, sizes_finally}
use Rattle.facts.proofs.Places.{passes_place, tx_stay, sizes_stay, nothing}
use Rattle.facts.proofs.Destination.{Claimed, SameSizes, destination_back, destination_next}

-- the failure position that is awaited
abbrev waits : RowSoFar → Option ℕ
waits row = pick (eqb row.awaits 0) none (some row.position)

-- the claims to come: those of the Rx frame that is being read, with its number and the current signal's position, and those of the later ones
abbrev pub left : ℕ → ℕ → RowSoFar → ℕ → List Record → List Claim
left n m row x rs = claims_from n (waits row) x row.size rs ++ all_claims (rows_from m rs)

-- before the first Rx frame there are only the latter
pub no_left : (n m : ℕ) (row : RowSoFar) (x : ℕ) (rs : List Record) (stage : ℕ) → InPlace stage rs → stage < 4 → left n m row x rs ≡ all_claims (rows_from m rs)
no_left n m row x rs stage i l = rw ((nothing rs stage i l).claims n (waits row) x row.size)

pub failure_append : (n : ℕ) (w : Option ℕ) (t : ℕ) (cs ds : List Claim) → with_failure n w t cs ++ ds ≡ with_failure n w t (cs ++ ds)
unfolding with_failure
failure_append n none t cs ds = refl
failure_append n (some q) t cs ds = refl

-- a row begins with the failure position of its frame, and a signal keeps it
pub waits_rx : (n : ℕ) (row : RowSoFar) (x : RxFrame) → waits (row_after n row (Rx x)) ≡ awaited x
unfolding row_after awaited pick
waits_rx n row x = go (eqb x.enable 1)
  where
    go : (b : Bool) → pick (eqb (pick b 5 0) 0) none (some x.position) ≡ pick b (some x.position) none
    go true = refl
    go false = refl

pub waits_signal : (n : ℕ) (row : RowSoFar) (body : SignalBody) → waits (row_after n row (Signal body)) ≡ waits row
unfolding row_after pick
waits_signal n row body = go (eqb row.awaits 0)
  where
    go : (b : Bool) → pick (eqb (pick b 0 6) 0) none (some row.position) ≡ pick b none (some row.position)
    go true = refl
    go false = refl

-- the Tx frames at the end are those of the plan
abbrev pub Final : List ℕ → List ℕ → Counts → List Record → Type 0
Final all sizes c rs = SameSizes all (sizes_finally c sizes rs) (finally c rs).tx

-- the four tests of a record's data and owners
pub record Owns (c : Counts) (row : RowSoFar) (sizes sets : List ℕ) (r : Record) : Type 0 where
  pub inside : in_data c row sizes r ≡ true
  pub free : is_free row sets r ≡ true
  pub indicated : indicator_in_data row sizes r ≡ true
  pub indicator : indicator_is_free row sets r ≡ true

-- at a destination no Tx frame is to come
known_now : (all sizes : List ℕ) (c : Counts) (rs : List Record) → InPlace 6 rs → Final all sizes c rs → SameSizes all sizes c.tx
known_now all sizes c rs i final = rw (tx_stay rs 6 c i (omega arith), sizes_stay rs 6 c sizes i (omega arith)) at final

module _ (all sets sizes : List ℕ) (long : length all ≤ length sets) (k n x : ℕ) (c : Counts) (row : RowSoFar) where
  -- one record more in front
  claims_back :
      (r : Record) (rs : List Record) → Final all sizes c (r ∷ rs) → InPlace (stage_of r) rs → is_kind r ≡ true → is_whole r ≡ true → Owns c row sizes sets r
      → ((n' x' : ℕ) → Claimed all (sets_after row sets r) (left n' (counted c r).rx (row_after k row r) x' rs))
      → Claimed all sets (left n c.rx row x (r ∷ rs))
  unfolding stage_of is_kind is_whole in_data is_free indicator_in_data indicator_is_free sets_after claims_from rows_from row_of all_claims counted
      row_after finally sizes_finally sizes_after pick
  claims_back (Head order) rs final i known whole o h = rw (no_left n c.rx row x rs _ i (omega arith)) at (h n x)
  claims_back (Node body) rs final i known whole o h = rw (no_left n c.rx row x rs _ i (omega arith)) at (h n x)
  claims_back (Tx y) rs final i known whole o h = rw (no_left n c.rx row x rs _ i (omega arith)) at (h n x)
  claims_back (Rx y) rs final i known whole o h = rw (waits_rx k row y, add-one) at (h c.rx 0)
  claims_back (Signal body) rs final i known whole o h = rw (waits_signal k row body) at (h n body.position)
  claims_back (Destination body) rs final i known whole o h =
      rw failure_append
      (destination_back all sizes sets c.tx (known_now all sizes (counted c (Destination body)) rs i final) long n body.tx.0 body.position
      x row.size
      row.position _ (eqb row.awaits 0)
      (record { inside = o.inside; free = o.free; indicated = o.indicated; indicator = o.indicator }) (h n x))
  claims_back (Broken fault) rs final i known whole o h = absurd (no_fault fault known whole)

  -- and one less
  pub claims_next :
      (r : Record) (rs : List Record) → Final all sizes c (r ∷ rs) → InPlace (stage_of r) rs → is_kind r ≡ true → is_whole r ≡ true
      → SignalsFit row.room (r ∷ rs) → Claimed all sets (left n c.rx row x (r ∷ rs))
      → Owns c row sizes sets r × ((n' : ℕ) × (x' : ℕ) × Claimed all (sets_after row sets r) (left n' (counted c r).rx (row_after k row r) x' rs))
  unfolding stage_of is_kind is_whole in_data is_free indicator_in_data indicator_is_free sets_after claims_from rows_from row_of all_claims counted
      row_after finally sizes_finally sizes_after pick SignalsFit
  claims_next (Head order) rs final i known whole s h =
      (record { inside = refl; free = refl; indicated = refl; indicator = refl }, (n, x, rw (no_left n c.rx row x rs _ i (omega arith)) h))
  claims_next (Node body) rs final i known whole s h =
      (record { inside = refl; free = refl; indicated = refl; indicator = refl }, (n, x, rw (no_left n c.rx row x rs _ i (omega arith)) h))
  claims_next (Tx y) rs final i known whole s h =
      (record { inside = refl; free = refl; indicated = refl; indicator = refl }, (n, x, rw (no_left n c.rx row x rs _ i (omega arith)) h))
  claims_next (Rx y) rs final i known whole s h =
      (record { inside = refl; free = refl; indicated = refl; indicator = refl }, (c.rx, 0, rw (waits_rx k row y, add-one) h))
  claims_next (Signal body) rs final i known whole s h = (
    record { inside = le-leb (body.position + body.size) row.room s.0; free = refl; indicated = refl; indicator = refl },
    (n, body.position, rw (waits_signal k row body) h),
  )
  claims_next (Destination body) rs final i known whole s h =
      let d = destination_next all sizes sets c.tx (known_now all sizes (counted c (Destination body)) rs i final) long n body.tx.0
      body.position x row.size
      row.position _ (eqb row.awaits 0)
      (rw failure_append at h) in
      (record { inside = d.0.inside; free = d.0.free; indicated = d.0.indicated; indicator = d.0.indicator }, (n, x, d.1))
  claims_next (Broken fault) rs final i known whole s h = absurd (no_fault fault known whole)

pub passes_claims :
    (all : List ℕ) (rs : List Record) (n x : ℕ) (p : Progress) (sizes sets : List ℕ) → length all ≤ length sets → Final all sizes p.counts rs
    → Passes p sizes sets rs → Claimed all sets (left n p.counts.rx p.row x rs)
unfolding Passes finally sizes_finally after claims_from rows_from all_claims Once Each
passes_claims all [] n x p sizes sets long final h = record { clear = record { free = λ t b one. tt; once = tt }; fits = tt }
passes_claims all (r ∷ rs) n x p sizes sets long final h =
    let t = h.0 in
    claims_back all sets sizes long p.number n x p.counts p.row r rs final (passes_place rs _ _ _ h.1) t.known t.whole
    (record { inside = t.inside; free = t.free; indicated = t.indicated; indicator = t.indicator })
    (λ n' x'. passes_claims all rs n' x' _ _ _ (omega (arith, sets_length p.row sets r)) final h.1)
