-- An enabled indicator's Rx frame is followed by a signal and a destination exactly where each record is the one awaited.
use mathlib.Core.Path.{◌≡◌, refl, sym, ap, ◌∙◌}
use mathlib.Core.Logic.{◌≢◌, ⊎_elim}
use mathlib.Core.Bool.{Bool, true, false, ◌||◌}
use mathlib.Core.List.{List, [], ◌∷◌}
use Prim.Native.Nat.{ℕ, ◌≤◌, ◌<◌}
use native.Mathlib.Decide.{ℕ_discrete}
use native.Mathlib.Omega.{arith}
use lib.Dec.{eqb}
use borrow.Author.Tests.{eqb-true, eqb-false, eq-eqb, ne_eqb}
use Rattle.base.specs.Pick.{pick}
use Rattle.base.proofs.Picks.{by_eqb}
use Rattle.bits.proofs.CopyLaws.{either}
use Rattle.records.specs.declared.record.RxFrame.{RxFrame}
use Rattle.records.specs.declared.record.SignalBody.{SignalBody}
use Rattle.records.specs.declared.record.Record.{Record}
use Rattle.records.specs.declared.record.Record.TheVariants.{Head, Node, Tx, Rx, Signal, Destination, Broken}
use Rattle.records.specs.Kinds.{stage_of}
use Rattle.plan.specs.declared.progress.RowSoFar.{RowSoFar}
use Rattle.plan.specs.declared.progress.Progress.{Progress}
use Rattle.plan.specs.Progress.{row_after, after}
use Rattle.plan.specs.Tests.{followed, is_kind, is_whole}
use Rattle.plan.proofs.TestLaws.{no_fault}
use Rattle.facts.specs.Good.{Along, stage_at, Followed}
use Rattle.facts.proofs.Passes.{Passes}

-- the stage that is awaited is the next record's, and after a signal that is awaited comes a destination
pub record Awaits (kind : ℕ) (rs : List Record) : Type 0 where
  pub first : kind ≢ 0 → kind ≡ stage_at 0 rs
  pub second : kind ≡ 5 → stage_at 1 rs ≡ 6

pub followed_is : (row : RowSoFar) (stage : ℕ) → followed row stage ≡ true → row.awaits ≢ 0 → row.awaits ≡ stage
unfolding followed
followed_is row kind e d =
    ⊎_elim (λ a. absurd (d (eqb-true row.awaits 0 a))) (eqb-true row.awaits kind) (either (eqb row.awaits 0) (eqb row.awaits kind) e)

pub is_followed : (row : RowSoFar) (stage : ℕ) → (row.awaits ≢ 0 → row.awaits ≡ stage) → followed row stage ≡ true
unfolding followed
is_followed row kind h = go (eqb row.awaits 0) refl
  where
    go : (b : Bool) → eqb row.awaits 0 ≡ b → (b || eqb row.awaits kind) ≡ true
    go true e = refl
    go false e = eq-eqb row.awaits kind (h (eqb-false row.awaits 0 e))

-- what follows an Rx frame
rx_followed :
    (n : ℕ) (row : RowSoFar) (x : RxFrame) (rs : List Record) → Awaits (row_after n row (Rx x)).awaits rs → x.enable ≡ 1
    → (stage_at 0 rs ≡ 5) × (stage_at 1 rs ≡ 6)
unfolding row_after pick
rx_followed n row x rs h e =
    let k : Awaits 5 rs = rw (eq-eqb x.enable 1 e) at h in
    (sym (k.first (omega arith)), k.second refl)

signal_followed :
    (n : ℕ) (row : RowSoFar) (body : SignalBody) (rs : List Record) → Awaits (row_after n row (Signal body)).awaits rs → row.awaits ≢ 0
    → stage_at 0 rs ≡ 6
unfolding row_after pick
signal_followed n row body rs h d =
    let k : Awaits 6 rs = rw (ne_eqb row.awaits 0 d) at h in
    sym (k.first (omega arith))

-- a record that is no Rx frame and no signal
other_back :
    (row : RowSoFar) (r : Record) (rs : List Record) → stage_of r ≢ 4 → stage_of r ≢ 5 → followed row (stage_of r) ≡ true
    → (row.awaits ≡ 5 → stage_at 1 (r ∷ rs) ≡ 6) × Followed r rs
unfolding stage_of
other_back row r rs a b e =
    ((λ i. absurd (b (sym (followed_is row (stage_of r) e (omega arith)) ∙ i))), λ x i. absurd (a (ap stage_of i)))

-- one record more in front
awaits_back :
    (n : ℕ) (row : RowSoFar) (r : Record) (rs : List Record) → is_kind r ≡ true → is_whole r ≡ true → followed row (stage_of r) ≡ true
    → Awaits (row_after n row r).awaits rs
    → (row.awaits ≡ 5 → stage_at 1 (r ∷ rs) ≡ 6) × Followed r rs
unfolding stage_of
awaits_back n row (Head order) rs known whole e h = other_back row (Head order) rs (omega arith) (omega arith) e
awaits_back n row (Node body) rs known whole e h = other_back row (Node body) rs (omega arith) (omega arith) e
awaits_back n row (Tx y) rs known whole e h = other_back row (Tx y) rs (omega arith) (omega arith) e
awaits_back n row (Rx y) rs known whole e h = (
  (λ a. absurd (omega (arith, followed_is row 4 e (omega arith)))),
  (λ x i on. let same : y ≡ x = cc in rx_followed n row y rs h (rw same on)),
)
awaits_back n row (Signal body) rs known whole e h = ((λ a. signal_followed n row body rs h (omega arith)), (λ x i. absurd (omega (arith, ap stage_of i))))
awaits_back n row (Destination body) rs known whole e h = other_back row (Destination body) rs (omega arith) (omega arith) e
awaits_back n row (Broken fault) rs known whole e h = absurd (no_fault fault known whole)

passes_awaits : (rs : List Record) (p : Progress) (sizes sets : List ℕ) → Passes p sizes sets rs → Awaits p.row.awaits rs × Along Followed rs
unfolding Passes Along after stage_of
passes_awaits [] p sizes sets h =
    let f = followed_is p.row 0 h.0 in
    (record { first = f; second = λ a. absurd (omega (arith, f (omega arith))) }, tt)
passes_awaits (r ∷ rs) p sizes sets h =
    let k = passes_awaits rs _ _ _ h.1 in
    let b = awaits_back p.number p.row r rs h.0.known h.0.whole h.0.follows k.0 in
    (record { first = followed_is p.row (stage_of r) h.0.follows; second = b.0 }, (b.1, k.1))

pub passes_followed : (rs : List Record) (p : Progress) (sizes sets : List ℕ) → Passes p sizes sets rs → Along Followed rs
passes_followed rs p sizes sets h = (passes_awaits rs p sizes sets h).1

-- ---- and one less: what is awaited is a signal or a destination

pub record Await (kind : ℕ) (rs : List Record) : Type 0 where
  pub next : Awaits kind rs
  pub high : kind ≢ 0 → 5 ≤ kind

-- nothing is awaited
pub idle : (rs : List Record) → Await 0 rs
idle rs =
    record { next = record { first = λ d. absurd (d refl); second = λ a. absurd (omega arith) }; high = λ d. absurd (d refl) }

-- nothing can have been, before a record that is neither
quiet : (row : RowSoFar) (r : Record) (rs : List Record) → stage_of r < 5 → Await row.awaits (r ∷ rs) → Await row.awaits rs
quiet row r rs l h = go (ℕ_discrete row.awaits 0)
  where
    go : Dec (row.awaits ≡ 0) → Await row.awaits rs
    go (yes e) = rw e (idle rs)
    go (no d) = absurd (omega (arith, h.next.first d, h.high d))

pub awaits_next :
    (n : ℕ) (row : RowSoFar) (r : Record) (rs : List Record) → is_kind r ≡ true → is_whole r ≡ true → Followed r rs → Await row.awaits (r ∷ rs)
    → Await (row_after n row r).awaits rs
unfolding stage_of row_after
awaits_next n row (Head order) rs known whole f h = quiet row (Head order) rs (omega arith) h
awaits_next n row (Node body) rs known whole f h = quiet row (Node body) rs (omega arith) h
awaits_next n row (Tx y) rs known whole f h = quiet row (Tx y) rs (omega arith) h
awaits_next n row (Rx y) rs known whole f h =
    by_eqb (λ (k : ℕ). Await k rs) y.enable 1 5 0
    (λ on. let g = f y refl on in record { next = record { first = λ d. sym g.0; second = λ a. g.1 }; high = λ d. omega arith })
    (λ off. idle rs)
awaits_next n row (Signal body) rs known whole f h =
    by_eqb (λ (k : ℕ). Await k rs) row.awaits 0 0 6 (λ e. idle rs)
    (λ d.
    let next = h.next.second (h.next.first d) in
    record { next = record { first = λ x. sym next; second = λ a. absurd (omega arith) }; high = λ x. omega arith })
awaits_next n row (Destination body) rs known whole f h = idle rs
awaits_next n row (Broken fault) rs known whole f h = absurd (no_fault fault known whole)
