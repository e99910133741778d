-- The sets of owned bits that a good plan's records leave: a bit is in its set exactly where a claim holds it.
use mathlib.Core.Path.{◌≡◌, refl, sym, ap, ◌∙◌}
use mathlib.Core.Bool.{Bool, true, false, true≢false, ◌||◌}
use mathlib.Core.List.{List, [], ◌∷◌}
use mathlib.Core.Option.{none, some}
use Prim.Native.Nat.{ℕ, suc, ◌+◌, ◌<◌}
use native.Mathlib.Omega.{arith}
use lib.Dec.{eqb}
use lib.ListN.{length, get_or, length-set}
use Rattle.base.specs.Pick.{pick}
use Rattle.base.proofs.Picks.{cases}
use Rattle.bits.specs.Digit.{digit}
use Rattle.records.specs.declared.record.Record.{Record}
use Rattle.records.specs.declared.record.Record.TheVariants.{Head, Node, Tx, Rx, Signal, Destination, Broken}
use Rattle.records.specs.Kinds.{stage_of}
use Rattle.plan.specs.declared.progress.RowSoFar.{RowSoFar}
use Rattle.plan.specs.Progress.{row_after}
use Rattle.plan.proofs.TestLaws.{no_fault}
use Rattle.plan.specs.Check.{sets_after, sets_fold}
use Rattle.plan.specs.Rows.{width_of, Claim, with_failure, claims_from, row_of, rows_from, all_claims}
use Rattle.facts.specs.Good.{Each, InPlace}
use Rattle.facts.specs.Statements.{Small}
use Rattle.facts.proofs.Owners.{taken, taken_in, taken_out}
use Rattle.facts.proofs.Destination.{sets_by, claim_of, failure_of, twice}
use Rattle.facts.proofs.Claims.{left, no_left, failure_append, waits_rx, waits_signal}
use Rattle.history.specs.Fresh.{holds}
use Rattle.history.proofs.Bits.{Holds-is, is_holds}
use Rattle.model.specs.Fullness.{is_held}

-- ---- one claim

-- the claim's bits, and else those of before
taken_bit :
    (sets : List ℕ) (c : Claim) → c.tx < length sets → (t b : ℕ)
    → digit (get_or (taken sets c) t 0) b ≡ pick (holds c t b) 1 (digit (get_or sets t 0) b)
taken_bit sets c there t b =
    cases (λ x. digit (get_or (taken sets c) t 0) b ≡ x) (holds c t b) _ _ (λ e. taken_in sets c there t b (Holds-is c t b e))
    (λ e. taken_out sets c there t b (λ h. true≢false (sym (is_holds c t b h) ∙ e)))

-- ---- all claims

-- what the records leave of a bit, by the claims among them
abbrev Leaves : ℕ → RowSoFar → List ℕ → List Record → List Claim → Type 0
Leaves k row sets rs cs =
    length sets ≡ 256 → Each Small cs → (t b : ℕ) → digit (get_or (sets_fold k row sets rs) t 0) b ≡ pick (is_held cs t b) 1 (digit (get_or sets t 0) b)

-- a bit that is 1 where either test says so
either : (x y : Bool) (n : ℕ) → pick y 1 (pick x 1 n) ≡ pick (x || y) 1 n
unfolding pick
either true true n = refl
either true false n = refl
either false y n = refl

thrice : (x y z : Bool) (n : ℕ) → pick z 1 (pick x 1 (pick y 1 n)) ≡ pick (x || (y || z)) 1 n
unfolding pick
thrice true true true n = refl
thrice true true false n = refl
thrice true false true n = refl
thrice true false false n = refl
thrice false y z n = either y z n

-- a destination, where `idle` says that no failure bit is awaited
module _ (k n t q x s position : ℕ) (row : RowSoFar) (sets : List ℕ) (rs : List Record) (cs : List Claim) where
  abbrev claims : Bool → List Claim
  claims idle = with_failure n (pick idle none (some position)) t (claim_of n t q x s ∷ cs)

  destination_leaves :
      (idle : Bool) → Leaves k row (sets_by sets t q s position idle) rs cs → length sets ≡ 256 → Each Small (claims idle) → (u b : ℕ)
      → digit (get_or (sets_fold k row (sets_by sets t q s position idle) rs) u 0) b ≡ pick (is_held (claims idle) u b) 1 (digit (get_or sets u 0) b)
  unfolding with_failure pick width_of Each is_held holds
  destination_leaves true more long small u b =
      more (simp length-set long) small.1 u b
      ∙ ap (pick (is_held cs u b) 1) (taken_bit sets (claim_of n t q x s) (omega (arith, small.0.frame)) u b)
      ∙ either (holds (claim_of n t q x s) u b) (is_held cs u b) (digit (get_or sets u 0) b)
  destination_leaves false more long small u b =
      let there : t < length sets = omega (arith, small.0.frame) in
      let c = claim_of n t q x s in
      let f = failure_of n t position in
      more (simp length-set long) small.1.1 u b
      ∙ ap (pick (is_held cs u b) 1)
      (ap (λ (all : List ℕ). digit (get_or all u 0) b) (sym (twice sets n t q x s position there))
      ∙ taken_bit (taken sets c) f (simp length-set there) u b
      ∙ ap (pick (holds f u b) 1) (taken_bit sets c there u b))
      ∙ thrice (holds f u b) (holds c u b) (is_held cs u b) (digit (get_or sets u 0) b)

-- ---- all records

-- k is the first record's number, n the Rx frame that is being read, m the next one, x the position of the signal that is being read
pub leaves :
    (rs : List Record) (stage k n m x : ℕ) (row : RowSoFar) (sets : List ℕ) → InPlace stage rs → Leaves k row sets rs (left n m row x rs)
unfolding sets_fold sets_after row_after claims_from rows_from row_of all_claims is_held InPlace stage_of pick
leaves [] stage k n m x row sets i = λ long small t b. refl
leaves (Head order ∷ rs) stage k n m x row sets i =
    rw (no_left n m row x rs 1 i.1 (omega arith)) at (leaves rs 1 (k + 1) n m x row sets i.1)
leaves (Node body ∷ rs) stage k n m x row sets i =
    rw (no_left n m row x rs 2 i.1 (omega arith)) at (leaves rs 2 (k + 1) n m x row sets i.1)
leaves (Tx y ∷ rs) stage k n m x row sets i =
    rw (no_left n m row x rs 3 i.1 (omega arith)) at (leaves rs 3 (k + 1) n m x row sets i.1)
leaves (Rx y ∷ rs) stage k n m x row sets i =
    rw (waits_rx k row y) at (leaves rs 4 (k + 1) m (suc m) 0 (row_after k row (Rx y)) sets i.1)
leaves (Signal body ∷ rs) stage k n m x row sets i =
    rw (waits_signal k row body) at (leaves rs 5 (k + 1) n m body.position (row_after k row (Signal body)) sets i.1)
leaves (Destination body ∷ rs) stage k n m x row sets i =
    rw failure_append
    (destination_leaves (k + 1) n body.tx.0 body.position x row.size row.position (row_after k row (Destination body)) sets rs _
    (eqb row.awaits 0)
    (leaves rs 6 (k + 1) n m x (row_after k row (Destination body)) _ i.1))
leaves (Broken fault ∷ rs) stage k n m x row sets i = absurd (no_fault fault i.0.known i.0.whole)
