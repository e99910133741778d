-- The owned bits that the check has are those that the claims of the records before hold.
use mathlib.Core.Path.{◌≡◌, ◌∙◌}
use mathlib.Core.Logic.{◌⊎◌, inl, inr, ⊎_elim, ◌↔◌}
use mathlib.Core.Bool.{Bool, true, false}
use mathlib.Core.List.{List, [], ◌∷◌}
use mathlib.Core.Option.{none, some}
use Prim.Native.Nat.{ℕ, ◌<◌}
use native.Mathlib.Numerals.{add-one}
use native.Mathlib.Omega.{arith}
use lib.Dec.{ltb, eqb}
use lib.ListN.{length, length-set}
use borrow.Author.Tests.{ltb-true}
use Rattle.base.specs.Pick.{pick}
use Rattle.records.specs.declared.record.Record.{Record}
use Rattle.records.specs.Kinds.{stage_of}
use Rattle.plan.specs.Limits.{most_tx}
use Rattle.plan.specs.Progress.{counted, row_after, after, start}
use Rattle.plan.specs.Tests.{in_data}
use Rattle.plan.specs.Check.{sets_after}
use Rattle.plan.specs.Rows.{width_of, Claim, with_failure, claims_from, row_of, rows_from, all_claims}
use Rattle.plan.proofs.TestLaws.{and_both}
use Rattle.plan.proofs.Turn.{sets_length}
use Rattle.facts.specs.Good.{InPlace, Holds}
use Rattle.facts.specs.Statements.{State, begun, stepped, state_after, AllGo}
use Rattle.facts.proofs.Counts.{Bounded, Bounded-more}
use Rattle.facts.proofs.Owners.{Has, taken, taken_in, taken_keeps, taken_cases}
use Rattle.facts.proofs.Destination.{sets_by, claim_of, failure_of, twice}
use Rattle.facts.proofs.Claims.{left, no_left, failure_append, waits_rx, waits_signal}
use Rattle.facts.proofs.Whole.{zeros-length, nobody, whole_claims}
use Rattle.refusals.specs.Before.{Some, Owned}
use Rattle.refusals.proofs.Passing.{Whole, head, node, tx_frame, rx_frame, signal, destination, whole, PassedIn, went, all_placed, row_in, counts_in}

-- bit b of Tx frame t is in the sets, or one of the claims holds it
abbrev Kept : List ℕ → List Claim → ℕ → ℕ → Type 0
Kept sets cs t b = Has sets t b ⊎ Some (λ (c : Claim). Holds c t b) cs

-- a claim goes over into the sets
module _ (sets : List ℕ) (c : Claim) (there : c.tx < length sets) (cs : List Claim) (t b : ℕ) where
  joins : Kept (taken sets c) cs t b → Kept sets (c ∷ cs) t b
  unfolding Some
  joins (inl h) = ⊎_elim (λ one. inr (inl one)) (λ old. inl old) (taken_cases sets c there t b h)
  joins (inr h) = inr (inr h)

  joined : Kept sets (c ∷ cs) t b → Kept (taken sets c) cs t b
  unfolding Some
  joined (inl h) = inl (taken_keeps sets c there t b h)
  joined (inr (inl h)) = inl (taken_in sets c there t b h)
  joined (inr (inr h)) = inr h

-- the order of the first two does not matter
swapped : (sets : List ℕ) (c d : Claim) (cs : List Claim) (t b : ℕ) → Kept sets (c ∷ d ∷ cs) t b → Kept sets (d ∷ c ∷ cs) t b
unfolding Some
swapped sets c d cs t b (inl h) = inl h
swapped sets c d cs t b (inr (inl h)) = inr (inr (inl h))
swapped sets c d cs t b (inr (inr (inl h))) = inr (inl h)
swapped sets c d cs t b (inr (inr (inr h))) = inr (inr (inr h))

module _ (sets : List ℕ) (n d q x s position : ℕ) (there : d < length sets) (cs : List Claim) (t b : ℕ) where
  destination_joins : (idle : Bool)
      → Kept (sets_by sets d q s position idle) cs t b ↔ Kept sets (with_failure n (pick idle none (some position)) d (claim_of n d q x s ∷ cs)) t b
  unfolding with_failure pick width_of
  destination_joins true = (joins sets (claim_of n d q x s) there cs t b, joined sets (claim_of n d q x s) there cs t b)
  destination_joins false =
      let c = claim_of n d q x s in
      let f = failure_of n d position in
      let e = twice sets n d q x s position there in
      let there' : d < length (taken sets c) = simp length-set there in (
        (λ h. swapped sets c f cs t b (joins sets c there (f ∷ cs) t b (joins (taken sets c) f there' cs t b (rw e h)))),
        (λ h. rw e at (joined (taken sets c) f there' cs t b (joined sets c there (f ∷ cs) t b (swapped sets f c cs t b h)))),
      )

-- ---- one record more in front

through : {A B C : Type 0} → A ↔ B → B ↔ C → A ↔ C
through f g = ((λ a. g.0 (f.0 a)), (λ c. f.1 (g.1 c)))

step : (s : State) (n x : ℕ) (r : Record) → Whole r → (rs : List Record) → PassedIn s r → InPlace (stage_of r) rs → Bounded (counts_in s)
    → length s.sets ≡ most_tx → (A : Type 0) (t b : ℕ)
    → ((n' x' : ℕ) → A ↔ Kept (sets_after (row_in s) s.sets r)
    (left n' (counted (counts_in s) r).rx (row_after s.progress.number (row_in s) r) x' rs) t b)
    → A ↔ Kept s.sets (left n (counts_in s).rx (row_in s) x (r ∷ rs)) t b
unfolding stage_of sets_after claims_from rows_from row_of all_claims counted row_after pick in_data
step s n x r (head order) rs a i w l A t b h = rw (no_left n (counts_in s).rx (row_in s) x rs _ i (omega arith)) at (h n x)
step s n x r (node body) rs a i w l A t b h = rw (no_left n (counts_in s).rx (row_in s) x rs _ i (omega arith)) at (h n x)
step s n x r (tx_frame y) rs a i w l A t b h = rw (no_left n (counts_in s).rx (row_in s) x rs _ i (omega arith)) at (h n x)
step s n x r (rx_frame y) rs a i w l A t b h = rw (waits_rx s.progress.number (row_in s) y, add-one) at (h (counts_in s).rx 0)
step s n x r (signal g) rs a i w l A t b h = rw (waits_signal s.progress.number (row_in s) g) at (h n g.position)
step s n x r (destination d) rs a i w l A t b h =
    let e = ltb-true d.tx.0 (counts_in s).tx (and_both (ltb d.tx.0 (counts_in s).tx) _ a.inside).0 in
    rw failure_append
    (through (h n x)
    (destination_joins s.sets n d.tx.0 d.position x (row_in s).size (row_in s).position (omega (arith, e, w.tx, l)) _ t b
    (eqb (row_in s).awaits 0)))

pub kept : (rs : List Record) (s : State) (n x : ℕ) → AllGo s rs → Bounded (counts_in s) → length s.sets ≡ most_tx → (t b : ℕ)
    → Has (state_after s rs).sets t b ↔ Kept s.sets (left n (counts_in s).rx (row_in s) x rs) t b
unfolding AllGo state_after claims_from rows_from all_claims Some after
kept [] s n x g w l t b = ((λ h. inl h), λ h. ⊎_elim (λ k. k) (λ k. absurd k) h)
kept (r ∷ rs) s n x g w l t b =
    let a = went s r g.0 in
    step s n x r (whole r a.known a.whole) rs a (all_placed rs (stepped s r) g.1) w l _ t b
    (λ n' x'.
    kept rs (stepped s r) n' x' g.1 (Bounded-more (counts_in s) (row_in s) r a.room w)
    (sets_length (row_in s) s.sets r ∙ l) t b)

pub owned_are : (before : List Record) → AllGo begun before → (t b : ℕ) → Has (state_after begun before).sets t b ↔ Owned before t b
unfolding start
owned_are before g t b =
    let h = rw (whole_claims before (all_placed before begun g)) at (kept before begun 0 0 g (omega arith) zeros-length t b) in
    ((λ one. ⊎_elim (λ old. absurd (nobody t b old)) (λ k. k) (h.0 one)), (λ k. h.1 (inr k)))
