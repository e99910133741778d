-- The frames and requests that can be scheduled on a node: their numbers, and that they are as many as the plan has Tx frames and, on LIN, Rx frames on
-- it.
use mathlib.Core.Path.{◌≡◌, refl, sym, ap, ◌∙◌}
use mathlib.Core.Bool.{Bool, true, false, false≢true}
use mathlib.Core.List.{List, [], ◌∷◌}
use Prim.Native.Nat.{ℕ, zero, suc, ◌+◌, ◌<◌}
use native.Mathlib.Omega.{arith}
use lib.Dec.{eqb}
use lib.ListN.{length, get_or, length-append}
use borrow.Author.Tests.{eq-eqb, eqb-true}
use Rattle.base.specs.Pick.{pick}
use Rattle.base.proofs.Picks.{picks, into, alike}
use Rattle.records.specs.Views.{no_tx}
use Rattle.records.specs.Nodes.{is_lin}
use Rattle.plan.specs.Rows.{Row, no_row, rows_of, tx_of}
use Rattle.tables.specs.Reads.{planned_tx, row_at, frames_on, rows_on, type_at, waiters_on}
use Rattle.model.specs.Plan.{said}
use Rattle.model.proofs.Nodes.{lin_on, by_lin}
use Rattle.model.proofs.Upto.{upto, Those-upto}
use Rattle.model.proofs.Words.{those_same}
use Rattle.queues.specs.Room.{AskedOn, Schedulable, many}

-- ---- how many numbers pass a test

one : (b : Bool) (i : ℕ) → length (pick b (i ∷ []) []) ≡ pick b 1 0
one b i = into length b (i ∷ []) []

-- the first apart
first_apart : (test : ℕ → Bool) (m : ℕ) → length (upto test (suc m)) ≡ pick (test 0) 1 0 + length (upto (λ i. test (suc i)) m)
unfolding upto
first_apart test zero = rw (one (test 0) 0) (omega arith)
first_apart test (suc m) =
    let x = length-append (upto test (suc m)) (pick (test (suc m)) (suc m ∷ []) []) in
    let y = length-append (upto (λ i. test (suc i)) m) (pick (test (suc m)) (m ∷ []) []) in
    omega (arith, x, y, one (test (suc m)) (suc m), one (test (suc m)) m, first_apart test m)

-- as many as the things in a list that pass it
module _ {A : Type 0} (test : A → Bool) (d : A) (count : List A → ℕ) (none : count [] ≡ 0)
    (more : (x : A) (xs : List A) → count (x ∷ xs) ≡ pick (test x) 1 0 + count xs) where
  counted : (xs : List A) → length (upto (λ i. test (get_or xs i d)) (length xs)) ≡ count xs
  unfolding upto
  counted [] = sym none
  counted (x ∷ xs) = first_apart _ (length xs) ∙ rw (counted xs, more x xs)

-- ---- the frames and requests of a node

module _ (plan : List ℕ) (n : ℕ) where
  abbrev lin : Bool
  lin = is_lin (type_at plan n)

  abbrev asked : Row → Bool
  asked x = pick lin (eqb x.frame.node n) false

  asked_for : (r : ℕ) → r < length (rows_of plan) → asked (row_at plan r) ≡ true → AskedOn (said plan) n r
  asked_for r l =
      by_lin (said plan) n (λ b. b ≡ true → AskedOn (said plan) n r) _ _
      (λ is e. record { exists = l; node = eqb-true _ n e; lin = is })
      (λ is e. absurd (false≢true e))

  pub schedulable : Schedulable (said plan) n
  schedulable =
      record {
        frames = upto (λ t. eqb (planned_tx plan t).node n) (length (tx_of plan));
        of_frames =
            Those-upto _ (length (tx_of plan)) (λ t l e. record { exists = l; node = eqb-true _ n e }) (λ t x. x.exists) (λ t x. eq-eqb _ n x.node);
        requests = upto (λ r. asked (row_at plan r)) (length (rows_of plan));
        of_requests =
            Those-upto _ (length (rows_of plan)) asked_for (λ r x. x.exists)
            (λ r x. picks _ _ _ (lin_on (said plan) n x.lin) ∙ eq-eqb _ n x.node);
      }

  one_more : (b c : Bool) (k : ℕ) → pick b (pick c 1 0 + k) 0 ≡ pick (pick b c false) 1 0 + pick b k 0
  unfolding pick
  one_more true c k = refl
  one_more false c k = refl

  many_here : many schedulable ≡ waiters_on plan n
  unfolding frames_on rows_on schedulable
  many_here =
      let x = counted (λ x. eqb x.node n) no_tx (frames_on n) refl (λ x xs. refl) (tx_of plan) in
      let y = counted asked no_row (λ ys. pick lin (rows_on n ys) 0) (alike lin 0) (λ y ys. one_more lin _ _) (rows_of plan) in
      omega arith

  -- whatever the lists of them: each has these numbers
  pub many_are : (can : Schedulable (said plan) n) → many can ≡ waiters_on plan n
  many_are can =
      let x = ap length (those_same can.of_frames schedulable.of_frames) in
      let y = ap length (those_same can.of_requests schedulable.of_requests) in
      omega (arith, many_here)
