-- The tests of 3 fail exactly where those lines apply.
use mathlib.Core.Path.{◌≡◌, refl, ap}
use mathlib.Core.Logic.{◌⊎◌, inl, inr}
use mathlib.Core.Bool.{true, false, not, ◌||◌, true≢false, false≢true}
use mathlib.Core.List.{List, [], ◌∷◌, ◌++◌}
use Prim.Native.Nat.{ℕ, ◌<◌}
use native.Mathlib.Omega.{arith}
use lib.Dec.{eqb}
use borrow.Author.Tests.{eqb-true, lt-ltb}
use Rattle.records.specs.declared.record.NodeBody.{NodeBody}
use Rattle.records.specs.declared.record.Record.{Record}
use Rattle.records.specs.Kinds.{stage_of}
use Rattle.plan.specs.Tests.{may_stand, can_first}
use Rattle.facts.specs.Good.{count_of}
use Rattle.facts.specs.Statements.{State}
use Rattle.refusals.specs.Before.{◌and◌, LinBefore}
use Rattle.refusals.specs.Places.{MayFollow, head_node, node_node, head_tx, node_tx, tx_tx, any_rx, rx_signal, signal_signal}
use Rattle.refusals.specs.Places.{destination_signal, signal_destination, destination_destination, MayStand, first, next, Misplaced}
use Rattle.refusals.specs.Places.{CanAfterLin, can_node}
use Rattle.refusals.proofs.Passing.{Whole, head, node, tx_frame, rx_frame, signal, destination, counts_in, stage_in}
use Rattle.refusals.proofs.SoFar.{SoFar}
use Rattle.refusals.proofs.Fails.{Fails, equal, unequal, either, by, negation}

-- ---- what may follow a record

some_kind : {y : Record} → Whole y → 0 < stage_of y
unfolding stage_of
some_kind (head order) = omega arith
some_kind (node body) = omega arith
some_kind (tx_frame x) = omega arith
some_kind (rx_frame x) = omega arith
some_kind (signal g) = omega arith
some_kind (destination t) = omega arith

follows : {y r : Record} → Whole y → MayFollow y r → may_stand (stage_of y) r ≡ true
unfolding stage_of may_stand
follows w (head_node order body) = refl
follows w (node_node body' body) = refl
follows w (head_tx order x) = refl
follows w (node_tx body x) = refl
follows w (tx_tx y x) = refl
follows w (any_rx y x) = lt-ltb 0 (stage_of y) (some_kind w)
follows w (rx_signal x g) = refl
follows w (signal_signal g' g) = refl
follows w (destination_signal t g) = refl
follows w (signal_destination g t) = refl
follows w (destination_destination t' t) = refl

may_follow : (y r : Record) → Whole r → Whole y → may_stand (stage_of y) r ≡ true → MayFollow y r
unfolding stage_of may_stand
may_follow y r (head order) v e = absurd (omega (arith, eqb-true (stage_of y) 0 e, some_kind v))
may_follow y r (node body) (head order) e = head_node order body
may_follow y r (node body) (node body') e = node_node body' body
may_follow y r (node body) (tx_frame z) e = absurd (false≢true e)
may_follow y r (node body) (rx_frame z) e = absurd (false≢true e)
may_follow y r (node body) (signal g) e = absurd (false≢true e)
may_follow y r (node body) (destination t) e = absurd (false≢true e)
may_follow y r (tx_frame x) (head order) e = head_tx order x
may_follow y r (tx_frame x) (node body) e = node_tx body x
may_follow y r (tx_frame x) (tx_frame z) e = tx_tx z x
may_follow y r (tx_frame x) (rx_frame z) e = absurd (false≢true e)
may_follow y r (tx_frame x) (signal g) e = absurd (false≢true e)
may_follow y r (tx_frame x) (destination t) e = absurd (false≢true e)
may_follow y r (rx_frame x) v e = any_rx y x
may_follow y r (signal g) (head order) e = absurd (false≢true e)
may_follow y r (signal g) (node body) e = absurd (false≢true e)
may_follow y r (signal g) (tx_frame z) e = absurd (false≢true e)
may_follow y r (signal g) (rx_frame z) e = rx_signal z g
may_follow y r (signal g) (signal g') e = signal_signal g' g
may_follow y r (signal g) (destination t) e = destination_signal t g
may_follow y r (destination t) (head order) e = absurd (false≢true e)
may_follow y r (destination t) (node body) e = absurd (false≢true e)
may_follow y r (destination t) (tx_frame z) e = absurd (false≢true e)
may_follow y r (destination t) (rx_frame z) e = absurd (false≢true e)
may_follow y r (destination t) (signal g) e = signal_destination g t
may_follow y r (destination t) (destination t') e = destination_destination t' t

-- ---- and what may stand first

first_is : (r : Record) → Whole r → may_stand 0 r ≡ true → MayStand [] r
unfolding may_stand
first_is r (head order) e = first order
first_is r (node body) e = absurd (false≢true e)
first_is r (tx_frame x) e = absurd (false≢true e)
first_is r (rx_frame x) e = absurd (false≢true e)
first_is r (signal g) e = absurd (false≢true e)
first_is r (destination t) e = absurd (false≢true e)

abbrev Ends : List Record → Type 0
Ends rs = (rs ≡ []) ⊎ ((front : List Record) × (y : Record) × (rs ≡ front ++ y ∷ []))

ends : (rs : List Record) → Ends rs
ends [] = inl refl
ends (r ∷ rs) = go (ends rs)
  where
    go : Ends rs → Ends (r ∷ rs)
    go (inl e) = inr ([], r, ap (λ (xs : List Record). r ∷ xs) e)
    go (inr (front, y, e)) = inr (r ∷ front, y, ap (λ (xs : List Record). r ∷ xs) e)

stands : (before : List Record) (s : State) → SoFar before s → (r : Record) → MayStand before r → may_stand (stage_in s) r ≡ true
unfolding may_stand
stands before s h r (first order) = rw (h.first refl)
stands before s h r (next b front y x e f) = let l = h.next front y e in rw l.1 (follows l.0 f)

pub place : (before : List Record) (s : State) → SoFar before s → (r : Record) → Whole r → Fails (may_stand (stage_in s) r) (Misplaced before r)
place before s h r w = negation (may_stand (stage_in s) r) (λ e. go e (ends before)) (stands before s h r)
  where
    go : may_stand (stage_in s) r ≡ true → Ends before → MayStand before r
    go e (inl nil) = rw nil (first_is r w (rw (h.first nil) at e))
    go e (inr (front, y, split)) =
        let l = h.next front y split in
        next before front y r split (may_follow y r w l.0 (rw l.1 at e))

-- ---- a CAN node after a LIN node

module _ (before : List Record) (s : State) (h : SoFar before s) where
  node_test :
      (body : NodeBody)
      → Fails (not (eqb body.of 0) || eqb (counts_in s).can (counts_in s).nodes) ((body.of ≡ 0) and ((n : ℕ) × LinBefore n before))
  node_test body =
      by (either (unequal body.of 0) (equal (counts_in s).can (counts_in s).nodes))
      (λ w. (w.0, ((counts_in s).can, h.lin (counts_in s).can (omega (arith, h.can)) (fewer w.1))))
      (λ w. (w.0, λ e. omega (arith, e, h.can, h.nodes, h.above w.1.0 w.1.1)))
    where
      fewer : ((counts_in s).can ≡ (counts_in s).nodes → ⊥) → (counts_in s).can < count_of 2 before
      fewer d = omega (arith, d, h.can, h.nodes, h.cans)

  is_after : (r : Record) → Whole r → can_first (counts_in s) r ≡ false → CanAfterLin before r
  unfolding can_first
  is_after r (head order) e = absurd (true≢false e)
  is_after r (node body) e = let w = (node_test body).says e in can_node body w.0 w.1.0 w.1.1
  is_after r (tx_frame x) e = absurd (true≢false e)
  is_after r (rx_frame x) e = absurd (true≢false e)
  is_after r (signal g) e = absurd (true≢false e)
  is_after r (destination t) e = absurd (true≢false e)

  not_first : (r : Record) → CanAfterLin before r → can_first (counts_in s) r ≡ false
  unfolding can_first
  not_first r (can_node body z n x) = (node_test body).back (z, (n, x))

  pub can_place : (r : Record) → Whole r → Fails (can_first (counts_in s) r) (CanAfterLin before r)
  can_place r w = record { says = is_after r w; back = not_first r }
