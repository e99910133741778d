-- Each frame of a good plan has a prescaler of 1, 2, 10 or 20, and its timer is handled at the ticks that this divides.
use mathlib.Core.Path.{◌≡◌, refl}
use mathlib.Core.Logic.{◌⊎◌, inl, inr, ⊎_elim}
use mathlib.Core.Bool.{Bool, true, false, ◌||◌}
use mathlib.Core.List.{List}
use Prim.Native.Nat.{ℕ, ◌%◌, ◌<◌}
use lib.ListN.{length}
use lib.Dec.{eqb}
use borrow.Author.Tests.{eqb-true}
use Rattle.records.specs.Views.{no_tx}
use Rattle.clock.specs.Counter.{Prescaler, counter_after, mask_of, no_common_bit, handled}
use Rattle.clock.proofs.Counters.{handled_divides}
use Rattle.clock.specs.Counter.Prescaler.{one, two, ten, twenty}
use Rattle.plan.specs.Tests.{is_prescaler}
use Rattle.plan.specs.Rows.{rows_of, tx_of}
use Rattle.facts.specs.Good.{GoodPlan}
use Rattle.facts.proofs.ByNumber.{frame_ranges}
use Rattle.tables.specs.Reads.{planned_tx, row_at}
use Rattle.tables.proofs.RowFacts.{row_ranges}

either : (x y : Bool) → (x || y) ≡ true → (x ≡ true) ⊎ (y ≡ true)
either true y e = inl refl
either false y e = inr e

prescales : (p : ℕ) → is_prescaler p ≡ true → Prescaler p
unfolding is_prescaler
prescales p e =
    ⊎_elim
    (λ x.
    ⊎_elim
    (λ y.
    ⊎_elim
    (λ z. rw (eqb-true p 1 z) one)
    (λ z. rw (eqb-true p 2 z) two)
    (either (eqb p 1) (eqb p 2) y))
    (λ y. rw (eqb-true p 10 y) ten)
    (either (eqb p 1 || eqb p 2) (eqb p 10) x))
    (λ x. rw (eqb-true p 20 x) twenty)
    (either (eqb p 1 || eqb p 2 || eqb p 10) (eqb p 20) e)

module _ (plan : List ℕ) (good : GoodPlan plan) where
  pub tx_prescaler : (t : ℕ) → t < length (tx_of plan) → Prescaler (planned_tx plan t).prescaler
  tx_prescaler t h = prescales _ (frame_ranges plan good no_tx t h).prescaler

  pub rx_prescaler : (r : ℕ) → r < length (rows_of plan) → Prescaler (row_at plan r).frame.prescaler
  rx_prescaler r h = prescales _ (row_ranges plan good r h).prescaler

-- the test that a tick makes of a timer, by its mask, is whether the prescaler divides the tick's number
pub mask_divides : {p : ℕ} → Prescaler p → (k c m : ℕ) → c ≡ counter_after k → m ≡ mask_of p → no_common_bit c m ≡ eqb (k % p) 0
unfolding handled
mask_divides d k c m e f = rw (e, f) (handled_divides d k)
