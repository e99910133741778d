-- The fullness that an area answers is the model's.
use mathlib.Core.Path.{◌≡◌, refl, ap, ◌∙◌}
use mathlib.Core.List.{List}
use Prim.Native.Nat.{ℕ, zero, suc, ◌<◌}
use native.Mathlib.Omega.{arith}
use lib.Dec.{ltb}
use lib.ListN.{length, get_or}
use borrow.Author.Tests.{ltb-true}
use Rattle.std.specs.Prelude.{Ok}
use Rattle.base.specs.Pick.{pick}
use Rattle.base.proofs.Picks.{picks}
use Rattle.base.proofs.Ranges.{at_most_is}
use Rattle.bits.specs.Digit.{digit}
use Rattle.bits.specs.Owners.{owners}
use Rattle.bits.proofs.DigitLaws.{digit-lt}
use Rattle.bits.proofs.OwnerLaws.{owners-le}
use Rattle.records.specs.Records.{records}
use Rattle.plan.specs.Check.{sets_of}
use Rattle.plan.specs.Progress.{start}
use Rattle.plan.specs.Rows.{all_claims, rows_of, claims_of, tx_of}
use Rattle.plan.proofs.Turn.{good_sets}
use Rattle.facts.specs.Good.{GoodPlan}
use Rattle.facts.proofs.Bounds.{good_bounds}
use Rattle.facts.proofs.FactsGood.{facts_good}
use Rattle.facts.proofs.Whole.{zeros, zeros-length, nobody, whole_claims}
use Rattle.area.specs.Layout.{owned_bits}
use Rattle.taking.specs.Taken.{fullness_answer}
use Rattle.model.specs.Plan.{said}
use Rattle.model.specs.State.{State}
use Rattle.model.specs.Fullness.{is_held, owned_below}
use Rattle.model.specs.Fullness as model
use Rattle.model.specs.Calls as calls
use Rattle.history.specs.Calls.{answer_in, area_after}
use Rattle.refines.proofs.Held.{Held}
use Rattle.refines.proofs.Follows.{Follows, chosen}
use Rattle.refines.proofs.Sets.{leaves}

-- ---- in a good plan a bit of a Tx frame's set is 1 exactly where a claim holds it

module _ (plan : List ℕ) (good : GoodPlan plan) where
  bit_held : (t b : ℕ) → digit (get_or (sets_of plan) t 0) b ≡ pick (is_held (all_claims (rows_of plan)) t b) 1 0
  unfolding claims_of rows_of
  bit_held t b =
      let checked = facts_good plan good in
      let first : digit (get_or zeros t 0) b ≡ 0 = omega (arith, digit-lt (get_or zeros t 0) b, nobody t b) in
      let small = (good_bounds plan _ _ _ checked).claims in
      ap (λ (all : List ℕ). digit (get_or all t 0) b) (good_sets plan _ _ _ checked)
      ∙ (rw (whole_claims (records plan) good.place) at (leaves (records plan) 0 0 0 0 0 start.row zeros good.place)) zeros-length small t b
      ∙ ap (pick (is_held (all_claims (rows_of plan)) t b) 1) first

  count_held : (t w : ℕ) → owners (get_or (sets_of plan) t 0) w ≡ owned_below (all_claims (rows_of plan)) t w
  unfolding owners owned_below
  count_held t zero = refl
  count_held t (suc w) = omega (arith, count_held t w, bit_held t w)

-- ---- the answer

module _ {plan a : List ℕ} {s : State} (h : Held plan a s) where
  stored : (t : ℕ) → t < length (tx_of plan) → owned_bits a t ≡ owned_below (all_claims (rows_of plan)) t 64
  stored t l =
      let e = (h.reads.tx t l).full in
      at_most_is 64 _ (omega (arith, e, owners-le (get_or (sets_of plan) t 0) 64)) ∙ e ∙ count_held plan h.good t 64

  answered : (t : ℕ) → fullness_answer a t ≡ model.fullness_of (said plan) t
  unfolding fullness_answer model.fullness_of
  answered t =
      picks _ _ _ h.reads.header.mark
      ∙ chosen (λ x y. x ≡ y) _ _ (ap (ltb t) h.reads.header.tx) (λ k. ap Ok (stored t (ltb-true t _ k))) (λ k. refl)

  pub fullness_follows : (t : ℕ) → Follows plan a s (calls.fullness t)
  unfolding answer_in area_after calls.answer_of calls.next_of
  fullness_follows t = record { answer = ap calls.full (answered t); held = h }
