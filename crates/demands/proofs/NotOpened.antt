-- Refusal 11 of a call is given exactly where the area is short or bears no mark.
use mathlib.Core.Path.{◌≡◌, refl, sym, ◌∙◌}
use mathlib.Core.Logic.{◌↔◌}
use mathlib.Core.Bool.{Bool, true, false, true≢false}
use mathlib.Core.List.{List}
use Prim.Native.Nat.{ℕ}
use native.Mathlib.Omega.{arith}
use lib.Dec.{leb, ltb, eqb}
use lib.ListN.{length}
use Rattle.std.specs.Prelude.{Result, Err}
use Rattle.base.specs.Pick.{pick}
use Rattle.base.proofs.Picks.{both}
use Rattle.records.specs.Nodes.{is_lin}
use Rattle.area.specs.Layout.{marked, node_count, type_on, tx_count, rx_count}
use Rattle.area.specs.Queue.{ends_of}
use Rattle.answers.specs.declared.Refusal.{Refusal}
use Rattle.answers.specs.declared.Refusal.TheVariants.{NotOpen}
use Rattle.answers.specs.declared.Responded.{Responded}
use Rattle.reception.specs.declared.lookup.Found.{Found}
use Rattle.reception.specs.declared.lookup.Found.TheVariants.{At, Nothing}
use Rattle.reception.specs.Lookup.{looked_up}
use Rattle.reception.specs.Reception.{found_answer, received_answer}
use Rattle.polling.specs.Polling.{polled, row_answer, polled_answer, responded_answer, silence_of, silent_answer}
use Rattle.ticking.specs.Tick.{tick_answer}
use Rattle.taking.specs.Taken.{oldest_answer, taken_answer, fullness_answer}
use Rattle.refines.specs.Shows.{Marked}
use Rattle.refines.proofs.Worlds.{marks, unmarked}
use Rattle.demands.specs.Demand1.{NotOpened}

-- two answers that are not one
pub no : ◌≡◌ {A = ℕ} 0 1 → ⊥
no z = omega arith

-- a test answers y exactly where it fails
last : {A : Type 0} (t : Bool) (x y : A) → (x ≡ y → ⊥) → (pick t x y ≡ y) ↔ (t ≡ false)
unfolding pick
last true x y d = (λ e. absurd (d e), λ e. absurd (true≢false e))
last false x y d = (λ e. refl, λ e. refl)

module _ (a : List ℕ) where
  -- by the test of the mark, which comes first
  first : {A : Type 0} (x y : A) → (x ≡ y → ⊥) → (pick (marked a) x y ≡ y) ↔ (Marked a → ⊥)
  first x y d =
      let w = last (marked a) x y d in
      (λ e m. true≢false (sym (marks m) ∙ w.0 e), λ n. w.1 (unmarked a n))

  -- ---- what comes after it answers no refusal 11

  unrefused : (payload : List ℕ) (why : Refusal) (f : Found) → found_answer a f payload ≡ Err why → ⊥
  unfolding found_answer
  unrefused payload why (Nothing place) = λ e. no cc
  unrefused payload why (At r) = both (λ x. x ≡ Err why → ⊥) _ _ _ (λ e. no cc) (λ e. no cc)

  unresponded : (id : ℕ) (payload : List ℕ) (sum : ℕ) (f : Found) → polled_answer a f id payload sum ≡ Err NotOpen → ⊥
  unfolding polled_answer row_answer
  unresponded id payload sum (Nothing place) = λ e. no cc
  unresponded id payload sum (At r) =
      let P : Result Responded Refusal → Type 0 = λ x. x ≡ Err NotOpen → ⊥ in
      both P _ _ _ (both P _ _ _ (λ e. no cc) (both P _ _ _ (λ e. no cc) (λ e. no cc))) (λ e. no cc)

  unsilenced : (f : Found) → silence_of a f ≡ Err NotOpen → ⊥
  unfolding silence_of
  unsilenced (Nothing place) = λ e. no cc
  unsilenced (At r) = both (λ x. x ≡ Err NotOpen → ⊥) _ _ _ (λ e. no cc) (λ e. no cc)

  pub taken_unrefused : (n : ℕ) (why : Refusal) → oldest_answer a n ≡ Err why → ⊥
  unfolding oldest_answer
  taken_unrefused n why =
      both (λ x. x ≡ Err why → ⊥) (eqb (ends_of a n).waiting 0) _ _ (λ e. no cc) (λ e. no cc)

  pub not_opened : NotOpened a
  unfolding received_answer responded_answer silent_answer tick_answer taken_answer fullness_answer
  not_opened =
      record {
        reception =
            λ n id payload.
            first _ _
            (both (λ x. x ≡ Err NotOpen → ⊥) (ltb n (node_count a)) _ _
            (both (λ x. x ≡ Err NotOpen → ⊥) (is_lin (type_on a n)) _ _ (λ e. no cc)
            (both (λ x. x ≡ Err NotOpen → ⊥) (leb (length payload) 8) _ _ (unrefused payload NotOpen (looked_up a n id)) (λ e. no cc)))
            (λ e. no cc));
        response =
            λ n id payload sum.
            first _ _
            (both (λ x. x ≡ Err NotOpen → ⊥) (ltb n (node_count a)) _ _ (unresponded id payload sum (polled a n id)) (λ e. no cc));
        no_response =
            λ n id. first _ _ (both (λ x. x ≡ Err NotOpen → ⊥) (ltb n (node_count a)) _ _ (unsilenced (polled a n id)) (λ e. no cc));
        tick =
            λ report. first _ _ (both (λ x. x ≡ Err NotOpen → ⊥) (leb (rx_count a) (length report)) _ _ (λ e. no cc) (λ e. no cc));
        take =
            λ n. first _ _ (both (λ x. x ≡ Err NotOpen → ⊥) (ltb n (node_count a)) _ _ (taken_unrefused n NotOpen) (λ e. no cc));
        fullness =
            λ t. first _ _ (both (λ x. x ≡ Err NotOpen → ⊥) (ltb t (tx_count a)) _ _ (λ e. no cc) (λ e. no cc));
      }
