-- Whether a node is a LIN node, and the model's test of it.
use mathlib.Core.Path.{◌≡◌, refl, sym, ◌∙◌}
use mathlib.Core.Bool.{true, false, true≢false}
use Prim.Native.Nat.{ℕ}
use lib.ListN.{get_or}
use Rattle.base.specs.Pick.{pick}
use Rattle.base.proofs.Apart.{differ}
use Rattle.base.proofs.Picks.{cases}
use Rattle.records.specs.declared.record.NodeType.{NodeType}
use Rattle.records.specs.declared.record.NodeType.TheVariants.{Can, Lin}
use Rattle.records.specs.Nodes.{is_lin}
use Rattle.model.specs.Plan.{Plan, on_lin}
use Rattle.model.specs.Words.{LinNode}

not_lin : (x : NodeType) → (x ≡ Lin → ⊥) → is_lin x ≡ false
unfolding is_lin
not_lin Can n = refl
not_lin Lin n = absurd (n refl)

lin_only : (x : NodeType) → is_lin x ≡ true → x ≡ Lin
unfolding is_lin
lin_only Can e = absurd (differ cc)
lin_only Lin e = refl

dec_type : (x : NodeType) → Dec (x ≡ Lin)
dec_type Can = no (λ e. differ cc)
dec_type Lin = yes refl

module _ (p : Plan) (n : ℕ) where
  pub lin_on : LinNode p n → on_lin p n ≡ true
  unfolding is_lin
  lin_on e = rw e

  pub lin_off : (LinNode p n → ⊥) → on_lin p n ≡ false
  lin_off f = not_lin _ f

  pub dec_lin : Dec (LinNode p n)
  dec_lin = dec_type (get_or p.types n Can)

  -- by what the node is
  pub by_lin {ℓ} : {A : Type ℓ} (P : A → Type 0) (x y : A) → (LinNode p n → P x) → ((LinNode p n → ⊥) → P y) → P (pick (on_lin p n) x y)
  by_lin P x y f g = cases P (on_lin p n) x y (λ e. f (lin_only _ e)) (λ e. g (λ l. true≢false (sym (lin_on l) ∙ e)))
