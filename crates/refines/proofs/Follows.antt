-- One call on an area and on the state that it shows, and two choices by one test.
use mathlib.Core.Path.{◌≡◌, refl}
use mathlib.Core.Bool.{Bool, true, false}
use mathlib.Core.List.{List}
use Prim.Native.Nat.{ℕ}
use Rattle.base.specs.Pick.{pick}
use Rattle.model.specs.Plan.{said}
use Rattle.model.specs.State.{State}
use Rattle.model.specs.Calls.{Call, answer_of, next_of}
use Rattle.history.specs.Calls.{answer_in, area_after}
use Rattle.refines.proofs.Held.{Held}

pub record Follows (plan a : List ℕ) (s : State) (c : Call) : Type 0 where
  pub answer : answer_in a c ≡ answer_of (said plan) s c
  pub held : Held plan (area_after a c) (next_of (said plan) s c)

-- what holds between both sides of two choices holds between the choices
pub chosen {ℓ κ} :
    {A : Type ℓ} {B : Type κ} (P : A → B → Type 0) (t u : Bool) {x y : A} {v w : B} → t ≡ u → (u ≡ true → P x v) → (u ≡ false → P y w)
    → P (pick t x y) (pick u v w)
unfolding pick
chosen P t true e f g = rw e (f refl)
chosen P t false e f g = rw e (g refl)
