-- One test that chooses two things, such as an answer and an area: what holds of each side's two holds of the two that are chosen.
use mathlib.Core.Path.{◌≡◌, refl}
use mathlib.Core.Bool.{Bool, true, false}
use Rattle.base.specs.Pick.{pick}

pub pairs {ℓ κ} : {A : Type ℓ} {B : Type κ} (P : A → B → Type 0) (t : Bool) {x y : A} {u v : B} → (t ≡ true → P x u) → (t ≡ false → P y v)
    → P (pick t x y) (pick t u v)
unfolding pick
pairs P true p q = p refl
pairs P false p q = q refl
