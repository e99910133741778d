-- Laws of `pick`: what is known of a choice from its two sides, and from its test.
use mathlib.Core.Path.{◌≡◌, refl}
use mathlib.Core.Bool.{Bool, true, false, true≢false, false≢true}
use Prim.Native.Nat.{ℕ}
use lib.Dec.{eqb}
use borrow.Author.Tests.{eqb-true, eqb-false}
use Rattle.base.specs.Pick.{pick}

-- by the test's answer
pub picks {ℓ} : {A : Type ℓ} (t : Bool) (x y : A) → t ≡ true → pick t x y ≡ x
unfolding pick
picks true x y e = refl
picks false x y e = absurd (false≢true e)

pub passes {ℓ} : {A : Type ℓ} (t : Bool) (x y : A) → t ≡ false → pick t x y ≡ y
unfolding pick
passes true x y e = absurd (true≢false e)
passes false x y e = refl

-- what holds of each side, where its answer is the test's, holds of the choice
pub cases {ℓ} : {A : Type ℓ} (P : A → Type 0) (t : Bool) (x y : A) → (t ≡ true → P x) → (t ≡ false → P y) → P (pick t x y)
unfolding pick
cases P true x y p q = p refl
cases P false x y p q = q refl

pub both {ℓ} : {A : Type ℓ} (P : A → Type 0) (t : Bool) (x y : A) → P x → P y → P (pick t x y)
both P t x y p q = cases P t x y (λ e. p) (λ e. q)

pub by_eqb {ℓ} : {A : Type ℓ} (P : A → Type 0) (m n : ℕ) (x y : A) → (m ≡ n → P x) → ((m ≡ n → ⊥) → P y) → P (pick (eqb m n) x y)
by_eqb P m n x y p q = cases P (eqb m n) x y (λ e. p (eqb-true m n e)) (λ e. q (eqb-false m n e))

-- a function goes into a choice; a choice between one thing is that thing
pub into {ℓ κ} : {A : Type ℓ} {B : Type κ} (f : A → B) (t : Bool) (x y : A) → f (pick t x y) ≡ pick t (f x) (f y)
unfolding pick
into f true x y = refl
into f false x y = refl

pub alike {ℓ} : {A : Type ℓ} (t : Bool) (x : A) → pick t x x ≡ x
unfolding pick
alike true x = refl
alike false x = refl
