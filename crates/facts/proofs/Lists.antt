-- Laws of what holds of each element.
use mathlib.Core.List.{List, [], ◌∷◌}
use Prim.Native.Nat.{ℕ, zero, suc, ◌<◌}
use native.Mathlib.Omega.{arith}
use lib.ListN.{length, get_or}
use Rattle.facts.specs.Good.{Each}

pub Each-map {ℓ} : {A : Type ℓ} {P Q : A → Type 0} → ((x : A) → P x → Q x) → (xs : List A) → Each P xs → Each Q xs
unfolding Each
Each-map f [] h = tt
Each-map f (x ∷ xs) h = (f x h.0, Each-map f xs h.1)

pub Each-both {ℓ} : {A : Type ℓ} {P Q R : A → Type 0} → ((x : A) → P x → Q x → R x) → (xs : List A) → Each P xs → Each Q xs → Each R xs
unfolding Each
Each-both f [] h k = tt
Each-both f (x ∷ xs) h k = (f x h.0 k.0, Each-both f xs h.1 k.1)

pub Each-all {ℓ} : {A : Type ℓ} {P : A → Type 0} → ((x : A) → P x) → (xs : List A) → Each P xs
unfolding Each
Each-all f [] = tt
Each-all f (x ∷ xs) = (f x, Each-all f xs)

pub each_at {ℓ} : {A : Type ℓ} (P : A → Type 0) (xs : List A) (d : A) (k : ℕ) → k < length xs → Each P xs → P (get_or xs k d)
unfolding Each
each_at P [] d k l h = absurd (omega arith)
each_at P (x ∷ xs) d zero l h = h.0
each_at P (x ∷ xs) d (suc k) l h = each_at P xs d k (omega arith) h.1
