-- The numbers below a bound that pass a test, in number order.
use mathlib.Core.Path.{◌≡◌, refl}
use mathlib.Core.Logic.{◌⊎◌, inl, inr, ⊎_elim}
use mathlib.Core.Bool.{Bool, true}
use mathlib.Core.List.{List, [], ◌∷◌, ◌++◌, append-nil}
use Prim.Native.Nat.{ℕ, zero, suc, ◌<◌}
use native.Mathlib.Omega.{arith}
use native.Mathlib.Decide.{ℕ_discrete}
use Rattle.base.specs.Pick.{pick}
use Rattle.base.proofs.Picks.{cases, picks}
use Rattle.facts.specs.Good.{Each}
use Rattle.model.specs.Words.{In, Ascending, Those}

-- ---- standing in a list

pub In-left : {A : Type 0} (x : A) (xs ys : List A) → In x xs → In x (xs ++ ys)
unfolding In
In-left x [] ys i = absurd i
In-left x (z ∷ xs) ys (inl e) = inl e
In-left x (z ∷ xs) ys (inr i) = inr (In-left x xs ys i)

pub In-right : {A : Type 0} (x : A) (xs ys : List A) → In x ys → In x (xs ++ ys)
unfolding In
In-right x [] ys i = i
In-right x (z ∷ xs) ys i = inr (In-right x xs ys i)

pub In-either : {A : Type 0} (x : A) (xs ys : List A) → In x (xs ++ ys) → In x xs ⊎ In x ys
unfolding In
In-either x [] ys i = inr i
In-either x (z ∷ xs) ys (inl e) = inl (inl e)
In-either x (z ∷ xs) ys (inr i) = ⊎_elim (λ j. inl (inr j)) inr (In-either x xs ys i)

-- ---- the list

unfoldable pub upto : (ℕ → Bool) → ℕ → List ℕ
upto test zero = []
upto test (suc n) = upto test n ++ pick (test n) (n ∷ []) []

rising_last : (xs : List ℕ) (n : ℕ) → Ascending xs → ((x : ℕ) → In x xs → x < n) → Ascending (xs ++ (n ∷ []))
unfolding Ascending Each In
rising_last [] n r f = (tt, tt)
rising_last (x ∷ xs) n r f = (each xs r.0 (f x (inl refl)), rising_last xs n r.1 (λ y i. f y (inr i)))
  where
    each : (ys : List ℕ) → Each (λ y. x < y) ys → x < n → Each (λ y. x < y) (ys ++ (n ∷ []))
    each [] e l = (l, tt)
    each (y ∷ ys) e l = (e.0, each ys e.1 l)

module _ (test : ℕ → Bool) where
  pub upto_in : (n x : ℕ) → In x (upto test n) → (x < n) × (test x ≡ true)
  unfolding upto In
  upto_in zero x i = absurd i
  upto_in (suc n) x i = ⊎_elim (λ j. let w = upto_in n x j in (omega (arith, w.0), w.1)) last (In-either x (upto test n) _ i)
    where
      last : In x (pick (test n) (n ∷ []) []) → (x < suc n) × (test x ≡ true)
      last =
          cases (λ l. In x l → (x < suc n) × (test x ≡ true)) (test n) (n ∷ []) []
          (λ e w. ⊎_elim (λ k. (omega arith, rw k e)) (λ k. absurd k) w) (λ e w. absurd w)

  pub In-upto : (n x : ℕ) → x < n → test x ≡ true → In x (upto test n)
  unfolding upto In
  In-upto zero x l e = absurd (omega arith)
  In-upto (suc n) x l e = go (ℕ_discrete x n) (λ m. In-upto n x m e)
    where
      go : Dec (x ≡ n) → (x < n → In x (upto test n)) → In x (upto test n ++ pick (test n) (n ∷ []) [])
      go (yes k) f = In-right x (upto test n) _ (rw (picks (test n) (n ∷ []) [] (rw (← k) e)) (inl k))
      go (no k) f = In-left x (upto test n) _ (f (omega arith))

  rising_upto : (n : ℕ) → Ascending (upto test n)
  unfolding upto Ascending
  rising_upto zero = tt
  rising_upto (suc n) =
      cases (λ l. Ascending (upto test n ++ l)) (test n) (n ∷ []) []
      (λ e. rising_last (upto test n) n (rising_upto n) (λ x i. (upto_in n x i).0))
      (λ e. rw append-nil (rising_upto n))

  pub Those-upto : (n : ℕ) {P : ℕ → Type 0} → ((x : ℕ) → x < n → test x ≡ true → P x) → ((x : ℕ) → P x → x < n) → ((x : ℕ) → P x → test x ≡ true)
      → Those P (upto test n)
  Those-upto n f g h =
      record {
        order = rising_upto n;
        exactly = λ x. ((λ i. let w = upto_in n x i in f x w.0 w.1), (λ q. In-upto n x (g x q) (h x q)));
      }
