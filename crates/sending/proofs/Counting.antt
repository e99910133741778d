-- A list of nodes: different places in it at which node n stands are no more than how often it stands there.
use mathlib.Core.Path.{◌≡◌, refl}
use mathlib.Core.Logic.{◌≢◌, ◌⊎◌, inl, inr, ⊎_elim}
use mathlib.Core.List.{List, [], ◌∷◌, ◌++◌}
use Prim.Native.Nat.{ℕ, zero, suc, ◌+◌, ◌-◌, ◌≤◌, ◌<◌}
use native.Mathlib.Decide.{ℕ_discrete}
use native.Mathlib.Omega.{arith}
use lib.Dec.{ltb, eqb}
use lib.ListN.{length, get_or}
use borrow.Author.Tests.{eq-eqb, ltb-true, ltb-false}
use Rattle.base.specs.Pick.{pick}
use Rattle.base.proofs.Picks.{picks, cases}

-- ---- the places below m at which f is 0

data Zero (f : ℕ → ℕ) (m : ℕ) : Type 0 where
  at : (j : ℕ) → j < m → f j ≡ 0 → Zero f m
  never : ((j : ℕ) → j < m → f j ≢ 0) → Zero f m

find : (f : ℕ → ℕ) (m : ℕ) → Zero f m
find f zero = never (λ j h. absurd (omega arith))
find f (suc m) = go (find f m) (ℕ_discrete (f m) 0)
  where
    go : Zero f m → Dec (f m ≡ 0) → Zero f (suc m)
    go (at j h e) d = at j (omega arith) e
    go (never none) (yes e) = at m (omega arith) e
    go (never none) (no d) = never (λ j h. last j h (ℕ_discrete j m))
      where
        last : (j : ℕ) → j < suc m → Dec (j ≡ m) → f j ≢ 0
        last j h (yes e) = rw e d
        last j h (no e) = none j (omega arith)

-- ---- the numbers without j

unfoldable skip : ℕ → ℕ → ℕ
skip j i = pick (ltb i j) i (suc i)

abbrev Skips : ℕ → ℕ → ℕ → Type 0
Skips j i s = ((s ≡ i) × (i < j)) ⊎ ((s ≡ suc i) × (j ≤ i))

skips : (j i : ℕ) → Skips j i (skip j i)
unfolding skip
skips j i = cases (Skips j i) (ltb i j) i (suc i) (λ e. inl (refl, ltb-true i j e)) (λ e. inr (refl, ltb-false i j e))

skip_other : (j i : ℕ) → skip j i ≢ j
skip_other j i e = ⊎_elim (λ x. omega arith) (λ x. omega arith) (skips j i)

skip_low : (j i m : ℕ) → i < m - 1 → skip j i < m
skip_low j i m h = ⊎_elim (λ x. omega arith) (λ x. omega arith) (skips j i)

skip_once : (j i k : ℕ) → skip j i ≡ skip j k → i ≡ k
skip_once j i k e =
    ⊎_elim (λ x. ⊎_elim (λ y. omega arith) (λ y. omega arith) (skips j k)) (λ x. ⊎_elim (λ y. omega arith) (λ y. omega arith) (skips j k)) (skips j i)

-- ---- the numbers f 0 to f (m - 1) are different, and at each stands node n

-- how many of some nodes are node n
unfoldable pub count_on : ℕ → List ℕ → ℕ
count_on n [] = 0
count_on n (x ∷ xs) = pick (eqb x n) 1 0 + count_on n xs

pub count_append : (n : ℕ) (xs ys : List ℕ) → count_on n (xs ++ ys) ≡ count_on n xs + count_on n ys
unfolding count_on
count_append n [] ys = omega arith
count_append n (x ∷ xs) ys = omega (arith, count_append n xs ys)

module _ (n : ℕ) where
  pub record Named (xs : List ℕ) (f : ℕ → ℕ) (m : ℕ) : Type 0 where
    pub within : (i : ℕ) → i < m → f i < length xs
    pub node : (i : ℕ) → i < m → get_or xs (f i) 0 ≡ n
    pub once : (i j : ℕ) → i < m → j < m → f i ≡ f j → i ≡ j

  -- none of them is the first
  later : (x : ℕ) (xs : List ℕ) (f : ℕ → ℕ) (m : ℕ) → ((i : ℕ) → i < m → f i ≢ 0) → Named (x ∷ xs) f m → Named xs (λ i. f i - 1) m
  later x xs f m some named =
      record {
        within = λ i h. omega (arith, some i h, named.within i h);
        node = λ i h. let e : f i ≡ suc (f i - 1) = omega (arith, some i h) in rw e at (named.node i h);
        once = λ i j h k e. named.once i j h k (omega (arith, some i h, some j k));
      }

  -- all but that at j
  others : (xs : List ℕ) (f : ℕ → ℕ) (m j : ℕ) → Named xs f m → Named xs (λ i. f (skip j i)) (m - 1)
  others xs f m j named =
      record {
        within = λ i h. named.within (skip j i) (skip_low j i m h);
        node = λ i h. named.node (skip j i) (skip_low j i m h);
        once = λ i k h l e. skip_once j i k (named.once _ _ (skip_low j i m h) (skip_low j k m l) e);
      }

  pub no_more : (xs : List ℕ) (f : ℕ → ℕ) (m : ℕ) → Named xs f m → m ≤ count_on n xs
  unfolding count_on
  no_more [] f zero named = omega arith
  no_more [] f (suc m) named = absurd (omega (arith, named.within 0 (omega arith)))
  no_more (x ∷ xs) f m named = go (find f m) (no_more xs)
    where
      go : Zero f m → ((g : ℕ → ℕ) (k : ℕ) → Named xs g k → k ≤ count_on n xs) → m ≤ count_on n (x ∷ xs)
      go (never some) rest = omega (arith, rest _ m (later x xs f m some named))
      go (at j h e) rest =
          let first : x ≡ n = rw e at (named.node j h) in
          let one : ◌≡◌ {A = ℕ} (pick (eqb x n) 1 0) 1 = picks _ _ _ (eq-eqb _ _ first) in
          let some : (i : ℕ) → i < m - 1 → f (skip j i) ≢ 0 =
          λ i l z. skip_other j i (named.once _ j (skip_low j i m l) h (omega arith)) in
          omega (arith, rest _ (m - 1) (later x xs _ (m - 1) some (others (x ∷ xs) f m j named)))
