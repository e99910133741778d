-- Stores in a row, and tables of two-byte numbers: what is read there afterwards, and what is left.
use mathlib.Core.Path.{◌≡◌, refl, ◌∙◌}
use mathlib.Core.Logic.{⊎_elim}
use mathlib.Core.List.{List, [], ◌∷◌}
use Prim.Native.Nat.{ℕ, zero, suc, ◌+◌, ◌<◌, ◌≤◌}
use native.Mathlib.Nat.{add-zero, zero-add, eq-or-lt_of_le}
use native.Mathlib.Omega.{arith}
use lib.ListN.{length, set, length-set}
use lib.Seq.{get_or-set_same}
use Rattle.base.specs.Numbers.{byte_at, low_at, set_low}
use Rattle.base.proofs.Ranges.{low_same}
use Rattle.area.proofs.Frame.{Same, Same-refl, Same-then, Same-set, Same-set_low, same_two}

-- P names no place from lo on and before hi
abbrev pub None : (ℕ → Type 0) → ℕ → ℕ → Type 0
None P lo hi = (j : ℕ) → lo ≤ j → j < hi → P j → ⊥

module _ {P : ℕ → Type 0} {lo hi : ℕ} (none : None P lo hi) where
  pub put : {a b : List ℕ} (i v : ℕ) → lo ≤ i → i < hi → Same P a b → Same P a (set b i v)
  put i v low high s = Same-set i v (none i low high) s

  pub put_two : {a b : List ℕ} (i v : ℕ) → lo ≤ i → i + 1 < hi → Same P a b → Same P a (set_low b i v)
  put_two i v low high s = Same-set_low i v (none i low (omega arith)) (none (i + 1) (omega arith) high) s

-- ---- stores in a row: vs from i + k on

unfoldable pub written : List ℕ → ℕ → ℕ → List ℕ → List ℕ
written a i k [] = a
written a i k (v ∷ vs) = written (set a (i + k) v) i (suc k) vs

pub Same-written : {P : ℕ → Type 0} (a : List ℕ) (i k : ℕ) (vs : List ℕ) → None P (i + k) (i + k + length vs) → Same P a (written a i k vs)
unfolding written
Same-written a i k [] none = Same-refl a
Same-written a i k (v ∷ vs) none =
    Same-then
    (put none (i + k) v (omega arith) (omega arith) (Same-refl a))
    (Same-written (set a (i + k) v) i (suc k) vs (λ j low high. none j (omega arith) (omega arith)))

written_from :
    (a : List ℕ) (i k : ℕ) (vs : List ℕ) (j : ℕ) → j < length vs → i + k + length vs ≤ length a → byte_at (written a i k vs) (i + (k + j)) ≡ byte_at vs j
unfolding written
written_from a i k [] j h l = absurd (omega arith)
written_from a i k (v ∷ vs) zero h l =
    let s = Same-written {P = λ j. j ≡ i + k} (set a (i + k) v) i (suc k) vs (λ j low high e. omega arith) in
    rw add-zero (s.at (i + k) refl ∙ get_or-set_same a (i + k) v 0 (omega arith))
written_from a i k (v ∷ vs) (suc j) h l =
    let e : k + suc j ≡ suc k + j = omega arith in
    rw e (written_from (set a (i + k) v) i (suc k) vs j (omega arith) (omega (arith, length-set a (i + k) v)))

pub written_at : (a : List ℕ) (i : ℕ) (vs : List ℕ) (j : ℕ) → j < length vs → i + length vs ≤ length a → byte_at (written a i 0 vs) (i + j) ≡ byte_at vs j
written_at a i vs j h l = rw zero-add at (written_from a i 0 vs j h (omega arith))

-- ---- a table of two-byte numbers, written from its first row on

module _
    (f : ℕ → List ℕ) (place value : ℕ → ℕ) (step : (n : ℕ) → f (suc n) ≡ set_low (f n) (place n) (value n))
    (rises : (m n : ℕ) → m < n → place m + 2 ≤ place n) (most : ℕ) (fits : (n : ℕ) → n < most → (place n + 1 < length (f 0)) × (value n < 65536))
  where
    rows_length : (n : ℕ) → length (f n) ≡ length (f 0)
    rows_length zero = refl
    rows_length (suc n) = rw (step n, length-set, length-set) (rows_length n)

    pub rows_at : (n : ℕ) → n ≤ most → (k : ℕ) → k < n → low_at (f n) (place k) ≡ value k
    rows_at zero h k l = absurd (omega arith)
    rows_at (suc n) h k l =
        let len = rows_length n in
        let fit = fits n (omega arith) in
        rw (step n)
        (⊎_elim
        (λ (e : k ≡ n). rw e (low_same (f n) (place n) (value n) (omega arith) fit.1))
        (λ (m : k < n).
        let apart = rises k n m in
        let P : ℕ → Type 0 = λ j. (place k ≤ j) × (j < place k + 2) in
        let s : Same P (f n) (set_low (f n) (place n) (value n)) = Same-set_low (place n) (value n) (omega arith) (omega arith) (Same-refl (f n)) in
        same_two s (place k) (omega arith) (omega arith) ∙ rows_at n (omega arith) k m)
        (eq-or-lt_of_le (omega arith)))
