-- The Rx frames of a node with a smaller ID: their numbers in order, and that the model counts them. Where they are rows one after the other, the
-- count is how many rows these are.
use mathlib.Core.Path.{◌≡◌, refl, sym, ap, ◌∙◌}
use mathlib.Core.Logic.{inl, inr, ⊎_elim, dite, ◌↔◌}
use mathlib.Core.List.{List, [], ◌∷◌}
use Prim.Native.Nat.{ℕ, zero, suc, ◌+◌, ◌≤◌, ◌<◌}
use native.Mathlib.Omega.{arith}
use native.Mathlib.Decide.{ℕ_discrete}
use lib.Dec.{eqb}
use lib.ListN.{length, get_or}
use borrow.Author.Tests.{eq-eqb, ne_eqb}
use Rattle.base.specs.Pick.{pick}
use Rattle.base.proofs.Picks.{picks, passes}
use Rattle.records.specs.declared.record.Id.{Id}
use Rattle.records.specs.Ids.{Before, is_before}
use Rattle.records.proofs.IdLaws.{is_before_iff}
use Rattle.plan.specs.Rows.{Row, no_row}
use Rattle.facts.specs.Good.{Each}
use Rattle.model.specs.Plan.{Plan}
use Rattle.model.specs.Reception.{smaller}
use Rattle.model.specs.Words.{In, Ascending, Those, Smaller}
use Rattle.model.proofs.Ids.{dec_before, not_before}
use Rattle.model.proofs.Words.{those_same, dec_both}

-- ---- one row

module _ (n : ℕ) (i : Id) where
  abbrev Has : Row → Type 0
  Has x = (x.frame.node ≡ n) × Before x.frame.id i

  -- what a row with a smaller ID chooses, and what any other
  chosen : {A : Type 0} (u v : A) (x : Row) → Has x → pick (eqb x.frame.node n) (pick (is_before x.frame.id i) u v) v ≡ u
  chosen u v x h = picks _ _ _ (eq-eqb _ n h.0) ∙ picks _ _ _ ((is_before_iff _ i).1 h.1)

  passed : {A : Type 0} (u v : A) (x : Row) → (Has x → ⊥) → pick (eqb x.frame.node n) (pick (is_before x.frame.id i) u v) v ≡ v
  passed u v x d = go (ℕ_discrete x.frame.node n) (dec_before x.frame.id i)
    where
      go : Dec (x.frame.node ≡ n) → Dec (Before x.frame.id i) → pick (eqb x.frame.node n) (pick (is_before x.frame.id i) u v) v ≡ v
      go (yes a) (yes b) = absurd (d (a, b))
      go (yes a) (no b) = picks _ _ _ (eq-eqb _ n a) ∙ passes _ _ _ (not_before _ i b)
      go (no a) w = passes _ _ _ (ne_eqb _ n a)

  dec_has : (x : Row) → Dec (Has x)
  dec_has x = dec_both (ℕ_discrete x.frame.node n) (dec_before x.frame.id i)

  -- ---- their numbers, the first of these rows having number r

  unfoldable pub numbers : ℕ → List Row → List ℕ
  numbers r [] = []
  numbers r (x ∷ xs) =
      pick (eqb x.frame.node n) (pick (is_before x.frame.id i) (r ∷ numbers (suc r) xs) (numbers (suc r) xs)) (numbers (suc r) xs)

  one_more : (r : ℕ) (x : Row) (xs : List Row) → Has x → numbers r (x ∷ xs) ≡ r ∷ numbers (suc r) xs
  unfolding numbers
  one_more r x xs = chosen (r ∷ numbers (suc r) xs) (numbers (suc r) xs) x

  no_more : (r : ℕ) (x : Row) (xs : List Row) → (Has x → ⊥) → numbers r (x ∷ xs) ≡ numbers (suc r) xs
  unfolding numbers
  no_more r x xs = passed (r ∷ numbers (suc r) xs) (numbers (suc r) xs) x

  pub many : (r : ℕ) (rows : List Row) → length (numbers r rows) ≡ smaller n i rows
  unfolding numbers smaller
  many r [] = refl
  many r (x ∷ xs) = go (dec_has x) (many (suc r) xs)
    where
      go : Dec (Has x) → length (numbers (suc r) xs) ≡ smaller n i xs → length (numbers r (x ∷ xs)) ≡ smaller n i (x ∷ xs)
      go (yes h) e = rw (one_more r x xs h, chosen {A = ℕ} 1 0 x h) (omega arith)
      go (no d) e = rw (no_more r x xs d, passed {A = ℕ} 1 0 x d) (omega arith)

  above : (r q : ℕ) (rows : List Row) → q < r → Each (λ y. q < y) (numbers r rows)
  unfolding numbers Each
  above r q [] l = tt
  above r q (x ∷ xs) l = go (dec_has x) (above (suc r) q xs (omega arith))
    where
      go : Dec (Has x) → Each (λ y. q < y) (numbers (suc r) xs) → Each (λ y. q < y) (numbers r (x ∷ xs))
      go (yes h) e = rw (one_more r x xs h) (l, e)
      go (no d) e = rw (no_more r x xs d) e

  in_order : (r : ℕ) (rows : List Row) → Ascending (numbers r rows)
  unfolding numbers Ascending
  in_order r [] = tt
  in_order r (x ∷ xs) = go (dec_has x) (in_order (suc r) xs)
    where
      go : Dec (Has x) → Ascending (numbers (suc r) xs) → Ascending (numbers r (x ∷ xs))
      go (yes h) e = rw (one_more r x xs h) (above (suc r) r xs (omega arith), e)
      go (no d) e = rw (no_more r x xs d) e

  abbrev There : ℕ → List Row → ℕ → Type 0
  There r rows k = (j : ℕ) × (k ≡ r + j) × (j < length rows) × Has (get_or rows j no_row)

  later : (r k : ℕ) (x : Row) (xs : List Row) → There (suc r) xs k → There r (x ∷ xs) k
  later r k x xs (j, e, l, h) = (suc j, omega arith, omega arith, h)

  only : (r : ℕ) (rows : List Row) (k : ℕ) → In k (numbers r rows) → There r rows k
  unfolding numbers In
  only r [] k w = absurd w
  only r (x ∷ xs) k w = go (dec_has x) w (only (suc r) xs k)
    where
      go : Dec (Has x) → In k (numbers r (x ∷ xs)) → (In k (numbers (suc r) xs) → There (suc r) xs k) → There r (x ∷ xs) k
      go (yes h) v f =
          ⊎_elim (λ (e : k ≡ r). (0, omega arith, omega arith, h)) (λ m. later r k x xs (f m))
          (rw (one_more r x xs h) at v)
      go (no d) v f = later r k x xs (f (rw (no_more r x xs d) at v))

  all : (r : ℕ) (rows : List Row) (k : ℕ) → There r rows k → In k (numbers r rows)
  unfolding numbers In
  all r [] k (j, e, l, h) = absurd (omega arith)
  all r (x ∷ xs) k (zero, e, l, h) = rw (one_more r x xs h) (inl (omega arith))
  all r (x ∷ xs) k (suc j, e, l, h) = go (dec_has x) (all (suc r) xs k (j, omega arith, omega arith, h))
    where
      go : Dec (Has x) → In k (numbers (suc r) xs) → In k (numbers r (x ∷ xs))
      go (yes u) m = rw (one_more r x xs u) (inr m)
      go (no d) m = rw (no_more r x xs d) m

pub Those-smaller : (p : Plan) (n : ℕ) (i : Id) → Those (Smaller p n i) (numbers n i 0 p.rows)
Those-smaller p n i =
    record {
      order = in_order n i 0 p.rows;
      exactly = λ k. (
        (λ w.
            let (j, e, l, h) = only n i 0 p.rows k w in
            let same : j ≡ k = omega arith in
            record { exists = rw same at l; node = rw same at h.0; id = rw same at h.1 }),
        (λ x. all n i 0 p.rows k (k, omega arith, x.exists, (x.node, x.id))),
      );
    }

-- ---- rows one after the other

unfoldable pub run : ℕ → ℕ → List ℕ
run first zero = []
run first (suc count) = first ∷ run (suc first) count

pub run_many : (first count : ℕ) → length (run first count) ≡ count
unfolding run
run_many first zero = refl
run_many first (suc count) = omega (arith, run_many (suc first) count)

run_above : (first count q : ℕ) → q < first → Each (λ y. q < y) (run first count)
unfolding run Each
run_above first zero q l = tt
run_above first (suc count) q l = (l, run_above (suc first) count q (omega arith))

run_order : (first count : ℕ) → Ascending (run first count)
unfolding run Ascending
run_order first zero = tt
run_order first (suc count) = (run_above (suc first) count first (omega arith), run_order (suc first) count)

run_only : (first count k : ℕ) → In k (run first count) → (first ≤ k) × (k < first + count)
unfolding run In
run_only first zero k w = absurd w
run_only first (suc count) k (inl e) = (omega arith, omega arith)
run_only first (suc count) k (inr w) = let b = run_only (suc first) count k w in (omega (arith, b.0), omega (arith, b.1))

run_all : (first count k : ℕ) → first ≤ k → k < first + count → In k (run first count)
unfolding run In
run_all first zero k b l = absurd (omega arith)
run_all first (suc count) k b l = dite (ℕ_discrete k first) inl (λ d. inr (run_all (suc first) count k (omega arith) (omega arith)))

module _ {P : ℕ → Type 0} (first count : ℕ) (exactly : (r : ℕ) → P r ↔ ((first ≤ r) × (r < first + count))) where
  pub those_run : Those P (run first count)
  those_run =
      record {
        order = run_order first count;
        exactly = λ k. ((λ w. (exactly k).1 (run_only first count k w)), (λ x. let b = (exactly k).0 x in run_all first count k b.0 b.1));
      }

-- so many does the model count
pub counts : (p : Plan) (n : ℕ) (i : Id) (first count : ℕ) → ((r : ℕ) → Smaller p n i r ↔ ((first ≤ r) × (r < first + count))) → smaller n i p.rows ≡ count
counts p n i first count exactly =
    sym (many n i 0 p.rows) ∙ ap length (those_same (Those-smaller p n i) (those_run first count exactly)) ∙ run_many first count
