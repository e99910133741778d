-- Rows that rise, and one more: it rises with them behind exactly those that are below it.
use mathlib.Core.Path.{◌≡◌, refl}
use mathlib.Core.Logic.{◌⊎◌, inl, inr, ⊎_elim, ◌↔◌}
use mathlib.Core.List.{List, [], ◌∷◌}
use Prim.Native.Nat.{ℕ, zero, suc, ◌-◌, ◌≤◌, ◌<◌}
use native.Mathlib.Omega.{arith}
use native.Mathlib.Decide.{ℕ_discrete, dec_lt}
use lib.ListN.{length, get_or}
use Rattle.records.specs.declared.record.Id.{Id}
use Rattle.records.specs.Ids.{Before}
use Rattle.plan.specs.Rows.{Row, no_row}
use Rattle.model.proofs.Ids.{dec_before, before_not, Before-else}
use Rattle.history.specs.Strangers.{Above, Rise, inserted}

-- ---- the rows of the longer list

many : (k : ℕ) (x : Row) (rows : List Row) → length (inserted k x rows) ≡ suc (length rows)
unfolding inserted
many zero x rows = refl
many (suc k) x [] = refl
many (suc k) x (y ∷ rows) = omega (arith, many k x rows)

before : (k : ℕ) (x : Row) (rows : List Row) → k ≤ length rows → (q : ℕ) → q < k → get_or (inserted k x rows) q no_row ≡ get_or rows q no_row
unfolding inserted
before zero x rows h q l = absurd (omega arith)
before (suc k) x [] h q l = absurd (omega arith)
before (suc k) x (y ∷ rows) h zero l = refl
before (suc k) x (y ∷ rows) h (suc q) l = before k x rows (omega arith) q (omega arith)

there : (k : ℕ) (x : Row) (rows : List Row) → k ≤ length rows → get_or (inserted k x rows) k no_row ≡ x
unfolding inserted
there zero x rows h = refl
there (suc k) x [] h = absurd (omega arith)
there (suc k) x (y ∷ rows) h = there k x rows (omega arith)

after : (k : ℕ) (x : Row) (rows : List Row) (q : ℕ) → k ≤ q → q < length rows → get_or (inserted k x rows) (suc q) no_row ≡ get_or rows q no_row
unfolding inserted
after zero x rows q l h = refl
after (suc k) x [] q l h = absurd (omega arith)
after (suc k) x (y ∷ rows) zero l h = absurd (omega arith)
after (suc k) x (y ∷ rows) (suc q) l h = after k x rows q (omega arith) (omega arith)

-- ---- where numbers stop having a property

pub cut :
    (P : ℕ → Type 0) → ((r : ℕ) → Dec (P r)) → (k : ℕ) → ((q r : ℕ) → q < r → r < k → P r → P q)
    → (end : ℕ) × (end ≤ k) × ((r : ℕ) → r < k → (r < end) ↔ P r)
cut P dec zero down = (0, omega arith, λ r l. absurd (omega arith))
cut P dec (suc k) down = go (dec k) (cut P dec k (λ q r l h. down q r l (omega arith)))
  where
    go : Dec (P k) → (end : ℕ) × (end ≤ k) × ((r : ℕ) → r < k → (r < end) ↔ P r) → (end : ℕ) × (end ≤ suc k) × ((r : ℕ) → r < suc k → (r < end) ↔ P r)
    go (yes p) w = (suc k, omega arith, λ r l. ((λ m. has r l (ℕ_discrete r k)), (λ m. l)))
      where
        has : (r : ℕ) → r < suc k → Dec (r ≡ k) → P r
        has r l (yes e) = rw e p
        has r l (no d) = down r k (omega arith) (omega arith) p
    go (no n) (end, most, f) = (end, omega arith, λ r l. at r l (ℕ_discrete r k))
      where
        at : (r : ℕ) → r < suc k → Dec (r ≡ k) → (r < end) ↔ P r
        at r l (yes e) = ((λ m. absurd (omega arith)), (λ p. absurd (n (rw e at p))))
        at r l (no d) = f r (omega arith)

-- ---- a row that none of them is

abbrev pub Below : Row → ℕ → Id → Type 0
Below y n i = (y.frame.node < n) ⊎ ((y.frame.node ≡ n) × Before y.frame.id i)

module _ (n : ℕ) (i : Id) (rows : List Row) (rise : Rise rows) (behind : ℕ) (most : behind ≤ length rows)
    (below : (r : ℕ) → r < length rows → (r < behind) ↔ Below (get_or rows r no_row) n i)
    (unlisted : (r : ℕ) → r < length rows → (get_or rows r no_row).frame.node ≡ n → (get_or rows r no_row).frame.id ≡ i → ⊥)
    (x : Row) (node : x.frame.node ≡ n) (id : x.frame.id ≡ i) where
  under : (r : ℕ) → r < length rows → r < behind → Above (get_or rows r no_row) x
  under r h l = ⊎_elim (λ (m : (get_or rows r no_row).frame.node < n). inl (omega arith)) (λ (e, m). inr (omega arith, rw id m)) ((below r h).0 l)

  over : (r : ℕ) → r < length rows → behind ≤ r → Above x (get_or rows r no_row)
  over r h l = go (dec_lt n (get_or rows r no_row).frame.node) (ℕ_discrete (get_or rows r no_row).frame.node n)
    where
      never : Below (get_or rows r no_row) n i → ⊥
      never b = let m = (below r h).1 b in omega arith

      go : Dec (n < (get_or rows r no_row).frame.node) → Dec ((get_or rows r no_row).frame.node ≡ n) → Above x (get_or rows r no_row)
      go (yes m) w = inl (omega arith)
      go (no m) (no d) = absurd (never (inl (omega arith)))
      go (no m) (yes e) = inr (omega arith, id_above (dec_before (get_or rows r no_row).frame.id i))
        where
          id_above : Dec (Before (get_or rows r no_row).frame.id i) → Before x.frame.id (get_or rows r no_row).frame.id
          id_above (yes l) = absurd (never (inr (e, l)))
          id_above (no l) = rw id (Before-else _ i l (unlisted r h e))

  -- behind those below it the rows rise with it
  rises : Rise (inserted behind x rows)
  rises q r l h = go (dec_lt q behind) (dec_lt r behind) (ℕ_discrete q behind) (ℕ_discrete r behind)
    where
      short : r < suc (length rows)
      short = omega (arith, many behind x rows)

      go : Dec (q < behind) → Dec (r < behind) → Dec (q ≡ behind) → Dec (r ≡ behind)
          → Above (get_or (inserted behind x rows) q no_row) (get_or (inserted behind x rows) r no_row)
      go (yes a) (yes b) c d = rw (before behind x rows most q a, before behind x rows most r b) (rise q r l (omega arith))
      go (yes a) (no b) c (yes d) = rw (d, before behind x rows most q a, there behind x rows most) (under q (omega arith) a)
      go (yes a) (no b) c (no d) =
          let e : r ≡ suc (r - 1) = omega arith in
          rw (e, before behind x rows most q a, after behind x rows (r - 1) (omega arith) (omega (arith, short))) (rise q (r - 1) (omega arith) (omega (arith, short)))
      go (no a) b (yes c) d =
          let e : r ≡ suc (r - 1) = omega arith in
          rw (c, e, there behind x rows most, after behind x rows (r - 1) (omega arith) (omega (arith, short))) (over (r - 1) (omega (arith, short)) (omega arith))
      go (no a) b (no c) d =
          let e : r ≡ suc (r - 1) = omega arith in
          let f : q ≡ suc (q - 1) = omega arith in
          rw (f, e, after behind x rows (q - 1) (omega arith) (omega (arith, short)), after behind x rows (r - 1) (omega arith) (omega (arith, short)))
          (rise (q - 1) (r - 1) (omega arith) (omega (arith, short)))

  -- and nowhere else
  only : (k : ℕ) → k ≤ length rows → Rise (inserted k x rows) → k ≡ behind
  only k h s = go (dec_lt k behind) (dec_lt behind k)
    where
      go : Dec (k < behind) → Dec (behind < k) → k ≡ behind
      go (yes l) w =
          let up = s k (suc k) (omega arith) (omega (arith, many k x rows)) in
          let high : Above x (get_or rows k no_row) = rw (there k x rows h, after k x rows k (omega arith) (omega arith)) at up in
          absurd
          (⊎_elim (λ a. ⊎_elim (λ b. omega arith) (λ b. omega arith) high)
          (λ a. ⊎_elim (λ b. omega arith) (λ b. before_not _ _ a.1 (rw id at b.1)) high) ((below k (omega arith)).0 l))
      go (no d) (yes l) =
          let up = s behind k l (omega (arith, many k x rows)) in
          let low : Above (get_or rows behind no_row) x = rw (before k x rows h behind l, there k x rows h) at up in
          let m = (below behind (omega arith)).1 (⊎_elim (λ a. inl (omega arith)) (λ a. inr (omega arith, rw id at a.1)) low) in
          absurd (omega arith)
      go (no d) (no e) = omega arith

  pub rises_there : (k : ℕ) → k ≤ length rows → Rise (inserted k x rows) ↔ (k ≡ behind)
  rises_there k h = (only k h, λ e. rw e rises)
