-- What the search finds: a row that it finds has the key, whatever the rows; and where the keys rise it finds the row that has it, or the place where
-- the smaller keys end and the greater ones begin.
use mathlib.Core.Path.{◌≡◌, refl, sym, ◌∙◌}
use mathlib.Core.Logic.{◌⊎◌, inl, inr, ⊎_elim, dite}
use mathlib.Core.List.{List}
use Prim.Native.Nat.{ℕ, zero, suc, ◌+◌, ◌-◌, ◌/◌, ◌≤◌, ◌<◌}
use native.Mathlib.Nat.{eq-or-lt_of_le, lt_of_not-le}
use native.Mathlib.Decide.{ℕ_discrete, dec_le}
use native.Mathlib.Omega.{arith}
use lib.Dec.{ltb}
use Rattle.base.proofs.Apart.{differ}
use Rattle.base.proofs.Picks.{by_eqb, both}
use Rattle.records.specs.declared.record.RxNumber.{RxNumber}
use Rattle.reception.specs.declared.lookup.Found.{Found}
use Rattle.reception.specs.declared.lookup.Found.TheVariants.{At, Nothing}
use Rattle.area.specs.Layout.{key_at}
use Rattle.reception.specs.Lookup.{look_once, look_in}
use Rattle.reception.proofs.Search.{middle, none, hit, low, high, found_among}

-- the keys of the n rows from row `first` on rise
pub record Rising (a : List ℕ) (n first : ℕ) : Type 0 where
  pub rise : (i j : ℕ) → first ≤ i → i < j → j < first + n → key_at a i < key_at a j

-- those of a part of them too
Rising-part : (a : List ℕ) (n first m next : ℕ) → first ≤ next → next + m ≤ first + n → Rising a n first → Rising a m next
Rising-part a n first m next l h s = record { rise = λ i j b c d. s.rise i j (omega arith) c (omega arith) }

-- ---- a row that is found has the key

abbrev Has : List ℕ → ℕ → Found → Type 0
Has a key r = (x : RxNumber) → r ≡ At x → key_at a x.0 ≡ key

nothing_has : (a : List ℕ) (key place : ℕ) → Has a key (Nothing place)
nothing_has a key place x e = absurd (differ cc)

found_has : (looks : ℕ) (a : List ℕ) (first place n key : ℕ) → Has a key (look_in looks a first place n key)
unfolding look_in look_once
found_has zero a first place n key = nothing_has a key place
found_has (suc looks) a first place n key =
    let m = middle first place n in
    by_eqb (Has a key) n 0 _ _ (λ e. nothing_has a key place) (λ d.
    by_eqb (Has a key) (key_at a m) key _ _
    (λ e x w. let u : m ≡ x.0 = cc in rw (← u) e)
    (λ o. both (Has a key) (ltb key (key_at a m)) _ _ (found_has looks a first place (n / 2) key)
    (found_has looks a first (place + n / 2 + 1) (n - n / 2 - 1) key)))

-- ---- where the keys rise, the row that has the key is found

-- below, at or above
sides : (m i : ℕ) → (i < m) ⊎ ((m ≡ i) ⊎ (m < i))
sides m i = dite (dec_le m i) (λ l. inr (eq-or-lt_of_le l)) (λ w. inl (lt_of_not-le w))

module _ (a : List ℕ) (first place n : ℕ) (s : Rising a n (first + place)) where
  -- the keys of both halves rise
  rising_low : Rising a (n / 2) (first + place)
  rising_low = Rising-part a n (first + place) (n / 2) (first + place) (omega arith) (omega arith) s

  Rising-high : (n ≡ 0 → ⊥) → Rising a (n - n / 2 - 1) (first + (place + n / 2 + 1))
  Rising-high some = Rising-part a n (first + place) (n - n / 2 - 1) (first + (place + n / 2 + 1)) (omega arith) (omega arith) s

-- the first argument bounds the rows
has_found :
    (bound : ℕ) (a : List ℕ) (first place n key : ℕ) → n < bound → Rising a n (first + place)
    → (r : ℕ) → first + place ≤ r → r < first + place + n → key_at a r ≡ key → look_in (n + 1) a first place n key ≡ At (record { 0 = r })
has_found zero a first place n key h s r b l e = absurd (omega arith)
has_found (suc bound) a first place n key h s r b l e =
    let m = middle first place n in
    let some : n ≡ 0 → ⊥ = λ z. omega arith in
    ⊎_elim
    (λ (c : r < m).
    let less = s.rise r m b c (omega arith) in
    low a first place n key some (omega arith)
    ∙ has_found bound a first place (n / 2) key (omega arith) (rising_low a first place n s) r b c e)
    (⊎_elim
    (λ (c : m ≡ r). rw (← c) (hit a first place n key some (rw c e)))
    (λ (c : m < r).
    let less = s.rise m r (omega arith) c l in
    high a first place n key some (omega arith)
    ∙ has_found bound a first (place + n / 2 + 1) (n - n / 2 - 1) key (omega arith) (Rising-high a first place n s some) r (omega arith) (omega arith) e))
    (sides m r)

-- ---- where the keys rise and none is the key, the place parts the smaller ones from the greater

-- of the n rows that remain behind those left behind: those before the row at `left` have a smaller key, and the others a greater one
pub record Parts (a : List ℕ) (first place n key left : ℕ) : Type 0 where
  pub least : place ≤ left
  pub most : left ≤ place + n
  pub smaller : (r : ℕ) → first + place ≤ r → r < first + left → key_at a r < key
  pub greater : (r : ℕ) → first + left ≤ r → r < first + place + n → key < key_at a r

none_parts : (a : List ℕ) (first place n key : ℕ) → n ≡ 0 → Parts a first place n key place
none_parts a first place n key e =
    record { least = omega arith; most = omega arith; smaller = λ r b l. absurd (omega arith); greater = λ r b l. absurd (omega arith) }

module _ (a : List ℕ) (first place n key left : ℕ) (s : Rising a n (first + place)) (some : n ≡ 0 → ⊥) where
  abbrev m : ℕ
  m = middle first place n

  -- what parts the half that remains parts them all
  low_parts : key < key_at a m → Parts a first place (n / 2) key left → Parts a first place n key left
  low_parts l x =
      record {
        least = x.least;
        most = omega (arith, x.most);
        smaller = x.smaller;
        greater = λ r b h.
            ⊎_elim (λ (c : r < m). x.greater r b c)
            (⊎_elim (λ (c : m ≡ r). rw (← c) l) (λ (c : m < r). omega (arith, s.rise m r (omega arith) c h)))
            (sides m r);
      }

  high_parts : key_at a m < key → Parts a first (place + n / 2 + 1) (n - n / 2 - 1) key left → Parts a first place n key left
  high_parts l x =
      record {
        least = omega (arith, x.least);
        most = omega (arith, x.most);
        smaller = λ r b h.
            ⊎_elim (λ (c : r < m). omega (arith, s.rise r m b c (omega arith)))
            (⊎_elim (λ (c : m ≡ r). rw (← c) l) (λ (c : m < r). x.smaller r (omega arith) h))
            (sides m r);
        greater = λ r b h. x.greater r b (omega arith);
      }

parted :
    (bound : ℕ) (a : List ℕ) (first place n key left : ℕ) → n < bound → Rising a n (first + place)
    → look_in (n + 1) a first place n key ≡ Nothing left → Parts a first place n key left
parted zero a first place n key left h s e = absurd (omega arith)
parted (suc bound) a first place n key left h s e =
    let m = middle first place n in
    dite (ℕ_discrete n 0)
    (λ z.
    let f : Nothing place ≡ Nothing left = sym (none a first place n key z) ∙ e in
    let same : place ≡ left = cc in
    rw (← same) (none_parts a first place n key z))
    (λ some.
    ⊎_elim
    (λ (c : key < key_at a m).
    low_parts a first place n key left s some c
    (parted bound a first place (n / 2) key left (omega arith) (rising_low a first place n s) (sym (low a first place n key some c) ∙ e)))
    (⊎_elim
    (λ (c : key_at a m ≡ key).
    let f : At (record { 0 = m }) ≡ Nothing left = sym (hit a first place n key some c) ∙ e in
    absurd (differ cc))
    (λ (c : key_at a m < key).
    high_parts a first place n key left s some c
    (parted bound a first (place + n / 2 + 1) (n - n / 2 - 1) key left (omega arith) (Rising-high a first place n s some)
    (sym (high a first place n key some c) ∙ e))))
    (sides (key_at a m) key))

-- ---- both ways

module _ (a : List ℕ) (first n key : ℕ) where
  abbrev answer : Found
  answer = look_in (n + 1) a first 0 n key

  -- a row that is found is one of the n and has the key
  pub found_only : (x : RxNumber) → answer ≡ At x → (first ≤ x.0) × (x.0 < first + n) × (key_at a x.0 ≡ key)
  found_only x e =
      let b = found_among (n + 1) a first 0 n key x e in
      (omega (arith, b.0), omega (arith, b.1), found_has (n + 1) a first 0 n key x e)

  -- where no row has the key, nothing is found
  pub nothing_if : ((r : ℕ) → first ≤ r → r < first + n → key_at a r ≡ key → ⊥) → (place : ℕ) × (answer ≡ Nothing place)
  nothing_if no_row = go answer refl
    where
      go : (r : Found) → answer ≡ r → (place : ℕ) × (answer ≡ Nothing place)
      go (At x) e = let f = found_only x e in absurd (no_row x.0 f.0 f.1 f.2)
      go (Nothing place) e = (place, e)

  module _ (s : Rising a n first) where
    rising_all : Rising a n (first + 0)
    rising_all = Rising-part a n first n (first + 0) (omega arith) (omega arith) s

    pub found_exactly :
        (r : ℕ) → first ≤ r → r < first + n → (key_at a r ≡ key → answer ≡ At (record { 0 = r })) × (answer ≡ At (record { 0 = r }) → key_at a r ≡ key)
    found_exactly r b l = (
      has_found (n + 1) a first 0 n key (omega arith) rising_all r (omega arith) (omega arith),
      found_has (n + 1) a first 0 n key (record { 0 = r }),
    )

    -- and where nothing is found, the place parts the rows
    pub nothing_parts : (place : ℕ) → answer ≡ Nothing place → Parts a first 0 n key place
    nothing_parts place e = parted (n + 1) a first 0 n key place (omega arith) rising_all e
