-- The cases of the search, that looks to spare change nothing, that a found number is one of the rows', and what a node's search answers.
use mathlib.Core.Path.{◌≡◌, sym, ◌∙◌}
use mathlib.Core.Logic.{⊎_elim}
use mathlib.Core.List.{List}
use Prim.Native.Nat.{ℕ, zero, suc, ◌+◌, ◌-◌, ◌/◌, ◌<◌, ◌≤◌, zero-le}
use native.Mathlib.Nat.{eq-or-lt_of_le, pos_of_ne-zero}
use native.Mathlib.Numerals.{add-one}
use native.Mathlib.Omega.{arith}
use lib.Dec.{ltb}
use borrow.Author.Tests.{eq-eqb, ne_eqb, lt-ltb, le-ltb}
use Rattle.base.specs.Pick.{pick}
use Rattle.base.proofs.Picks.{by_eqb, both}
use Rattle.records.specs.declared.record.Id.{Id}
use Rattle.records.specs.Ids.{key_of}
use Rattle.area.specs.Layout.{row_bound, first_row, row_count, key_at}
use Rattle.records.specs.declared.record.RxNumber.{RxNumber}
use Rattle.reception.specs.declared.lookup.Found.{Found}
use Rattle.reception.specs.declared.lookup.Found.TheVariants.{At, Nothing}
use Rattle.reception.specs.Lookup.{look_once, look_in, looked_up}

-- the row that is looked at: the middle of those that remain
abbrev pub middle : ℕ → ℕ → ℕ → ℕ
middle first place n = first + place + n / 2

module _ (half : ℕ → ℕ → Found) (a : List ℕ) (first place n key : ℕ) where
  abbrev m : ℕ
  m = middle first place n

  once_none : n ≡ 0 → look_once half a first place n key ≡ Nothing place
  unfolding look_once pick
  once_none e = rw (eq-eqb n 0 e)

  module _ (some : n ≡ 0 → ⊥) where
    once_hit : key_at a m ≡ key → look_once half a first place n key ≡ At (record { 0 = m })
    unfolding look_once pick
    once_hit e = rw (ne_eqb n 0 some, eq-eqb (key_at a m) key e)

    once_low : key < key_at a m → look_once half a first place n key ≡ half place (n / 2)
    unfolding look_once pick
    once_low l =
        let other : key_at a m ≡ key → ⊥ = λ e. omega arith in
        rw (ne_eqb n 0 some, ne_eqb (key_at a m) key other, lt-ltb key (key_at a m) l)

    once_high : key_at a m < key → look_once half a first place n key ≡ half (place + n / 2 + 1) (n - n / 2 - 1)
    unfolding look_once pick
    once_high l =
        let other : key_at a m ≡ key → ⊥ = λ e. omega arith in
        let least : key_at a m ≤ key = omega arith in
        rw (ne_eqb n 0 some, ne_eqb (key_at a m) key other, le-ltb key (key_at a m) least)

module _ (f g : ℕ → ℕ → Found) (a : List ℕ) (first place n key : ℕ) where
  pub once_alike :
      f place (n / 2) ≡ g place (n / 2) → f (place + n / 2 + 1) (n - n / 2 - 1) ≡ g (place + n / 2 + 1) (n - n / 2 - 1)
      → look_once f a first place n key ≡ look_once g a first place n key
  unfolding look_once
  once_alike p q = rw (p, q)

-- looks to spare change nothing
enough : (f g : ℕ) (a : List ℕ) (first place n key : ℕ) → n < f → n < g → look_in f a first place n key ≡ look_in g a first place n key
unfolding look_in
enough zero g a first place n key h k = absurd (omega arith)
enough (suc f) zero a first place n key h k = absurd (omega arith)
enough (suc f) (suc g) a first place n key h k =
    ⊎_elim
    (λ (e : 0 ≡ n). once_none _ a first place n key (sym e) ∙ sym (once_none _ a first place n key (sym e)))
    (λ (l : 0 < n).
    once_alike _ _ a first place n key
    (enough f g a first place (n / 2) key (omega arith) (omega arith))
    (enough f g a first (place + n / 2 + 1) (n - n / 2 - 1) key (omega arith) (omega arith)))
    (eq-or-lt_of_le zero-le)

-- a row that is found is one of those that remained, and a place counts those left behind and no more than all of them
Among : ℕ → ℕ → ℕ → Found → Type 0
Among first place n (At x) = (first + place ≤ x.0) × (x.0 < first + place + n)
Among first place n (Nothing left) = left ≤ place + n

wider :
    (first place n left m : ℕ) (r : Found) → place ≤ left → left + m ≤ place + n → Among first left m r → Among first place n r
unfolding Among
wider first place n left m (At x) l h among = (omega (arith, among.0), omega (arith, among.1))
wider first place n left m (Nothing p) l h among = omega (arith, among)

among : (looks : ℕ) (a : List ℕ) (first place n key : ℕ) → Among first place n (look_in looks a first place n key)
unfolding look_in look_once Among
among zero a first place n key = omega arith
among (suc looks) a first place n key =
    by_eqb (Among first place n) n 0 _ _ (λ e. omega arith) (λ d.
    let p = pos_of_ne-zero d in
    by_eqb (Among first place n) (key_at a (first + place + n / 2)) key _ _
    (λ e. (omega arith, omega arith))
    (λ w. both (Among first place n) (ltb key (key_at a (first + place + n / 2))) _ _
    (wider first place n place (n / 2) (look_in looks a first place (n / 2) key) (omega arith) (omega arith) (among looks a first place (n / 2) key))
    (wider first place n (place + n / 2 + 1) (n - n / 2 - 1) (look_in looks a first (place + n / 2 + 1) (n - n / 2 - 1) key) (omega arith) (omega arith)
    (among looks a first (place + n / 2 + 1) (n - n / 2 - 1) key))))

pub found_among :
    (looks : ℕ) (a : List ℕ) (first place n key : ℕ) (x : RxNumber) → look_in looks a first place n key ≡ At x
    → (first + place ≤ x.0) × (x.0 < first + place + n)
unfolding Among
found_among looks a first place n key x e = rw e at (among looks a first place n key)

module _ (a : List ℕ) (first place n key : ℕ) where
  pub none : n ≡ 0 → look_in (n + 1) a first place n key ≡ Nothing place
  unfolding look_in
  none e = rw add-one (once_none _ a first place n key e)

  module _ (some : n ≡ 0 → ⊥) where
    pub hit : key_at a (middle first place n) ≡ key → look_in (n + 1) a first place n key ≡ At (record { 0 = middle first place n })
    unfolding look_in
    hit e = rw add-one (once_hit _ a first place n key some e)

    pub low : key < key_at a (middle first place n) → look_in (n + 1) a first place n key ≡ look_in (n / 2 + 1) a first place (n / 2) key
    unfolding look_in
    low l =
        let p = pos_of_ne-zero some in
        rw (add-one n) (once_low _ a first place n key some l ∙ enough n (n / 2 + 1) a first place (n / 2) key (omega arith) (omega arith))

    pub high :
        key_at a (middle first place n) < key → look_in (n + 1) a first place n key ≡ look_in (n - n / 2 - 1 + 1) a first (place + n / 2 + 1) (n - n / 2 - 1) key
    unfolding look_in
    high l =
        let p = pos_of_ne-zero some in
        rw (add-one n)
        (once_high _ a first place n key some l
        ∙ enough n (n - n / 2 - 1 + 1) a first (place + n / 2 + 1) (n - n / 2 - 1) key (omega arith) (omega arith))

-- ---- the search of a node's rows

pub found_small : (a : List ℕ) (n : ℕ) (id : Id) (x : RxNumber) → looked_up a n id ≡ At x → x.0 < row_bound
unfolding looked_up
found_small a n id x e = omega (arith, found_among (row_count a n + 1) a (first_row a n) 0 (row_count a n) (key_of id) x e)

pub place_small : (a : List ℕ) (n : ℕ) (id : Id) (place : ℕ) → looked_up a n id ≡ Nothing place → place ≤ row_count a n
unfolding looked_up Among
place_small a n id place e =
    let most : place ≤ 0 + row_count a n = rw e at (among (row_count a n + 1) a (first_row a n) 0 (row_count a n) (key_of id)) in omega arith

module _ (a : List ℕ) (n : ℕ) (id : Id) (count first key : ℕ) (c : count ≡ row_count a n) (f : first ≡ first_row a n) (k : key ≡ key_of id) where
  -- what was found among the node's rows is what the search of them says
  pub says :
      (found : Found) → found ≡ look_in (count + 1) a first (first - first) count key
      → (found ≡ looked_up a n id) × ((x : RxNumber) → found ≡ At x → x.0 < row_bound)
  unfolding looked_up
  says found e =
      let left : first - first ≡ 0 = omega arith in
      let same : found ≡ looked_up a n id = rw (← c, ← f, ← k) (rw left at e) in
      (same, λ x v. found_small a n id x (sym same ∙ v))
