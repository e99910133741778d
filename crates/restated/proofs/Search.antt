-- The search by its looks.
use mathlib.Core.Path.{◌≡◌, refl, sym}
use mathlib.Core.Logic.{◌≢◌, inl, inr, ⊎_elim, dite}
use mathlib.Core.List.{List}
use Prim.Native.Nat.{ℕ, zero, suc, ◌+◌, ◌-◌, ◌/◌, ◌^◌, ◌≤◌, ◌<◌}
use native.Mathlib.Nat.{pow-suc}
use native.Mathlib.Decide.{ℕ_discrete}
use native.Mathlib.Omega.{arith}
use borrow.Author.Tests.{eq-eqb, ne_eqb, lt-ltb, le-ltb}
use lib.Pow.{pow_pos, pow_mono}
use Rattle.base.specs.Pick.{pick}
use Rattle.records.specs.Ids.{key_of}
use Rattle.reception.specs.declared.lookup.Found.TheVariants.{Nothing}
use Rattle.area.specs.Layout.{key_at, row_count}
use Rattle.reception.specs.Lookup.{look_once, look_in, looked_up}
use Rattle.reception.proofs.Search.{once_alike}
use Rattle.restated.specs.Search.{Middle, Halves, Looks, SearchByLooks}

among_none : (looks : ℕ) (area : List ℕ) (first place key : ℕ) → look_in looks area first place 0 key ≡ Nothing place
unfolding look_in look_once pick
among_none zero area first place key = refl
among_none (suc looks) area first place key = refl

-- ---- looks to spare

enough :
    (k m : ℕ) (area : List ℕ) (first place n key : ℕ) → n < 2 ^ k → n < 2 ^ m → look_in k area first place n key ≡ look_in m area first place n key
unfolding look_in
enough zero m area first place n key h l = let z : n ≡ 0 = omega arith in rw z (sym (among_none m area first place key))
enough (suc k) zero area first place n key h l = let z : n ≡ 0 = omega arith in rw z (among_none (suc k) area first place key)
enough (suc k) (suc m) area first place n key h l =
    once_alike _ _ area first place n key
    (enough k m area first place (n / 2) key (omega (arith, pow-suc 2 k)) (omega (arith, pow-suc 2 m)))
    (enough k m area first (place + n / 2 + 1) (n - n / 2 - 1) key (omega (arith, pow-suc 2 k, pow_pos k)) (omega (arith, pow-suc 2 m, pow_pos m)))

-- ---- one look

module _ (looks : ℕ) (area : List ℕ) (first place b c key : ℕ) (m : Middle b c) where
  half : (b + 1 + c) / 2 ≡ b
  half = ⊎_elim (λ (e : b ≡ c). omega arith) (λ (e : b ≡ c + 1). omega arith) m

  some : b + 1 + c ≢ 0
  some = omega arith

  abbrev middle : ℕ
  middle = key_at area (first + place + b)

  look : Looks looks area first place b c key
  unfolding look_in look_once pick
  look =
      record {
        hit = λ e. rw (ne_eqb (b + 1 + c) 0 some, half, eq-eqb middle key e);
        below = λ l.
            let other : middle ≢ key = omega arith in
            rw (ne_eqb (b + 1 + c) 0 some, half, ne_eqb middle key other, lt-ltb key middle l);
        above = λ l.
            let other : middle ≢ key = omega arith in
            let least : middle ≤ key = omega arith in
            let rest : b + 1 + c - b - 1 ≡ c = omega arith in
            rw (ne_eqb (b + 1 + c) 0 some, half, ne_eqb middle key other, le-ltb key middle least, rest);
      }

-- ---- a middle row

halves : (n : ℕ) → 0 < n → Halves n
halves n h =
    record {
      before = n / 2;
      after = n - n / 2 - 1;
      all = omega arith;
      middle = dite (ℕ_discrete (n / 2) (n - n / 2 - 1)) inl (λ d. inr (omega arith));
    }

-- ---- all

pub search_by_looks : SearchByLooks
unfolding look_in looked_up
search_by_looks =
    record {
      none = λ area first place n key. refl;
      empty = among_none;
      halves = halves;
      half = look;
      suffice = λ k m area first place n key h l. enough m k area first place n key (omega (arith, pow_mono l)) h;
      each = λ k area first place n key h. enough (n + 1) k area first place n key (own n) h;
      nine = λ area node id. enough (row_count area node + 1) 9 area _ 0 (row_count area node) (key_of id) (own (row_count area node)) (omega arith);
    }
  where
    own : (n : ℕ) → n < 2 ^ (n + 1)
    own zero = omega arith
    own (suc n) = let z : suc n + 1 ≡ suc (n + 1) = omega arith in rw (z, pow-suc 2 (n + 1)) (omega (arith, own n))
