-- The owned bits by digits: the laws of the set, with a range's bits by their numbers.
use mathlib.Core.Path.{◌≡◌, refl, sym, ap, ◌∙◌}
use mathlib.Core.Bool.{Bool, true, false, true≢false}
use mathlib.Core.Logic.{◌⊎◌, inl, inr, ⊎_elim, ◌↔◌}
use Rattle.std.specs.Prelude.{Some, None}
use Prim.Native.Nat.{ℕ, suc, ◌+◌, ◌-◌, ◌/◌, ◌%◌, ◌^◌, ◌≤◌, ◌<◌}
use native.Mathlib.Nat.{pow-suc}
use native.Mathlib.Decide.{dec_le, dec_lt}
use native.Mathlib.Omega.{arith}
use lib.Count.{ones_step}
use Rattle.base.proofs.Picks.{picks, passes}
use Rattle.bits.specs.Digit.{digit}
use Rattle.bits.specs.Owners.{owners, owned, clash, joined}
use Rattle.bits.proofs.OwnerLaws.{owned_bit, owned_other, owned-lt, clash_exactly, joined-clash, joined-set, owners-ones}
use Rattle.restated.specs.Owners.{Owns, Among, Clashes, OwnersByDigits}

-- the laws speak of bit p + k
inside : (p s e : ℕ) → Among p s e → (e - p < s) × (p + (e - p) ≡ e)
inside p s e i = (omega arith, omega arith)

module _ (set p s : ℕ) where
  Owns-exactly : (e : ℕ) → Owns (owned set p s) e ↔ (Among p s e ⊎ Owns set e)
  unfolding digit
  Owns-exactly e = (λ o. go o (dec_le p e) (dec_lt e (p + s)), λ w. ⊎_elim joined_now (λ o. still o (dec_le p e) (dec_lt e (p + s))) w)
    where
      other : (Among p s e → ⊥) → digit (owned set p s) e ≡ digit set e
      other out = owned_other set p s e (λ k l d. out (omega arith, omega arith))

      joined_now : Among p s e → Owns (owned set p s) e
      joined_now i = let z = inside p s e i in rw z.1 at (owned_bit set p s (e - p) z.0)

      go : Owns (owned set p s) e → Dec (p ≤ e) → Dec (e < p + s) → Among p s e ⊎ Owns set e
      go o (yes l) (yes h) = inl (l, h)
      go o (no l) h = inr (sym (other (λ i. l i.0)) ∙ o)
      go o (yes l) (no h) = inr (sym (other (λ i. h i.1)) ∙ o)

      still : Owns set e → Dec (p ≤ e) → Dec (e < p + s) → Owns (owned set p s) e
      still o (yes l) (yes h) = joined_now (l, h)
      still o (no l) h = other (λ i. l i.0) ∙ o
      still o (yes l) (no h) = other (λ i. h i.1) ∙ o

  clashes_exactly : (clash set p s ≡ true) ↔ Clashes set p s
  unfolding digit
  clashes_exactly = (
    λ t. let w = (clash_exactly set p s).0 t in (p + w.0, (omega arith, omega arith), w.2),
    λ w. let z = inside p s w.0 w.1 in (clash_exactly set p s).1 (w.0 - p, z.0, rw z.1 w.2),
  )

  refused_exactly : (joined set p s ≡ None) ↔ Clashes set p s
  unfolding joined
  refused_exactly = (λ e. clashes_exactly.0 (joined-clash set p s e), λ w. picks _ _ _ (clashes_exactly.1 w))

  joins_exactly : (n : ℕ) → (joined set p s ≡ Some n) ↔ ((Clashes set p s → ⊥) × (n ≡ owned set p s))
  unfolding joined
  joins_exactly n = (
    λ e. let w = joined-set set p s n e in (λ c. true≢false (sym (clashes_exactly.1 c) ∙ w.0), w.1),
    λ w. passes _ _ _ (free w.0 (clash set p s) refl) ∙ ap Some (sym w.1),
  )
    where
      free : (Clashes set p s → ⊥) → (t : Bool) → clash set p s ≡ t → clash set p s ≡ false
      free d true e = absurd (d (clashes_exactly.0 e))
      free d false e = e

counts_low : (w set : ℕ) → set < 2 ^ suc w → owners set (suc w) ≡ set % 2 + owners (set / 2) w
counts_low w set h =
    sym (owners-ones (suc w) set h) ∙ ones_step set ∙ ap (λ x. set % 2 + x) (owners-ones w (set / 2) (omega (arith, pow-suc 2 w)))

pub owners_by_digits : OwnersByDigits
unfolding owners
owners_by_digits =
    record {
      owns = Owns-exactly;
      small = owned-lt;
      clashes = clashes_exactly;
      refused = refused_exactly;
      joins = joins_exactly;
      nobody = λ set. refl;
      counts = counts_low;
    }
