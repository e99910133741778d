-- What is decided of two IDs: whether they are one, and which comes before.
use mathlib.Core.Path.{◌≡◌, refl, sym, ap, ◌∙◌}
use mathlib.Core.Bool.{Bool, true, false, true≢false}
use native.Mathlib.Omega.{arith}
use Rattle.records.specs.declared.record.Id.{Id}
use Rattle.records.specs.declared.record.Id.TheVariants.{Standard, Extended}
use Rattle.records.specs.Ids.{Before, same_id, is_before}
use Rattle.records.proofs.IdLaws.{same_is, same_itself, is_before_iff}

module _ (x y : Id) where
  pub is_same : x ≡ y → same_id x y ≡ true
  is_same e = sym (ap (same_id x) e) ∙ same_itself x

  pub dec_same : Dec (x ≡ y)
  dec_same = go (same_id x y) refl
    where
      go : (b : Bool) → same_id x y ≡ b → Dec (x ≡ y)
      go true e = yes (same_is x y e)
      go false e = no (λ s. true≢false (sym (is_same s) ∙ e))

  pub dec_before : Dec (Before x y)
  dec_before = go (is_before x y) refl
    where
      go : (b : Bool) → is_before x y ≡ b → Dec (Before x y)
      go true e = yes ((is_before_iff x y).0 e)
      go false e = no (λ b. true≢false (sym ((is_before_iff x y).1 b) ∙ e))

  -- and so the tests fail
  pub not_same : (x ≡ y → ⊥) → same_id x y ≡ false
  not_same d = go (same_id x y) refl
    where
      go : (b : Bool) → same_id x y ≡ b → same_id x y ≡ false
      go true e = absurd (d (same_is x y e))
      go false e = e

  pub not_before : (Before x y → ⊥) → is_before x y ≡ false
  not_before d = go (is_before x y) refl
    where
      go : (b : Bool) → is_before x y ≡ b → is_before x y ≡ false
      go true e = absurd (d ((is_before_iff x y).0 e))
      go false e = e

-- ---- the order: never both ways, one after the other, and one way where they are not one

pub before_not : (x y : Id) → Before x y → Before y x → ⊥
unfolding Before
before_not (Standard m) (Standard n) l h = omega arith
before_not (Standard m) (Extended n) l h = h
before_not (Extended m) (Standard n) l h = l
before_not (Extended m) (Extended n) l h = omega arith

pub Before-then : (x y z : Id) → Before x y → Before y z → Before x z
unfolding Before
Before-then (Standard m) (Standard n) (Standard k) l h = omega arith
Before-then (Standard m) y (Extended k) l h = tt
Before-then (Standard m) (Extended n) (Standard k) l h = absurd h
Before-then (Extended m) (Standard n) z l h = absurd l
Before-then (Extended m) (Extended n) (Standard k) l h = absurd h
Before-then (Extended m) (Extended n) (Extended k) l h = omega arith

pub Before-else : (x y : Id) → (Before x y → ⊥) → (x ≡ y → ⊥) → Before y x
unfolding Before
Before-else (Standard m) (Standard n) l d = let e : m ≡ n → ⊥ = λ s. d (ap Standard s) in omega arith
Before-else (Standard m) (Extended n) l d = absurd (l tt)
Before-else (Extended m) (Standard n) l d = tt
Before-else (Extended m) (Extended n) l d = let e : m ≡ n → ⊥ = λ s. d (ap Extended s) in omega arith
