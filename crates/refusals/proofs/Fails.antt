-- A test fails exactly where a condition holds: from the comparisons to tests of several.
use mathlib.Core.Path.{◌≡◌, refl, sym, ap, ◌∙◌}
use mathlib.Core.Logic.{◌≢◌, inl, inr, ⊎_elim}
use mathlib.Core.Bool.{Bool, true, false, not, ◌&&◌, ◌||◌, true≢false}
use Prim.Native.Nat.{ℕ, ◌+◌, ◌≤◌, ◌<◌}
use lib.Dec.{leb, ltb, eqb}
use borrow.Author.Tests.{ltb-false, leb-false, eqb-true, eqb-false, le-ltb, lt-leb, eq-eqb, ne_eqb, not-false}
use Rattle.bits.specs.Digit.{digit}
use Rattle.bits.specs.Owners.{clash}
use Rattle.bits.proofs.OwnerLaws.{clash_exactly}
use Rattle.refusals.specs.Before.{◌or◌, ◌and◌}

pub record Fails (t : Bool) (B : Type 0) : Type 0 where
  pub says : t ≡ false → B
  pub back : B → t ≡ false

pub less : (a b : ℕ) → Fails (ltb a b) (b ≤ a)
less a b = record { says = ltb-false a b; back = le-ltb a b }

pub most : (a b : ℕ) → Fails (leb a b) (b < a)
most a b = record { says = leb-false a b; back = lt-leb a b }

pub equal : (a b : ℕ) → Fails (eqb a b) (a ≢ b)
equal a b = record { says = eqb-false a b; back = ne_eqb a b }

pub unequal : (a b : ℕ) → Fails (not (eqb a b)) (a ≡ b)
unequal a b = record { says = λ e. eqb-true a b (not-false _ e); back = λ e. ap not (eq-eqb a b e) }

pub both : {x y : Bool} {A B : Type 0} → Fails x A → Fails y B → Fails (x && y) (A or B)
both {x} {y} {A} {B} f g = record { says = says x f; back = λ w. ⊎_elim (λ a. left x (f.back a)) (λ b. right x (g.back b)) w }
  where
    says : (x : Bool) → Fails x A → (x && y) ≡ false → A or B
    says true f e = inr (g.says e)
    says false f e = inl (f.says refl)

    left : (x : Bool) → x ≡ false → (x && y) ≡ false
    left true e = absurd (true≢false e)
    left false e = refl

    right : (x : Bool) → y ≡ false → (x && y) ≡ false
    right true e = e
    right false e = refl

pub either : {x y : Bool} {A B : Type 0} → Fails x A → Fails y B → Fails (x || y) (A and B)
either {x} {y} {A} {B} f g = record { says = says x f; back = λ w. back x (f.back w.0) (g.back w.1) }
  where
    says : (x : Bool) → Fails x A → (x || y) ≡ false → A and B
    says true f e = absurd (true≢false e)
    says false f e = (f.says refl, g.says e)

    back : (x : Bool) → x ≡ false → y ≡ false → (x || y) ≡ false
    back true e k = absurd (true≢false e)
    back false e k = k

-- one of bits p to p + s - 1 is in the set
abbrev pub Taken : ℕ → ℕ → ℕ → Type 0
Taken set p s = (k : ℕ) × (k < s) × (digit set (p + k) ≡ 1)

pub free : (set p s : ℕ) → Fails (not (clash set p s)) (Taken set p s)
free set p s = record { says = λ e. law (clash set p s) refl e; back = λ w. ap not ((clash_exactly set p s).1 w) }
  where
    law : (b : Bool) → clash set p s ≡ b → not (clash set p s) ≡ false → Taken set p s
    law true e k = (clash_exactly set p s).0 e
    law false e k = absurd (true≢false (sym (ap not e) ∙ k))

-- in other words, and for a condition that is a negation
pub by : {t : Bool} {A B : Type 0} → Fails t A → (A → B) → (B → A) → Fails t B
by f to fro = record { says = λ e. to (f.says e); back = λ b. f.back (fro b) }

pub negation : (t : Bool) {A : Type 0} → (t ≡ true → A) → (A → t ≡ true) → Fails t (A → ⊥)
negation true to fro = record { says = λ e. absurd (true≢false e); back = λ d. absurd (d (to refl)) }
negation false to fro = record { says = λ e a. true≢false (sym (fro a)); back = λ d. refl }
