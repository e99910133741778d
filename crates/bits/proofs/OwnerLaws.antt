-- Laws of the owned bits: which bits a set has after a range joined, when they clash, and how many there are. They hold over every width.
use mathlib.Core.Path.{◌≡◌, refl, sym, ap, ◌∙◌}
use mathlib.Core.Logic.{◌≢◌, ◌↔◌, ⊎_elim}
use mathlib.Core.Bool.{Bool, true, false, ◌||◌, true≢false, false≢true}
use Rattle.std.specs.Prelude.{Some, None}
use Prim.Native.Nat.{ℕ, zero, suc, ◌+◌, ◌/◌, ◌%◌, ◌^◌, ◌≤◌, ◌<◌}
use native.Mathlib.Nat.{pow-suc}
use native.Mathlib.Decide.{ℕ_discrete}
use native.Mathlib.Omega.{arith}
use borrow.Author.Tests.{eqb-true, eq-eqb}
use lib.Count.{ones, ones_step}
use lib.Dec.{eqb}
use Rattle.base.proofs.Apart.{differ}
use Rattle.bits.specs.Digit.{digit, set_digit}
use Rattle.base.proofs.Picks.{picks, passes}
use Rattle.bits.specs.Owners.{owners, owned, clash, joined}
use Rattle.bits.proofs.DigitLaws.{digit-zero, digit-suc, digit-lt, digit_set_same, digit_set_other, set_digit-lt}
use Rattle.bits.proofs.CopyLaws.{either, neither, or_right}

-- ---- which bits a set has after bits p to p + s - 1 joined

pub owned_bit : (set p s k : ℕ) → k < s → digit (owned set p s) (p + k) ≡ 1
unfolding owned
owned_bit set p zero k l = absurd (omega arith)
owned_bit set p (suc s) k l = go (ℕ_discrete k s) (owned_bit set p s k)
  where
    go : Dec (k ≡ s) → (k < s → digit (owned set p s) (p + k) ≡ 1) → digit (owned set p (suc s)) (p + k) ≡ 1
    go (yes e) earlier = rw e (digit_set_same (owned set p s) (p + s) 1 (omega arith))
    go (no e) earlier = digit_set_other (owned set p s) (p + s) 1 (p + k) (omega arith) (omega arith) ∙ earlier (omega arith)

pub owned_other : (set p s e : ℕ) → ((k : ℕ) → k < s → e ≢ p + k) → digit (owned set p s) e ≡ digit set e
unfolding owned
owned_other set p zero e d = refl
owned_other set p (suc s) e d =
    digit_set_other (owned set p s) (p + s) 1 e (omega arith) (d s (omega arith)) ∙ owned_other set p s e (λ k l. d k (omega arith))

pub owned-lt : (w set p s : ℕ) → p + s ≤ w → set < 2 ^ w → owned set p s < 2 ^ w
unfolding owned
owned-lt w set p zero h l = l
owned-lt w set p (suc s) h l = set_digit-lt w (owned set p s) (p + s) 1 (omega arith) (omega arith) (owned-lt w set p s (omega arith) l)

-- ---- a clash is a bit that has an owner already

module _ (set p : ℕ) where
  clash_some : (s : ℕ) → clash set p s ≡ true → (k : ℕ) × (k < s) × (digit set (p + k) ≡ 1)
  unfolding clash
  clash_some zero e = absurd (false≢true e)
  clash_some (suc s) e =
      ⊎_elim (λ x. (s, omega arith, eqb-true _ _ x)) (λ x. let r = clash_some s x in (r.0, omega arith, r.2))
      (either (eqb (digit set (p + s)) 1) (clash set p s) e)

  clash_one : (s k : ℕ) → k < s → digit set (p + k) ≡ 1 → clash set p s ≡ true
  unfolding clash
  clash_one zero k l d = absurd (omega arith)
  clash_one (suc s) k l d = go (ℕ_discrete k s) (λ m. clash_one s k m d)
    where
      go : Dec (k ≡ s) → (k < s → clash set p s ≡ true) → (eqb (digit set (p + s)) 1 || clash set p s) ≡ true
      go (yes e) earlier = rw (← e, eq-eqb _ _ d)
      go (no e) earlier = or_right (eqb (digit set (p + s)) 1) (clash set p s) (earlier (omega arith))

  pub clash_exactly : (s : ℕ) → (clash set p s ≡ true) ↔ ((k : ℕ) × (k < s) × (digit set (p + k) ≡ 1))
  clash_exactly s = (clash_some s, λ w. clash_one s w.0 w.1 w.2)

  -- where none clashes each of them is free
  pub clash_none : (s k : ℕ) → clash set p s ≡ false → k < s → digit set (p + k) ≡ 0
  clash_none s k c l =
      let taken : digit set (p + k) ≢ 1 = λ d. true≢false (sym (clash_one s k l d) ∙ c) in
      omega (arith, digit-lt set (p + k))

-- ---- what joining answers

module _ (set p s : ℕ) where
  pub joined-clash : joined set p s ≡ None → clash set p s ≡ true
  unfolding joined
  joined-clash e = at (clash set p s) refl
    where
      at : (b : Bool) → clash set p s ≡ b → clash set p s ≡ true
      at true c = c
      at false c = absurd (differ (cc (sym (passes _ None (Some (owned set p s)) c) ∙ e)))

  pub joined-set : (n : ℕ) → joined set p s ≡ Some n → (clash set p s ≡ false) × (n ≡ owned set p s)
  unfolding joined
  joined-set n e = at (clash set p s) refl
    where
      at : (b : Bool) → clash set p s ≡ b → (clash set p s ≡ false) × (n ≡ owned set p s)
      at false c = let x = sym (passes _ None (Some (owned set p s)) c) ∙ e in (c, (cc))
      at true c = absurd (differ (cc (sym (picks _ None (Some (owned set p s)) c) ∙ e)))

-- ---- the count

owners_low : (set w : ℕ) → owners set (suc w) ≡ set % 2 + owners (set / 2) w
unfolding owners
owners_low set zero = rw digit-zero (omega arith)
owners_low set (suc w) = omega (arith, owners_low set w, digit-suc set w)

-- the count is that of the number's ones
pub owners-ones : (w set : ℕ) → set < 2 ^ w → ones set ≡ owners set w
unfolding ones owners
owners-ones zero set h = let e : set ≡ 0 = omega arith in rw e
owners-ones (suc w) set h =
    ones_step set ∙ ap (λ (x : ℕ). set % 2 + x) (owners-ones w (set / 2) (omega (arith, pow-suc 2 w))) ∙ sym (owners_low set w)

-- none has more than its width
pub owners-le : (set w : ℕ) → owners set w ≤ w
unfolding owners
owners-le set zero = omega arith
owners-le set (suc w) = omega (arith, owners-le set w, digit-lt set w)

-- a free bit that joins is counted
owners_more : (set e w : ℕ) → digit set e ≡ 0 → e < w → owners (set_digit set e 1) w ≡ owners set w + 1
unfolding owners
owners_more set e zero h l = absurd (omega arith)
owners_more set e (suc w) h l = at (ℕ_discrete w e) (owners_more set e w h)
  where
    below : (v : ℕ) → v ≤ e → owners (set_digit set e 1) v ≡ owners set v
    below zero l = refl
    below (suc v) l = omega (arith, below v (omega arith), digit_set_other set e 1 v (omega arith) (omega arith))

    at : Dec (w ≡ e) → (e < w → owners (set_digit set e 1) w ≡ owners set w + 1) → owners (set_digit set e 1) (suc w) ≡ owners set (suc w) + 1
    at (yes d) earlier = rw d (omega (arith, below e (omega arith), digit_set_same set e 1 (omega arith)))
    at (no d) earlier = omega (arith, earlier (omega arith), digit_set_other set e 1 w (omega arith) d)

-- the count rises by exactly the size joined
pub owners-owned : (w set p s : ℕ) → p + s ≤ w → clash set p s ≡ false → owners (owned set p s) w ≡ owners set w + s
unfolding owned clash
owners-owned w set p zero h c = omega arith
owners-owned w set p (suc s) h c =
    let free : digit (owned set p s) (p + s) ≡ 0 =
    owned_other set p s (p + s) (λ k l. omega arith) ∙ clash_none set p (suc s) s c (omega arith) in
    omega (
      arith,
      owners_more (owned set p s) (p + s) w free (omega arith),
      owners-owned w set p s (omega arith) (neither (eqb (digit set (p + s)) 1) (clash set p s) c).1,
    )
