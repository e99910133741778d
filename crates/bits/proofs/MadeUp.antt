-- Laws of bytes made up: each of their digits, the digits of a number that is built, and that code makes them by two exclusive ors and an and.
use mathlib.Core.Path.{◌≡◌, refl, sym, ap, ◌∙◌}
use Prim.Native.Nat.{ℕ, zero, suc, ◌+◌, ◌*◌, ◌/◌, ◌%◌, ◌^◌, ◌<◌, min}
use native.Mathlib.Nat.{pow-suc, add-zero}
use native.Mathlib.Decide.{ℕ_discrete}
use native.Mathlib.Omega.{arith}
use borrow.Author.Tests.{eq-eqb, ne_eqb}
use lib.Bits.{bit_and, bit_xor, differ, xor_step, xor_lt, and_lt}
use lib.Dec.{eqb}
use Rattle.base.specs.Pick.{pick}
use Rattle.base.proofs.Picks.{by_eqb, picks, passes}
use Rattle.bits.specs.Digit.{digit}
use Rattle.bits.specs.Word.{built, made_up}
use Rattle.bits.proofs.DigitLaws.{digit-zero, digit-suc, digit-lt, same_digits}
use Rattle.bits.proofs.ShiftLaws.{digit_high, digit_low}
use Rattle.bits.proofs.MaskLaws.{digit_and}

-- ---- a number that is built

module _ (f : ℕ → ℕ) (small : (e : ℕ) → f e < 2) where
  pub built-lt : (n : ℕ) → built n f < 2 ^ n
  unfolding built
  built-lt zero = omega arith
  built-lt (suc n) = at (f n) (small n) (built-lt n)
    where
      at : (v : ℕ) → v < 2 → built n f < 2 ^ n → v * 2 ^ n + built n f < 2 ^ suc n
      at zero h l = omega (arith, pow-suc 2 n)
      at (suc zero) h l = omega (arith, pow-suc 2 n)
      at (suc (suc v)) h l = absurd (omega arith)

  one : (v : ℕ) → v < 2 → digit v 0 ≡ v
  one v h = rw digit-zero (omega arith)

  pub digit-built : (n e : ℕ) → e < n → digit (built n f) e ≡ f e
  unfolding built
  digit-built zero e h = absurd (omega arith)
  digit-built (suc n) e h = go (ℕ_discrete e n) (λ l. digit-built n e l)
    where
      go : Dec (e ≡ n) → (e < n → digit (built n f) e ≡ f e) → digit (f n * 2 ^ n + built n f) e ≡ f e
      go (yes d) earlier = rw d ((rw add-zero at (digit_high n (f n) (built n f) 0 (built-lt n))) ∙ one (f n) (small n))
      go (no d) earlier = digit_low n (f n) (built n f) e (built-lt n) (omega arith) ∙ earlier (omega arith)

-- ---- eight bytes made up

module _ (kept new mask : ℕ) where
  abbrev chosen : ℕ → ℕ
  chosen e = pick (eqb (digit mask e) 1) (digit new e) (digit kept e)

  chosen-lt : (e : ℕ) → chosen e < 2
  chosen-lt e = by_eqb (λ x. x < 2) (digit mask e) 1 (digit new e) (digit kept e) (λ h. digit-lt new e) (λ h. digit-lt kept e)

  pub made_up-lt : made_up kept new mask < 2 ^ 64
  unfolding made_up
  made_up-lt = built-lt chosen chosen-lt 64

  pub made_up-new : (e : ℕ) → e < 64 → digit mask e ≡ 1 → digit (made_up kept new mask) e ≡ digit new e
  unfolding made_up
  made_up-new e l h = digit-built chosen chosen-lt 64 e l ∙ picks (eqb (digit mask e) 1) (digit new e) (digit kept e) (eq-eqb (digit mask e) 1 h)

  pub made_up_kept : (e : ℕ) → e < 64 → digit mask e ≡ 0 → digit (made_up kept new mask) e ≡ digit kept e
  unfolding made_up
  made_up_kept e l h =
      digit-built chosen chosen-lt 64 e l ∙ passes (eqb (digit mask e) 1) (digit new e) (digit kept e) (ne_eqb (digit mask e) 1 (λ d. omega arith))

  -- where every digit that the mask has is the kept one's, they are the kept ones
  pub made_up_same : kept < 2 ^ 64 → ((e : ℕ) → e < 64 → digit mask e ≡ 1 → digit new e ≡ digit kept e) → made_up kept new mask ≡ kept
  made_up_same h same = same_digits 64 (made_up kept new mask) kept made_up-lt h (λ e l. at e l (ℕ_discrete (digit mask e) 1))
    where
      at : (e : ℕ) → e < 64 → Dec (digit mask e ≡ 1) → digit (made_up kept new mask) e ≡ digit kept e
      at e l (yes d) = made_up-new e l d ∙ same e l d
      at e l (no d) = made_up_kept e l (omega (arith, digit-lt mask e))

-- ---- as code makes it

differ_lt : (x y : ℕ) → x < 2 → y < 2 → differ x y < 2
differ_lt zero y h k = k
differ_lt (suc zero) zero h k = omega arith
differ_lt (suc zero) (suc y) h k = omega arith
differ_lt (suc (suc x)) y h k = absurd (omega arith)

digit_xor : (a b e : ℕ) → digit (bit_xor a b) e ≡ differ (digit a e) (digit b e)
digit_xor a b zero =
    rw (digit-zero, digit-zero a, digit-zero b) (omega (arith, xor_step a b, differ_lt (a % 2) (b % 2) (omega arith) (omega arith)))
digit_xor a b (suc e) =
    rw (digit-suc, digit-suc a e, digit-suc b e)
    (ap (λ (x : ℕ). digit x e) (omega (arith, xor_step a b, differ_lt (a % 2) (b % 2) (omega arith) (omega arith))) ∙ digit_xor (a / 2) (b / 2) e)

-- a digit that the mask has, and one that it has not
differ_new : (o x : ℕ) → o < 2 → x < 2 → differ o (min (differ o x) 1) ≡ x
differ_new zero zero h k = refl
differ_new zero (suc zero) h k = refl
differ_new zero (suc (suc x)) h k = absurd (omega arith)
differ_new (suc zero) zero h k = refl
differ_new (suc zero) (suc zero) h k = refl
differ_new (suc zero) (suc (suc x)) h k = absurd (omega arith)
differ_new (suc (suc o)) x h k = absurd (omega arith)

differ_kept : (o x : ℕ) → o < 2 → x < 2 → differ o (min (differ o x) 0) ≡ o
differ_kept zero zero h k = refl
differ_kept zero (suc zero) h k = refl
differ_kept zero (suc (suc x)) h k = absurd (omega arith)
differ_kept (suc zero) zero h k = refl
differ_kept (suc zero) (suc zero) h k = refl
differ_kept (suc zero) (suc (suc x)) h k = absurd (omega arith)
differ_kept (suc (suc o)) x h k = absurd (omega arith)

module _ (kept new mask : ℕ) (k : kept < 2 ^ 64) (n : new < 2 ^ 64) (m : mask < 2 ^ 64) where
  abbrev blended : ℕ
  blended = bit_xor kept (bit_and (bit_xor kept new) mask)

  digit-blended : (e : ℕ) → digit blended e ≡ differ (digit kept e) (min (differ (digit kept e) (digit new e)) (digit mask e))
  digit-blended e = digit_xor kept (bit_and (bit_xor kept new) mask) e ∙ rw (digit_and (bit_xor kept new) mask e, digit_xor kept new e)

  pub made_by_code : blended ≡ made_up kept new mask
  made_by_code =
      same_digits 64 blended (made_up kept new mask) (xor_lt 64 _ _ k (and_lt 64 _ _ (xor_lt 64 _ _ k n) m)) (made_up-lt kept new mask)
      (λ e l. at e l (ℕ_discrete (digit mask e) 1))
    where
      at : (e : ℕ) → e < 64 → Dec (digit mask e ≡ 1) → digit blended e ≡ digit (made_up kept new mask) e
      at e l (yes d) =
          digit-blended e ∙ rw d (differ_new (digit kept e) (digit new e) (digit-lt kept e) (digit-lt new e)) ∙ sym (made_up-new kept new mask e l d)
      at e l (no d) =
          let z : digit mask e ≡ 0 = omega (arith, digit-lt mask e) in
          digit-blended e ∙ rw z (differ_kept (digit kept e) (digit new e) (digit-lt kept e) (digit-lt new e)) ∙ sym (made_up_kept kept new mask e l z)
