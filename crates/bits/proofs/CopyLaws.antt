-- Laws of the copy: each destination bit is its source bit, every other bit is unchanged, no second payload fits, and the answer is true
-- exactly where some bit differed. They hold in both orders, at every length, position and size.
use mathlib.Core.Path.{◌≡◌, refl, sym, ◌∙◌}
use mathlib.Core.Logic.{◌≢◌, ◌↔◌, ◌⊎◌, inl, inr, ⊎_elim}
use mathlib.Core.Bool.{Bool, true, false, not, ◌||◌, true≢false, false≢true}
use mathlib.Core.List.{List}
use Prim.Native.Nat.{ℕ, zero, suc, ◌+◌, ◌-◌, ◌*◌, ◌≤◌, ◌<◌}
use native.Mathlib.Decide.{ℕ_discrete, dec_lt}
use native.Mathlib.Numerals.{add-one}
use native.Mathlib.Omega.{arith}
use borrow.Author.Tests.{eqb-false, not-true, ne_eqb}
use lib.Dec.{eqb}
use lib.ListN.{length}
use Rattle.bits.specs.Payload.{bit_at, set_bit, copied, differs}
use Rattle.bits.proofs.PayloadLaws.{bit_at-lt, length-set_bit, bit_at-set_bit_same, bit_at-set_bit_other, Bytes, Bytes-set_bit, same_bits}

module _ (order : ℕ) (source : List ℕ) (p : ℕ) (kept : List ℕ) (q : ℕ) where
  pub length-copied : (s : ℕ) → length (copied order source p s kept q) ≡ length kept
  unfolding copied
  length-copied zero = refl
  length-copied (suc k) = length-set_bit order (copied order source p k kept q) (q + k) _ ∙ length-copied k

  pub Bytes-copied : (s : ℕ) → q + s ≤ 8 * length kept → Bytes kept → Bytes (copied order source p s kept q)
  unfolding copied
  Bytes-copied zero h b = b
  Bytes-copied (suc k) h b =
      Bytes-set_bit order (copied order source p k kept q) (q + k) _ (omega (arith, length-copied k)) (bit_at-lt order source (p + k))
      (Bytes-copied k (omega arith) b)

  -- every other bit of the payload is unchanged
  pub copied_other :
      (s t : ℕ) → q + s ≤ 8 * length kept → ((k : ℕ) → k < s → t ≢ q + k) → bit_at order (copied order source p s kept q) t ≡ bit_at order kept t
  unfolding copied
  copied_other zero t h d = refl
  copied_other (suc k) t h d =
      bit_at-set_bit_other order (copied order source p k kept q) (q + k) _ t (omega (arith, length-copied k)) (bit_at-lt order source (p + k)) (d k (omega arith))
      ∙ copied_other k t (omega arith) (λ j l. d j (omega arith))

  -- each destination bit is its source bit
  pub copied_bit : (s k : ℕ) → q + s ≤ 8 * length kept → k < s → bit_at order (copied order source p s kept q) (q + k) ≡ bit_at order source (p + k)
  unfolding copied
  copied_bit zero k h l = absurd (omega arith)
  copied_bit (suc s) k h l = go (ℕ_discrete k s) (λ m. copied_bit s k (omega arith) m)
    where
      before : List ℕ
      before = copied order source p s kept q

      room : q + s < 8 * length before
      room = omega (arith, length-copied s)

      go :
          Dec (k ≡ s) → (k < s → bit_at order before (q + k) ≡ bit_at order source (p + k))
          → bit_at order (copied order source p (suc s) kept q) (q + k) ≡ bit_at order source (p + k)
      go (yes e) earlier = rw e (bit_at-set_bit_same order before (q + s) _ room (bit_at-lt order source (p + s)))
      go (no e) earlier = bit_at-set_bit_other order before (q + s) _ (q + k) room (bit_at-lt order source (p + s)) (omega arith) ∙ earlier (omega arith)

  -- one bit more, as a loop that counts by one has it; the destination bit is as it was when its turn comes
  pub copied_more : (k : ℕ) → copied order source p (k + 1) kept q ≡ set_bit order (copied order source p k kept q) (q + k) (bit_at order source (p + k))
  unfolding copied
  copied_more k = rw add-one

  pub differs_more :
      (k : ℕ) → q + k ≤ 8 * length kept
      → differs order source p (k + 1) kept q
      ≡ (not (eqb (bit_at order (copied order source p k kept q) (q + k)) (bit_at order source (p + k))) || differs order source p k kept q)
  unfolding differs
  differs_more k h = rw (add-one, copied_other k (q + k) h (λ j l. omega arith))

-- ---- no second payload fits: the two laws of a copy, with the length, say which list of bytes it is

pub copied_only :
    (order : ℕ) (source : List ℕ) (p s : ℕ) (kept : List ℕ) (q : ℕ) (other : List ℕ) → q + s ≤ 8 * length kept → Bytes kept → Bytes other
    → length other ≡ length kept → ((k : ℕ) → k < s → bit_at order other (q + k) ≡ bit_at order source (p + k))
    → ((t : ℕ) → t < 8 * length kept → ((k : ℕ) → k < s → t ≢ q + k) → bit_at order other t ≡ bit_at order kept t)
    → other ≡ copied order source p s kept q
copied_only order source p s kept q other h bk bo l inside outside =
    same_bits order other (copied order source p s kept q) (l ∙ sym (length-copied order source p kept q s)) bo (Bytes-copied order source p kept q s h bk)
    (λ t ht. at t (omega arith) (dec_lt t q) (dec_lt t (q + s)))
  where
    out : (t : ℕ) → t < 8 * length kept → ((k : ℕ) → k < s → t ≢ q + k) → bit_at order other t ≡ bit_at order (copied order source p s kept q) t
    out t ht d = outside t ht d ∙ sym (copied_other order source p kept q s t h d)

    within : (t : ℕ) → q ≤ t → t < q + s → bit_at order other t ≡ bit_at order (copied order source p s kept q) t
    within t a b =
        let e : q + (t - q) ≡ t = omega arith in
        rw e at (inside (t - q) (omega arith) ∙ sym (copied_bit order source p kept q s (t - q) h (omega arith)))

    at : (t : ℕ) → t < 8 * length kept → Dec (t < q) → Dec (t < q + s) → bit_at order other t ≡ bit_at order (copied order source p s kept q) t
    at t ht (yes a) d = out t ht (λ k l. omega arith)
    at t ht (no a) (yes b) = within t (omega arith) b
    at t ht (no a) (no b) = out t ht (λ k l. omega arith)

-- ---- the answer is true exactly where some bit differed

pub either : (x y : Bool) → (x || y) ≡ true → (x ≡ true) ⊎ (y ≡ true)
either true y e = inl refl
either false y e = inr e

pub neither : (x y : Bool) → (x || y) ≡ false → (x ≡ false) × (y ≡ false)
neither false y e = (refl, e)
neither true y e = absurd (true≢false e)

pub or_right : (x y : Bool) → y ≡ true → (x || y) ≡ true
or_right true y e = refl
or_right false y e = e

module _ (order : ℕ) (source : List ℕ) (p : ℕ) (kept : List ℕ) (q : ℕ) where
  -- bit k of the destination differs from the kept one
  abbrev differs_at : ℕ → Bool
  differs_at k = not (eqb (bit_at order kept (q + k)) (bit_at order source (p + k)))

  differs_some : (s : ℕ) → differs order source p s kept q ≡ true → (k : ℕ) × (k < s) × (bit_at order kept (q + k) ≢ bit_at order source (p + k))
  unfolding differs
  differs_some zero e = absurd (false≢true e)
  differs_some (suc s) e =
      ⊎_elim
      (λ x. (s, omega arith, eqb-false _ _ (not-true _ x)))
      (λ x. let r = differs_some s x in (r.0, omega arith, r.2))
      (either (differs_at s) (differs order source p s kept q) e)

  differs_one : (s k : ℕ) → k < s → bit_at order kept (q + k) ≢ bit_at order source (p + k) → differs order source p s kept q ≡ true
  unfolding differs
  differs_one zero k l d = absurd (omega arith)
  differs_one (suc s) k l d = go (ℕ_discrete k s) (λ m. differs_one s k m d)
    where
      go : Dec (k ≡ s) → (k < s → differs order source p s kept q ≡ true) → (differs_at s || differs order source p s kept q) ≡ true
      go (yes e) earlier = rw (← e, ne_eqb _ _ d)
      go (no e) earlier = or_right (differs_at s) (differs order source p s kept q) (earlier (omega arith))

  pub differs_exactly :
      (s : ℕ) → (differs order source p s kept q ≡ true) ↔ ((k : ℕ) × (k < s) × (bit_at order kept (q + k) ≢ bit_at order source (p + k)))
  differs_exactly s = (differs_some s, λ w. differs_one s w.0 w.1 w.2)

-- ---- a copy of all bits to the same places gives the source

pub copied_whole :
    (order : ℕ) (source kept : List ℕ) → length source ≡ length kept → Bytes source → Bytes kept → copied order source 0 (8 * length kept) kept 0 ≡ source
copied_whole order source kept l bs bk =
    sym (copied_only order source 0 (8 * length kept) kept 0 source (omega arith) bk bs l (λ k h. refl) (λ t h d. absurd (d t h (omega arith))))
