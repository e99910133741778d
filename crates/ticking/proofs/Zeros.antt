-- Zeros put over a part of the report: its bytes one by one.
use mathlib.Core.Path.{◌≡◌, refl, sym, ◌∙◌}
use mathlib.Core.List.{List}
use Prim.Native.Nat.{ℕ, zero, suc, ◌+◌, ◌-◌, ◌<◌, ◌≤◌}
use native.Mathlib.Omega.{arith}
use native.Mathlib.Decide.{ℕ_discrete, dec_le}
use lib.ListN.{length, set, length-set, get_or}
use lib.Seq.{get_or-set_same, get_or-set_other}
use borrow.Rule.Slice.PartMut.{put_mid}
use borrow.Author.Rules.{rules}
use Rattle.std.proofs.lemmas.List.{same_lists, places}
use mathlib.Core.Bool.{Bool, true, false, false≢true}
use Rattle.ticking.specs.Sixteen.{with_zeros, cleared_by}

length-with_zeros : (j n : ℕ) (s : List ℕ) → length (with_zeros j n s) ≡ length s
unfolding with_zeros
length-with_zeros j zero s = refl
length-with_zeros j (suc n) s = length-set (with_zeros j n s) (j + n) 0 ∙ length-with_zeros j n s

with_zeros-out : (j n : ℕ) (s : List ℕ) (p d : ℕ) → (j ≤ p → p < j + n → ⊥) → get_or (with_zeros j n s) p d ≡ get_or s p d
unfolding with_zeros
with_zeros-out j zero s p d out = refl
with_zeros-out j (suc n) s p d out =
    get_or-set_other (with_zeros j n s) (j + n) p 0 d (λ e. out (omega arith) (omega arith))
    ∙ with_zeros-out j n s p d (λ a b. out a (omega arith))

with_zeros-in : (j n : ℕ) (s : List ℕ) (p d : ℕ) → j + n ≤ length s → j ≤ p → p < j + n → get_or (with_zeros j n s) p d ≡ 0
unfolding with_zeros
with_zeros-in j zero s p d h a b = absurd (omega arith)
with_zeros-in j (suc n) s p d h a b = go (ℕ_discrete p (j + n)) (λ l. with_zeros-in j n s p d (omega arith) a l)
  where
    go : Dec (p ≡ j + n) → (p < j + n → get_or (with_zeros j n s) p d ≡ 0) → get_or (set (with_zeros j n s) (j + n) 0) p d ≡ 0
    go (yes e) rest = rw e (get_or-set_same (with_zeros j n s) (j + n) 0 d (omega (arith, length-with_zeros j n s)))
    go (no o) rest = get_or-set_other (with_zeros j n s) (j + n) p 0 d o ∙ rest (omega arith)

module _ (j n k : ℕ) (s zs : List ℕ) (e : k ≡ n) (h : j + n ≤ length s) (l : length zs ≡ n) (z : (i d : ℕ) → i < n → get_or zs i d ≡ 0) where
  abbrev put : List ℕ
  put = put_mid j k s zs

  pub zeros_put : put ≡ with_zeros j n s
  zeros_put = same_lists put (with_zeros j n s) (sym (rw (length-with_zeros j n s) (search (rules, places)))) at
    where
      out : (p d : ℕ) → (j ≤ p → p < j + n → ⊥) → get_or put p d ≡ get_or s p d
      out p d o = grind (arith, places)

      at : (p d : ℕ) → p < length put → get_or put p d ≡ get_or (with_zeros j n s) p d
      at p d w = go (dec_le j p) (dec_le (suc p) (j + n))
        where
          go : Dec (j ≤ p) → Dec (p < j + n) → get_or put p d ≡ get_or (with_zeros j n s) p d
          go (yes a) (yes b) =
              let inside : get_or put p d ≡ get_or zs (p - j) d = grind (arith, places) in
              inside ∙ z (p - j) d (omega arith) ∙ sym (with_zeros-in j n s p d h a b)
          go (yes a) (no b) = let o : j ≤ p → p < j + n → ⊥ = λ x y. b y in out p d o ∙ sym (with_zeros-out j n s p d o)
          go (no a) b = let o : j ≤ p → p < j + n → ⊥ = λ x y. a x in out p d o ∙ sym (with_zeros-out j n s p d o)

-- of the timers that have a report
pub cleared_put :
    (rx : Bool) (j k : ℕ) (s zs : List ℕ) → rx ≡ true → k ≡ 16 → j + 16 ≤ length s → length zs ≡ 16 → ((i d : ℕ) → i < 16 → get_or zs i d ≡ 0)
    → put_mid j k s zs ≡ cleared_by rx j s
unfolding cleared_by
cleared_put true j k s zs o e h l z = zeros_put j 16 k s zs e h l z
cleared_put false j k s zs o e h l z = absurd (false≢true o)
