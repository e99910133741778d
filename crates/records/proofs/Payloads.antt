-- The eight bytes of an initial payload, as a list.
use Rattle.std.proofs.Common.{◌≡◌, ℕ, zero, suc, ◌+◌, ◌<◌, ◌≤◌, List, length, take, drop, refl, ap, ◌∙◌, arith}
use Rattle.std.proofs.lemmas.List.{ext_get_or, get_or-take, get_or-drop, length-take, length-drop}
use Rattle.base.specs.Numbers.{byte_at}
use Rattle.records.specs.Kinds.{eight_at}
use Rattle.records.specs.Records.{eight_bytes}

-- those that are taken from a place of the plan on
pub eight_taken : (plan : List ℕ) (at : ℕ) → at + 8 ≤ length plan → take 8 (drop at plan) ≡ eight_at plan at
unfolding eight_at
eight_taken plan at fits = ext_get_or 0 _ _ (rw (length-take, length-drop) (omega arith)) (λ i h. nth i (omega (arith, length-take 8 (drop at plan), h)))
  where
    each : (i : ℕ) → i < 8 → byte_at plan (at + i) ≡ byte_at (eight_at plan at) i
    each zero h = ap (byte_at plan) (omega arith)
    each (suc zero) h = refl
    each (suc (suc zero)) h = refl
    each (suc (suc (suc zero))) h = refl
    each (suc (suc (suc (suc zero)))) h = refl
    each (suc (suc (suc (suc (suc zero))))) h = refl
    each (suc (suc (suc (suc (suc (suc zero)))))) h = refl
    each (suc (suc (suc (suc (suc (suc (suc zero))))))) h = refl
    each (suc (suc (suc (suc (suc (suc (suc (suc i)))))))) h = absurd (omega arith)

    nth : (i : ℕ) → i < 8 → byte_at (take 8 (drop at plan)) i ≡ byte_at (eight_at plan at) i
    nth i h = get_or-take 8 (drop at plan) i 0 h ∙ get_or-drop at plan i 0 ∙ each i h

-- a payload of eight bytes is its eight bytes
pub eight_same : (b : List ℕ) → length b ≡ 8 → b ≡ eight_bytes b
eight_same b is = ext_get_or 0 b (eight_bytes b) is (λ i h. each i (omega arith))
  where
    each : (i : ℕ) → i < 8 → byte_at b i ≡ byte_at (eight_bytes b) i
    each zero h = refl
    each (suc zero) h = refl
    each (suc (suc zero)) h = refl
    each (suc (suc (suc zero))) h = refl
    each (suc (suc (suc (suc zero)))) h = refl
    each (suc (suc (suc (suc (suc zero))))) h = refl
    each (suc (suc (suc (suc (suc (suc zero)))))) h = refl
    each (suc (suc (suc (suc (suc (suc (suc zero))))))) h = refl
    each (suc (suc (suc (suc (suc (suc (suc (suc i)))))))) h = absurd (omega arith)
