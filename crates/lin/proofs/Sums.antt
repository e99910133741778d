-- The folded sum of bytes: it is what folding makes of their plain sum.
use mathlib.Core.Path.{◌≡◌, refl}
use mathlib.Core.Logic.{⊎_elim}
use mathlib.Core.Logic.◌⊎◌.{inl, inr}
use mathlib.Core.List.{List, [], ◌∷◌}
use Prim.Native.Nat.{ℕ, zero, suc, ◌+◌, ◌-◌, ◌/◌, ◌%◌, ◌<◌}
use native.Mathlib.Numerals.{add-one}
use native.Mathlib.Omega.{arith}
use Rattle.std.specs.List.{fold}
use lib.ListN.{length, drop}
use lib.Seq.{drop-cons}
use Rattle.base.specs.Numbers.{byte_at, Bytes}
use Rattle.lin.specs.Checksum.{carried, folded_from, folded, inverted, checksum_of}
use Rattle.lin.specs.Statements.{KnownChecksum, plain_sum, Folds, FoldedSum}

carried_byte : (sum byte : ℕ) → sum < 256 → byte < 256 → carried sum byte < 256
unfolding carried
carried_byte sum byte h l = omega arith

Folds-from : (sum : ℕ) (bytes : List ℕ) → sum < 256 → Bytes bytes → Folds (sum + plain_sum bytes) (folded_from sum bytes)
unfolding folded_from plain_sum carried
Folds-from zero [] h b = inl (omega arith)
Folds-from (suc sum) [] h b = inr (omega arith)
Folds-from sum (byte ∷ bytes) h b =
    ⊎_elim (λ w. inl (omega arith)) (λ w. inr (omega arith))
    (Folds-from (carried sum byte) bytes (carried_byte sum byte h (b 0)) (λ k. b (suc k)))

-- one turn: the byte at a place
pub folded_step : (sum i : ℕ) (bytes : List ℕ) → i < length bytes
    → folded_from sum (drop i bytes) ≡ folded_from (carried sum (byte_at bytes i)) (drop (i + 1) bytes)
unfolding folded_from
folded_step sum i bytes h = rw (add-one, drop-cons bytes i 0)

-- the sum byte by byte is the library's fold
pub folded_from_is : (sum : ℕ) (bytes : List ℕ) → fold carried sum bytes ≡ folded_from sum bytes
unfolding folded_from
folded_from_is sum [] = refl
folded_from_is sum (byte ∷ bytes) = folded_from_is (carried sum byte) bytes

-- the first of the bytes makes no carry
pub checksum_from : (protected : ℕ) (bytes : List ℕ) → protected < 256 → 255 - fold carried protected bytes ≡ checksum_of protected bytes
unfolding carried folded_from folded inverted checksum_of
checksum_from protected bytes h =
    let same : (0 + protected) % 256 + (0 + protected) / 256 ≡ protected = omega arith in
    rw (same, folded_from_is protected bytes)

pub folds : (bytes : List ℕ) → Bytes bytes → Folds (plain_sum bytes) (folded bytes)
unfolding folded
folds bytes b = ⊎_elim (λ w. inl (omega arith)) (λ w. inr (omega arith)) (Folds-from 0 bytes (omega arith) b)

-- folding makes one number of a sum
folds_one : (sum m n : ℕ) → Folds sum m → Folds sum n → m ≡ n
folds_one sum m n f g =
    ⊎_elim (λ v. ⊎_elim (λ w. omega arith) (λ w. omega arith) g) (λ v. ⊎_elim (λ w. omega arith) (λ w. omega arith) g) f

pub folded_sum : FoldedSum
folded_sum bytes b n = (λ e. rw e at (folds bytes b), λ f. folds_one (plain_sum bytes) (folded bytes) n (folds bytes b) f)

pub known_checksum : KnownChecksum
unfolding carried folded_from folded inverted checksum_of
known_checksum = (refl, refl)
