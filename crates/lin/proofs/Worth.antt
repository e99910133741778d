-- What the checksum is worth: appended it makes FF, and sums that differ by no multiple of 255 have two.
use mathlib.Core.Path.{◌≡◌, refl}
use mathlib.Core.Logic.{◌≢◌, ◌↔◌, ◌⊎◌, ⊎_elim}
use mathlib.Core.Logic.◌⊎◌.{inl, inr}
use mathlib.Core.List.{List, [], ◌∷◌, ◌++◌}
use Prim.Native.Nat.{ℕ, zero, suc, ◌+◌, ◌-◌, ◌%◌, ◌<◌, ◌≤◌}
use native.Mathlib.Decide.{ℕ_discrete, dec_lt}
use native.Mathlib.Omega.{arith}
use lib.ListN.{length}
use lib.Seq.{ext_get_or}
use Rattle.base.specs.Numbers.{byte_at, Bytes}
use Rattle.lin.specs.Identifier.{protected_of}
use Rattle.lin.specs.Checksum.{carried, folded_from, folded, inverted, checksum_of}
use Rattle.lin.specs.Statements.{plain_sum, Folds, Appended, SameChecksum, ChangedByteFound}
use Rattle.lin.proofs.Identifiers.{parity_bits}
use Rattle.lin.proofs.Sums.{folds}

-- the identifier before the bytes
identified_bytes : (protected : ℕ) (bytes : List ℕ) → protected < 256 → Bytes bytes → Bytes (protected ∷ bytes)
identified_bytes protected bytes h b zero = h
identified_bytes protected bytes h b (suc k) = b k

identified_folds : (protected : ℕ) (bytes : List ℕ) → protected < 256 → Bytes bytes → Folds (protected + plain_sum bytes) (folded (protected ∷ bytes))
unfolding plain_sum
identified_folds protected bytes h b = folds (protected ∷ bytes) (identified_bytes protected bytes h b)

folded_above : (id : ℕ) (bytes : List ℕ) → Bytes bytes → 0 < folded (protected_of id ∷ bytes)
folded_above id bytes b =
    ⊎_elim (λ w. omega (arith, parity_bits.above id)) (λ w. omega arith)
    (identified_folds (protected_of id) bytes (parity_bits.byte id) b)

folded_byte : (protected : ℕ) (bytes : List ℕ) → protected < 256 → Bytes bytes → folded (protected ∷ bytes) ≤ 255
folded_byte protected bytes h b = ⊎_elim (λ w. omega arith) (λ w. omega arith) (identified_folds protected bytes h b)

-- one byte appended
folded_more : (sum n : ℕ) (bytes : List ℕ) → folded_from sum (bytes ++ n ∷ []) ≡ carried (folded_from sum bytes) n
unfolding folded_from
folded_more sum n [] = refl
folded_more sum n (byte ∷ bytes) = folded_more (carried sum byte) n bytes

pub appended : Appended
unfolding folded inverted checksum_of carried
appended =
    record {
      byte = λ protected bytes. omega arith;
      sum = λ protected bytes h b. rw (folded_more 0 _ (protected ∷ bytes)) (omega (arith, folded_byte protected bytes h b));
      only = λ id n bytes b h e.
          let f = folded_more 0 n (protected_of id ∷ bytes) in
          omega (arith, folded_byte (protected_of id) bytes (parity_bits.byte id) b, folded_above id bytes b);
    }

-- the same remainder, with one number more and without it
same_more : (p a b : ℕ) → ((p + a) % 255 ≡ (p + b) % 255) ↔ (a % 255 ≡ b % 255)
same_more p a b = omega arith

same_above : (x y : ℕ) → 0 < x → x ≤ 255 → 0 < y → y ≤ 255 → x % 255 ≡ y % 255 → x ≡ y
same_above x y h l i m e = omega arith

-- two folded sums
same_folds : (p a b x y : ℕ) → Folds (p + a) x → Folds (p + b) y
    → (255 - x ≡ 255 - y) ↔ ((a % 255 ≡ b % 255) × ((p + a ≡ 0) ↔ (p + b ≡ 0)))
same_folds p a b x y (inl v) (inl w) = (λ e. omega arith, λ r. omega arith)
same_folds p a b x y (inl v) (inr w) = (λ e. omega arith, λ r. omega (arith, r.1.0 v.0))
same_folds p a b x y (inr v) (inl w) = (λ e. omega arith, λ r. omega (arith, r.1.1 w.0))
same_folds p a b x y (inr (h, i, l, f)) (inr (k, j, m, g)) = (
  λ e. ((same_more p a b).0 (let s : x ≡ y = omega arith in cc), omega arith),
  λ r. let s = same_above x y i l j m (let t = (same_more p a b).1 r.0 in cc) in cc,
)

same_any : (p : ℕ) (a b : List ℕ) → p < 256 → Bytes a → Bytes b
    → (checksum_of p a ≡ checksum_of p b) ↔ ((plain_sum a % 255 ≡ plain_sum b % 255) × ((p + plain_sum a ≡ 0) ↔ (p + plain_sum b ≡ 0)))
unfolding inverted checksum_of
same_any p a b h s t =
    same_folds p (plain_sum a) (plain_sum b) (folded (p ∷ a)) (folded (p ∷ b)) (identified_folds p a h s) (identified_folds p b h t)

same_identified : (id : ℕ) (a b : List ℕ) → Bytes a → Bytes b
    → (checksum_of (protected_of id) a ≡ checksum_of (protected_of id) b) ↔ (plain_sum a % 255 ≡ plain_sum b % 255)
same_identified id a b s t =
    let same = same_any (protected_of id) a b (parity_bits.byte id) s t in
    (λ e. (same.0 e).0, λ r. same.1 (r, omega (arith, parity_bits.above id)))

pub same_checksum : SameChecksum
same_checksum = record { any = same_any; above = folded_above; identified = same_identified }

-- two sums of bytes that are the same but at one place
sum_changed : (i : ℕ) (a b : List ℕ) → length a ≡ length b → ((k : ℕ) → k ≢ i → byte_at a k ≡ byte_at b k)
    → plain_sum a + byte_at b i ≡ plain_sum b + byte_at a i
unfolding plain_sum
sum_changed i [] [] l h = refl
sum_changed i [] (y ∷ b) l h = absurd (omega arith)
sum_changed i (x ∷ a) [] l h = absurd (omega arith)
sum_changed zero (x ∷ a) (y ∷ b) l h =
    let rest : a ≡ b = ext_get_or 0 a b (omega arith) (λ k m. h (suc k) (λ e. omega arith)) in
    rw rest (omega arith)
sum_changed (suc i) (x ∷ a) (y ∷ b) l h =
    omega (arith, h 0 (λ e. omega arith), sum_changed i a b (omega arith) (λ k m. h (suc k) (λ e. m (omega arith))))

-- two bytes with the same remainder
same_remainder : (x y : ℕ) → x < 256 → y < 256 → x % 255 ≡ y % 255 → (x ≡ y) ⊎ ((x ≡ 0x00) × (y ≡ 0xff)) ⊎ ((x ≡ 0xff) × (y ≡ 0x00))
same_remainder x y h l e = go (ℕ_discrete x y) (dec_lt x y)
  where
    go : Dec (x ≡ y) → Dec (x < y) → (x ≡ y) ⊎ ((x ≡ 0x00) × (y ≡ 0xff)) ⊎ ((x ≡ 0xff) × (y ≡ 0x00))
    go (yes s) d = inl s
    go (no s) (yes d) = inr (inl (omega arith))
    go (no s) (no d) = inr (inr (omega arith))

pub changed_byte_found : ChangedByteFound
changed_byte_found id i a b s t l h =
    let same = same_identified id a b s t in
    let sums = sum_changed i a b l h in (
      λ e. let f = same.0 e in same_remainder (byte_at a i) (byte_at b i) (s i) (t i) (omega arith),
      ⊎_elim (λ w. same.1 (omega arith)) (⊎_elim (λ w. same.1 (omega arith)) (λ w. same.1 (omega arith))),
    )
