-- A signal that is put is the copy of its bits, as far as the eight bytes at its place have room; and a long copy is the copies of its parts.
use mathlib.Core.Path.{◌≡◌, refl, sym, ◌∙◌}
use mathlib.Core.Logic.{◌≢◌}
use mathlib.Core.Bool.{Bool, true, false, not, ◌||◌}
use mathlib.Core.List.{List}
use Prim.Native.Nat.{ℕ, zero, suc, ◌+◌, ◌-◌, ◌*◌, ◌/◌, ◌%◌, ◌^◌, ◌≤◌, ◌<◌}
use native.Mathlib.Nat.{zero-add, add-zero, sub-zero, add-suc, add_assoc}
use native.Mathlib.Decide.{dec_lt}
use native.Mathlib.Omega.{arith}
use lib.Dec.{eqb}
use lib.ListN.{length, replicate}
use Rattle.base.specs.Numbers.{at_most}
use Rattle.base.proofs.Ranges.{at_most-le, at_most_fewer}
use Rattle.bits.specs.Digit.{digit}
use Rattle.bits.specs.Payload.{digit_of, bit_at, copied, differs}
use Rattle.bits.specs.Word.{fitting, Bits, low_first, ones_of, in_bytes, made_up, bytes_stored}
use Rattle.bits.proofs.PayloadLaws.{Bytes, digit_of-lt, position_of, position_byte, position_digit}
use Rattle.bits.proofs.ShiftLaws.{few_digits}
use Rattle.bits.proofs.CopyLaws.{copied_other}
use Rattle.bits.proofs.Fitting.{fitting-le, fitting_room, fitting_above, fitting_capped}
use Rattle.bits.proofs.WordLaws.{in_memory, digit-in_bytes, in_bytes_before, in_bytes-lt, ones_first, ones_later, ones_of-lt}
use Rattle.bits.proofs.Stored.{stored_digit, stored_copied, stored_differs}

module _ (order s q : ℕ) where
  -- as many ones as bits can stand in eight bytes
  abbrev ones : ℕ
  ones = ones_of order (at_most 64 s)

  in_reach : (k : ℕ) → k < fitting q s → k < at_most 64 s
  in_reach k l = omega (arith, fitting_capped q s, fitting-le q (at_most 64 s))

  no_others : (t : ℕ) → t < 64 → ((k : ℕ) → k < fitting q s → t ≢ q % 8 + k) → digit (in_bytes order ones (q % 8)) (in_memory order t) ≡ 0
  no_others t h d = go (dec_lt t (q % 8)) (dec_lt (t - q % 8) (at_most 64 s))
    where
      go : Dec (t < q % 8) → Dec (t - q % 8 < at_most 64 s) → digit (in_bytes order ones (q % 8)) (in_memory order t) ≡ 0
      go (yes l) m = in_bytes_before ones (q % 8) t order (ones_of-lt order (at_most 64 s) (at_most-le 64 s)) h l
      go (no l) (no m) = digit-in_bytes ones (q % 8) t order h (omega arith) ∙ ones_later (at_most 64 s) (t - q % 8) order (omega arith) (omega arith)
      go (no l) (yes m) = absurd (d (t - q % 8) (fitting_above q s (t - q % 8) (omega (arith, at_most_fewer 64 s)) (omega arith)) (omega arith))

  -- the bytes that take them are there
  pub mask_room : (n : ℕ) → q + fitting q s ≤ 8 * n → in_bytes order ones (q % 8) < 2 ^ (8 * (n - q / 8))
  mask_room n fits = few_digits (8 * (n - q / 8)) 64 (in_bytes order ones (q % 8)) (in_bytes-lt order ones (q % 8)) none
    where
      none : (e : ℕ) → 8 * (n - q / 8) ≤ e → e < 64 → digit (in_bytes order ones (q % 8)) e ≡ 0
      none e l h =
          let t = position_of order (e / 8) (e % 8) in
          let byte : t / 8 ≡ e / 8 = position_byte order (e / 8) (e % 8) (omega arith) in
          let place : in_memory order t ≡ e = rw (byte, position_digit order (e / 8) (e % 8) (omega arith)) (omega arith) in
          rw place at (no_others t (omega arith) (λ k m f. omega arith))

  module _ (bits : ℕ) (source kept : List ℕ) (p : ℕ) (fits : q + fitting q s ≤ 8 * length kept) (b : Bytes kept) (has : Bits order bits source p s) where
    new_bits : (k : ℕ) → k < fitting q s → digit (in_bytes order bits (q % 8)) (in_memory order (q % 8 + k)) ≡ bit_at order source (p + k)
    new_bits k l =
        let i : q % 8 + k - q % 8 ≡ k = omega arith in
        digit-in_bytes bits (q % 8) (q % 8 + k) order (omega (arith, fitting_room q s)) (omega arith) ∙ rw i (has k (omega (arith, fitting_room q s))
        (omega (arith, fitting-le q s)))

    new_ones : (k : ℕ) → k < fitting q s → digit (in_bytes order ones (q % 8)) (in_memory order (q % 8 + k)) ≡ 1
    new_ones k l =
        let i : q % 8 + k - q % 8 ≡ k = omega arith in
        digit-in_bytes ones (q % 8) (q % 8 + k) order (omega (arith, fitting_room q s)) (omega arith)
        ∙ rw i (ones_first (at_most 64 s) k order (at_most-le 64 s) (in_reach k l))

    put_copied :
        bytes_stored 8 kept (q / 8) (made_up (low_first 8 kept (q / 8)) (in_bytes order bits (q % 8)) (in_bytes order ones (q % 8)))
        ≡ copied order source p (fitting q s) kept q
    put_copied =
        stored_copied order source kept p (fitting q s) q (in_bytes order bits (q % 8)) (in_bytes order ones (q % 8)) (fitting_room q s) fits b new_bits new_ones
        no_others

    put_differs :
        not (eqb (made_up (low_first 8 kept (q / 8)) (in_bytes order bits (q % 8)) (in_bytes order ones (q % 8))) (low_first 8 kept (q / 8)))
        ≡ differs order source p (fitting q s) kept q
    put_differs =
        stored_differs order source kept p (fitting q s) q (in_bytes order bits (q % 8)) (in_bytes order ones (q % 8)) (fitting_room q s) fits b new_bits new_ones
        no_others

  -- what is promised of a signal that is put, from what is promised of the bytes
  pub put_gives :
      (kept after : List ℕ) (answer : Bool) (bits these new mask : ℕ) → these ≡ ones → new ≡ in_bytes order bits (q % 8)
      → mask ≡ in_bytes order these (q % 8) → q + fitting q s ≤ 8 * length kept → Bytes kept
      → after ≡ bytes_stored 8 kept (q / 8) (made_up (low_first 8 kept (q / 8)) new mask)
      → answer ≡ not (eqb (made_up (low_first 8 kept (q / 8)) new mask) (low_first 8 kept (q / 8)))
      → ((source : List ℕ) (p : ℕ) → Bits order bits source p s → after ≡ copied order source p (fitting q s) kept q)
      × ((source : List ℕ) (p : ℕ) → Bits order bits source p s → answer ≡ differs order source p (fitting q s) kept q)
  put_gives kept after answer bits these new mask o n m fits b e f = (
    λ source p has. e ∙ rw (n, m, o) (put_copied bits source kept p fits b has),
    λ source p has. f ∙ rw (n, m, o) (put_differs bits source kept p fits b has),
  )

-- there is a payload that has a number's bits: its eight bytes
pub some_payload : (order bits s : ℕ) → Bits order bits (bytes_stored 8 (replicate 8 0) 0 (in_bytes order bits 0)) 0 s
unfolding bit_at
some_payload order bits s k h l =
    let eight : 0 + k / 8 < length {A = ℕ} (replicate 8 0) = omega arith in
    rw (zero-add k)
    (sym (rw (zero-add (k / 8), sub-zero k) at
    (stored_digit 8 (replicate 8 0) 0 (in_bytes order bits 0) (k / 8) (digit_of order k) (omega arith) eight (digit_of-lt order k)
    ∙ digit-in_bytes bits 0 k order h (omega arith))))

-- ---- a copy in parts

or_assoc : (x y z : Bool) → ((x || y) || z) ≡ (x || (y || z))
or_assoc true y z = refl
or_assoc false y z = refl

module _ (order : ℕ) (source : List ℕ) (p : ℕ) (kept : List ℕ) (q m : ℕ) where
  pub copied_parts : (n : ℕ) → copied order source p (m + n) kept q ≡ copied order source (p + m) n (copied order source p m kept q) (q + m)
  unfolding copied
  copied_parts zero = rw add-zero
  copied_parts (suc n) = rw (add-suc, copied_parts n, add_assoc p m n, add_assoc q m n)

  pub differs_parts :
      (n : ℕ) → q + (m + n) ≤ 8 * length kept
      → differs order source p (m + n) kept q ≡ (differs order source (p + m) n (copied order source p m kept q) (q + m) || differs order source p m kept q)
  unfolding differs
  differs_parts zero h = rw add-zero
  differs_parts (suc n) h =
      rw (
        add-suc,
        differs_parts n (omega arith),
        add_assoc p m n,
        add_assoc q m n,
        copied_other order source p kept q m (q + (m + n)) (omega arith) (λ k l. omega arith),
      ) (sym (or_assoc
      (not (eqb (bit_at order kept (q + (m + n))) (bit_at order source (p + (m + n)))))
      (differs order source (p + m) n (copied order source p m kept q) (q + m)) (differs order source p m kept q)))
