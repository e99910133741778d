-- Eight bytes that are made up and stored are the copy, and they differ from the kept ones exactly where a bit of the copy did. Said once for both
-- orders, of any numbers that have the signal's bits and ones in their places.
use mathlib.Core.Path.{◌≡◌, refl, sym, ap, ◌∙◌}
use mathlib.Core.Logic.{◌≢◌}
use mathlib.Core.Bool.{Bool, true, false, not, false≢true}
use mathlib.Core.List.{List}
use Prim.Native.Nat.{ℕ, zero, suc, ◌+◌, ◌-◌, ◌*◌, ◌/◌, ◌%◌, ◌^◌, ◌≤◌, ◌<◌}
use native.Mathlib.Nat.{add-zero, zero-add}
use native.Mathlib.Decide.{dec_lt, ℕ_discrete}
use native.Mathlib.Omega.{arith}
use borrow.Author.Tests.{eq-eqb, ne_eqb}
use lib.Dec.{eqb}
use lib.ListN.{length, get_or, set, length-set}
use lib.Pow.{shr_lt}
use lib.Seq.{get_or-set_same, get_or-set_other, set-get_or}
use Rattle.bits.specs.Digit.{digit}
use Rattle.bits.specs.Payload.{digit_of, bit_at, copied, differs}
use Rattle.bits.specs.Word.{low_first, made_up, bytes_stored}
use Rattle.bits.proofs.DigitLaws.{same_digits}
use Rattle.bits.proofs.ShiftLaws.{none_at, digit_down, digit-mod, digit_high}
use Rattle.bits.proofs.PayloadLaws.{Bytes, Bytes-set, digit_of-lt, position_of, position_byte, position_digit}
use Rattle.bits.proofs.CopyLaws.{copied_only, differs_exactly}
use Rattle.bits.proofs.MadeUp.{made_up-new, made_up_kept, made_up_same}
use Rattle.bits.proofs.WordLaws.{in_memory, Same-place, low_first-lt, low_first_bit}

-- ---- each byte of what was stored

pub length_stored : (n : ℕ) (kept : List ℕ) (at number : ℕ) → length (bytes_stored n kept at number) ≡ length kept
unfolding bytes_stored
length_stored zero kept at number = refl
length_stored (suc n) kept at number = length_stored n _ (at + 1) (number / 256) ∙ length-set kept at _

-- below the first byte, and past the last
stored_else : (n : ℕ) (kept : List ℕ) (at number i : ℕ) → ((j : ℕ) → j < n → i ≢ at + j) → get_or (bytes_stored n kept at number) i 0 ≡ get_or kept i 0
unfolding bytes_stored
stored_else zero kept at number i d = refl
stored_else (suc n) kept at number i d =
    let other : i ≢ at = λ e. d 0 (omega arith) (e ∙ sym (add-zero at)) in
    stored_else n _ (at + 1) (number / 256) i (λ j l e. d (suc j) (omega arith) (omega arith)) ∙ rw (get_or-set_other)

pub stored_digit :
    (n : ℕ) (kept : List ℕ) (at number j d : ℕ) → j < n → at + j < length kept → d < 8
    → digit (get_or (bytes_stored n kept at number) (at + j) 0) d ≡ digit number (8 * j + d)
unfolding bytes_stored
stored_digit zero kept at number j d h l m = absurd (omega arith)
stored_digit (suc n) kept at number zero d h l m =
    let here : at < length kept = omega arith in
    let first : get_or (bytes_stored n (set kept at (number % 256)) (at + 1) (number / 256)) (at + 0) 0 ≡ number % 256 =
    stored_else n _ (at + 1) (number / 256) (at + 0) (λ j m e. omega arith) ∙ rw (add-zero, get_or-set_same) in
    rw (first, zero-add) (digit-mod 8 number d m)
stored_digit (suc n) kept at number (suc j) d h l m =
    let i : at + suc j ≡ at + 1 + j = omega arith in
    let k : 8 * suc j + d ≡ 8 + (8 * j + d) = omega arith in
    rw (i, k) (stored_digit n _ (at + 1) (number / 256) j d (omega arith) (omega (arith, length-set kept at (number % 256))) m
    ∙ digit_down number 8 (8 * j + d))

Bytes-bytes_stored : (n : ℕ) (kept : List ℕ) (at number : ℕ) → Bytes kept → Bytes (bytes_stored n kept at number)
unfolding bytes_stored
Bytes-bytes_stored zero kept at number b = b
Bytes-bytes_stored (suc n) kept at number b = Bytes-bytes_stored n _ (at + 1) (number / 256) (Bytes-set kept at (number % 256) (omega arith) b)

-- ---- a turn of the loop that stores them, and its end

-- where a mask has a one left there is a byte left
pub some_left : (mask n i : ℕ) → mask ≢ 0 → mask < 2 ^ (8 * (n - i)) → i < n
some_left mask n i d h = go (dec_lt i n)
  where
    go : Dec (i < n) → i < n
    go (yes l) = l
    go (no l) =
        let none : n - i ≡ 0 = omega arith in
        let one : mask < 1 = rw none at h in
        absurd (d (omega arith))

pub less_left : (mask n i : ℕ) → i < n → mask < 2 ^ (8 * (n - i)) → mask / 256 < 2 ^ (8 * (n - (i + 1)))
less_left mask n i l h =
    let e : 8 * (n - i) ≡ 8 * (n - (i + 1)) + 8 = omega arith in
    shr_lt (8 * (n - (i + 1))) 8 (rw e at h)

-- a number of n bytes has the kept digits where the mask has none
abbrev pub KeptElsewhere : ℕ → List ℕ → ℕ → ℕ → ℕ → Type 0
KeptElsewhere n kept at number mask = (e : ℕ) → e < 8 * n → digit mask e ≡ 0 → digit number e ≡ digit (low_first n kept at) e

-- a store below changes no byte that is read from a place on
low_first_after : (n : ℕ) (kept : List ℕ) (i v at : ℕ) → i < at → low_first n (set kept i v) at ≡ low_first n kept at
unfolding low_first
low_first_after zero kept i v at l = refl
low_first_after (suc n) kept i v at l =
    let other : at ≢ i = λ e. omega arith in
    rw (get_or-set_other, low_first_after n kept i v (at + 1) (omega arith))

pub kept_on :
    (n : ℕ) (kept : List ℕ) (at number mask : ℕ) → Bytes kept → KeptElsewhere (suc n) kept at number mask
    → KeptElsewhere n (set kept at (number % 256)) (at + 1) (number / 256) (mask / 256)
unfolding low_first
kept_on n kept at number mask b elsewhere e h z =
    rw (low_first_after n kept at (number % 256) (at + 1) (omega arith))
    (digit_down number 8 e ∙ elsewhere (8 + e) (omega arith) (sym (digit_down mask 8 e) ∙ z)
    ∙ digit_high 8 (low_first n kept (at + 1)) (get_or kept at 0) e (b at))

-- the bytes that are there are stored as they are
stored_kept : (n : ℕ) (kept : List ℕ) (at : ℕ) → Bytes kept → bytes_stored n kept at (low_first n kept at) ≡ kept
unfolding bytes_stored low_first
stored_kept zero kept at b = refl
stored_kept (suc n) kept at b =
    let first : (low_first n kept (at + 1) * 256 + get_or kept at 0) % 256 ≡ get_or kept at 0 = omega (arith, b at) in
    let rest : (low_first n kept (at + 1) * 256 + get_or kept at 0) / 256 ≡ low_first n kept (at + 1) = omega (arith, b at) in
    rw (first, rest, set-get_or kept at 0) (stored_kept n kept (at + 1) b)

pub stored_end :
    (n : ℕ) (kept : List ℕ) (at number : ℕ) → Bytes kept → number < 2 ^ (8 * n) → KeptElsewhere n kept at number 0 → bytes_stored n kept at number ≡ kept
stored_end n kept at number b small elsewhere =
    let same : number ≡ low_first n kept at =
    same_digits (8 * n) number (low_first n kept at) small (low_first-lt kept b n at) (λ e l. elsewhere e l (none_at e)) in
    rw same (stored_kept n kept at b)

-- ---- it is the copy

module _ (order : ℕ) (source kept : List ℕ) (p s q new mask : ℕ) (room : q % 8 + s ≤ 64) (fits : q + s ≤ 8 * length kept) (b : Bytes kept)
    (bits : (k : ℕ) → k < s → digit new (in_memory order (q % 8 + k)) ≡ bit_at order source (p + k))
    (ones : (k : ℕ) → k < s → digit mask (in_memory order (q % 8 + k)) ≡ 1)
    (others : (t : ℕ) → t < 64 → ((k : ℕ) → k < s → t ≢ q % 8 + k) → digit mask (in_memory order t) ≡ 0) where
  abbrev old : ℕ
  old = low_first 8 kept (q / 8)

  abbrev made : ℕ
  made = made_up old new mask

  abbrev after : List ℕ
  after = bytes_stored 8 kept (q / 8) made

  within_eight : (t : ℕ) → t < 64 → in_memory order t < 64
  within_eight t h = omega (arith, digit_of-lt order t)

  -- bit 8 (q / 8) + t is a digit of the number
  after-digit : (t : ℕ) → t < 64 → q / 8 + t / 8 < length kept → bit_at order after (8 * (q / 8) + t) ≡ digit made (in_memory order t)
  unfolding bit_at
  after-digit t h l =
      let i : (8 * (q / 8) + t) / 8 ≡ q / 8 + t / 8 = omega arith in
      rw (i, Same-place order (q / 8) t) (stored_digit 8 kept (q / 8) made (t / 8) (digit_of order t) (omega arith) l (digit_of-lt order t))

  made_new : (k : ℕ) → k < s → digit made (in_memory order (q % 8 + k)) ≡ bit_at order source (p + k)
  made_new k l =
      made_up-new old new mask (in_memory order (q % 8 + k)) (within_eight (q % 8 + k) (omega arith)) (ones k l) ∙ bits k l

  old_bit : (k : ℕ) → k < s → digit old (in_memory order (q % 8 + k)) ≡ bit_at order kept (q + k)
  old_bit k l =
      let i : 8 * (q / 8) + (q % 8 + k) ≡ q + k = omega arith in
      rw i at (low_first_bit kept b order (q / 8) (q % 8 + k) (omega arith))

  inside : (k : ℕ) → k < s → bit_at order after (q + k) ≡ bit_at order source (p + k)
  inside k l =
      let i : 8 * (q / 8) + (q % 8 + k) ≡ q + k = omega arith in
      rw i at (after-digit (q % 8 + k) (omega arith) (omega arith) ∙ made_new k l)

  outside : (t : ℕ) → t < 8 * length kept → ((k : ℕ) → k < s → t ≢ q + k) → bit_at order after t ≡ bit_at order kept t
  outside t ht d = go (dec_lt t (8 * (q / 8))) (dec_lt t (8 * (q / 8) + 64))
    where
      away : ((j : ℕ) → j < 8 → t / 8 ≢ q / 8 + j) → bit_at order after t ≡ bit_at order kept t
      away f = unfold bit_at in rw (stored_else 8 kept (q / 8) made (t / 8) f)

      near : (u : ℕ) → u < 64 → 8 * (q / 8) + u ≡ t → bit_at order after t ≡ bit_at order kept t
      near u l e =
          rw e at (after-digit u l (omega arith)
          ∙ made_up_kept old new mask (in_memory order u) (within_eight u l) (others u l (λ k m f. d k m (omega arith)))
          ∙ low_first_bit kept b order (q / 8) u l)

      go : Dec (t < 8 * (q / 8)) → Dec (t < 8 * (q / 8) + 64) → bit_at order after t ≡ bit_at order kept t
      go (yes a) l = away (λ j m e. omega arith)
      go (no a) (yes l) = near (t - 8 * (q / 8)) (omega arith) (omega arith)
      go (no a) (no l) = away (λ j m e. omega arith)

  pub stored_copied : after ≡ copied order source p s kept q
  stored_copied =
      copied_only order source p s kept q after fits b (Bytes-bytes_stored 8 kept (q / 8) made b) (length_stored 8 kept (q / 8) made) inside outside

  -- ---- and differs where it does

  unchanged : ((k : ℕ) → k < s → bit_at order kept (q + k) ≡ bit_at order source (p + k)) → made ≡ old
  unchanged same = made_up_same old new mask (low_first-lt kept b 8 (q / 8)) each
    where
      at : (t : ℕ) → t < 64 → digit mask (in_memory order t) ≡ 1 → Dec (t < q % 8) → Dec (t < q % 8 + s)
          → digit new (in_memory order t) ≡ digit old (in_memory order t)
      at t h one (no a) (yes c) =
          let i : q % 8 + (t - q % 8) ≡ t = omega arith in
          rw i at (bits (t - q % 8) (omega arith) ∙ sym (same (t - q % 8) (omega arith)) ∙ sym (old_bit (t - q % 8) (omega arith)))
      at t h one (yes a) c = absurd (omega (arith, others t h (λ k l. omega arith)))
      at t h one (no a) (no c) = absurd (omega (arith, others t h (λ k l. omega arith)))

      -- each digit is the place of a bit
      each : (e : ℕ) → e < 64 → digit mask e ≡ 1 → digit new e ≡ digit old e
      each e h one =
          let t = position_of order (e / 8) (e % 8) in
          let byte : t / 8 ≡ e / 8 = position_byte order (e / 8) (e % 8) (omega arith) in
          let place : in_memory order t ≡ e = rw (byte, position_digit order (e / 8) (e % 8) (omega arith)) (omega arith) in
          rw place at (at t (omega arith) (rw place one) (dec_lt t (q % 8)) (dec_lt t (q % 8 + s)))

  pub stored_differs : not (eqb made old) ≡ differs order source p s kept q
  stored_differs = go (differs order source p s kept q) refl
    where
      go : (x : Bool) → differs order source p s kept q ≡ x → not (eqb made old) ≡ differs order source p s kept q
      go true e =
          let w = (differs_exactly order source p kept q s).0 e in
          let place = in_memory order (q % 8 + w.0) in
          let apart : made ≢ old = λ f. w.2 (sym (old_bit w.0 w.1) ∙ ap (λ (x : ℕ). digit x place) (sym f) ∙ made_new w.0 w.1) in
          rw (ne_eqb made old apart) (sym e)
      go false e = rw (eq-eqb made old (unchanged (λ k l. equal k l (ℕ_discrete (bit_at order kept (q + k)) (bit_at order source (p + k)))))) (sym e)
        where
          equal : (k : ℕ) → k < s → Dec (bit_at order kept (q + k) ≡ bit_at order source (p + k)) → bit_at order kept (q + k) ≡ bit_at order source (p + k)
          equal k l (yes r) = r
          equal k l (no r) = absurd (false≢true (sym e ∙ (differs_exactly order source p kept q s).1 (k, l, r)))
