-- A copy stores the source's signal in the kept payload, and a change is a difference of two signals.
use mathlib.Core.Path.{◌≡◌, refl, sym, ◌∙◌}
use mathlib.Core.Bool.{Bool, true, false, true≢false}
use mathlib.Core.Logic.{◌≢◌, ◌↔◌}
use mathlib.Core.List.{List}
use Prim.Native.Nat.{ℕ, ◌+◌, ◌≤◌, ◌<◌}
use native.Mathlib.Decide.{ℕ_discrete}
use native.Mathlib.Omega.{arith}
use Rattle.base.specs.Numbers.{Bytes}
use Rattle.bits.specs.Payload.{bit_at, set_bit, copied, differs}
use Rattle.bits.proofs.DigitLaws.{digit-zero}
use Rattle.bits.proofs.PayloadLaws.{length-set_bit, bit_at-set_bit_same, bit_at-set_bit_other, Bytes-set_bit}
use Rattle.bits.proofs.CopyLaws.{length-copied, Bytes-copied, copied_other, copied_bit, differs_exactly}
use Rattle.restated.specs.Bits.{bits_of, number_in, place_in}
use Rattle.restated.specs.Copies.{field_of, signal_of, Stored, CopiesByNumbers}
use Rattle.restated.proofs.Digits.{same_field, field_same}
use Rattle.restated.proofs.Fields.{place_back, digit_in, stored}

module _ (order : ℕ) (source : List ℕ) (p s : ℕ) (kept : List ℕ) (q : ℕ)
    (bs : Bytes source) (bk : Bytes kept) (hs : p + s ≤ bits_of source) (hk : q + s ≤ bits_of kept) where
  -- digit k of a signal is bit `turned k` of it
  abbrev turned : ℕ → ℕ
  turned k = place_in order s k 1

  abbrev from : ℕ
  from = place_in order (bits_of source) p s

  abbrev to : ℕ
  to = place_in order (bits_of kept) q s

  copy_stored : Stored order s q (signal_of order source p s) kept (copied order source p s kept q)
  copy_stored =
      stored order s q from (number_in order source) kept (copied order source p s kept q) hk bk
      (Bytes-copied order source p kept q s hk bk) (length-copied order source p kept q s)
      (λ t d. copied_other order source p kept q s t hk d)
      (λ k l. copied_bit order source p kept q s (turned k) hk (place_back order s k l).1 ∙ sym (digit_in order source bs p s k hs l))

  -- the signals are one number exactly where all their bits are the same
  abbrev Agree : Type 0
  Agree = (k : ℕ) → k < s → bit_at order kept (q + k) ≡ bit_at order source (p + k)

  agree_same : Agree → signal_of order kept q s ≡ signal_of order source p s
  agree_same f =
      same_field s to from (number_in order kept) (number_in order source)
      (λ k l. digit_in order kept bk q s k hk l ∙ f (turned k) (place_back order s k l).1 ∙ sym (digit_in order source bs p s k hs l))

  same_agree : signal_of order kept q s ≡ signal_of order source p s → Agree
  same_agree e k l =
      let z = place_back order s k l in
      let same = field_same s to from (number_in order kept) (number_in order source) e (turned k) z.1 in
      rw z.0 at (sym (digit_in order kept bk q s (turned k) hk z.1) ∙ same ∙ digit_in order source bs p s (turned k) hs z.1)

  abbrev Differs : Bool → Type 0
  Differs t = differs order source p s kept q ≡ t

  agree : Differs false → Agree
  agree f k l = go (ℕ_discrete (bit_at order kept (q + k)) (bit_at order source (p + k)))
    where
      go : Dec (bit_at order kept (q + k) ≡ bit_at order source (p + k)) → bit_at order kept (q + k) ≡ bit_at order source (p + k)
      go (yes e) = e
      go (no n) = absurd (true≢false (sym ((differs_exactly order source p kept q s).1 (k, l, n)) ∙ f))

  change_exactly : Differs true ↔ (signal_of order kept q s ≢ signal_of order source p s)
  change_exactly = (
    λ t e. let w = (differs_exactly order source p kept q s).0 t in w.2 (same_agree e w.0 w.1),
    λ d. at d (differs order source p s kept q) refl,
  )
    where
      at : signal_of order kept q s ≢ signal_of order source p s → (t : Bool) → Differs t → Differs true
      at d true e = e
      at d false e = absurd (d (agree_same (agree e)))

bit_stored :
    (order : ℕ) (kept : List ℕ) (q value : ℕ) → Bytes kept → q < bits_of kept → value < 2 → Stored order 1 q value kept (set_bit order kept q value)
bit_stored order kept q value b h v =
    let one : field_of 1 0 value ≡ value = omega arith in
    rw one at
    (stored order 1 q 0 value kept (set_bit order kept q value) (omega arith) b
    (Bytes-set_bit order kept q value h v b) (length-set_bit order kept q value)
    (λ t d. bit_at-set_bit_other order kept q value t h v (λ e. d 0 (omega arith) (omega arith)))
    (λ k l.
    let at : q + place_in order 1 k 1 ≡ q = omega (arith, (place_back order 1 k l).1) in
    let low : 0 + k ≡ 0 = omega arith in
    rw (at, low, digit-zero) (bit_at-set_bit_same order kept q value h v ∙ omega arith)))

pub copies_by_numbers : CopiesByNumbers
copies_by_numbers = record { copy = copy_stored; bit = bit_stored; change = change_exactly }
