-- The bits of a signal are a field of its payload's number: where its digits stand, and what other bits there make of the number.
use mathlib.Core.Path.{◌≡◌, refl, sym, ap, ◌∙◌}
use mathlib.Core.Logic.{◌≢◌, ◌⊎◌, inl, inr}
use mathlib.Core.List.{List}
use Prim.Native.Nat.{ℕ, zero, suc, ◌+◌, ◌-◌, ◌/◌, ◌%◌, ◌^◌, ◌≤◌, ◌<◌}
use native.Mathlib.Nat.{mod-lt}
use native.Mathlib.Omega.{arith}
use lib.ListN.{length}
use lib.Pow.{pow_pos, shr_lt}
use Rattle.base.specs.Numbers.{Bytes}
use Rattle.bits.specs.Digit.{digit}
use Rattle.bits.specs.Payload.{bit_at}
use Rattle.bits.proofs.DigitLaws.{same_digits}
use Rattle.restated.specs.Bits.{bits_of, number_in, place_in}
use Rattle.restated.specs.Copies.{field_of, Replaced, Stored}
use Rattle.restated.proofs.Digits.{digit_low, digit_high, same_field}
use Rattle.restated.proofs.Bits.{number_lt, bits_by_digits}

-- ---- the places of a signal's digits

-- counted from the other end twice, a place is itself
pub place_back : (order w e : ℕ) → e < w → (place_in order w (place_in order w e 1) 1 ≡ e) × (place_in order w e 1 < w)
unfolding place_in
place_back zero w e l = (omega arith, omega arith)
place_back (suc order) w e l = (refl, l)

-- the digits of a signal are its bits, from one end or from the other
place_in-place_in : (order w p s k : ℕ) → p + s ≤ w → k < s → place_in order w (p + place_in order s k 1) 1 ≡ place_in order w p s + k
unfolding place_in
place_in-place_in zero w p s k h l = omega arith
place_in-place_in (suc order) w p s k h l = refl

-- and a digit outside it is a bit outside it
place_out :
    (order w q s e k : ℕ) → q + s ≤ w → e < w → k < s → (e < place_in order w q s) ⊎ (place_in order w q s + s ≤ e)
    → place_in order w e 1 ≢ q + k
unfolding place_in
place_out zero w q s e k h l m (inl o) = omega arith
place_out zero w q s e k h l m (inr o) = omega arith
place_out (suc order) w q s e k h l m (inl o) = omega arith
place_out (suc order) w q s e k h l m (inr o) = omega arith

place_room : (order w q s : ℕ) → q + s ≤ w → place_in order w q s + s ≤ w
unfolding place_in
place_room zero w q s h = omega arith
place_room (suc order) w q s h = h

module _ (order : ℕ) (payload : List ℕ) (b : Bytes payload) where
  pub digit_in : (p s k : ℕ) → p + s ≤ bits_of payload → k < s
      → digit (number_in order payload) (place_in order (bits_of payload) p s + k) ≡ bit_at order payload (p + place_in order s k 1)
  digit_in p s k h l =
      let inside = (place_back order s k l).1 in
      sym (bits_by_digits order payload (p + place_in order s k 1) b (omega arith) ∙ ap (digit (number_in order payload)) (place_in-place_in order _ p s k h l))

-- ---- a field replaced

module _ (w s e d old new value : ℕ) (room : e + s ≤ w) (small : old < 2 ^ w) (less : new < 2 ^ w)
    (outside : (f : ℕ) → f < w → (f < e) ⊎ (e + s ≤ f) → digit new f ≡ digit old f)
    (inside : (k : ℕ) → k < s → digit new (e + k) ≡ digit value (d + k)) where
  top : (n : ℕ) → n < 2 ^ w → n / 2 ^ (e + s) < 2 ^ (w - (e + s))
  top n l = let z : w - (e + s) + (e + s) ≡ w = omega arith in shr_lt (w - (e + s)) (e + s) (rw z l)

  replaced : Replaced s e (field_of s d value) old new
  replaced =
      record {
        below =
            same_digits e (new % 2 ^ e) (old % 2 ^ e) (mod-lt new (pow_pos e)) (mod-lt old (pow_pos e))
            (λ f l. digit_low e new f l ∙ outside f (omega arith) (inl l) ∙ sym (digit_low e old f l));
        field = same_field s e d new value inside;
        above =
            same_digits (w - (e + s)) (new / 2 ^ (e + s)) (old / 2 ^ (e + s)) (top new less) (top old small)
            (λ f l. digit_high (e + s) new f ∙ outside (e + s + f) (omega arith) (inr (omega arith)) ∙ sym (digit_high (e + s) old f));
      }

-- a payload with other bits at q to q + s - 1: those of a number's field
module _ (order s q d value : ℕ) (old new : List ℕ) (room : q + s ≤ bits_of old) (b : Bytes old) (c : Bytes new) (long : length new ≡ length old) where
  pub stored : ((t : ℕ) → ((k : ℕ) → k < s → t ≢ q + k) → bit_at order new t ≡ bit_at order old t)
      → ((k : ℕ) → k < s → bit_at order new (q + place_in order s k 1) ≡ digit value (d + k)) → Stored order s q (field_of s d value) old new
  stored outside inside =
      record {
        long = long;
        bytes = c;
        number =
            replaced (bits_of old) s (place_in order (bits_of old) q s) d _ _ value (place_room order (bits_of old) q s room) (number_lt order old b)
            (rw long at (number_lt order new c)) out (λ k l. rw long at (digit_in order new c q s k (omega arith) l) ∙ inside k l);
      }
    where
      same : (p : ℕ) → p < bits_of old → bit_at order new p ≡ digit (number_in order new) (place_in order (bits_of old) p 1)
      same p l = rw long at (bits_by_digits order new p c (omega arith))

      out : (e : ℕ) → e < bits_of old → (e < place_in order (bits_of old) q s) ⊎ (place_in order (bits_of old) q s + s ≤ e)
          → digit (number_in order new) e ≡ digit (number_in order old) e
      out e l o =
          let z = place_back order (bits_of old) e l in
          let t = place_in order (bits_of old) e 1 in
          rw z.0 at
          (sym (same t z.1) ∙ outside t (λ k m. place_out order (bits_of old) q s e k room l m o) ∙ bits_by_digits order old t b z.1)
