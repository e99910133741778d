-- The counter over the ticks, and the ticks that each mask lets through.
use Rattle.std.proofs.Common.{◌≡◌, ℕ, zero, suc, ◌+◌, ◌*◌, ◌/◌, ◌%◌, ◌<◌, eqb, sym, refl, ap, ◌∙◌, ⊎_elim, eq-or-lt_of_le, arith, eq-eqb, ne_eqb}
use lib.Arith.{mod-mul}
use lib.Bits.{bit_and, and_mask}
use Rattle.base.specs.Pick.{pick}
use Rattle.base.proofs.Picks.{picks, passes}
use Rattle.clock.specs.Counter.{counter_next, counter_after, mask_of, no_common_bit, handled, Prescaler}
use Rattle.clock.specs.Counter.Prescaler.{one, two, ten, twenty}

-- below nine the low digit rises
next_digit : (x d : ℕ) → x < 16 → d < 9 → counter_next (16 * x + d) ≡ 16 * x + suc d
unfolding counter_next
next_digit x d hx hd =
    let s : (16 * x + d + 1) % 256 ≡ 16 * x + suc d = omega arith in
    let m : (16 * x + suc d) % 16 ≡ 10 → ⊥ = λ e. omega arith in
    rw s (passes _ _ _ (ne_eqb _ _ m))

-- at nine the high digit rises, and wraps at sixteen
next_carry : (q : ℕ) → counter_next (16 * (q % 16) + 9) ≡ 16 * (suc q % 16)
unfolding counter_next
next_carry q =
    let s : (16 * (q % 16) + 9 + 1) % 256 ≡ 16 * (q % 16) + 10 = omega arith in
    let m : (16 * (q % 16) + 10) % 16 ≡ 10 = omega arith in
    rw s (picks _ _ _ (eq-eqb _ _ m) ∙ carried)
  where
    carried : (16 * (q % 16) + 10 + 6) % 256 ≡ 16 * (suc q % 16)
    carried =
        ⊎_elim
        (λ (e : q % 16 ≡ 15). let z : suc q % 16 ≡ 0 = omega arith in rw (e, z))
        (λ (l : q % 16 < 15). let z : suc q % 16 ≡ suc (q % 16) = omega arith in rw z (omega arith))
        (eq-or-lt_of_le (omega arith))

next_digits : (n : ℕ) → counter_next (16 * (n / 10 % 16) + n % 10) ≡ 16 * (suc n / 10 % 16) + suc n % 10
next_digits n =
    ⊎_elim
    (λ (e : n % 10 ≡ 9).
    let q : suc n / 10 ≡ suc (n / 10) = omega arith in
    let z : suc n % 10 ≡ 0 = omega arith in
    rw (e, q, z) (next_carry (n / 10) ∙ omega arith))
    (λ (l : n % 10 < 9).
    let q : suc n / 10 ≡ n / 10 = omega arith in
    let z : suc n % 10 ≡ suc (n % 10) = omega arith in
    rw (q, z) (next_digit (n / 10 % 16) (n % 10) (omega arith) l))
    (eq-or-lt_of_le (omega arith))

-- After n ticks the low digit is n's last digit and the high digit its tens, of which there are sixteen.
pub counter_after_is : (n : ℕ) → counter_after n ≡ 16 * (n / 10 % 16) + n % 10
unfolding counter_after
counter_after_is zero = refl
counter_after_is (suc n) = ap counter_next (counter_after_is n) ∙ next_digits n

-- two tests for zero agree where both numbers are zero or neither is
same_test : (a b : ℕ) → (a ≡ 0 → b ≡ 0) → (b ≡ 0 → a ≡ 0) → eqb a 0 ≡ eqb b 0
same_test zero b f g = sym (eq-eqb b 0 (f refl))
same_test (suc a) b f g = ne_eqb (suc a) 0 (λ e. omega arith) ∙ sym (ne_eqb b 0 (λ e. omega (arith, g e)))

-- the five low bits of two digits
low_five : (q d : ℕ) → d < 10 → (16 * (q % 16) + d) % 32 ≡ q % 2 * 16 + d
low_five q d h =
    let t : (16 * (q % 16) + d) / 16 ≡ q % 16 = omega arith in
    let u : (16 * (q % 16) + d) % 16 ≡ d = omega arith in
    let v : q % 16 % 2 ≡ q % 2 = let e = mod-mul q {m = 8} {c = 2} (omega arith) (omega arith) in omega arith in
    rw (t, u, v) at (mod-mul (16 * (q % 16) + d) {m = 2} {c = 16} (omega arith) (omega arith))

-- A timer is handled exactly at the ticks, numbered from 0, that its prescaler divides.
pub handled_divides : {p : ℕ} → Prescaler p → (n : ℕ) → handled (counter_after n) p ≡ eqb (n % p) 0
unfolding no_common_bit handled mask_of pick
handled_divides one n = let e : bit_and (counter_after n) 0 ≡ n % 1 = and_mask (counter_after n) 0 ∙ omega arith in rw e
handled_divides two n = let e : bit_and (counter_after n) 1 ≡ n % 2 = and_mask (counter_after n) 1 ∙ rw (counter_after_is n) (omega arith) in rw e
handled_divides ten n = let e : bit_and (counter_after n) 15 ≡ n % 10 = and_mask (counter_after n) 4 ∙ rw (counter_after_is n) (omega arith) in rw e
handled_divides twenty n =
    let e : bit_and (counter_after n) 31 ≡ n / 10 % 2 * 16 + n % 10 =
    and_mask (counter_after n) 5 ∙ rw (counter_after_is n) (low_five (n / 10) (n % 10) (omega arith)) in
    let m = mod-mul n {m = 2} {c = 10} (omega arith) (omega arith) in
    same_test (bit_and (counter_after n) 31) (n % 20) (λ z. omega arith) (λ z. omega arith)
