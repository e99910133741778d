-- The definitions of a payload's bits tell only the number 0 from the rest: a byte and the number of the order that it tells say the same to them.
use mathlib.Core.Path.{◌≡◌, refl}
use mathlib.Core.List.{List}
use Prim.Native.Nat.{ℕ, zero, suc, ◌+◌}
use Rattle.bits.specs.declared.order.Order.{Order}
use Rattle.bits.specs.declared.order.Order.TheVariants.{Big, Little}
use Rattle.bits.specs.Order.{order_told}
use Rattle.bits.specs.Payload.{digit_of, bit_at, set_bit, copied, differs}
use Rattle.bits.specs.Word.{place_of, Bits, from_bit, ones_of}
use Rattle.bits.specs.Signal.{signal_at}

pub not_big : (order : Order) → (order ≡ Big → ⊥) → order ≡ Little
not_big Big d = absurd (d refl)
not_big Little d = refl

digit_of_told : (byte p : ℕ) → digit_of (order_told byte) p ≡ digit_of byte p
unfolding digit_of order_told
digit_of_told zero p = refl
digit_of_told (suc byte) p = refl

bit_at_told : (byte : ℕ) (payload : List ℕ) (p : ℕ) → bit_at (order_told byte) payload p ≡ bit_at byte payload p
unfolding bit_at
bit_at_told byte payload p = rw (digit_of_told byte p)

pub set_bit_told : (byte : ℕ) (payload : List ℕ) (p v : ℕ) → set_bit (order_told byte) payload p v ≡ set_bit byte payload p v
unfolding set_bit
set_bit_told byte payload p v = rw (digit_of_told byte p)

pub copied_told :
    (byte : ℕ) (source : List ℕ) (p s : ℕ) (kept : List ℕ) (q : ℕ) → copied (order_told byte) source p s kept q ≡ copied byte source p s kept q
unfolding copied
copied_told byte source p zero kept q = refl
copied_told byte source p (suc k) kept q =
    rw (copied_told byte source p k kept q, bit_at_told byte source (p + k)) (set_bit_told byte _ _ _)

pub differs_told :
    (byte : ℕ) (source : List ℕ) (p s : ℕ) (kept : List ℕ) (q : ℕ) → differs (order_told byte) source p s kept q ≡ differs byte source p s kept q
unfolding differs
differs_told byte source p zero kept q = refl
differs_told byte source p (suc k) kept q =
    rw (differs_told byte source p k kept q, bit_at_told byte source (p + k), bit_at_told byte kept (q + k))

place_of_told : (byte k : ℕ) → place_of (order_told byte) k ≡ place_of byte k
unfolding place_of order_told
place_of_told zero k = refl
place_of_told (suc byte) k = refl

pub Bits-told :
    (byte number : ℕ) (payload : List ℕ) (p n : ℕ) → Bits byte number payload p n → Bits (order_told byte) number payload p n
Bits-told byte number payload p n has k h l = rw (place_of_told byte k, bit_at_told byte payload (p + k)) (has k h l)

from_bit_told : (byte bytes p : ℕ) → from_bit (order_told byte) bytes p ≡ from_bit byte bytes p
unfolding from_bit order_told
from_bit_told zero bytes p = refl
from_bit_told (suc byte) bytes p = refl

pub ones_of_told : (byte s : ℕ) → ones_of (order_told byte) s ≡ ones_of byte s
unfolding ones_of order_told
ones_of_told zero s = refl
ones_of_told (suc byte) s = refl

pub signal_at_told : (byte bytes p s : ℕ) → signal_at (order_told byte) bytes p s ≡ signal_at byte bytes p s
unfolding signal_at
signal_at_told byte bytes p s = rw (from_bit_told byte bytes p, ones_of_told byte _)
