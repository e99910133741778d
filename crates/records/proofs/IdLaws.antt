-- Laws of IDs: the key keeps their order and tells them apart, and so do the tests.
use mathlib.Core.Path.{◌≡◌, refl, ap}
use mathlib.Core.Bool.{true, false≢true}
use mathlib.Core.Logic.{◌↔◌}
use Prim.Native.Nat.{ℕ, ◌<◌}
use native.Mathlib.Decide.{dec_lt}
use native.Mathlib.Omega.{arith}
use borrow.Author.Tests.{ltb-true, lt-ltb, eqb-true, eq-eqb}
use Rattle.base.specs.Numbers.{at_most}
use Rattle.base.proofs.Ranges.{at_most-le, at_most_is, at_most_fewer, at_most_above}
use Rattle.records.specs.declared.record.Id.{Id}
use Rattle.records.specs.declared.record.Id.TheVariants.{Standard, Extended}
use Rattle.records.specs.Ids.{Before, Possible, same_id, is_before, last_number, key_of}
use Rattle.records.specs.Keys.{KeysInOrder}

-- ---- a number below the format, brought into range, against any other

module _ (m n : ℕ) (small : m < last_number) where
  capped : at_most last_number m ≡ m
  capped = at_most_is last_number m (omega arith)

  less : (at_most last_number m < at_most last_number n) ↔ (m < n)
  less = (λ l. omega (arith, capped, at_most_fewer last_number n), λ l. omega (arith, capped, at_most_above last_number n m l small))

  equal : at_most last_number m ≡ at_most last_number n → m ≡ n
  equal e = go (dec_lt n last_number)
    where
      go : Dec (n < last_number) → m ≡ n
      go (yes l) = omega (arith, capped, at_most_is last_number n (omega arith))
      go (no l) = absurd (omega (arith, capped, at_most_above last_number n m (omega arith) small))

-- ---- the key

pub key_four : (id : Id) → key_of id < 4294967296
unfolding key_of
key_four (Standard n) = omega (arith, at_most-le last_number n)
key_four (Extended n) = omega (arith, at_most-le last_number n)

key_formats : (m n : ℕ) → key_of (Standard m) < key_of (Extended n)
unfolding key_of
key_formats m n = omega (arith, at_most-le last_number m)

-- the one fact about ordered IDs: of an ID that a plan can have, and any other
pub key_before : (x y : Id) → Possible x → (key_of x < key_of y) ↔ Before x y
unfolding key_of Before Possible
key_before (Standard m) (Standard n) p = less m n (omega arith)
key_before (Standard m) (Extended n) p = (λ l. tt, λ b. key_formats m n)
key_before (Extended m) (Standard n) p = (λ l. absurd (omega (arith, key_formats n m)), λ b. absurd b)
key_before (Extended m) (Extended n) p =
    let w = less m n (omega arith) in
    (λ l. w.0 (omega arith), λ b. omega (arith, w.1 b))

pub key_one : (x y : Id) → Possible x → key_of x ≡ key_of y → x ≡ y
unfolding key_of Possible
key_one (Standard m) (Standard n) p e = ap Standard (equal m n (omega arith) e)
key_one (Standard m) (Extended n) p e = absurd (omega (arith, key_formats m n))
key_one (Extended m) (Standard n) p e = absurd (omega (arith, key_formats n m))
key_one (Extended m) (Extended n) p e = ap Extended (equal m n (omega arith) (omega arith))

pub keys_in_order : KeysInOrder
unfolding Possible Before
keys_in_order =
    record {
      standard = λ m n p. key_before (Standard m) (Standard n) p;
      extended = λ m n p. key_before (Extended m) (Extended n) p;
      formats = key_formats;
      one_standard = λ m other p. key_one (Standard m) other p;
      one_extended = λ m other p. key_one (Extended m) other p;
      four = key_four;
    }

-- ---- the tests

pub same_is : (x y : Id) → same_id x y ≡ true → x ≡ y
unfolding same_id
same_is (Standard m) (Standard n) e = ap Standard (eqb-true m n e)
same_is (Standard m) (Extended n) e = absurd (false≢true e)
same_is (Extended m) (Standard n) e = absurd (false≢true e)
same_is (Extended m) (Extended n) e = ap Extended (eqb-true m n e)

pub same_itself : (x : Id) → same_id x x ≡ true
unfolding same_id
same_itself (Standard n) = eq-eqb n n refl
same_itself (Extended n) = eq-eqb n n refl

pub is_before_iff : (x y : Id) → (is_before x y ≡ true) ↔ Before x y
unfolding is_before Before
is_before_iff (Standard m) (Standard n) = (ltb-true m n, lt-ltb m n)
is_before_iff (Standard m) (Extended n) = (λ e. tt, λ b. refl)
is_before_iff (Extended m) (Standard n) = (λ e. absurd (false≢true e), λ b. absurd b)
is_before_iff (Extended m) (Extended n) = (ltb-true m n, lt-ltb m n)
