-- What is read of the part that holds the plan, and of the header: the tests of the code, and the definitions.
use mathlib.Core.Path.{◌≡◌, refl, sym, ◌∙◌}
use mathlib.Core.Bool.{false}
use mathlib.Core.List.{List}
use Prim.Native.Nat.{ℕ, ◌+◌, ◌*◌, ◌<◌}
use native.Mathlib.Decide.{ℕ_discrete}
use native.Mathlib.Omega.{arith}
use lib.Dec.{eqb, ltb}
use lib.ListN.{length, drop, length-drop}
use lib.Seq.{get_or-take, get_or-drop, length-take-le}
use borrow.Author.Tests.{eq-eqb, ne_eqb, lt-ltb, ltb-false}
use Rattle.base.specs.Pick.{pick}
use Rattle.base.specs.Numbers.{byte_at, at_most}
use Rattle.base.proofs.Picks.{cases, by_eqb}
use Rattle.area.specs.Layout.{plan_start, plan_room, LongEnough, stored}

-- a byte of that part
pub stored_byte : (a : List ℕ) (k : ℕ) → k < plan_room → byte_at (stored a) k ≡ byte_at a (plan_start + k)
unfolding stored
stored_byte a k h = get_or-take plan_room (drop plan_start a) k 0 h ∙ get_or-drop plan_start a k 0

pub stored-length : (a : List ℕ) → LongEnough a → length (stored a) ≡ plan_room
unfolding stored
stored-length a h = length-take-le plan_room (drop plan_start a) (rw length-drop (omega arith))

-- two bytes compared at once are compared one by one
pub both_bytes : (low high : ℕ) → low < 256 → eqb (high * 256 + low) 0x5747 ≡ pick (eqb low 0x47) (eqb high 0x57) false
both_bytes low high h =
    by_eqb (λ x. eqb (high * 256 + low) 0x5747 ≡ x) low 0x47 (eqb high 0x57) false (λ e. go e (ℕ_discrete high 0x57))
    (λ d. ne_eqb (high * 256 + low) 0x5747 (λ f. d (omega arith)))
  where
    go : low ≡ 0x47 → Dec (high ≡ 0x57) → eqb (high * 256 + low) 0x5747 ≡ eqb high 0x57
    go e (yes f) = eq-eqb (high * 256 + low) 0x5747 (omega arith) ∙ sym (eq-eqb high 0x57 f)
    go e (no d) = ne_eqb (high * 256 + low) 0x5747 (λ f. d (omega arith)) ∙ sym (ne_eqb high 0x57 d)

-- below a number brought into range is below the number, where it is below the range's end
pub below_most : (n most b : ℕ) → n < most → ltb n b ≡ ltb n (at_most most b)
unfolding at_most
below_most n most b h =
    cases (λ x. ltb n b ≡ ltb n x) (ltb b most) b most (λ e. refl) (λ e. lt-ltb n b (omega (arith, ltb-false b most e)) ∙ sym (lt-ltb n most h))
