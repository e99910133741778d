-- The owned bits of a Tx frame, as a set: bit e has an owner where digit e of the set is 1.
use Rattle.std.specs.Prelude.{ℕ, zero, suc, ◌+◌, Bool, false, ◌||◌, eqb, Option, Some, None}
use Rattle.base.specs.Pick.{pick}
use Rattle.bits.specs.Digit.{digit, set_digit}

-- how many of the bits below w have an owner
unfoldable pub owners : ℕ → ℕ → ℕ
owners set zero = 0
owners set (suc w) = owners set w + digit set w

-- the set with bits p to p + s - 1
unfoldable pub owned : ℕ → ℕ → ℕ → ℕ
owned set p zero = set
owned set p (suc k) = set_digit (owned set p k) (p + k) 1

-- "a bit would have two owners": one of the bits p to p + s - 1 is in the set already
unfoldable pub clash : ℕ → ℕ → ℕ → Bool
clash set p zero = false
clash set p (suc k) = eqb (digit set (p + k)) 1 || clash set p k

-- "No bit has two owners": the bits join the set where none of them clashes
unfoldable pub joined : ℕ → ℕ → ℕ → Option ℕ
joined set p s = pick (clash set p s) None (Some (owned set p s))
