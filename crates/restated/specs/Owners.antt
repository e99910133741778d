-- The owned bits of a Tx frame, by the digits of their set.
use Rattle.std.specs.Prelude.{◌≡◌, Some, None, true, ◌⊎◌, ◌↔◌, ℕ, suc, ◌+◌, ◌/◌, ◌%◌, ◌^◌, ◌≤◌, ◌<◌}
use Rattle.bits.specs.Owners.{owners, owned, clash, joined}

-- bit e has an owner
abbrev pub Owns : ℕ → ℕ → Type 0
Owns set e = set / 2 ^ e % 2 ≡ 1

-- bit e is one of bits p to p + s - 1
abbrev pub Among : ℕ → ℕ → ℕ → Type 0
Among p s e = (p ≤ e) × (e < p + s)

-- one of them has an owner already
abbrev pub Clashes : ℕ → ℕ → ℕ → Type 0
Clashes set p s = (e : ℕ) × Among p s e × Owns set e

pub record OwnersByDigits : Type 0 where
  -- "A destination owns its bits in the Tx frame."
  pub owns : (set p s e : ℕ) → Owns (owned set p s) e ↔ (Among p s e ⊎ Owns set e)
  pub small : (w set p s : ℕ) → p + s ≤ w → set < 2 ^ w → owned set p s < 2 ^ w
  -- "No bit has two owners."
  pub clashes : (set p s : ℕ) → (clash set p s ≡ true) ↔ Clashes set p s
  pub refused : (set p s : ℕ) → (joined set p s ≡ None) ↔ Clashes set p s
  pub joins : (set p s n : ℕ) → (joined set p s ≡ Some n) ↔ ((Clashes set p s → ⊥) × (n ≡ owned set p s))
  -- "Fullness of a Tx frame answers how many of its bits have an owner": none of none, and the lowest bit with those above it
  pub nobody : (set : ℕ) → owners set 0 ≡ 0
  pub counts : (w set : ℕ) → set < 2 ^ suc w → owners set (suc w) ≡ set % 2 + owners (set / 2) w
