-- Two values that are not one: from such an equation `cc` has this one too.
use mathlib.Core.Path.{◌≡◌}
use Prim.Native.Nat.{ℕ}
use native.Mathlib.Omega.{arith}

pub differ : ◌≡◌ {A = ℕ} 0 1 → ⊥
differ e = omega arith
