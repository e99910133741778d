-- What the code keeps is kept by every record that is taken.
use mathlib.Core.Path.{◌≡◌, ◌∙◌}
use mathlib.Core.List.{List}
use Prim.Native.Nat.{ℕ, ◌≤◌, ◌<◌}
use native.Mathlib.Decide.{ℕ_discrete}
use native.Mathlib.Omega.{arith}
use lib.ListN.{length, get_or, set, length-set}
use lib.Seq.{get_or-set_same, get_or-set_other}
use Rattle.plan.specs.Limits.{most_tx}
use Rattle.plan.specs.Motion.{Tables}

-- a size that fits keeps the table
pub Tables-set : (sizes : List ℕ) (t v : ℕ) → Tables sizes → t < most_tx → v ≤ 8 → Tables (set sizes t v)
Tables-set sizes t v h l s = record { long = length-set sizes t v ∙ h.long; small = λ i. at i (ℕ_discrete i t) }
  where
    inside : t < length sizes
    inside = omega (arith, h.long)

    at : (i : ℕ) → Dec (i ≡ t) → get_or (set sizes t v) i 0 ≤ 8
    at i (yes e) = rw (e, get_or-set_same, inside) s
    at i (no e) = rw (get_or-set_other) (h.small i)
