-- Laws of how many bits of a signal fit at a place.
use mathlib.Core.Path.{◌≡◌}
use Prim.Native.Nat.{ℕ, ◌+◌, ◌-◌, ◌≤◌, ◌<◌, ◌%◌}
use native.Mathlib.Omega.{arith}
use Rattle.base.specs.Numbers.{at_most}
use Rattle.base.proofs.Ranges.{at_most-le, at_most_is, at_most_fewer, at_most_above, at_most_twice}
use Rattle.bits.specs.Word.{fitting}

module _ (q s : ℕ) where
  pub fitting-le : fitting q s ≤ s
  unfolding fitting
  fitting-le = at_most_fewer (64 - q % 8) s

  pub fitting_room : q % 8 + fitting q s ≤ 64
  unfolding fitting
  fitting_room = omega (arith, at_most-le (64 - q % 8) s)

  -- and each bit that has room is copied
  pub fitting_above : (k : ℕ) → k < s → q % 8 + k < 64 → k < fitting q s
  unfolding fitting
  fitting_above k h l = at_most_above (64 - q % 8) s k h (omega arith)

  -- a signal that fits is copied whole
  pub fitting_is : q % 8 + s ≤ 64 → fitting q s ≡ s
  unfolding fitting
  fitting_is h = at_most_is (64 - q % 8) s (omega arith)

  -- no place has room for more than 64
  pub fitting_capped : fitting q (at_most 64 s) ≡ fitting q s
  unfolding fitting
  fitting_capped = at_most_twice (64 - q % 8) 64 s (omega arith)
