-- An accepted response: the area keeps its plan, and it is what an acceptance does that starts the long counter and no timer.
use mathlib.Core.Path.{◌≡◌, ap}
use mathlib.Core.Bool.{false}
use mathlib.Core.List.{List}
use Prim.Native.Nat.{ℕ, ◌<◌}
use native.Mathlib.Nat.{mod-eq_of_lt}
use native.Mathlib.Omega.{arith}
use lib.ListN.{set}
use Rattle.area.specs.Layout.{long, order, rx_frame, claims}
use Rattle.area.specs.Claims.{accepted, all_done}
use Rattle.area.proofs.Kept.{Kept, Kept-refl, Kept-low}
use Rattle.reception.specs.Reception.{restarted_by, accepted_by}
use Rattle.polling.specs.Polling.{long_again, accepted_area}

pub Kept-again : (a : List ℕ) (r : ℕ) → r < 256 → Kept a (long_again a r)
unfolding long_again
Kept-again a r h = Kept-low (long r) _ (omega arith) (omega arith) (Kept-refl a)

pub accepted_on-lin : (a : List ℕ) (r : ℕ) (payload : List ℕ) → r < 256 → accepted_by false a r payload ≡ accepted_area a r payload
unfolding accepted_by restarted_by accepted_area long_again
accepted_on-lin a r payload h =
    ap (λ n. all_done (order a) (accepted r payload) (claims a r) (set a (long n) (rx_frame a r).long)) (mod-eq_of_lt h)
