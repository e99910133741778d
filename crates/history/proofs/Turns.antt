-- A number that an area keeps, and that goes by what happens to the Rx frames: each acceptance and each expiry turns it, and nothing else does.
use mathlib.Core.Path.{◌≡◌}
use mathlib.Core.List.{List}
use Prim.Native.Nat.{ℕ, ◌<◌}
use lib.ListN.{length}
use Rattle.plan.specs.Rows.{rows_of}
use Rattle.area.specs.Layout.{counter_byte, order, claims}
use Rattle.area.specs.Claims.{RxEvent, accepted, expired, all_done}
use Rattle.area.proofs.Frame.{Same}
use Rattle.ticking.specs.Tick.{expired_area}
use Rattle.tables.specs.Reads.{Reads}
use Rattle.history.proofs.Aside.{Aside}
use Rattle.history.proofs.Again.{Again}

-- now is the number in an area, P the places where it stands, turn what an event makes of it
pub record Turns (plan : List ℕ) (P : ℕ → Type 0) (now : List ℕ → ℕ) (turn : ℕ → RxEvent → ℕ) : Type 0 where
  pub aside : Aside P
  pub uncounted : P counter_byte → ⊥
  pub same : (a b : List ℕ) → Same P a b → now b ≡ now a
  pub accepts : (a b : List ℕ) → Reads plan a → (r : ℕ) (payload : List ℕ) → r < length (rows_of plan) → Again a r b
      → now (all_done (order a) (accepted r payload) (claims a r) b) ≡ turn (now a) (accepted r payload)
  pub expires : (a : List ℕ) → Reads plan a → (r : ℕ) → r < length (rows_of plan) → now (expired_area a r) ≡ turn (now a) (expired r)
