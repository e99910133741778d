-- An Rx frame of a LIN node that is asked for in an area that holds a plan: its request joins the node's queue unless it waits, and the other
-- queues stay.
use mathlib.Core.Path.{◌≡◌, refl, ◌∙◌}
use mathlib.Core.Logic.{◌≢◌}
use mathlib.Core.List.{List, [], ◌∷◌, ◌++◌}
use Prim.Native.Nat.{ℕ, ◌+◌, ◌<◌}
use native.Mathlib.Decide.{ℕ_discrete}
use native.Mathlib.Omega.{arith}
use borrow.Author.Tests.{eq-eqb}
use lib.ListN.{length}
use Rattle.base.specs.Numbers.{byte_at}
use Rattle.base.proofs.Picks.{picks}
use Rattle.records.specs.declared.record.NodeType.TheVariants.{Lin}
use Rattle.plan.specs.Rows.{rows_of}
use Rattle.area.specs.Layout.{requests_start, waits, home_node}
use Rattle.area.specs.Queue.{requested, queue_of}
use Rattle.area.proofs.QueueLaws.{requested_waiting, queue_requested}
use Rattle.tables.specs.Reads.{row_at, type_at}
use Rattle.sending.proofs.Waiters.{CanWait, of_request}
use Rattle.sending.proofs.Moves.{Ready, Moves, Moves-refl}
use Rattle.sending.proofs.Joining.{joined, queue_joins, queue_others, moves_joined}

module _ {plan a : List ℕ} (ready : Ready plan a) (r : ℕ) (h : r < length (rows_of plan)) (lin : type_at plan (row_at plan r).frame.node ≡ Lin) where
  open ready use {holding}

  -- its node, and the request's number
  abbrev n : ℕ
  n = (row_at plan r).frame.node

  abbrev k : ℕ
  k = requests_start + r

  can : CanWait plan n k
  can = of_request r refl h refl lin

  below : n < 16
  below = holding.fit.row r h

  few : r < 256
  few = omega (arith, holding.fit.rx)

  here : home_node a k ≡ n
  here = holding.row_home r h

  module _ (free : byte_at a (waits k) ≡ 0) where
    pub joins : queue_of (requested a r) n ≡ queue_of a n ++ (k ∷ [])
    joins = queue_requested a r n few below free ∙ rw here (queue_joins ready n k can free)

    pub stays : (m : ℕ) → m < 16 → m ≢ n → queue_of (requested a r) m ≡ queue_of a m
    stays m l d = queue_requested a r m few l free ∙ rw here (queue_others ready n k can free m l d)

    is_joined : requested a r ≡ joined a n k
    unfolding requested
    is_joined = rw (picks _ _ _ (eq-eqb _ _ free), here)

  pub moves_requested : Moves plan a (requested a r)
  moves_requested = go (ℕ_discrete (byte_at a (waits k)) 0)
    where
      go : Dec (byte_at a (waits k) ≡ 0) → Moves plan a (requested a r)
      go (yes e) = rw (is_joined e) (moves_joined ready n k can e)
      go (no d) = rw (requested_waiting a r d) (Moves-refl ready)
