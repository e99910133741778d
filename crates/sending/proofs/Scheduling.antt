-- A frame that is scheduled in an area that holds a plan: it joins its node's queue unless it waits, and the other queues stay.
use mathlib.Core.Path.{◌≡◌, refl, ◌∙◌}
use mathlib.Core.Logic.{◌≢◌}
use mathlib.Core.List.{List, [], ◌∷◌, ◌++◌}
use Prim.Native.Nat.{ℕ, ◌<◌}
use native.Mathlib.Decide.{ℕ_discrete}
use native.Mathlib.Omega.{arith}
use borrow.Author.Tests.{eq-eqb}
use lib.ListN.{length, set}
use lib.Seq.{get_or-set_same}
use Rattle.base.specs.Numbers.{byte_at}
use Rattle.base.proofs.Picks.{picks}
use Rattle.plan.specs.Rows.{tx_of}
use Rattle.area.specs.Layout.{waits, tx_reload, tx_timer, home_node}
use Rattle.area.specs.Queue.{scheduled, queue_of}
use Rattle.area.proofs.Frame.{Same-refl, Same-set}
use Rattle.area.proofs.QueueLaws.{scheduled_waiting, queue_scheduled}
use Rattle.tables.specs.Reads.{planned_tx}
use Rattle.sending.proofs.Waiters.{CanWait, of_frame}
use Rattle.sending.proofs.Moves.{Ready, Moves, Moves-refl, Moves-then, Moves-rests}
use Rattle.sending.proofs.Joining.{joined, queue_joins, queue_others, moves_joined}

module _ {plan a : List ℕ} (r : Ready plan a) (t : ℕ) (h : t < length (tx_of plan)) where
  open r use {holding}

  -- its node, and the area after
  abbrev n : ℕ
  n = (planned_tx plan t).node

  abbrev b : List ℕ
  b = scheduled a t

  can : CanWait plan n t
  can = of_frame h refl

  below : n < 16
  below = holding.fit.node t h

  few : t < 256
  few = omega (arith, holding.fit.tx)

  here : home_node a t ≡ n
  here = holding.frame_home t h

  module _ (free : byte_at a (waits t) ≡ 0) where
    pub joins : queue_of b n ≡ queue_of a n ++ (t ∷ [])
    joins = queue_scheduled a t n few below free ∙ rw here (queue_joins r n t can free)

    pub stays : (m : ℕ) → m < 16 → m ≢ n → queue_of b m ≡ queue_of a m
    stays m l d = queue_scheduled a t m few l free ∙ rw here (queue_others r n t can free m l d)

    -- it joins, and then its Tx timer moves
    parts : b ≡ set (joined a n t) (tx_timer t) (byte_at a (tx_reload t))
    unfolding scheduled
    parts = rw (picks _ _ _ (eq-eqb _ _ free), here)

    moves_free : Moves plan a b
    moves_free =
        rw parts
        (Moves-then r (moves_joined r n t can free)
        (Moves-rests (Same-set (tx_timer t) _ (λ p. p.timers (omega arith) (omega (arith, few))) (Same-refl (joined a n t)))))

    -- "its Tx timer takes its reload value"
    pub reloads : byte_at b (tx_timer t) ≡ byte_at a (tx_reload t)
    reloads =
        let size = (moves_joined r n t can free).kept.len in
        rw parts (get_or-set_same (joined a n t) (tx_timer t) (byte_at a (tx_reload t)) 0 (omega (arith, holding.size, size, few)))

  pub moves_scheduled : Moves plan a (scheduled a t)
  moves_scheduled = go (ℕ_discrete (byte_at a (waits t)) 0)
    where
      go : Dec (byte_at a (waits t) ≡ 0) → Moves plan a (scheduled a t)
      go (yes e) = moves_free e
      go (no d) = rw (scheduled_waiting a t d) (Moves-refl r)
