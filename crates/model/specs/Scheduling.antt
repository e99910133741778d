-- "Scheduling a frame already waiting changes nothing. Otherwise the frame joins its node's queue at the end and its Tx timer takes its reload
-- value."
use Rattle.std.specs.Prelude.{ℕ, Bool, false, ◌||◌, List, [], ◌∷◌, ◌++◌}
use Rattle.base.specs.Pick.{pick}
use Rattle.records.specs.declared.record.Entry.{Entry}
use Rattle.records.specs.Nodes.{frame, request, same_entry}
use Rattle.model.specs.Plan.{Plan, tx_in, row_in}
use Rattle.model.specs.State.{State, queue_on, with_tx_timer, with_queue}

unfoldable pub is_in : Entry → List Entry → Bool
is_in e [] = false
is_in e (x ∷ xs) = same_entry e x || is_in e xs

unfoldable pub joined : Plan → State → ℕ → State
joined p s t = with_tx_timer (with_queue s (tx_in p t).node (queue_on s (tx_in p t).node ++ (frame t ∷ []))) t (tx_in p t).reload

unfoldable pub scheduled : Plan → State → ℕ → State
scheduled p s t = pick (is_in (frame t) (queue_on s (tx_in p t).node)) s (joined p s t)

-- "An Rx timer on such a node asks for the frame: expiry queues a request, once while it waits" (document 02, Ticket 2)
unfoldable pub asked : Plan → State → ℕ → State
asked p s r = with_queue s (row_in p r).frame.node (queue_on s (row_in p r).frame.node ++ (request r ∷ []))

unfoldable pub requested : Plan → State → ℕ → State
requested p s r = pick (is_in (request r) (queue_on s (row_in p r).frame.node)) s (asked p s r)
