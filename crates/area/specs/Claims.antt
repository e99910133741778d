-- What an accepted reception and a timer's expiry do to the bits that their Rx frame owns, and to the Tx frames that these stand in.
use Rattle.std.specs.Prelude.{ℕ, ◌/◌, ◌%◌, Bool, List, [], ◌∷◌, eqb, ◌==◌, ◌||◌}
use Rattle.base.specs.Pick.{pick}
use Rattle.bits.specs.Payload.{set_bit, copied, differs}
use Rattle.bits.specs.Word.{fitting}
use Rattle.plan.specs.Rows.{Source, copy, failure, Claim}
use Rattle.area.specs.Layout.{spot, tx_frame, rx_there, failure_tx}
use Rattle.area.specs.Queue.{scheduled}
use Rattle.area.specs.declared.claims.Flags.{Flags}

-- what happens to an Rx frame: a payload is accepted, or its timer expires
pub data RxEvent : Type 0 where
  accepted : ℕ → List ℕ → RxEvent
  expired : ℕ → RxEvent

-- whether a Tx frame's flags send it at a reception that changes a bit of it, and at one that changes none
unfoldable pub sends_on_change : Flags → Bool
sends_on_change flags = (flags.0 % 2 == 1) || (flags.0 / 2 % 2 == 1)

unfoldable pub sends_on_reception : Flags → Bool
sends_on_reception flags = flags.0 % 2 == 1

-- "the Tx frame is scheduled if flag 1 is set, or flag 2 is set and any destination bit differed from the kept one"
unfoldable pub sent_if : ℕ → Bool → List ℕ → ℕ → List ℕ
sent_if flags changed a t =
    pick (eqb (flags % 2) 1) (scheduled a t) (pick (eqb (flags / 2 % 2) 1) (pick changed (scheduled a t) a) a)

-- what an event does to the bits from a place on: an acceptance copies a signal and clears the failure bit, an expiry sets that bit. A signal of
-- an area that no opening made can be too long for its place: the bits are copied that the eight bytes there have room for
unfoldable pub done_by : ℕ → RxEvent → List ℕ → ℕ → Source → List ℕ
done_by o (accepted r pl) a place (copy p s) = copied o pl p (fitting place s) a place
done_by o (accepted r pl) a place failure = set_bit o a place 0
done_by o (expired r) a place (copy p s) = a
done_by o (expired r) a place failure = set_bit o a place 1

-- and to the queue of the Tx frame: "A change of a failure bit schedules nothing." a is the area before, b after
unfoldable pub sent_by : ℕ → RxEvent → List ℕ → List ℕ → ℕ → ℕ → Source → List ℕ
sent_by o (accepted r pl) a b t place (copy p s) = sent_if (tx_frame a t).flags (differs o pl p (fitting place s) a place) b t
sent_by o (accepted r pl) a b t place failure = b
sent_by o (expired r) a b t place (copy p s) = b
sent_by o (expired r) a b t place failure = b

-- one claim of the Rx frame
unfoldable pub done : ℕ → RxEvent → List ℕ → Claim → List ℕ
done o e a c =
    sent_by o e a (done_by o e a (spot (c.tx % 256) c.at) c.from) (c.tx % 256) (spot (c.tx % 256) c.at) c.from

-- all of them, in plan order
unfoldable pub all_done : ℕ → RxEvent → List Claim → List ℕ → List ℕ
all_done o e [] a = a
all_done o e (c ∷ cs) a = all_done o e cs (done o e a c)

-- the failure bit of the Rx frame whose fields begin at a place of the plan, written where its indicator is enabled
unfoldable pub failure_written : ℕ → ℕ → List ℕ → ℕ → List ℕ
failure_written o v a at =
    pick (eqb (rx_there a at).enable 1) (set_bit o a (spot (failure_tx a at % 256) (rx_there a at).position) v) a
