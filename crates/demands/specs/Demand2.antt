-- Demand 2: "Lookup, signal copy, timers, failure bits, timeout reports, sending order and every count answered are exactly the rules of Freescale
-- AN3333 as document 01 states them: each rule's case is acted on, and nothing else is." And, of document 02, Ticket 1: "The long counter must start
-- again at every accepted reception, so that a long timeout means that many expiries in a row." Ticket 4: "A lookup that finds nothing should say how
-- many of that node's rows have a smaller ID. Answer 1 carries this number". Ticket 2: the pumps on LIN. Ticket 14: "a node's queue never holds more than
-- the frames and requests which can be scheduled on it". Ticket 6: 29-bit identifiers from the bridge.
use Rattle.model.specs.Rules.{ModelMeets, RulesDecide}
use Rattle.model.specs.Timers.{RxExpiry, AskExpiry, AskSilence, TxExpiry}
use Rattle.model.specs.Listing.{ListingAnswered}
use Rattle.model.specs.ShortGaps.{GapsAnswered}
use Rattle.model.specs.Polling.{PollingAnswered}
use Rattle.model.specs.Bridge.{BridgeAnswered}
use Rattle.history.specs.LongTimeouts.{LongTimeouts, LongSilences}
use Rattle.history.specs.Strangers.{StrangersBelong}
use Rattle.history.specs.Formats.{PlacesByFormat}
use Rattle.refines.specs.Shows.{AsTheModel, WaitsOnce}
use Rattle.refines.specs.Listing.{ListingOnBytes}
use Rattle.queues.specs.Turns.{LeavesInTurn, AsIfAtOnce}
use Rattle.queues.specs.Room.{QueueRoom}
use Rattle.queues.specs.Slots.{WaitsAtMost}
use Rattle.queues.specs.Reached.{BoundReached}
use Rattle.demands.specs.Texts.{Texts}

pub record Demand2 : Type 0 where
  -- what plan, bits and clock are, twice
  pub texts : Texts
  -- the rules of "What each call does" are met by the model, and by nothing else
  pub meets : ModelMeets
  pub decide : RulesDecide
  -- every answer, report byte and payload that the calls give is the model's
  pub as_the_model : AsTheModel
  -- "Thus a timer loaded with v above 0 expires at its v-th handling, unless loaded again first."
  pub rx_expiry : RxExpiry
  pub tx_expiry : TxExpiry
  -- on LIN "expiry queues a request, once while it waits", and a report says nothing of it
  pub ask_expiry : AskExpiry
  pub ask_silence : AskSilence
  pub once : WaitsOnce
  -- "a frame with n ahead of it leaves at the (n + 1)-th unrefused take on its node, whatever else but an opening is called between": by the queue, and
  -- by answers alone
  pub in_turn : LeavesInTurn
  pub as_if_at_once : AsIfAtOnce
  -- "a node's queue never holds more than the frames and requests which can be scheduled on it, and cut our room to that"; how long one waits, by slots
  -- of the bus; and that there are calls which fill a queue
  pub room : QueueRoom
  pub waits_at_most : WaitsAtMost
  pub reached : BoundReached
  -- "a long timeout means that many expiries in a row": over any calls, from what the caller sees, and as a case
  pub long_timeouts : LongTimeouts
  pub gaps : GapsAnswered
  -- and "no response", which "answers 1 or 2 as the report would"
  pub long_silences : LongSilences
  pub polling : PollingAnswered
  -- "its place in the plan sheet": over any calls, from what the caller sees, in the plan's terms
  pub strangers : StrangersBelong
  -- "11-bit rows come before 29-bit ones, each in ascending order, and the place of Ticket 4 counts in that order": by the numbers of the IDs
  pub formats : PlacesByFormat
  -- "ID 32 in one format is not ID 32 in the other", as a case
  pub bridge : BridgeAnswered
  -- document 01's listing, of the model and of the bytes
  pub listing : ListingAnswered
  pub on_bytes : ListingOnBytes
