-- Demand 2.
use Rattle.model.proofs.Meets.{model_meets}
use Rattle.model.proofs.Decide.{rules_decide}
use Rattle.model.proofs.RxExpiry.{rx_expiry_holds}
use Rattle.model.proofs.AskExpiry.{ask_expiry, ask_silence}
use Rattle.model.proofs.TxExpiry.{tx_expiry_holds}
use Rattle.model.proofs.Listing.{listing_answered, gaps_answered, polling_answered, bridge_answered}
use Rattle.history.proofs.LongTimeouts.{long_timeouts}
use Rattle.history.proofs.LongSilences.{long_silences}
use Rattle.history.proofs.Strangers.{strangers_belong}
use Rattle.history.proofs.Formats.{places_by_format}
use Rattle.refines.proofs.All.{as_the_model}
use Rattle.refines.proofs.Once.{waits_once}
use Rattle.refines.proofs.Listing.{listing_on_bytes}
use Rattle.queues.proofs.Turns.{leaves_in_turn, as_if_at_once}
use Rattle.queues.proofs.Room.{queue_room}
use Rattle.queues.proofs.Slots.{waits_at_most}
use Rattle.queues.proofs.Reached.{bound_reached}
use Rattle.demands.proofs.Texts.{texts}
use Rattle.demands.specs.Demand2.{Demand2}

pub demand_2 : Demand2
demand_2 =
    record {
      texts = texts;
      meets = model_meets;
      decide = rules_decide;
      as_the_model = as_the_model;
      rx_expiry = rx_expiry_holds;
      tx_expiry = tx_expiry_holds;
      ask_expiry = ask_expiry;
      ask_silence = ask_silence;
      once = waits_once;
      in_turn = leaves_in_turn;
      as_if_at_once = as_if_at_once;
      room = queue_room;
      waits_at_most = waits_at_most;
      reached = bound_reached;
      long_timeouts = long_timeouts;
      gaps = gaps_answered;
      long_silences = long_silences;
      polling = polling_answered;
      strangers = strangers_belong;
      formats = places_by_format;
      bridge = bridge_answered;
      listing = listing_answered;
      on_bytes = listing_on_bytes;
    }
