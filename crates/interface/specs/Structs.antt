-- Each answer as a struct of numbers, which C can take. `number` is document 01's number of the answer or the refusal; it is 0 where there is neither.
-- A field that says nothing is 0.
use Rattle.std.specs.Prelude.{ℕ, ◌+◌, ◌-◌, ◌%◌, ltb, Option, Some, None, Result, Ok, Err}
use Rattle.base.specs.Pick.{pick}
use Rattle.base.specs.Numbers.{at_most}
use Rattle.records.specs.declared.record.Id.{Id}
use Rattle.records.specs.declared.record.Id.TheVariants.{Standard, Extended}
use Rattle.records.specs.Ids.{format_bit}
use Rattle.area.specs.Layout.{long_enough, payload, in_width}
use Rattle.plan.specs.declared.verdict.PlanCounts.{PlanCounts}
use Rattle.answers.specs.declared.Refusal.{Refusal}
use Rattle.answers.specs.declared.RefusedPlan.{RefusedPlan}
use Rattle.answers.specs.declared.Received.{Received}
use Rattle.answers.specs.declared.Received.TheVariants as received
use Rattle.answers.specs.declared.Framing.{Framing}
use Rattle.answers.specs.declared.Framing.TheVariants.{Can, Lin}
use Rattle.answers.specs.declared.Taken.{Taken}
use Rattle.answers.specs.declared.Taken.TheVariants as taken
use Rattle.answers.specs.Answers.{refusal_number, received_number}
use Rattle.interface.specs.declared.structs.GatewayOpened.{GatewayOpened}
use Rattle.interface.specs.declared.structs.GatewayReceived.{GatewayReceived}
use Rattle.interface.specs.declared.structs.GatewayTaken.{GatewayTaken}
use Rattle.interface.specs.declared.structs.GatewayPayload.{GatewayPayload}
use Rattle.interface.specs.declared.structs.GatewayFullness.{GatewayFullness}

-- the counts of nodes, Tx and Rx frames; or the refusal and its record's number
unfoldable pub opened_struct : Result PlanCounts RefusedPlan → GatewayOpened
opened_struct (Ok counts) = record { number = 0; «record» = 0; nodes = counts.nodes % 65536; tx = counts.tx % 65536; rx = counts.rx % 65536 }
opened_struct (Err refused) = record { number = refusal_number refused.why; «record» = at_most 65535 refused.record_number; nodes = 0; tx = 0; rx = 0 }

-- answer 1 has the place
unfoldable pub received_struct : Result Received Refusal → GatewayReceived
received_struct (Ok received.Accepted) = record { number = received_number (Ok received.Accepted); place = 0 }
received_struct (Ok (received.NoRow place)) = record { number = received_number (Ok (received.NoRow place)); place = place % 65536 }
received_struct (Ok received.TooShort) = record { number = received_number (Ok received.TooShort); place = 0 }
received_struct (Err why) = record { number = refusal_number why; place = 0 }

-- a tick that is done has 0
unfoldable pub ticked_number : Result (Unit {0}) Refusal → ℕ
ticked_number (Ok done) = 0
ticked_number (Err why) = refusal_number why

-- an ID as SocketCAN has it, in C: bit 31 set means a 29-bit ID. Such a number stands for an ID,
unfoldable pub id_in : ℕ → Id
id_in word = pick (ltb word format_bit) (Standard word) (Extended (word - format_bit))

-- and an ID for such a number
unfoldable pub word_of : Id → ℕ
word_of (Standard n) = n % format_bit
word_of (Extended n) = format_bit + n % format_bit

-- kind 1 is a frame, 2 a request; 0 says that there is neither: nothing waits, or the take was refused
unfoldable pub nothing_taken : ℕ → GatewayTaken
nothing_taken number =
    record { number = number; kind = 0; size = 0; tx = 0; rx = 0; id = 0; waiting = 0; protected_id = 0; checksum = 0 }

-- the protected identifier and the checksum, which a frame on CAN has not
unfoldable pub protected_in : Framing → ℕ
protected_in Can = 0
protected_in (Lin protected checksum) = protected

unfoldable pub checksum_in : Framing → ℕ
checksum_in Can = 0
checksum_in (Lin protected checksum) = checksum

unfoldable pub taken_struct : Result (Option Taken) Refusal → GatewayTaken
taken_struct (Ok None) = nothing_taken 0
taken_struct (Ok (Some (taken.Frame x))) =
    record {
      number = 0;
      kind = 1;
      size = x.size % 256;
      tx = x.tx.0 % 65536;
      rx = 0;
      id = word_of x.id;
      waiting = x.waiting % 65536;
      protected_id = protected_in x.framing;
      checksum = checksum_in x.framing;
    }
taken_struct (Ok (Some (taken.Request x))) =
    record {
      number = 0;
      kind = 2;
      size = x.size % 256;
      tx = 0;
      rx = x.rx.0 % 65536;
      id = word_of x.id;
      waiting = x.waiting % 65536;
      protected_id = x.protected;
      checksum = 0;
    }
taken_struct (Err why) = nothing_taken (refusal_number why)

unfoldable pub fullness_struct : Result ℕ Refusal → GatewayFullness
fullness_struct (Ok n) = record { number = 0; bits = n % 65536 }
fullness_struct (Err why) = record { number = refusal_number why; bits = 0 }

unfoldable pub no_part : GatewayPayload
no_part = record { at = 0; size = 0 }

-- the payload of what was taken, as a part of an area of n bytes: where it begins, and its size
unfoldable pub payload_struct : ℕ → Result (Option Taken) Refusal → GatewayPayload
payload_struct n (Ok (Some (taken.Frame x))) = pick (long_enough n) (record { at = payload (x.tx.0 % 256); size = in_width x.size }) no_part
payload_struct n (Ok (Some (taken.Request x))) = no_part
payload_struct n (Ok None) = no_part
payload_struct n (Err why) = no_part
