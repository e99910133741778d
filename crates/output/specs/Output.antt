-- What the bench program writes for an input: "The first line is" the plan's, "Then one line per event", until the input ends or is bad.
use Rattle.std.specs.Prelude.{ℕ, zero, suc, ◌+◌, ◌-◌, ◌%◌, List, [], ◌++◌, length, replicate, Option, Some, None, Result, Ok, Err}
use Rattle.std.specs.Option.{option_map_or}
use Rattle.records.specs.declared.record.Id.{Id}
use Rattle.records.specs.Ids.{behind_id}
use Rattle.plan.specs.Check.{check_plan}
use Rattle.plan.specs.Shortest.{shortest_area}
use Rattle.plan.specs.declared.verdict.PlanCounts.{PlanCounts}
use Rattle.answers.specs.declared.RefusedPlan.{RefusedPlan}
use Rattle.opening.specs.Opened.{opened_answer, opened_area}
use Rattle.reception.specs.Reception.{received_answer, received_area}
use Rattle.polling.specs.Polling.{responded_answer, responded_area, silent_answer, silent_area}
use Rattle.ticking.specs.Tick.{tick_answer, ticked_area, ticked_report}
use Rattle.taking.specs.Taken.{taken_answer, taken_area, taken_payload}
use Rattle.events.specs.declared.Event.{Event}
use Rattle.events.specs.declared.Event.TheVariants.{Reception, Tick, Take, Response, NoResponse, Bad}
use Rattle.events.specs.Events.{front_of, plan_of, event_at, payload_at}
use Rattle.lines.specs.Lines.{plan_line, rx_line, response_line, silence_line, tick_line, take_line, bad_line}

-- ---- one event on an area: the line that it writes, and the area that it leaves

unfoldable pub received_text : List ℕ → ℕ → Id → List ℕ → List ℕ
received_text a node id payload = rx_line (received_answer a node id payload)

-- the ID of a response is two bytes
unfoldable pub responded_text : List ℕ → ℕ → ℕ → List ℕ → ℕ → List ℕ
responded_text a node id payload sum = response_line (responded_answer a node (id % 65536) payload sum)

unfoldable pub silent_text : List ℕ → ℕ → ℕ → List ℕ
silent_text a node id = silence_line (silent_answer a node (id % 65536))

-- each tick is lent a report of its own, with one byte for each Rx frame
abbrev pub fresh : ℕ → List ℕ
fresh rx = replicate rx 0

unfoldable pub ticked_text : List ℕ → ℕ → List ℕ
ticked_text a rx = tick_line (tick_answer a (fresh rx)) (ticked_report (tick_answer a (fresh rx)) a (fresh rx))

unfoldable pub taken_text : List ℕ → ℕ → List ℕ
taken_text a node = take_line (taken_answer a node) (taken_payload (taken_area a node) (taken_answer a node))

unfoldable pub event_text : Event → List ℕ → ℕ → ℕ → List ℕ → List ℕ
event_text (Reception node id size) input at rx a = received_text a node id (payload_at input (at + behind_id id))
event_text Tick input at rx a = ticked_text a rx
event_text (Take node) input at rx a = taken_text a node
event_text (Response node id size sum) input at rx a = responded_text a node id (payload_at input (at + 4)) sum
event_text (NoResponse node id) input at rx a = silent_text a node id
event_text Bad input at rx a = bad_line

unfoldable pub event_area : Event → List ℕ → ℕ → ℕ → List ℕ → List ℕ
event_area (Reception node id size) input at rx a = received_area a node id (payload_at input (at + behind_id id))
event_area Tick input at rx a = ticked_area (tick_answer a (fresh rx)) a
event_area (Take node) input at rx a = taken_area a node
event_area (Response node id size sum) input at rx a = responded_area a node (id % 65536) (payload_at input (at + 4)) sum
event_area (NoResponse node id) input at rx a = silent_area a node (id % 65536)
event_area Bad input at rx a = a

-- where the next event begins; "A cut or unknown event record prints `input bad` and ends"
unfoldable pub event_next : Event → List ℕ → ℕ → ℕ
event_next (Reception node id size) input at = at + behind_id id + 9
event_next Tick input at = at + 1
event_next (Take node) input at = at + 2
event_next (Response node id size sum) input at = at + 14
event_next (NoResponse node id) input at = at + 4
event_next Bad input at = length input

-- the same of the event at a place; there is none at the input's end
abbrev pub line_at : List ℕ → ℕ → ℕ → List ℕ → List ℕ
line_at input at rx a = option_map_or (λ e. event_text e input at rx a) (event_at input at) []

abbrev pub area_at : List ℕ → ℕ → ℕ → List ℕ → List ℕ
area_at input at rx a = option_map_or (λ e. event_area e input at rx a) (event_at input at) a

abbrev pub next_at : List ℕ → ℕ → ℕ
next_at input at = option_map_or (λ e. event_next e input at) (event_at input at) (length input)

-- ---- the events from a place on; the first argument bounds how many are done

unfoldable pub text_in : ℕ → List ℕ → ℕ → ℕ → List ℕ → List ℕ
text_in zero input at rx a = []
text_in (suc bound) input at rx a = line_at input at rx a ++ text_in bound input (next_at input at) rx (area_at input at rx a)

-- a bound that suffices. `text_end` and `text_more` say of it what a reader expects, and nothing else sees the bound.
unfoldable pub text_from : List ℕ → ℕ → ℕ → List ℕ → List ℕ
text_from input at rx a = text_in (length input - at) input at rx a

-- ---- the whole output

-- the plan's line, and where the plan is good the events' lines; the area that is lent is 32,768 bytes of 0
abbrev pub open_of : List ℕ → ℕ → Result PlanCounts RefusedPlan
open_of input end = opened_answer (check_plan (plan_of input end)) shortest_area

unfoldable pub open_text : Result PlanCounts RefusedPlan → List ℕ → ℕ → List ℕ → List ℕ
open_text (Ok counts) input end a = text_from input end counts.rx a
open_text (Err refused) input end a = []

unfoldable pub plan_text : Result PlanCounts RefusedPlan → List ℕ → ℕ → List ℕ
plan_text answer input end = plan_line answer ++ open_text answer input end (opened_area answer (plan_of input end) (replicate shortest_area 0))

unfoldable pub front_text : Option ℕ → List ℕ → List ℕ
front_text None input = bad_line
front_text (Some end) input = plan_text (open_of input end) input end

unfoldable pub bench_output : List ℕ → List ℕ
bench_output input = front_text (front_of input) input
