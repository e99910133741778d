-- Any openings and calls on one area, and all that a caller is answered: numbers, report bytes, payload bytes.
use Rattle.std.specs.Prelude.{ℕ, List, [], ◌∷◌, Option, Result, Ok, Err}
use Rattle.records.specs.declared.record.Id.{Id}
use Rattle.plan.specs.Check.{check_plan}
use Rattle.answers.specs.declared.Refusal.{Refusal}
use Rattle.answers.specs.declared.Refusal.TheVariants.{NotOpen}
use Rattle.plan.specs.declared.verdict.PlanCounts.{PlanCounts}
use Rattle.answers.specs.declared.RefusedPlan.{RefusedPlan}
use Rattle.answers.specs.declared.Received.{Received}
use Rattle.answers.specs.declared.Responded.{Responded}
use Rattle.answers.specs.declared.Timeout.{Timeout}
use Rattle.answers.specs.declared.Taken.{Taken}
use Rattle.model.specs.Plan.{Plan, said}
use Rattle.model.specs.State.{State}
use Rattle.model.specs.Opening.{begun, open_answer}
use Rattle.model.specs.Reception.{received_answer, received as received_state}
use Rattle.model.specs.Response.{responded_answer, responded as responded_state, silent_answer, silent as silent_state}
use Rattle.model.specs.Tick.{tick_answer, tick_report, ticked as ticked_state}
use Rattle.model.specs.Take.{taken_answer, taken_payload, taken as taken_state}
use Rattle.model.specs.Fullness.{fullness_of}

-- ---- a call on an area in which a plan is open

pub data Call : Type 0 where
  reception : ℕ → Id → List ℕ → Call
  response : ℕ → ℕ → List ℕ → ℕ → Call
  no_response : ℕ → ℕ → Call
  tick : List ℕ → Call
  take : ℕ → Call
  fullness : ℕ → Call

pub data Answer : Type 0 where
  received : Result Received Refusal → Answer
  responded : Result Responded Refusal → Answer
  silent : Result Timeout Refusal → Answer
  ticked : Result (Unit {0}) Refusal → List ℕ → Answer
  taken : Result (Option Taken) Refusal → List ℕ → Answer
  full : Result ℕ Refusal → Answer

-- any functions of a state that could be those of an opened gateway
pub record Running : Type 0 where
  pub answer : State → Call → Answer
  pub next : State → Call → State

unfoldable pub answer_of : Plan → State → Call → Answer
answer_of p s (reception n id payload) = received (received_answer p s n id payload)
answer_of p s (response n id payload sum) = responded (responded_answer p s n id payload sum)
answer_of p s (no_response n id) = silent (silent_answer p s n id)
answer_of p s (tick report) = ticked (tick_answer p s report) (tick_report p s report)
answer_of p s (take n) = taken (taken_answer p s n) (taken_payload p s n)
answer_of p s (fullness t) = full (fullness_of p t)

unfoldable pub next_of : Plan → State → Call → State
next_of p s (reception n id payload) = received_state p s n id payload
next_of p s (response n id payload sum) = responded_state p s n id payload sum
next_of p s (no_response n id) = silent_state p s n id
next_of p s (tick report) = ticked_state p s report
next_of p s (take n) = taken_state p s n
next_of p s (fullness t) = s

-- the model's
unfoldable pub running : Plan → Running
running p = record { answer = answer_of p; next = next_of p }

-- ---- openings among them

-- what an area is to its caller: nothing is open in it; or a plan, with the state that the calls since left
pub data World : Type 0 where
  closed : World
  holding : List ℕ → State → World

-- any functions that could be a gateway's: what an opening answers and leaves, what a call answers and leaves
pub record Gateway : Type 0 where
  pub opens : World → List ℕ → Result PlanCounts RefusedPlan
  pub begins : World → List ℕ → World
  pub answer : World → Call → Answer
  pub next : World → Call → World

-- 11: "in a call, the area .. does not begin with hex 47 57"
unfoldable pub refused_closed : Call → Answer
refused_closed (reception n id payload) = received (Err NotOpen)
refused_closed (response n id payload sum) = responded (Err NotOpen)
refused_closed (no_response n id) = silent (Err NotOpen)
refused_closed (tick report) = ticked (Err NotOpen) report
refused_closed (take n) = taken (Err NotOpen) []
refused_closed (fullness t) = full (Err NotOpen)

unfoldable pub answer_from : World → Call → Answer
answer_from closed c = refused_closed c
answer_from (holding plan s) c = answer_of (said plan) s c

unfoldable pub next_from : World → Call → World
next_from closed c = closed
next_from (holding plan s) c = holding plan (next_of (said plan) s c)

-- "A refusal writes nothing."
unfoldable pub open_next : Result PlanCounts RefusedPlan → World → List ℕ → World
open_next (Ok counts) w plan = holding plan (begun (said plan))
open_next (Err refused) w plan = w

-- the model, on an area of some length
unfoldable pub the_model : ℕ → Gateway
the_model room =
    record {
      opens = λ w plan. open_answer room (check_plan plan);
      begins = λ w plan. open_next (open_answer room (check_plan plan)) w plan;
      answer = answer_from;
      next = next_from;
    }

-- ---- one after the other

pub data Step : Type 0 where
  opening : List ℕ → Step
  call : Call → Step

pub data Reply : Type 0 where
  opened : Result PlanCounts RefusedPlan → Reply
  answered : Answer → Reply

unfoldable pub reply_of : Gateway → World → Step → Reply
reply_of g w (opening plan) = opened (g.opens w plan)
reply_of g w (call c) = answered (g.answer w c)

unfoldable pub world_after : Gateway → World → Step → World
world_after g w (opening plan) = g.begins w plan
world_after g w (call c) = g.next w c

-- all that is answered over some steps, and what they leave
unfoldable pub replies : Gateway → World → List Step → List Reply
replies g w [] = []
replies g w (c ∷ cs) = reply_of g w c ∷ replies g (world_after g w c) cs

unfoldable pub after : Gateway → World → List Step → World
after g w [] = w
after g w (c ∷ cs) = after g (world_after g w c) cs
