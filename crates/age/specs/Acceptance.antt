-- "the last acceptance", as a caller knows it from the answers alone: what was accepted last of a source since the opening, and how many unrefused
-- ticks have passed since.
use Rattle.std.specs.Prelude.{ℕ, suc, List, [], ◌∷◌, eqb, Result, Ok, Err}
use Rattle.std.proofs.Math.Option.{Option, none, some}
use Rattle.base.specs.Pick.{pick}
use Rattle.records.specs.declared.record.Id.{Id}
use Rattle.records.specs.declared.record.Id.TheVariants.{Standard}
use Rattle.records.specs.Ids.{same_id}
use Rattle.records.specs.declared.record.RxFrame.{RxFrame}
use Rattle.plan.specs.declared.verdict.PlanCounts.{PlanCounts}
use Rattle.answers.specs.declared.Refusal.{Refusal}
use Rattle.answers.specs.declared.RefusedPlan.{RefusedPlan}
use Rattle.answers.specs.declared.Received.{Received}
use Rattle.answers.specs.declared.Received.TheVariants.{Accepted, NoRow, TooShort}
use Rattle.answers.specs.declared.Responded.{Responded}
use Rattle.answers.specs.declared.Responded.TheVariants as OfResponse
use Rattle.reception.specs.Reception.{received_answer}
use Rattle.polling.specs.Polling.{responded_answer}
use Rattle.ticking.specs.Tick.{tick_answer}
use Rattle.model.specs.Calls.{Step, opening, reception, response, no_response, tick, take, fullness, call}
use Rattle.history.specs.Calls.{open_answer, stepped}

pub record Acceptance : Type 0 where
  pub payload : List ℕ
  pub ticks : ℕ

-- ---- what an answer makes of it

-- "since opening"
unfoldable pub by_opening : Result PlanCounts RefusedPlan → Option Acceptance → Option Acceptance
by_opening (Ok counts) last = none
by_opening (Err refused) last = last

-- the source is the Rx frame with this node and ID
unfoldable pub by_reception : RxFrame → ℕ → Id → List ℕ → Result Received Refusal → Option Acceptance → Option Acceptance
by_reception x n id payload (Ok Accepted) last =
    pick (eqb x.node n) (pick (same_id x.id id) (some (record { payload = payload; ticks = 0 })) last) last
by_reception x n id payload (Ok (NoRow place)) last = last
by_reception x n id payload (Ok TooShort) last = last
by_reception x n id payload (Err why) last = last

-- on LIN a response is what is accepted (document 02, Ticket 2)
unfoldable pub by_response : RxFrame → ℕ → ℕ → List ℕ → Result Responded Refusal → Option Acceptance → Option Acceptance
by_response x n id payload (Ok OfResponse.Accepted) last = by_reception x n (Standard id) payload (Ok Accepted) last
by_response x n id payload (Ok OfResponse.TooShort) last = last
by_response x n id payload (Ok OfResponse.WrongSum) last = last
by_response x n id payload (Err why) last = last

unfoldable pub older : Option Acceptance → Option Acceptance
older none = none
older (some x) = some (record { payload = x.payload; ticks = suc x.ticks })

-- "unrefused ticks"
unfoldable pub by_tick : Result (Unit {0}) Refusal → Option Acceptance → Option Acceptance
by_tick (Ok done) last = older last
by_tick (Err why) last = last

-- ---- over some calls on an area, the first of them first

unfoldable pub acceptance_after : RxFrame → Option Acceptance → Step → List ℕ → Option Acceptance
acceptance_after x last (opening plan) a = by_opening (open_answer plan a) last
acceptance_after x last (call (reception n id payload)) a = by_reception x n id payload (received_answer a n id payload) last
acceptance_after x last (call (response n id payload sum)) a = by_response x n id payload (responded_answer a n id payload sum) last
acceptance_after x last (call (no_response n id)) a = last
acceptance_after x last (call (tick report)) a = by_tick (tick_answer a report) last
acceptance_after x last (call (take n)) a = last
acceptance_after x last (call (fullness t)) a = last

unfoldable pub acceptance_after_all : RxFrame → Option Acceptance → List Step → List ℕ → Option Acceptance
acceptance_after_all x last [] a = last
acceptance_after_all x last (c ∷ cs) a = acceptance_after_all x (acceptance_after x last c a) cs (stepped a c)

-- since the caller began
abbrev pub last_acceptance : RxFrame → List Step → List ℕ → Option Acceptance
last_acceptance x cs a = acceptance_after_all x none cs a
