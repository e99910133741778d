-- What a caller knows of the past from the answers alone: the plan last opened with success, and what has happened to its Rx frames since. A
-- reception or a response that answers 0 was accepted for the plan's Rx frame of that node and ID; a report's byte that is not 0 is an expiry of its Rx
-- frame, and so is on LIN an unrefused "no response" (document 02, Ticket 2).
use Rattle.std.specs.Prelude.{ℕ, suc, List, [], ◌∷◌, ◌++◌, eqb, length, take, Result, Ok, Err}
use Rattle.std.proofs.Math.Option.{Option, none, some}
use Rattle.base.specs.Pick.{pick}
use Rattle.records.specs.declared.record.Id.{Id}
use Rattle.records.specs.declared.record.Id.TheVariants.{Standard}
use Rattle.records.specs.Ids.{same_id}
use Rattle.plan.specs.Rows.{Row, rows_of}
use Rattle.area.specs.Claims.{RxEvent, accepted, expired}
use Rattle.plan.specs.declared.verdict.PlanCounts.{PlanCounts}
use Rattle.answers.specs.declared.Refusal.{Refusal}
use Rattle.answers.specs.declared.RefusedPlan.{RefusedPlan}
use Rattle.answers.specs.declared.Received.{Received}
use Rattle.answers.specs.declared.Received.TheVariants.{Accepted, NoRow, TooShort}
use Rattle.answers.specs.declared.Responded.{Responded}
use Rattle.answers.specs.declared.Responded.TheVariants as OfResponse
use Rattle.answers.specs.declared.Timeout.{Timeout}
use Rattle.answers.specs.declared.Timeout.TheVariants as OfSilence
use Rattle.reception.specs.Reception.{received_answer}
use Rattle.polling.specs.Polling.{responded_answer, silent_answer}
use Rattle.ticking.specs.Tick.{tick_answer, ticked_report}
use Rattle.model.specs.Calls.{Step, opening, reception, response, no_response, tick, take as taking, fullness, call}
use Rattle.history.specs.Calls.{open_answer, stepped}

pub record Past : Type 0 where
  pub plan : Option (List ℕ)
  pub log : List RxEvent

-- before any opening
abbrev pub unopened : Past
unopened = record { plan = none; log = [] }

-- ---- what an answer tells

-- the number of the plan's Rx frame of node n with this ID; where there is none, their count
unfoldable pub number_for : ℕ → Id → List Row → ℕ
number_for n id [] = 0
number_for n id (r ∷ rs) = pick (eqb r.frame.node n) (pick (same_id r.frame.id id) 0 (suc (number_for n id rs))) (suc (number_for n id rs))

unfoldable pub told_reception : Result Received Refusal → ℕ → List ℕ → List RxEvent
told_reception (Ok Accepted) r payload = accepted r payload ∷ []
told_reception (Ok (NoRow place)) r payload = []
told_reception (Ok TooShort) r payload = []
told_reception (Err why) r payload = []

unfoldable pub told_response : Result Responded Refusal → ℕ → List ℕ → List RxEvent
told_response (Ok OfResponse.Accepted) r payload = accepted r payload ∷ []
told_response (Ok OfResponse.TooShort) r payload = []
told_response (Ok OfResponse.WrongSum) r payload = []
told_response (Err why) r payload = []

-- it "is demand 3's expiry on LIN"
unfoldable pub told_silence : Result Timeout Refusal → ℕ → List RxEvent
told_silence (Ok OfSilence.Short) r = expired r ∷ []
told_silence (Ok OfSilence.Long) r = expired r ∷ []
told_silence (Err why) r = []

-- the report's bytes, from that of Rx frame r on; of a request the byte is 0
unfoldable pub told_report : ℕ → List ℕ → List RxEvent
told_report r [] = []
told_report r (x ∷ xs) = pick (eqb x 0) (told_report (suc r) xs) (expired r ∷ told_report (suc r) xs)

unfoldable pub told_tick : Result (Unit {0}) Refusal → ℕ → List ℕ → List RxEvent
told_tick (Ok done) rows report = told_report 0 (take rows report)
told_tick (Err why) rows report = []

-- ---- the past after a call on an area

unfoldable pub opened_past : Result PlanCounts RefusedPlan → List ℕ → Past → Past
opened_past (Ok counts) plan past = record { plan = some plan; log = [] }
opened_past (Err refused) plan past = past

-- nothing is told before an opening
unfoldable pub told : Option (List ℕ) → Step → List ℕ → List RxEvent
told none c a = []
told (some plan) (opening p) a = []
told (some plan) (call (reception n id payload)) a = told_reception (received_answer a n id payload) (number_for n id (rows_of plan)) payload
told (some plan) (call (response n id payload sum)) a =
    told_response (responded_answer a n id payload sum) (number_for n (Standard id) (rows_of plan)) payload
told (some plan) (call (no_response n id)) a = told_silence (silent_answer a n id) (number_for n (Standard id) (rows_of plan))
told (some plan) (call (tick report)) a = told_tick (tick_answer a report) (length (rows_of plan)) (ticked_report (tick_answer a report) a report)
told (some plan) (call (taking n)) a = []
told (some plan) (call (fullness t)) a = []

unfoldable pub past_after : Past → Step → List ℕ → Past
past_after past (opening plan) a = opened_past (open_answer plan a) plan past
past_after past (call (reception n id payload)) a = record { plan = past.plan; log = past.log ++ told past.plan (call (reception n id payload)) a }
past_after past (call (response n id payload sum)) a =
    record { plan = past.plan; log = past.log ++ told past.plan (call (response n id payload sum)) a }
past_after past (call (no_response n id)) a = record { plan = past.plan; log = past.log ++ told past.plan (call (no_response n id)) a }
past_after past (call (tick report)) a = record { plan = past.plan; log = past.log ++ told past.plan (call (tick report)) a }
past_after past (call (taking n)) a = past
past_after past (call (fullness t)) a = past

-- after some calls
unfoldable pub past_after_all : Past → List Step → List ℕ → Past
past_after_all past [] a = past
past_after_all past (c ∷ cs) a = past_after_all (past_after past c a) cs (stepped a c)

-- since the caller began
abbrev pub past_of : List Step → List ℕ → Past
past_of cs a = past_after_all unopened cs a
