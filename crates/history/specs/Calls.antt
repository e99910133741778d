-- The openings and calls on an area of bytes: what each answers, and what it leaves of the area. A take's payload is read with `taking::payload`,
-- which changes nothing.
use Rattle.std.specs.Prelude.{ℕ, List, [], ◌∷◌, length, Result}
use Rattle.plan.specs.Check.{check_plan}
use Rattle.plan.specs.declared.verdict.PlanCounts.{PlanCounts}
use Rattle.answers.specs.declared.RefusedPlan.{RefusedPlan}
use Rattle.opening.specs.Opened.{opened_answer, opened_area}
use Rattle.reception.specs.Reception.{received_answer, received_area}
use Rattle.polling.specs.Polling.{responded_answer, responded_area, silent_answer, silent_area}
use Rattle.ticking.specs.Tick.{tick_answer, ticked_area, ticked_report}
use Rattle.taking.specs.Taken.{taken_answer, taken_area, taken_payload, fullness_answer}
use Rattle.model.specs.Calls.{Call, reception, response, no_response, tick, take, fullness, Answer, received, responded, silent, ticked, taken, full}
use Rattle.model.specs.Calls.{Step, opening, call, Reply, opened, answered}

abbrev pub open_answer : List ℕ → List ℕ → Result PlanCounts RefusedPlan
open_answer plan a = opened_answer (check_plan plan) (length a)

unfoldable pub answer_in : List ℕ → Call → Answer
answer_in a (reception n id payload) = received (received_answer a n id payload)
answer_in a (response n id payload sum) = responded (responded_answer a n id payload sum)
answer_in a (no_response n id) = silent (silent_answer a n id)
answer_in a (tick report) = ticked (tick_answer a report) (ticked_report (tick_answer a report) a report)
answer_in a (take n) = taken (taken_answer a n) (taken_payload (taken_area a n) (taken_answer a n))
answer_in a (fullness t) = full (fullness_answer a t)

unfoldable pub reply_in : List ℕ → Step → Reply
reply_in a (opening plan) = opened (open_answer plan a)
reply_in a (call c) = answered (answer_in a c)

-- the area after a call, and after an opening or a call
unfoldable pub area_after : List ℕ → Call → List ℕ
area_after a (reception n id payload) = received_area a n id payload
area_after a (response n id payload sum) = responded_area a n id payload sum
area_after a (no_response n id) = silent_area a n id
area_after a (tick report) = ticked_area (tick_answer a report) a
area_after a (take n) = taken_area a n
area_after a (fullness t) = a

unfoldable pub stepped : List ℕ → Step → List ℕ
stepped a (opening plan) = opened_area (open_answer plan a) plan a
stepped a (call c) = area_after a c

-- over some of them, the first of them first
unfoldable pub replies_in : List ℕ → List Step → List Reply
replies_in a [] = []
replies_in a (c ∷ cs) = reply_in a c ∷ replies_in (stepped a c) cs

unfoldable pub after_in : List ℕ → List Step → List ℕ
after_in a [] = a
after_in a (c ∷ cs) = after_in (stepped a c) cs
