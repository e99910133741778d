-- Demand 1: "Every plan, memory area, frame and order of calls is met without an undefined act, and every call ends. Bad input is refused by the
-- numbers in document 01, for the reasons there and no others. A refusal changes no byte of the area or the caller's report."
-- That each call is safe and ends is the toolchain's verdict on each function, for all inputs: no call has a `requires`. The rest is here, of any
-- area whatever; refusals 12 to 16 are rules of demand 2.
use Rattle.std.specs.Prelude.{◌≡◌, ◌↔◌, ◌⊎◌, List, [], ℕ, ◌≤◌, ◌<◌, length, Some, None, Ok, Err}
use Rattle.base.specs.Numbers.{byte_at, Bytes}
use Rattle.records.specs.declared.record.Id.{Id}
use Rattle.records.specs.Records.{records}
use Rattle.plan.specs.declared.verdict.Reason.{Reason}
use Rattle.plan.specs.Refusals.{number_of}
use Rattle.records.specs.Kinds.{node_stage, tx_stage, rx_stage}
use Rattle.facts.specs.Good.{count_of}
use Rattle.refusals.specs.Table.{Refuses, Unrefused}
use Rattle.answers.specs.declared.Refusal.{Refusal}
use Rattle.answers.specs.declared.Refusal.TheVariants.{Plan as BadPlan, ShortArea, NotOpen}
use Rattle.answers.specs.declared.Responded.TheVariants as OfResponse
use Rattle.answers.specs.declared.TakenRequest.{TakenRequest}
use Rattle.answers.specs.declared.Taken.TheVariants as OfTake
use Rattle.reception.specs.Reception.{received_answer}
use Rattle.polling.specs.Polling.{responded_answer, silent_answer}
use Rattle.ticking.specs.Tick.{tick_answer, ticked_report}
use Rattle.taking.specs.Taken.{taken_answer, taken_payload, fullness_answer}
use Rattle.model.specs.Calls.{reception, response, no_response, tick, take, Step, opening}
use Rattle.history.specs.Calls.{open_answer, area_after, stepped}
use Rattle.refines.specs.Shows.{Marked}
use Rattle.demands.specs.Numbers.{Numbers}

-- ---- an opening is refused for the reasons of the refusal table and no others, and otherwise it succeeds

-- "It answers the counts of nodes, Tx and Rx frames."
pub record Succeeds (plan a : List ℕ) (n t r : ℕ) : Type 0 where
  pub good : Unrefused plan
  pub long : 32768 ≤ length a
  pub nodes : n ≡ count_of node_stage (records plan)
  pub tx : t ≡ count_of tx_stage (records plan)
  pub rx : r ≡ count_of rx_stage (records plan)

pub record OpeningAnswers (plan a : List ℕ) : Type 0 where
  pub bad : (reason : Reason) (at : ℕ) → (open_answer plan a ≡ Err (record { why = BadPlan reason; record_number = at })) ↔ Refuses plan (number_of reason) at
  -- 10: "the plan is good and the area is shorter than 32,768 bytes"; "Refusal 10 carries record number 0."
  pub short : (at : ℕ) → (open_answer plan a ≡ Err (record { why = ShortArea; record_number = at })) ↔ (Unrefused plan × (length a < 32768) × (at ≡ 0))
  pub good : (n t r : ℕ) → (open_answer plan a ≡ Ok (record { nodes = n; tx = t; rx = r })) ↔ Succeeds plan a n t r
  pub nothing_else : (why : Refusal) (at : ℕ) → open_answer plan a ≡ Err (record { why = why; record_number = at })
      → ((reason : Reason) × (why ≡ BadPlan reason)) ⊎ (why ≡ ShortArea)

-- ---- 11: "in a call, the area is shorter than 32,768 bytes or does not begin with hex 47 57"

pub record NotOpened (a : List ℕ) : Type 0 where
  pub reception : (n : ℕ) (id : Id) (payload : List ℕ) → (received_answer a n id payload ≡ Err NotOpen) ↔ (Marked a → ⊥)
  pub response : (n id : ℕ) (payload : List ℕ) (sum : ℕ) → (responded_answer a n id payload sum ≡ Err NotOpen) ↔ (Marked a → ⊥)
  pub no_response : (n id : ℕ) → (silent_answer a n id ≡ Err NotOpen) ↔ (Marked a → ⊥)
  pub tick : (report : List ℕ) → (tick_answer a report ≡ Err NotOpen) ↔ (Marked a → ⊥)
  pub take : (n : ℕ) → (taken_answer a n ≡ Err NotOpen) ↔ (Marked a → ⊥)
  pub fullness : (t : ℕ) → (fullness_answer a t ≡ Err NotOpen) ↔ (Marked a → ⊥)

-- ---- "A refusal writes nothing."

pub record RefusalsWriteNothing (a : List ℕ) : Type 0 where
  pub of_opening : (plan : List ℕ) (why : Refusal) (at : ℕ) → open_answer plan a ≡ Err (record { why = why; record_number = at }) → stepped a (opening plan) ≡ a
  pub of_reception : (n : ℕ) (id : Id) (payload : List ℕ) (why : Refusal) → received_answer a n id payload ≡ Err why
      → area_after a (reception n id payload) ≡ a
  pub of_response : (n id : ℕ) (payload : List ℕ) (sum : ℕ) (why : Refusal) → responded_answer a n id payload sum ≡ Err why
      → area_after a (response n id payload sum) ≡ a
  pub of_no_response : (n id : ℕ) (why : Refusal) → silent_answer a n id ≡ Err why → area_after a (no_response n id) ≡ a
  -- "A wrong one received is answer 3, after 2, and changes nothing." (document 02, Ticket 2)
  pub of_wrong_sum : (n id : ℕ) (payload : List ℕ) (sum : ℕ) → responded_answer a n id payload sum ≡ Ok OfResponse.WrongSum
      → area_after a (response n id payload sum) ≡ a
  pub of_tick : (report : List ℕ) (why : Refusal) → tick_answer a report ≡ Err why → area_after a (tick report) ≡ a
  pub of_report : (report : List ℕ) (why : Refusal) → tick_answer a report ≡ Err why → ticked_report (tick_answer a report) a report ≡ report
  pub of_take : (n : ℕ) (why : Refusal) → taken_answer a n ≡ Err why → area_after a (take n) ≡ a
  -- "with "none" or a refusal, the empty part"
  pub of_payload : (n : ℕ) (why : Refusal) → taken_answer a n ≡ Err why → taken_payload (area_after a (take n)) (taken_answer a n) ≡ []
  pub of_none : (n : ℕ) → taken_answer a n ≡ Ok None → taken_payload (area_after a (take n)) (taken_answer a n) ≡ []
  -- "A take answers a request (.. the empty part ..)" (document 02, Ticket 2)
  pub of_request : (n : ℕ) (x : TakenRequest) → taken_answer a n ≡ Ok (Some (OfTake.Request x)) → taken_payload (area_after a (take n)) (taken_answer a n) ≡ []

-- ---- "hex 47 57 at its start, which no later call alters"; "Bytes past the area's first 32,768 never change."

pub record Stays (c : Step) (a : List ℕ) : Type 0 where
  pub size : length (stepped a c) ≡ length a
  pub mark : Marked a → Marked (stepped a c)
  pub past : (j : ℕ) → 32768 ≤ j → byte_at (stepped a c) j ≡ byte_at a j

-- ---- the demand, of any opening or call on any area

pub record Demand1 : Type 0 where
  pub opening : (plan a : List ℕ) → OpeningAnswers plan a
  pub not_opened : (a : List ℕ) → NotOpened a
  pub writes_nothing : (a : List ℕ) → RefusalsWriteNothing a
  pub numbers : Numbers
  pub stays : (c : Step) (a : List ℕ) → Bytes a → Stays c a
