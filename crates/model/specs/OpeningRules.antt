-- "Opening", as statements about any gateway, and what a call is answered where nothing was opened.
use Rattle.std.specs.Prelude.{◌≡◌, List, [], ℕ, ◌≤◌, ◌<◌, length, get_or, Result, Ok, Err}
use Rattle.records.specs.declared.record.Id.{Id}
use Rattle.records.specs.Records.{records, eight_bytes}
use Rattle.plan.specs.declared.verdict.Reason.{Reason}
use Rattle.plan.specs.Refusals.{number_of}
use Rattle.records.specs.Kinds.{node_stage, tx_stage, rx_stage}
use Rattle.facts.specs.Good.{count_of}
use Rattle.refusals.specs.Table.{Refuses, Unrefused}
use Rattle.answers.specs.declared.Refusal.TheVariants.{Plan as BadPlan, ShortArea, NotOpen}
use Rattle.plan.specs.declared.verdict.PlanCounts.{PlanCounts}
use Rattle.answers.specs.declared.RefusedPlan.{RefusedPlan}
use Rattle.model.specs.Plan.{Plan, said, tx_in, row_in}
use Rattle.model.specs.State.{State, kept_of, queue_on}
use Rattle.model.specs.Calls.{Call, reception, response, no_response, tick, take, fullness}
use Rattle.model.specs.Calls.{Answer, received, responded, silent, ticked, taken, full, World, closed, holding, Gateway}
use Rattle.model.specs.Words.{Shape}

-- "payloads and timers initial, long counters at the long count, queues empty, tick counter 0"
pub record Begins (p : Plan) (s : State) : Type 0 where
  pub number : s.number ≡ 0
  pub shape : Shape p s
  pub kept : (t : ℕ) → t < length p.tx → kept_of s t ≡ eight_bytes (tx_in p t).payload
  pub tx_timers : (t : ℕ) → t < length p.tx → get_or s.tx_timers t 0 ≡ (tx_in p t).initial
  pub rx_timers : (r : ℕ) → r < length p.rows → get_or s.rx_timers r 0 ≡ (row_in p r).frame.initial
  pub longs : (r : ℕ) → r < length p.rows → get_or s.longs r 0 ≡ (row_in p r).frame.long
  pub queues : (n : ℕ) → n < p.nodes → queue_on s n ≡ []

-- "It answers the counts of nodes, Tx and Rx frames."
pub record Opens (g : Gateway) (w : World) (plan : List ℕ) : Type 0 where
  pub answer : g.opens w plan ≡ Ok (record { nodes = count_of node_stage (records plan); tx = count_of tx_stage (records plan); rx = count_of rx_stage (records plan) })
  pub state : State
  pub begins : g.begins w plan ≡ holding plan state
  pub initial : Begins (said plan) state

-- an opening is refused: the answer, and "A refusal writes nothing."
pub record RefusedOpening (g : Gateway) (w : World) (plan : List ℕ) (x : Result PlanCounts RefusedPlan) : Type 0 where
  pub answer : g.opens w plan ≡ x
  pub stays : g.begins w plan ≡ w

-- 1 to 9: the reason has the number of the refusal table
pub record Numbered (g : Gateway) (w : World) (plan : List ℕ) (number at : ℕ) : Type 0 where
  pub reason : Reason
  pub numbered : number_of reason ≡ number
  pub refused : RefusedOpening g w plan (Err (record { why = BadPlan reason; record_number = at }))

-- the number is the area's length
pub record OpeningRules (room : ℕ) (g : Gateway) (w : World) (plan : List ℕ) : Type 0 where
  pub bad : (number at : ℕ) → Refuses plan number at → Numbered g w plan number at
  -- 10: "the plan is good and the area is shorter than 32,768 bytes"; "Refusal 10 carries record number 0."
  pub short : Unrefused plan → room < 32768 → RefusedOpening g w plan (Err (record { why = ShortArea; record_number = 0 }))
  pub good : Unrefused plan → 32768 ≤ room → Opens g w plan

-- ---- 11: "in a call, the area .. does not begin with hex 47 57"

pub record Closed (g : Gateway) (c : Call) (x : Answer) : Type 0 where
  pub answer : g.answer closed c ≡ x
  pub stays : g.next closed c ≡ closed

pub record ClosedRules (g : Gateway) : Type 0 where
  pub reception : (n : ℕ) (id : Id) (payload : List ℕ) → Closed g (reception n id payload) (received (Err NotOpen))
  pub response : (n id : ℕ) (payload : List ℕ) (sum : ℕ) → Closed g (response n id payload sum) (responded (Err NotOpen))
  pub no_response : (n id : ℕ) → Closed g (no_response n id) (silent (Err NotOpen))
  pub tick : (report : List ℕ) → Closed g (tick report) (ticked (Err NotOpen) report)
  pub take : (n : ℕ) → Closed g (take n) (taken (Err NotOpen) [])
  pub fullness : (t : ℕ) → Closed g (fullness t) (full (Err NotOpen))
