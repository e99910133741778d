-- All rules of documents 01 and 02 on what a caller is answered, about any gateway; that the model meets them, and that nothing else does.
use Rattle.std.specs.Prelude.{◌≡◌, List, ℕ}
use Rattle.base.specs.Numbers.{Bytes}
use Rattle.records.specs.declared.record.Id.{Id}
use Rattle.facts.specs.Good.{Each}
use Rattle.refusals.specs.Table.{Unrefused}
use Rattle.model.specs.Plan.{Plan, said}
use Rattle.model.specs.State.{State}
use Rattle.model.specs.Calls.{Call, Running, World, closed, holding, Gateway, the_model, Step, opening, call, replies, after}
use Rattle.model.specs.Words.{Shape}
use Rattle.model.specs.OpeningRules.{OpeningRules, ClosedRules}
use Rattle.model.specs.ReceptionRules.{ReceptionRules}
use Rattle.model.specs.TickRules.{TickRules}
use Rattle.model.specs.ResponseRules.{ResponseRules}
use Rattle.model.specs.SilenceRules.{SilenceRules}
use Rattle.model.specs.TakeRules.{TakeRules}
use Rattle.model.specs.FullnessRules.{FullnessRules}

-- ---- the calls on a plan that is open

pub record Runs (p : Plan) (g : Running) : Type 0 where
  pub reception : (s : State) → Shape p s → (n : ℕ) (id : Id) (payload : List ℕ) → ReceptionRules p g s n id payload
  pub response : (s : State) → Shape p s → (n id : ℕ) (payload : List ℕ) (sum : ℕ) → ResponseRules p g s n id payload sum
  pub no_response : (s : State) → Shape p s → (n id : ℕ) → SilenceRules p g s n id
  pub tick : (s : State) → Shape p s → (report : List ℕ) → TickRules p g s report
  pub take : (s : State) → Shape p s → (n : ℕ) → TakeRules p g s n
  pub fullness : (s : State) → Shape p s → (t : ℕ) → FullnessRules p g s t

-- what a gateway does while a plan is open in it; of a world in which nothing is open the state is the one before
unfoldable pub state_in : State → World → State
state_in s closed = s
state_in s (holding plan x) = x

unfoldable pub inside : List ℕ → Gateway → Running
inside plan g = record { answer = λ s c. g.answer (holding plan s) c; next = λ s c. state_in s (g.next (holding plan s) c) }

-- ---- openings and calls, on an area of some length

pub record Meets (room : ℕ) (g : Gateway) : Type 0 where
  pub opening : (w : World) (plan : List ℕ) → Bytes plan → OpeningRules room g w plan
  pub unopened : ClosedRules g
  pub since : (plan : List ℕ) → Unrefused plan → Runs (said plan) (inside plan g)
  -- no call closes a plan, or opens another
  pub stays : (plan : List ℕ) (s : State) (c : Call) → Unrefused plan → Shape (said plan) s
      → g.next (holding plan s) c ≡ holding plan ((inside plan g).next s c)

-- ---- what is proved

-- the model meets the rules
abbrev pub ModelMeets : Type 0
ModelMeets = (room : ℕ) → Meets room (the_model room)

-- the plan of an opening is a list of bytes
unfoldable pub OfBytes : Step → Type 0
OfBytes (opening plan) = Bytes plan
OfBytes (call c) = Unit {0}

-- two gateways give one answer and one state to every step
pub record Same (g h : Gateway) (w : World) (steps : List Step) : Type 0 where
  pub replies : replies g w steps ≡ replies h w steps
  pub world : after g w steps ≡ after h w steps

-- and nothing else does: over any openings and calls, any two gateways that meet the rules are one
abbrev pub RulesDecide : Type 0
RulesDecide = (room : ℕ) (g h : Gateway) → Meets room g → Meets room h → (steps : List Step) → Each OfBytes steps → Same g h closed steps
