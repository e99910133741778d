-- Two gateways that meet the rules of the calls on an open plan answer each call alike and leave one state.
use Rattle.model.specs.Plan.{Plan}
use Rattle.model.specs.State.{State}
use Rattle.model.specs.Calls.{Call, reception, response, no_response, tick, take, fullness, Running}
use Rattle.model.specs.Words.{Shape}
use Rattle.model.specs.Rules.{Runs}
use Rattle.model.proofs.AgreeTicks.{Agree, take_agrees, fullness_agrees, tick_agrees}
use Rattle.model.proofs.AgreeReceptions.{reception_agrees}
use Rattle.model.proofs.AgreeResponses.{response_agrees, silence_agrees}

module _ (p : Plan) where
  pub agrees : (g h : Running) → Runs p g → Runs p h → (s : State) → Shape p s → (c : Call) → Agree g h s c
  agrees g h a b s k (reception n i payload) = reception_agrees p g h s k n i payload (a.reception s k n i payload) (b.reception s k n i payload)
  agrees g h a b s k (response n i payload sum) =
      response_agrees p g h s k n i payload sum (a.response s k n i payload sum) (b.response s k n i payload sum)
  agrees g h a b s k (no_response n i) = silence_agrees p g h s k n i (a.no_response s k n i) (b.no_response s k n i)
  agrees g h a b s k (tick report) = tick_agrees p g h s k report (a.tick s k report) (b.tick s k report)
  agrees g h a b s k (take n) = take_agrees p g h s k n (a.take s k n) (b.take s k n)
  agrees g h a b s k (fullness t) = fullness_agrees p g h s k t (a.fullness s k t) (b.fullness s k t)
