-- A call turns a number that goes by the events (`Turns`) as the caller is told; so after any calls it is what the events since the opening have made
-- of it.
use mathlib.Core.Path.{◌≡◌, refl, sym, ap, ◌∙◌}
use mathlib.Core.List.{List, ◌++◌}
use mathlib.Core.Option.{some}
use Prim.Native.Nat.{ℕ}
use Rattle.facts.specs.Good.{GoodPlan}
use Rattle.area.specs.Claims.{RxEvent}
use Rattle.tables.specs.Reads.{Reads}
use Rattle.model.specs.Calls.{Step, opening, reception, response, no_response, tick, take, fullness, call}
use Rattle.history.specs.Calls.{area_after, stepped}
use Rattle.history.specs.Past.{told}
use Rattle.history.proofs.Aside.{aside_taken}
use Rattle.history.proofs.Later.{Later}
use Rattle.history.proofs.Replay.{replay, replay-append}
use Rattle.history.proofs.Turns.{Turns}
use Rattle.history.proofs.Ticks.{tick_turns}
use Rattle.history.proofs.Receptions.{reception_turns, response_turns, silence_turns}

module _ {plan : List ℕ} (good : GoodPlan plan) {P : ℕ → Type 0} {now : List ℕ → ℕ} {turn : ℕ → RxEvent → ℕ} (u : Turns plan P now turn) where
  step_turns : (c : Step) → Later c → (a : List ℕ) → Reads plan a → now (stepped a c) ≡ replay turn (told (some plan) c a) (now a)
  unfolding area_after stepped told replay
  step_turns (opening p) later a reads = absurd later
  step_turns (call (reception n id payload)) later a reads = reception_turns good u a reads n id payload
  step_turns (call (response n id payload sum)) later a reads = response_turns good u a reads n id payload sum
  step_turns (call (no_response n id)) later a reads = silence_turns good u a reads n id
  step_turns (call (tick report)) later a reads = tick_turns good u a report reads
  step_turns (call (take n)) later a reads = u.same _ _ (aside_taken u.aside a n)
  step_turns (call (fullness x)) later a reads = refl

  pub turns_on :
      (first : ℕ) (log : List RxEvent) (c : Step) → Later c → (a : List ℕ) → Reads plan a → now a ≡ replay turn log first
      → now (stepped a c) ≡ replay turn (log ++ told (some plan) c a) first
  turns_on first log c later a reads e =
      step_turns c later a reads ∙ ap (replay turn (told (some plan) c a)) e ∙ sym (replay-append turn log (told (some plan) c a) first)
