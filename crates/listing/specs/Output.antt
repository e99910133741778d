-- What the bench program writes for an input, over the model's answers and the lines. Nothing of an area's bytes stands in it.
use Rattle.std.specs.Prelude.{ℕ, List, [], ◌∷◌, ◌++◌, Option, Some, None, Result, Ok, Err}
use Rattle.base.specs.Pick.{pick}
use Rattle.plan.specs.declared.verdict.PlanCounts.{PlanCounts}
use Rattle.answers.specs.declared.RefusedPlan.{RefusedPlan}
use Rattle.events.specs.Events.{front_of, plan_of}
use Rattle.lines.specs.Lines.{plan_line, rx_line, response_line, silence_line, tick_line, take_line, bad_line}
use Rattle.model.specs.Calls.{Answer, received, responded, silent, ticked, taken, full}
use Rattle.model.specs.Calls.{closed, Gateway, the_model, Step, opening, Reply, opened, answered, replies}
use Rattle.listing.specs.Asked.{Asked, nothing, asked_from}

-- ---- "one line per event"; there is no event for fullness

unfoldable pub answer_line : Answer → List ℕ
answer_line (received answer) = rx_line answer
answer_line (responded answer) = response_line answer
answer_line (silent answer) = silence_line answer
answer_line (ticked answer report) = tick_line answer report
answer_line (taken answer payload) = take_line answer payload
answer_line (full answer) = []

unfoldable pub line_of : Reply → List ℕ
line_of (opened answer) = plan_line answer
line_of (answered answer) = answer_line answer

unfoldable pub lines_of : List Reply → List ℕ
lines_of [] = []
lines_of (reply ∷ rest) = line_of reply ++ lines_of rest

-- ---- the whole output

-- the bench's area has 32,768 bytes, and nothing is open in it
abbrev pub bench : Gateway
bench = the_model 32768

abbrev pub told : List Step → List Reply
told steps = replies bench closed steps

-- "The first line is `plan ok NODES TX RX` or `plan refused NO RECORD`, which ends it."
unfoldable pub asked_of : Result PlanCounts RefusedPlan → List ℕ → ℕ → Asked
asked_of (Ok counts) input end = asked_from input end counts.rx
asked_of (Err refused) input end = nothing

-- "A cut or unknown event record prints `input bad` and ends"
unfoldable pub text_of : List ℕ → Asked → List ℕ
text_of plan asked = lines_of (told (opening plan ∷ asked.steps)) ++ pick asked.bad bad_line []

-- "input over 65,536 bytes, or too short for the plan length or its stated plan, prints that line alone"
unfoldable pub front_text : Option ℕ → List ℕ → List ℕ
front_text None input = bad_line
front_text (Some end) input = text_of (plan_of input end) (asked_of (bench.opens closed (plan_of input end)) input end)

unfoldable pub model_output : List ℕ → List ℕ
model_output input = front_text (front_of input) input
