-- The model's text for an input as it is written.
use mathlib.Core.Path.{◌≡◌, refl, sym, ap, ◌∙◌}
use mathlib.Core.List.{List, [], ◌∷◌, ◌++◌, append-nil}
use Prim.Native.Nat.{ℕ, ◌+◌, ◌*◌, ◌-◌, ◌/◌, ◌%◌, ◌≤◌, ◌<◌}
use native.Mathlib.Decide.{dec_lt}
use native.Mathlib.Omega.{arith}
use lib.ListN.{length, length-append}
use lib.Seq.{take-append_seam}
use Rattle.std.specs.Prelude.{Some, None, Result, Ok, Err}
use Rattle.base.specs.Pick.{pick}
use Rattle.base.specs.Numbers.{two_at}
use Rattle.facts.specs.Good.{Each}
use Rattle.answers.specs.declared.Refusal.{Refusal}
use Rattle.plan.specs.declared.verdict.PlanCounts.{PlanCounts}
use Rattle.answers.specs.declared.RefusedPlan.{RefusedPlan}
use Rattle.events.specs.Events.{front_of, plan_of}
use Rattle.events.proofs.EventLaws.{front_long, front_cut, front_short, front_plan}
use Rattle.lines.specs.Lines.{plan_line, bad_line}
use Rattle.model.specs.Calls.{closed, Step, opening, replies, reply_of}
use Rattle.listing.specs.Asked.{Asked, nothing, asked_from}
use Rattle.listing.specs.Output.{bench, told, line_of, lines_of, asked_of, text_of, front_text, model_output}
use Rattle.listing.specs.Input.{Entry, Whole, all_bytes, Broken, input_of, steps_of, OutputMeets}
use Rattle.listing.proofs.EntriesLaws.{bad, then, Ends, read, Ends-none, Ends-broken}

-- ---- the plan before them

abbrev ahead : List ℕ → List ℕ
ahead plan = length plan / 256 ∷ length plan % 256 ∷ plan

front_read : (plan events : List ℕ) → length (input_of plan events) ≤ 65536 → front_of (input_of plan events) ≡ Some (length (ahead plan))
front_read plan events h =
    let input = input_of plan events in
    let long : length input ≡ 2 + (length plan + length events) = omega (arith, length-append plan events) in
    let told : two_at input 0 ≡ length plan = omega arith in
    let ends : 2 + two_at input 0 ≡ length (ahead plan) = omega arith in
    sym (front_plan input h (omega arith) (omega arith)) ∙ ap (λ (n : ℕ). Some n) ends

plan_read : (plan events : List ℕ) → plan_of (input_of plan events) (length (ahead plan)) ≡ plan
plan_read plan events =
    let behind : length (ahead plan) - 2 ≡ length plan = omega arith in
    rw behind (take-append_seam plan events)

text_read : (plan events : List ℕ) (o : Result PlanCounts RefusedPlan) → bench.opens closed plan ≡ o → length (input_of plan events) ≤ 65536
    → model_output (input_of plan events) ≡ text_of plan (asked_of o (input_of plan events) (length (ahead plan)))
unfolding model_output front_text
text_read plan events o e h = rw (front_read plan events h, plan_read plan events, e) refl

events_read : (plan tail : List ℕ) (es : List Entry) (nodes tx rx : ℕ) (last : Asked) → bench.opens closed plan ≡ Ok (record { nodes = nodes; tx = tx; rx = rx }) → Each Whole es
    → Ends tail rx last → length (input_of plan (all_bytes es ++ tail)) ≤ 65536
    → model_output (input_of plan (all_bytes es ++ tail)) ≡ text_of plan (then (steps_of rx es) last)
unfolding asked_of asked_from
events_read plan tail es nodes tx rx last e w ends h =
    text_read plan (all_bytes es ++ tail) (Ok (record { nodes = nodes; tx = tx; rx = rx })) e h
    ∙ ap (λ (a : Asked). text_of plan a)
    (read es _ (ahead plan) tail rx last w ends (omega (arith, length-append (ahead plan) (all_bytes es ++ tail))))

-- the lines, and what is written behind them
text_then : (plan : List ℕ) (steps : List Step) (last : Asked) → last.steps ≡ []
    → text_of plan (then steps last) ≡ lines_of (told (opening plan ∷ steps)) ++ pick last.bad bad_line []
unfolding text_of
text_then plan steps last e =
    ap (λ (ss : List Step). lines_of (told (opening plan ∷ ss)) ++ pick last.bad bad_line [])
    (ap (λ (ss : List Step). steps ++ ss) e ∙ append-nil steps)

-- ---- the rules

whole : (plan : List ℕ) (es : List Entry) (nodes tx rx : ℕ) → bench.opens closed plan ≡ Ok (record { nodes = nodes; tx = tx; rx = rx }) → Each Whole es
    → length (input_of plan (all_bytes es)) ≤ 65536 → model_output (input_of plan (all_bytes es)) ≡ lines_of (told (opening plan ∷ steps_of rx es))
unfolding pick
whole plan es nodes tx rx e w h =
    let same = append-nil (all_bytes es) in
    ap (λ (l : List ℕ). model_output (input_of plan l)) (sym same) ∙ events_read plan [] es nodes tx rx nothing e w (Ends-none rx) (rw same h)
    ∙ text_then plan (steps_of rx es) nothing refl ∙ append-nil (lines_of (told (opening plan ∷ steps_of rx es)))

broken : (plan : List ℕ) (es : List Entry) (tail : List ℕ) (nodes tx rx : ℕ) → bench.opens closed plan ≡ Ok (record { nodes = nodes; tx = tx; rx = rx }) → Each Whole es
    → Broken tail → length (input_of plan (all_bytes es ++ tail)) ≤ 65536
    → model_output (input_of plan (all_bytes es ++ tail)) ≡ lines_of (told (opening plan ∷ steps_of rx es)) ++ bad_line
unfolding pick
broken plan es tail nodes tx rx e w t h =
    events_read plan tail es nodes tx rx bad e w (Ends-broken tail rx t) h ∙ text_then plan (steps_of rx es) bad refl

refused : (plan events : List ℕ) (why : Refusal) (number : ℕ) → bench.opens closed plan ≡ Err (record { why = why; record_number = number })
    → length (input_of plan events) ≤ 65536 → model_output (input_of plan events) ≡ plan_line (Err (record { why = why; record_number = number }))
unfolding asked_of text_of lines_of line_of replies reply_of pick
refused plan events why number e h =
    text_read plan events (Err (record { why = why; record_number = number })) e h ∙ append-nil (lines_of (told (opening plan ∷ [])))
    ∙ append-nil (plan_line (bench.opens closed plan)) ∙ ap plan_line e

bad_front : (input : List ℕ) → None ≡ front_of input → model_output input ≡ bad_line
unfolding model_output front_text
bad_front input e = rw (← e) refl

cut : (high low : ℕ) (rest : List ℕ) → length rest < high * 256 + low → model_output (high ∷ low ∷ rest) ≡ bad_line
cut high low rest h = go (dec_lt 65536 (length (high ∷ low ∷ rest)))
  where
    go : Dec (65536 < length (high ∷ low ∷ rest)) → model_output (high ∷ low ∷ rest) ≡ bad_line
    go (yes l) = bad_front (high ∷ low ∷ rest) (front_long (high ∷ low ∷ rest) l)
    go (no n) = bad_front (high ∷ low ∷ rest) (front_short (high ∷ low ∷ rest) (omega arith) (omega arith) (omega arith))

short : (input : List ℕ) → length input < 2 → model_output input ≡ bad_line
short input h = bad_front input (front_cut input (omega arith) h)

pub output_meets : OutputMeets
output_meets =
    record {
      whole = whole;
      broken = broken;
      refused = refused;
      long = λ input h. bad_front input (front_long input h);
      short = short;
      cut = cut;
    }
