-- The bench program's output on an area is that over the model, since the area answers as the model does.
use mathlib.Core.Path.{◌≡◌, refl, sym, ap, ◌∙◌}
use mathlib.Core.List.{List, [], ◌∷◌, ◌++◌, append_assoc, append-nil}
use Prim.Native.Nat.{ℕ, zero, suc, ◌+◌, ◌-◌, ◌%◌}
use native.Mathlib.Omega.{arith}
use lib.ListN.{length, replicate, length-replicate}
use Rattle.std.specs.Prelude.{Option, Some, None, IfSome, Result, Ok, Err}
use Rattle.std.specs.Option.{option_map_or}
use Rattle.base.specs.Pick.{pick}
use Rattle.records.specs.Ids.{behind_id}
use Rattle.plan.specs.declared.verdict.PlanCounts.{PlanCounts}
use Rattle.plan.specs.declared.verdict.BadRecord.{BadRecord}
use Rattle.plan.specs.Check.{check_plan}
use Rattle.facts.specs.Good.{Each}
use Rattle.answers.specs.declared.RefusedPlan.{RefusedPlan}
use Rattle.opening.specs.Opened.{opened_answer, opened_area}
use Rattle.events.specs.declared.Event.{Event}
use Rattle.events.specs.declared.Event.TheVariants.{Reception, Tick, Take, Response, NoResponse, Bad}
use Rattle.events.specs.Events.{front_of, plan_of, event_at, event_size, payload_at}
use Rattle.lines.specs.Lines.{plan_line, bad_line}
use Rattle.output.specs.Output as area
use Rattle.output.proofs.OutputLaws.{none}
use Rattle.base.specs.Numbers.{Bytes}
use Rattle.plan.specs.Shortest.{shortest_area}
use Rattle.model.specs.Rules.{OfBytes}
use Rattle.model.specs.Opening.{open_answer}
use Rattle.model.specs.Calls.{Call, reception, response, no_response, tick, take, closed, the_model, Step, opening, Reply, opened, replies}
use Rattle.history.specs.Calls.{answer_in, area_after, reply_in, stepped, replies_in}
use Rattle.refines.specs.Shows.{Marked}
use Rattle.refines.proofs.All.{as_the_model}
use Rattle.listing.specs.Asked.{Asked, nothing, first, asked_by, asked_in, asked_from}
use Rattle.listing.specs.Output.{answer_line, line_of, lines_of, told, asked_of, text_of, front_text, model_output}
use Rattle.listing.specs.SameOutput.{SameOutput}
use Rattle.listing.proofs.AskedLaws.{TwoBytes, event_id, asked_calls, Bytes-plan}

abbrev zeros : List ℕ
zeros = replicate shortest_area 0

-- ---- on an area, the events' text is the lines of the replies to what they ask for

abbrev written : List ℕ → Asked → List ℕ
written a asked = lines_of (replies_in a asked.steps) ++ pick asked.bad bad_line []

-- a line before the rest
before : (line text lines last : List ℕ) → text ≡ lines ++ last → line ++ text ≡ (line ++ lines) ++ last
before line text lines last e = ap (λ (t : List ℕ). line ++ t) e ∙ sym (append_assoc line lines last)

-- a call before the rest
called : (c : Call) (a text : List ℕ) (rest : Asked) → text ≡ written (area_after a c) rest
    → answer_line (answer_in a c) ++ text ≡ written a (first c rest)
unfolding replies_in reply_in stepped lines_of line_of
called c a text rest e = before (answer_line (answer_in a c)) text (lines_of (replies_in (area_after a c) rest.steps)) _ e

-- one event, where the rest is so
one : (e : Event) (bound : ℕ) (input : List ℕ) (at rx : ℕ) (a : List ℕ) → TwoBytes e
    → ((next : ℕ) (a' : List ℕ) → area.text_in bound input next rx a' ≡ written a' (asked_in bound input next rx))
    → area.event_text e input at rx a ++ area.text_in bound input (area.event_next e input at) rx (area.event_area e input at rx a)
    ≡ written a (asked_by e input at rx (asked_in bound input (at + event_size e) rx))
unfolding area.event_text area.event_next area.event_area area.received_text area.responded_text area.silent_text area.ticked_text area.taken_text asked_by
    event_size answer_in area_after answer_line replies_in lines_of TwoBytes pick
one (Reception node id size) bound input at rx a two rest =
    let behind : at + (behind_id id + 9) ≡ at + behind_id id + 9 = omega arith in
    let next = at + behind_id id + 9 in
    rw behind (called (reception node id (payload_at input (at + behind_id id))) a _ (asked_in bound input next rx) (rest next _))
one Tick bound input at rx a two rest = called (tick (area.fresh rx)) a _ (asked_in bound input (at + 1) rx) (rest (at + 1) _)
one (Take node) bound input at rx a two rest = called (take node) a _ (asked_in bound input (at + 2) rx) (rest (at + 2) _)
one (Response node id size sum) bound input at rx a two rest =
    let same : id % 65536 ≡ id = omega arith in
    rw same (called (response node id (payload_at input (at + 4)) sum) a _ (asked_in bound input (at + 14) rx) (rest (at + 14) _))
one (NoResponse node id) bound input at rx a two rest =
    let same : id % 65536 ≡ id = omega arith in
    rw same (called (no_response node id) a _ (asked_in bound input (at + 4) rx) (rest (at + 4) _))
one Bad bound input at rx a two rest = rw (none bound input (length input) rx a (omega arith)) (append-nil bad_line)

-- the event at a place, or none
at_place : (read : Option Event) (bound : ℕ) (input : List ℕ) (at rx : ℕ) (a : List ℕ) → IfSome read TwoBytes
    → ((next : ℕ) (a' : List ℕ) → area.text_in bound input next rx a' ≡ written a' (asked_in bound input next rx))
    → option_map_or (λ e. area.event_text e input at rx a) read []
    ++ area.text_in bound input (option_map_or (λ e. area.event_next e input at) read (length input)) rx (option_map_or (λ e. area.event_area e input at rx a) read a)
    ≡ written a (option_map_or (λ e. asked_by e input at rx (asked_in bound input (at + event_size e) rx)) read nothing)
unfolding replies_in lines_of pick
at_place None bound input at rx a two rest = none bound input (length input) rx a (omega arith)
at_place (Some e) bound input at rx a two rest = one e bound input at rx a two rest

events_text : (bound : ℕ) (input : List ℕ) (at rx : ℕ) (a : List ℕ) → Bytes input
    → area.text_in bound input at rx a ≡ written a (asked_in bound input at rx)
unfolding area.text_in asked_in replies_in lines_of pick
events_text zero input at rx a b = refl
events_text (suc bound) input at rx a b =
    at_place (event_at input at) bound input at rx a (event_id input at b) (λ next a'. events_text bound input next rx a' b)

-- ---- the plan's line before them

opens_same : (v : Result PlanCounts BadRecord) → opened_answer v shortest_area ≡ open_answer shortest_area v
unfolding opened_answer open_answer
opens_same (Ok counts) = refl
opens_same (Err bad) = refl

planned : (o : Result PlanCounts RefusedPlan) (input : List ℕ) (end : ℕ) (a : List ℕ) → Bytes input
    → plan_line o ++ area.open_text o input end a
    ≡ lines_of (opened o ∷ replies_in a (asked_of o input end).steps) ++ pick (asked_of o input end).bad bad_line []
unfolding area.open_text area.text_from asked_of asked_from lines_of line_of replies_in pick
planned (Ok counts) input end a b =
    before (plan_line (Ok counts)) _ _ _ (events_text (length input - end) input end counts.rx a b)
planned (Err refused) input end a b = before (plan_line (Err refused)) _ [] [] refl

-- ---- an area of zeros answers as the model does, in which nothing is open

not_open : Marked zeros → ⊥
not_open m = omega (arith, m.first)

agrees : (steps : List Step) → Each OfBytes steps → replies_in zeros steps ≡ told steps
agrees steps h =
    (as_the_model.unopened zeros not_open steps h).replies ∙ ap (λ (n : ℕ). replies (the_model n) closed steps) (length-replicate {A = ℕ} shortest_area 0)

asked_bytes : (o : Result PlanCounts RefusedPlan) (input : List ℕ) (end : ℕ) → Each OfBytes (asked_of o input end).steps
unfolding asked_of asked_from Each
asked_bytes (Ok counts) input end = asked_calls (length input - end) input end counts.rx
asked_bytes (Err refused) input end = tt

-- the replies on zeros to an opening and what follows
opened_first : (plan : List ℕ) (steps : List Step) → replies_in zeros (opening plan ∷ steps)
    ≡ opened (opened_answer (check_plan plan) shortest_area) ∷ replies_in (opened_area (opened_answer (check_plan plan) shortest_area) plan zeros) steps
unfolding replies_in reply_in stepped
opened_first plan steps =
    ap (λ (n : ℕ). opened (opened_answer (check_plan plan) n) ∷ replies_in (opened_area (opened_answer (check_plan plan) n) plan zeros) steps)
    (length-replicate {A = ℕ} shortest_area 0)

by_front : (f : Option ℕ) (input : List ℕ) → Bytes input → area.front_text f input ≡ front_text f input
unfolding area.front_text area.plan_text front_text text_of the_model Each OfBytes
by_front None input b = refl
by_front (Some end) input b =
    let plan = plan_of input end in
    let o = opened_answer (check_plan plan) shortest_area in
    let asked = asked_of o input end in
    planned o input end (opened_area o plan zeros) b
    ∙ ap (λ (rs : List Reply). lines_of rs ++ pick asked.bad bad_line [])
    (sym (opened_first plan asked.steps) ∙ agrees (opening plan ∷ asked.steps) (Bytes-plan input end b, asked_bytes o input end))
    ∙ ap (λ (x : Result PlanCounts RefusedPlan). text_of plan (asked_of x input end)) (opens_same (check_plan plan))

pub same_output : SameOutput
unfolding area.bench_output model_output
same_output input b = by_front (front_of input) input b
