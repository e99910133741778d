-- Laws of the events' text: none at the input's end, one event's line before the others, and what a buffer shows once a line is put behind the others.
use mathlib.Core.Path.{◌≡◌, refl, sym, ap, ◌∙◌}
use mathlib.Core.List.{List, [], ◌++◌, append_assoc, append-nil}
use Prim.Native.Nat.{ℕ, zero, suc, ◌+◌, ◌-◌, ◌≤◌, ◌<◌}
use native.Mathlib.Omega.{arith}
use lib.Dec.{leb, ltb}
use lib.ListN.{length, take, replicate, length-append}
use lib.Seq.{take_at, length-take-le}
use borrow.Author.Tests.{leb-true}
use borrow.Rule.Slice.PartMut.{mid_of, put_mid}
use Rattle.std.specs.Prelude.{Option, Some, None, Result, Ok, Err}
use Rattle.std.specs.Option.{option_map_or}
use Rattle.base.specs.Numbers.{byte_at}
use Rattle.base.proofs.Apart.{differ}
use Rattle.base.proofs.Picks.{cases}
use Rattle.plan.specs.Shortest.{shortest_area}
use Rattle.plan.specs.declared.verdict.PlanCounts.{PlanCounts}
use Rattle.answers.specs.declared.RefusedPlan.{RefusedPlan}
use Rattle.opening.specs.Opened.{opened_area}
use Rattle.events.specs.declared.Event.{Event}
use Rattle.events.specs.declared.Event.TheVariants.{Reception, Tick, Take, Response, NoResponse, Bad}
use Rattle.events.specs.Events.{front_of, plan_of, event_length, event_at, event_size}
use Rattle.events.proofs.EventLaws.{event_end}
use Rattle.lines.specs.Lines.{plan_line, bad_line}
use Rattle.text.specs.Text.{Put}
use Rattle.text.proofs.TextLaws.{written_is}
use Rattle.output.specs.Output.{event_text, event_area, event_next, line_at, area_at, next_at, text_in, text_from}
use Rattle.output.specs.Output.{open_of, open_text, plan_text, front_text, bench_output}

pub none : (b : ℕ) (input : List ℕ) (at rx : ℕ) (a : List ℕ) → length input ≤ at → text_in b input at rx a ≡ []
unfolding text_in
none zero input at rx a h = refl
none (suc b) input at rx a h = rw (← event_end input at h) (none b input (length input) rx a (omega arith))

-- each event leaves less
less : (e : Event) (input : List ℕ) (at b : ℕ) → length input - at ≤ suc b → length input - event_next e input at ≤ b
unfolding event_next
less (Reception node id size) input at b h = omega arith
less Tick input at b h = omega arith
less (Take node) input at b h = omega arith
less (Response node id size sum) input at b h = omega arith
less (NoResponse node id) input at b h = omega arith
less Bad input at b h = omega arith

left : (read : Option Event) (input : List ℕ) (at b : ℕ) → length input - at ≤ suc b
    → length input - option_map_or (λ e. event_next e input at) read (length input) ≤ b
left None input at b h = omega arith
left (Some e) input at b h = less e input at b h

-- a larger bound writes the same
enough : (b c : ℕ) (input : List ℕ) (at rx : ℕ) (a : List ℕ) → length input - at ≤ b → length input - at ≤ c
    → text_in b input at rx a ≡ text_in c input at rx a
unfolding text_in
enough zero c input at rx a hb hc = sym (none c input at rx a (omega arith))
enough (suc b) zero input at rx a hb hc = none (suc b) input at rx a (omega arith)
enough (suc b) (suc c) input at rx a hb hc =
    ap (λ (rest : List ℕ). line_at input at rx a ++ rest)
    (enough b c input _ rx _ (left (event_at input at) input at b hb) (left (event_at input at) input at c hc))

pub text_more : (input : List ℕ) (at rx : ℕ) (a : List ℕ)
    → text_from input at rx a ≡ line_at input at rx a ++ text_from input (next_at input at) rx (area_at input at rx a)
unfolding text_from text_in
text_more input at rx a =
    let k = length input - at in
    enough k (suc k) input at rx a (omega arith) (omega arith)
    ∙ ap (λ (rest : List ℕ). line_at input at rx a ++ rest)
    (enough k (length input - next_at input at) input _ rx _ (left (event_at input at) input at k (omega arith)) (omega arith))

-- the text from a place on, by the event there
pub text_end : (input : List ℕ) (at rx : ℕ) (a : List ℕ) → None ≡ event_at input at → text_from input at rx a ≡ []
unfolding text_from
text_end input at rx a e =
    text_more input at rx a ∙ rw (← e) (none (length input - length input) input (length input) rx a (omega arith))

text_event : (input : List ℕ) (at rx : ℕ) (a : List ℕ) (e : Event) → Some e ≡ event_at input at
    → text_from input at rx a ≡ event_text e input at rx a ++ text_from input (event_next e input at) rx (event_area e input at rx a)
text_event input at rx a e d = text_more input at rx a ∙ rw (← d) refl

-- one turn of the loop: what was written and the text from here on is what is written now and the text from the next event on
pub turn : (input : List ℕ) (at rx : ℕ) (a : List ℕ) (e : Event) (next : ℕ) (a' shown whole : List ℕ) → Some e ≡ event_at input at
    → next ≡ event_next e input at → a' ≡ event_area e input at rx a → shown ++ text_from input at rx a ≡ whole
    → (shown ++ event_text e input at rx a) ++ text_from input next rx a' ≡ whole
turn input at rx a e next a' shown whole d n m w =
    let text = event_text e input at rx a in
    let more : text_from input at rx a ≡ text ++ text_from input next rx a' = rw (n, m) (text_event input at rx a e d) in
    append_assoc shown text (text_from input next rx a') ∙ ap (λ (t : List ℕ). shown ++ t) (sym more) ∙ w

-- an event moves on
pub onward : (e : Event) (input : List ℕ) (at : ℕ) → at < length input → at < event_next e input at
unfolding event_next
onward (Reception node id size) input at h = omega arith
onward Tick input at h = omega arith
onward (Take node) input at h = omega arith
onward (Response node id size sum) input at h = omega arith
onward (NoResponse node id) input at h = omega arith
onward Bad input at h = omega arith

-- and stays within the input where the event does
pub next_inside : (e : Event) (input : List ℕ) (at : ℕ) → at + event_size e ≤ length input → event_next e input at ≤ length input
unfolding event_next event_size
next_inside (Reception node id size) input at h = omega arith
next_inside Tick input at h = omega arith
next_inside (Take node) input at h = omega arith
next_inside (Response node id size sum) input at h = omega arith
next_inside (NoResponse node id) input at h = omega arith
next_inside Bad input at h = omega arith

-- where there is no event, the input is at its end
pub past : (input : List ℕ) (at : ℕ) → None ≡ event_at input at → length input ≤ at
unfolding event_at
past input at =
    let P : Option Event → Type 0 = λ read. None ≡ read → length input ≤ at in
    cases P (leb (length input) at) _ _
    (λ t q. omega (arith, leb-true))
    (λ t. cases P (ltb (length input - at) (event_length (byte_at input at))) _ _ (λ s q. absurd (differ cc)) (λ s q. absurd (differ cc)))

-- at the input's end there is no text
pub text_past : (input : List ℕ) (at rx : ℕ) (a : List ℕ) → length input ≤ at → text_from input at rx a ≡ []
unfolding text_from
text_past input at rx a h = none _ input at rx a h

-- what a buffer shows, once a line is put at the start of its part from `used` on
pub shown_more : (out line text : List ℕ) (k used size : ℕ) → Put (mid_of used k out) 0 text line size → used ≤ length out
    → size ≤ length (mid_of used k out) → take (used + size) (put_mid used k out line) ≡ take used out ++ text
shown_more out line text k used size p h l =
    let whole : length text ≡ size = omega (arith, p.ends) in
    let front : length (take used out) ≡ used = length-take-le used out h in
    let both : length (take used out ++ text) ≡ used + size = length-append (take used out) text ∙ omega arith in
    rw (p.bytes, written_is (mid_of used k out) 0 text (omega arith), append_assoc text, ← append_assoc (take used out))
    (take_at (take used out ++ text) _ (used + size) both)

-- the first line, and where the events begin
pub first_good : (input out area : List ℕ) (end size : ℕ) (counts : PlanCounts) (answer : Result PlanCounts RefusedPlan) → answer ≡ Ok counts → take size out ≡ plan_line answer
    → area ≡ opened_area answer (plan_of input end) (replicate shortest_area 0) → take size out ++ text_from input end counts.rx area ≡ plan_text answer input end
unfolding plan_text open_text
first_good input out area end size counts answer e s d = rw (s, d, e)

pub first_refused : (input out area : List ℕ) (end size : ℕ) (refused : RefusedPlan) (answer : Result PlanCounts RefusedPlan) → answer ≡ Err refused
    → take size out ≡ plan_line answer → take size out ++ text_from input (length input) 0 area ≡ plan_text answer input end
unfolding plan_text open_text
first_refused input out area end size refused answer e s = rw (s, text_past input (length input) 0 area (omega arith), e)

pub first_bad : (input out area : List ℕ) (size : ℕ) → front_of input ≡ None → take size out ≡ bad_line
    → take size out ++ text_from input (length input) 0 area ≡ bench_output input
unfolding bench_output front_text
first_bad input out area size e s = rw (s, text_past input (length input) 0 area (omega arith), e) (append-nil bad_line)

pub output_plan : (input : List ℕ) (end : ℕ) → front_of input ≡ Some end
    → plan_text (open_of input end) input end ≡ bench_output input
unfolding bench_output front_text
output_plan input end e = rw e
