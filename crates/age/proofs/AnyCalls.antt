-- After any openings and calls on any area, the area shows a state of the plan last opened, and `Knows` holds there of each source.
use mathlib.Core.Path.{◌≡◌, refl, sym}
use mathlib.Core.List.{List, [], ◌∷◌, ◌++◌}
use mathlib.Core.Option.{Option, none, some}
use Prim.Native.Nat.{ℕ, ◌<◌}
use lib.Dec.{leb}
use lib.ListN.{length}
use borrow.Author.Tests.{leb-true}
use Rattle.std.specs.Prelude.{Result, Ok, Err}
use Rattle.base.specs.Numbers.{Bytes}
use Rattle.base.proofs.Picks.{cases}
use Rattle.records.specs.declared.record.Id.{Id}
use Rattle.records.specs.declared.record.RxFrame.{RxFrame}
use Rattle.plan.specs.declared.verdict.PlanCounts.{PlanCounts}
use Rattle.plan.specs.declared.verdict.BadRecord.{BadRecord}
use Rattle.plan.specs.Check.{check_plan}
use Rattle.plan.specs.Rows.{rows_of}
use Rattle.area.specs.Layout.{area_length}
use Rattle.area.specs.Claims.{RxEvent}
use Rattle.answers.specs.declared.RefusedPlan.{RefusedPlan}
use Rattle.opening.specs.Opened.{opened_answer, opened_area}
use Rattle.tables.specs.Reads.{row_at}
use Rattle.model.specs.Plan.{said}
use Rattle.model.specs.State.{State}
use Rattle.model.specs.Opening.{begun}
use Rattle.model.specs.Calls.{Call, reception, response, no_response, tick, take, fullness, holding, answer_from, next_from, running, Step, opening, call}
use Rattle.history.specs.Calls.{answer_in, area_after, stepped, after_in}
use Rattle.history.specs.Past.{Past, unopened, opened_past, told, past_after, past_after_all, past_of}
use Rattle.refines.proofs.Held.{Held}
use Rattle.refines.proofs.Opened.{Held-opened}
use Rattle.refines.proofs.Worlds.{Agrees, call_agrees}
use Rattle.age.specs.Acceptance.{Acceptance, by_opening, acceptance_after, acceptance_after_all, last_acceptance}
use Rattle.age.proofs.Knows.{Knows, Knows-nothing, Knows-taken, Knows-full}
use Rattle.age.proofs.KnowsReceptions.{knows_received}
use Rattle.age.proofs.KnowsResponses.{knows_responded, knows_silent}
use Rattle.age.proofs.KnowsTicks.{knows_ticked}

pub record Known (plan : List ℕ) (r : ℕ) (a : List ℕ) (log : List RxEvent) (last : Option Acceptance) : Type 0 where
  pub state : State
  pub held : Held plan a state
  pub knows : Knows plan r state log last

-- what a call answers and leaves is the model's
pub follows : {plan a : List ℕ} {s : State} → Held plan a s → (c : Call)
    → (answer_in a c ≡ (running (said plan)).answer s c) × Held plan (area_after a c) ((running (said plan)).next s c)
unfolding Agrees answer_from next_from running
follows {plan} {a} {s} h c = call_agrees a (holding plan s) h c

-- the source is Rx frame r, with the node and the ID of x
module _ (x : RxFrame) (r : ℕ) where
  -- where a plan has been opened
  abbrev KnownIf : Option (List ℕ) → List ℕ → List RxEvent → Option Acceptance → Type 0
  KnownIf none a log last = Unit {0}
  KnownIf (some plan) a log last = Bytes plan → r < length (rows_of plan) → (row_at plan r).frame ≡ x → Known plan r a log last

  abbrev Then : Past → List ℕ → Option Acceptance → Type 0
  Then past a last = KnownIf past.plan a past.log last

  -- ---- an opening; a refused one leaves all

  after_opening :
      (past : Past) (plan a : List ℕ) (last : Option Acceptance) → Then past a last → (v : Result PlanCounts BadRecord) → check_plan plan ≡ v
      → Then (opened_past (opened_answer v (length a)) plan past) (opened_area (opened_answer v (length a)) plan a) (by_opening (opened_answer v (length a)) last)
  unfolding opened_answer opened_area opened_past by_opening
  after_opening past plan a last h (Ok counts) e =
      cases (λ (o : Result PlanCounts RefusedPlan). Then (opened_past o plan past) (opened_area o plan a) (by_opening o last)) (leb area_length (length a)) _ _
      (λ long bytes l is.
      record {
        state = begun (said plan);
        held = Held-opened plan a counts.nodes counts.tx counts.rx e (leb-true _ _ long) bytes;
        knows = Knows-nothing plan r (begun (said plan));
      })
      (λ short. h)
  after_opening past plan a last h (Err bad) e = h

  -- ---- a call

  module _ (a : List ℕ) (log : List RxEvent) (last : Option Acceptance) where
    -- what is known before and after it of a state that the area shows
    goes_on :
        (c : Call) (y : Option (List ℕ)) {more : List RxEvent} {newer : Option Acceptance}
        → ((plan : List ℕ) → y ≡ some plan → (row_at plan r).frame ≡ x → r < length (rows_of plan) → (s : State) (h : Held plan a s)
        → Knows plan r s log last → Knows plan r ((running (said plan)).next s c) more newer)
        → KnownIf y a log last → KnownIf y (area_after a c) more newer
    goes_on c none knows h = tt
    goes_on c (some plan) knows h =
        λ bytes l is.
        let k = h bytes l is in
        record {
          state = (running (said plan)).next k.state c;
          held = (follows k.held c).1;
          knows = knows plan refl is l k.state k.held k.knows;
        }

    received : (y : Option (List ℕ)) (n : ℕ) (id : Id) (payload : List ℕ) → KnownIf y a log last
        → KnownIf y (area_after a (reception n id payload)) (log ++ told y (call (reception n id payload)) a)
        (acceptance_after x last (call (reception n id payload)) a)
    unfolding told acceptance_after answer_in
    received y n id payload =
        goes_on (reception n id payload) y
        (λ plan e is l s h k.
        rw (e, ← is) (knows_received h.good r l s h.shape k n id payload _ (sym (follows h (reception n id payload)).0)))

    responded : (y : Option (List ℕ)) (n id : ℕ) (payload : List ℕ) (sum : ℕ) → KnownIf y a log last
        → KnownIf y (area_after a (response n id payload sum)) (log ++ told y (call (response n id payload sum)) a)
        (acceptance_after x last (call (response n id payload sum)) a)
    unfolding told acceptance_after answer_in
    responded y n id payload sum =
        goes_on (response n id payload sum) y
        (λ plan e is l s h k.
        rw (e, ← is) (knows_responded h.good r l s h.shape k n id payload sum _ (sym (follows h (response n id payload sum)).0)))

    silent : (y : Option (List ℕ)) (n id : ℕ) → KnownIf y a log last
        → KnownIf y (area_after a (no_response n id)) (log ++ told y (call (no_response n id)) a) last
    unfolding told answer_in
    silent y n id =
        goes_on (no_response n id) y
        (λ plan e is l s h k. rw e (knows_silent h.good r l s h.shape k n id _ (sym (follows h (no_response n id)).0)))

    ticked : (y : Option (List ℕ)) (report : List ℕ) → KnownIf y a log last
        → KnownIf y (area_after a (tick report)) (log ++ told y (call (tick report)) a) (acceptance_after x last (call (tick report)) a)
    unfolding told acceptance_after answer_in
    ticked y report =
        goes_on (tick report) y
        (λ plan e is l s h k. rw e (knows_ticked h.good r l s h.shape k report _ _ (sym (follows h (tick report)).0)))

    taken : (y : Option (List ℕ)) (n : ℕ) → KnownIf y a log last → KnownIf y (area_after a (take n)) log last
    taken y n = goes_on (take n) y (λ plan e is l s h k. Knows-taken h.good r l s h.shape k n)

    full : (y : Option (List ℕ)) (t : ℕ) → KnownIf y a log last → KnownIf y (area_after a (fullness t)) log last
    full y t = goes_on (fullness t) y (λ plan e is l s h k. Knows-full h.good r l s h.shape k t)

  -- ---- any calls

  after_call : (past : Past) (c : Step) (a : List ℕ) (last : Option Acceptance) → Then past a last
      → Then (past_after past c a) (stepped a c) (acceptance_after x last c a)
  unfolding past_after stepped acceptance_after
  after_call past (opening plan) a last h = after_opening past plan a last h (check_plan plan) refl
  after_call past (call (reception n id payload)) a last h = received a past.log last past.plan n id payload h
  after_call past (call (response n id payload sum)) a last h = responded a past.log last past.plan n id payload sum h
  after_call past (call (no_response n id)) a last h = silent a past.log last past.plan n id h
  after_call past (call (tick report)) a last h = ticked a past.log last past.plan report h
  after_call past (call (take n)) a last h = taken a past.log last past.plan n h
  after_call past (call (fullness t)) a last h = full a past.log last past.plan t h

  after_calls : (past : Past) (cs : List Step) (a : List ℕ) (last : Option Acceptance) → Then past a last
      → Then (past_after_all past cs a) (after_in a cs) (acceptance_after_all x last cs a)
  unfolding past_after_all after_in acceptance_after_all
  after_calls past [] a last h = h
  after_calls past (c ∷ cs) a last h = after_calls (past_after past c a) cs (stepped a c) (acceptance_after x last c a) (after_call past c a last h)

pub known :
    (a : List ℕ) (calls : List Step) (plan : List ℕ) → (past_of calls a).plan ≡ some plan → Bytes plan → (r : ℕ) → r < length (rows_of plan)
    → Known plan r (after_in a calls) (past_of calls a).log (last_acceptance (row_at plan r).frame calls a)
known a calls plan is bytes r l = (rw is at (after_calls (row_at plan r).frame r unopened calls a none tt)) bytes l refl
