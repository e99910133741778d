-- What holds of an area just opened, and is kept by every later call, holds after any calls on any area, of the plan last opened with success
-- and what has happened since.
use mathlib.Core.Path.{◌≡◌, refl}
use mathlib.Core.List.{List, [], ◌∷◌, ◌++◌, append-nil}
use mathlib.Core.Option.{Option, none, some}
use Prim.Native.Nat.{ℕ}
use lib.Dec.{leb}
use lib.ListN.{length}
use borrow.Author.Tests.{leb-true}
use Rattle.std.specs.Prelude.{Result, Ok, Err}
use Rattle.base.proofs.Picks.{cases}
use Rattle.plan.specs.declared.verdict.PlanCounts.{PlanCounts}
use Rattle.plan.specs.declared.verdict.BadRecord.{BadRecord}
use Rattle.plan.specs.Check.{good_with, check_plan}
use Rattle.facts.specs.Good.{GoodPlan}
use Rattle.facts.proofs.GoodFacts.{good_facts}
use Rattle.area.specs.Layout.{area_length, LongEnough}
use Rattle.answers.specs.declared.RefusedPlan.{RefusedPlan}
use Rattle.area.specs.Claims.{RxEvent}
use Rattle.opening.specs.Opened.{opened, opened_answer, opened_area}
use Rattle.tables.specs.Reads.{Reads, Begun}
use Rattle.tables.proofs.Opened.{opened_reads}
use Rattle.model.specs.Calls.{Step, opening, reception, response, no_response, tick, take, fullness, call}
use Rattle.history.specs.Calls.{area_after, stepped, after_in}
use Rattle.history.specs.Past.{Past, unopened, opened_past, told, past_after, past_after_all, past_of}
use Rattle.history.proofs.Later.{Later, Reads-after}

-- Q of the plan, of what has happened since it was opened, and of the area, which holds it
pub record Held (Q : List ℕ → List RxEvent → List ℕ → Type 0) (plan : List ℕ) (log : List RxEvent) (a : List ℕ) : Type 0 where
  pub good : GoodPlan plan
  pub reads : Reads plan a
  pub holds : Q plan log a

-- where a plan has been opened
abbrev HeldIf : (List ℕ → List RxEvent → List ℕ → Type 0) → Option (List ℕ) → List RxEvent → List ℕ → Type 0
HeldIf Q none log a = Unit {0}
HeldIf Q (some plan) log a = Held Q plan log a

module _ (Q : List ℕ → List RxEvent → List ℕ → Type 0)
    (begins : (plan a : List ℕ) → GoodPlan plan → Reads plan a → Begun plan a → Q plan [] a)
    (goes_on : (plan : List ℕ) → GoodPlan plan → (log : List RxEvent) (c : Step) → Later c → (a : List ℕ) → Reads plan a → Q plan log a
    → Q plan (log ++ told (some plan) c a) (stepped a c)) where
  abbrev Then : Past → List ℕ → Type 0
  Then past a = HeldIf Q past.plan past.log a

  -- ---- an opening

  begun : (plan a : List ℕ) (n t r : ℕ) → check_plan plan ≡ good_with n t r → LongEnough a → Held Q plan [] (opened plan a)
  begun plan a n t r e long =
      let good = (good_facts plan n t r e).0 in
      let x = opened_reads plan a n t r e long in
      record { good = good; reads = x.0; holds = begins plan (opened plan a) good x.0 x.1 }

  -- a refused one leaves the past and the area
  after_opening :
      (past : Past) (plan a : List ℕ) → Then past a → (v : Result PlanCounts BadRecord) → check_plan plan ≡ v
      → Then (opened_past (opened_answer v (length a)) plan past) (opened_area (opened_answer v (length a)) plan a)
  unfolding opened_answer opened_area opened_past
  after_opening past plan a h (Ok counts) e =
      cases (λ (x : Result PlanCounts RefusedPlan). Then (opened_past x plan past) (opened_area x plan a)) (leb area_length (length a)) _ _
      (λ long. begun plan a counts.nodes counts.tx counts.rx e (leb-true _ _ long))
      (λ short. h)
  after_opening past plan a h (Err bad) e = h

  -- ---- a later call

  more : (x : Option (List ℕ)) (log : List RxEvent) (c : Step) → Later c → (a : List ℕ) → HeldIf Q x log a → HeldIf Q x (log ++ told x c a) (stepped a c)
  more none log c later a h = tt
  more (some plan) log c later a h =
      record {
        good = h.good;
        reads = Reads-after plan h.good c later a h.reads;
        holds = goes_on plan h.good log c later a h.reads h.holds;
      }

  -- one that tells nothing
  quiet :
      (x : Option (List ℕ)) (log : List RxEvent) (c : Step) → Later c → (a : List ℕ) → ((plan : List ℕ) → told (some plan) c a ≡ []) → HeldIf Q x log a
      → HeldIf Q x log (stepped a c)
  quiet none log c later a silent h = tt
  quiet (some plan) log c later a silent h =
      let e : log ++ told (some plan) c a ≡ log = rw (silent plan) (append-nil log) in rw e at (more (some plan) log c later a h)

  -- ---- any calls

  after_call : (past : Past) (c : Step) (a : List ℕ) → Then past a → Then (past_after past c a) (stepped a c)
  unfolding past_after area_after stepped told
  after_call past (opening plan) a h = after_opening past plan a h (check_plan plan) refl
  after_call past (call (reception n id payload)) a h = more past.plan past.log (call (reception n id payload)) tt a h
  after_call past (call (response n id payload sum)) a h = more past.plan past.log (call (response n id payload sum)) tt a h
  after_call past (call (no_response n id)) a h = more past.plan past.log (call (no_response n id)) tt a h
  after_call past (call (tick report)) a h = more past.plan past.log (call (tick report)) tt a h
  after_call past (call (take n)) a h = quiet past.plan past.log (call (take n)) tt a (λ plan. refl) h
  after_call past (call (fullness t)) a h = quiet past.plan past.log (call (fullness t)) tt a (λ plan. refl) h

  after_calls : (past : Past) (cs : List Step) (a : List ℕ) → Then past a → Then (past_after_all past cs a) (after_in a cs)
  unfolding past_after_all after_in
  after_calls past [] a h = h
  after_calls past (c ∷ cs) a h = after_calls (past_after past c a) cs (stepped a c) (after_call past c a h)

  pub always :
      (a : List ℕ) (calls : List Step) (plan : List ℕ) → (past_of calls a).plan ≡ some plan → Held Q plan (past_of calls a).log (after_in a calls)
  always a calls plan is = rw is at (after_calls unopened calls a tt)
