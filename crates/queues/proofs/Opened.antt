-- After any openings and calls on any area, the area shows a state of the plan last opened with success.
use mathlib.Core.Path.{◌≡◌, refl}
use mathlib.Core.List.{List, [], ◌∷◌, map}
use mathlib.Core.Option.{Option, none, some}
use Prim.Native.Nat.{ℕ}
use lib.Dec.{leb}
use lib.ListN.{length}
use borrow.Author.Tests.{leb-true}
use Rattle.std.specs.Prelude.{Result, Ok, Err}
use Rattle.base.specs.Numbers.{Bytes}
use Rattle.base.proofs.Picks.{cases}
use Rattle.plan.specs.declared.verdict.PlanCounts.{PlanCounts}
use Rattle.plan.specs.declared.verdict.BadRecord.{BadRecord}
use Rattle.plan.specs.Check.{check_plan}
use Rattle.area.specs.Layout.{area_length}
use Rattle.answers.specs.declared.RefusedPlan.{RefusedPlan}
use Rattle.opening.specs.Opened.{opened_answer, opened_area}
use Rattle.model.specs.Plan.{said}
use Rattle.model.specs.State.{State}
use Rattle.model.specs.Opening.{begun}
use Rattle.model.specs.Calls.{Call, reception, response, no_response, tick, take, fullness, next_of, Step, opening, call}
use Rattle.history.specs.Calls.{area_after, stepped, after_in}
use Rattle.history.specs.Past.{Past, unopened, opened_past, past_after, past_after_all, past_of}
use Rattle.refines.proofs.Held.{Held}
use Rattle.refines.proofs.Opened.{Held-opened}
use Rattle.refines.proofs.Worlds.{follows}

-- the area shows a state of the plan
pub record IsOpen (plan a : List ℕ) : Type 0 where
  pub state : State
  pub held : Held plan a state

-- ---- calls, none of them an opening

pub open_after : {plan a : List ℕ} → IsOpen plan a → (c : Call) → IsOpen plan (area_after a c)
open_after {plan} o c = record { state = next_of (said plan) o.state c; held = (follows o.held c).held }

pub open_later : {plan a : List ℕ} → IsOpen plan a → (cs : List Call) → IsOpen plan (after_in a (map call cs))
unfolding after_in stepped
open_later o [] = o
open_later {a = a} o (c ∷ cs) = open_later {a = area_after a c} (open_after o c) cs

-- ---- any openings and calls

-- where a plan has been opened
abbrev OpenIf : Option (List ℕ) → List ℕ → Type 0
OpenIf none a = Unit {0}
OpenIf (some plan) a = Bytes plan → IsOpen plan a

-- a refused opening leaves all
after_opening :
    (past : Past) (plan a : List ℕ) → OpenIf past.plan a → (v : Result PlanCounts BadRecord) → check_plan plan ≡ v
    → OpenIf (opened_past (opened_answer v (length a)) plan past).plan (opened_area (opened_answer v (length a)) plan a)
unfolding opened_answer opened_area opened_past
after_opening past plan a o (Ok counts) e =
    cases (λ (x : Result PlanCounts RefusedPlan). OpenIf (opened_past x plan past).plan (opened_area x plan a)) (leb area_length (length a)) _ _
    (λ long bytes. record { state = begun (said plan); held = Held-opened plan a counts.nodes counts.tx counts.rx e (leb-true _ _ long) bytes })
    (λ short. o)
after_opening past plan a o (Err bad) e = o

after_call : (x : Option (List ℕ)) (a : List ℕ) → OpenIf x a → (c : Call) → OpenIf x (area_after a c)
after_call none a o c = tt
after_call (some plan) a o c = λ bytes. open_after (o bytes) c

-- no call opens another plan
plan_stays : (past : Past) (c : Call) (a : List ℕ) → (past_after past (call c) a).plan ≡ past.plan
unfolding past_after
plan_stays past (reception n id payload) a = refl
plan_stays past (response n id payload sum) a = refl
plan_stays past (no_response n id) a = refl
plan_stays past (tick report) a = refl
plan_stays past (take n) a = refl
plan_stays past (fullness t) a = refl

after_steps : (past : Past) (cs : List Step) (a : List ℕ) → OpenIf past.plan a → OpenIf (past_after_all past cs a).plan (after_in a cs)
unfolding past_after_all past_after after_in stepped
after_steps past [] a o = o
after_steps past (opening plan ∷ cs) a o = after_steps _ cs _ (after_opening past plan a o (check_plan plan) refl)
after_steps past (call c ∷ cs) a o =
    after_steps (past_after past (call c) a) cs (area_after a c) (rw (plan_stays past c a) (after_call past.plan a o c))

pub opened : (a : List ℕ) (calls : List Step) (plan : List ℕ) → Bytes plan → (past_of calls a).plan ≡ some plan → IsOpen plan (after_in a calls)
opened a calls plan bytes is = (rw is at (after_steps unopened calls a tt)) bytes
