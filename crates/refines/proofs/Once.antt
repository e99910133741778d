-- Over any openings and calls after an opening, no frame and no request stands twice in a queue.
use mathlib.Core.Path.{◌≡◌, sym, ◌∙◌}
use mathlib.Core.Logic.{◌≢◌}
use mathlib.Core.List.{List, [], ◌∷◌}
use Prim.Native.Nat.{ℕ, ◌<◌}
use native.Mathlib.Omega.{arith}
use lib.ListN.{length, get_or}
use Rattle.std.specs.Prelude.{Result, Ok, Err}
use Rattle.records.specs.declared.record.Entry.{Entry}
use Rattle.plan.specs.Check.{check_plan}
use Rattle.area.specs.Queue.{entry_of, queue_of}
use Rattle.plan.specs.declared.verdict.PlanCounts.{PlanCounts}
use Rattle.answers.specs.declared.RefusedPlan.{RefusedPlan}
use Rattle.opening.specs.Opened.{opened_answer}
use Rattle.sending.proofs.Entries.{entry_one}
use Rattle.model.specs.Opening.{open_answer}
use Rattle.model.specs.Calls.{World, closed, holding, next_from, open_next, Step, opening, call, opened, the_model, world_after, after}
use Rattle.model.proofs.Begins.{mapped_at, mapped-length}
use Rattle.history.specs.Calls.{reply_in, after_in}
use Rattle.refines.specs.Shows.{waiting_on, WaitsOnce}
use Rattle.refines.proofs.Worlds.{Agrees, opening_answer}
use Rattle.refines.proofs.All.{size, after_append, since}

-- a world in which a plan is open
unfoldable Holds : World → Type 0
Holds closed = ⊥
Holds (holding plan s) = Unit {0}

opened_holds : (x : Result PlanCounts RefusedPlan) (w : World) (plan : List ℕ) → Holds w → Holds (open_next x w plan)
unfolding open_next Holds
opened_holds (Ok counts) w plan h = tt
opened_holds (Err refused) w plan h = h

call_holds : (w : World) (c : _) → Holds w → Holds (next_from w c)
unfolding next_from Holds
call_holds closed c h = h
call_holds (holding plan s) c h = tt

all_hold : (room : ℕ) (w : World) (cs : List Step) → Holds w → Holds (after (the_model room) w cs)
unfolding after world_after the_model
all_hold room w [] h = h
all_hold room w (opening plan ∷ cs) h = all_hold room (open_next (open_answer room (check_plan plan)) w plan) cs (opened_holds _ w plan h)
all_hold room w (call c ∷ cs) h = all_hold room (next_from w c) cs (call_holds w c h)

begins : (a plan : List ℕ) (n t r : ℕ) → reply_in a (opening plan) ≡ opened (Ok (record { nodes = n; tx = t; rx = r }))
    → Holds (world_after (the_model (length a)) closed (opening plan))
unfolding reply_in world_after the_model open_next Holds
begins a plan n t r f =
    let is : opened_answer (check_plan plan) (length a) ≡ Ok (record { nodes = n; tx = t; rx = r }) = cc in
    let told : open_answer (length a) (check_plan plan) ≡ Ok (record { nodes = n; tx = t; rx = r }) = sym (opening_answer (length a) (check_plan plan)) ∙ is in
    rw told tt

once : (a : List ℕ) (w : World) → Holds w → Agrees a w → (m : ℕ) → m < 16 → (i j : ℕ) → i < j → j < length (waiting_on a m) → (e : Entry)
    → get_or (waiting_on a m) i e ≢ get_or (waiting_on a m) j e
unfolding Holds Agrees
once a closed h k m below i j l within e same = absurd h
once a (holding plan s) h k m below i j l within e same =
    let q = queue_of a m in
    let some : j < length q = omega (arith, mapped-length entry_of q) in
    (k.ready.queues.queue m below).once i j l some
    (entry_one (sym (mapped_at entry_of 0 e q i (omega arith)) ∙ same ∙ mapped_at entry_of 0 e q j some))

pub waits_once : WaitsOnce
unfolding after
waits_once a before plan n t r f b cs bs =
    let here = after_in a before in
    let x = since (length a) here (size a before) plan f b cs bs in
    let held = all_hold (length a) _ cs (rw (size a before) at (begins here plan n t r f)) in
    rw (after_append a before (opening plan ∷ cs)) (once _ _ held x.1)
