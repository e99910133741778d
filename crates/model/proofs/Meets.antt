-- The model meets all rules.
use mathlib.Core.Path.{◌≡◌, refl}
use mathlib.Core.List.{List}
use Prim.Native.Nat.{ℕ}
use borrow.Author.Tests.{le-leb, lt-leb}
use Rattle.base.specs.Numbers.{Bytes}
use Rattle.base.specs.Pick.{pick}
use Rattle.records.specs.Records.{records}
use Rattle.plan.specs.Check.{good_with, check_plan}
use Rattle.plan.specs.Shortest.{shortest_area}
use Rattle.facts.specs.Good.{count_of, GoodPlan}
use Rattle.facts.proofs.GoodFacts.{good_facts}
use Rattle.refusals.specs.Table.{Unrefused}
use Rattle.refusals.proofs.Exactly.{refused_exactly, good_exactly}
use Rattle.model.specs.Plan.{said}
use Rattle.model.specs.Opening.{begun, open_answer}
use Rattle.model.specs.Calls.{running, World, the_model, answer_from, next_from, open_next, refused_closed}
use Rattle.model.specs.OpeningRules.{OpeningRules, ClosedRules}
use Rattle.model.specs.Rules.{Runs, state_in, inside, ModelMeets}
use Rattle.model.proofs.PlanBytes.{plan-payload}
use Rattle.model.proofs.Lawful.{lawful}
use Rattle.model.proofs.Begins.{begins}
use Rattle.model.proofs.MeetsTake.{meets_take, meets_fullness}
use Rattle.model.proofs.MeetsTick.{meets_tick}
use Rattle.model.proofs.MeetsReception.{meets_reception}
use Rattle.model.proofs.MeetsResponse.{meets_response, meets_silence}

-- ---- opening

pub good_checked : (plan : List ℕ) → Unrefused plan → check_plan plan ≡ good_with (count_of 2 (records plan)) (count_of 3 (records plan)) (count_of 4 (records plan))
good_checked plan u = (good_exactly plan).1 u

pub good_plan : (plan : List ℕ) → Unrefused plan → GoodPlan plan
good_plan plan u = (good_facts plan _ _ _ (good_checked plan u)).0

meets_opening : (room : ℕ) (w : World) (plan : List ℕ) → Bytes plan → OpeningRules room (the_model room) w plan
unfolding the_model open_answer open_next pick
meets_opening room w plan b =
    record {
      bad =
          λ number at x.
          let y = (refused_exactly plan number at).0 x in
          record { reason = y.0; numbered = y.2; refused = record { answer = rw y.1; stays = rw y.1 } };
      short =
          λ u l. let e = good_checked plan u in let k = lt-leb shortest_area room l in record { answer = rw (e, k); stays = rw (e, k) };
      good =
          λ u l.
          let e = good_checked plan u in
          let k = le-leb shortest_area room l in
          record { answer = rw (e, k); state = begun (said plan); begins = rw (e, k); initial = begins (said plan) (plan-payload plan b) };
    }

meets_closed : (room : ℕ) → ClosedRules (the_model room)
unfolding the_model answer_from next_from refused_closed
meets_closed room =
    record {
      reception = λ n id payload. record { answer = refl; stays = refl };
      response = λ n id payload sum. record { answer = refl; stays = refl };
      no_response = λ n id. record { answer = refl; stays = refl };
      tick = λ report. record { answer = refl; stays = refl };
      take = λ n. record { answer = refl; stays = refl };
      fullness = λ t. record { answer = refl; stays = refl };
    }

-- ---- the calls on an open plan

pub runs : (plan : List ℕ) → GoodPlan plan → Runs (said plan) (running (said plan))
unfolding running
runs plan good =
    let p = said plan in
    let l = lawful plan good in
    record {
      reception = meets_reception p l;
      response = meets_response p l;
      no_response = meets_silence p l;
      tick = λ s h. meets_tick p l s h;
      take = λ s h. meets_take p s h;
      fullness = λ s h. meets_fullness p s;
    }

meets_runs : (room : ℕ) (plan : List ℕ) → Unrefused plan → Runs (said plan) (inside plan (the_model room))
unfolding the_model answer_from next_from inside state_in running
meets_runs room plan u = runs plan (good_plan plan u)

pub model_meets : ModelMeets
unfolding the_model next_from inside state_in
model_meets room =
    record {
      opening = meets_opening room;
      unopened = meets_closed room;
      since = meets_runs room;
      stays = λ plan s c u h. refl;
    }
