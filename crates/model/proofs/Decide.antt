-- Over any openings and calls, any two gateways that meet the rules are one.
use mathlib.Core.Path.{◌≡◌, refl, sym, ap, ◌∙◌}
use mathlib.Core.List.{List, [], ◌∷◌}
use Prim.Native.Nat.{ℕ, ◌≤◌}
use native.Mathlib.Omega.{arith}
use native.Mathlib.Decide.{dec_le}
use lib.ListN.{get_or}
use Rattle.std.specs.Prelude.{Err, Result, Ok}
use Rattle.base.specs.Numbers.{Bytes}
use Rattle.plan.specs.declared.verdict.Reason.{Reason}
use Rattle.plan.specs.declared.verdict.Reason.TheVariants.{Short, Kind, Place, Count, Range, Order, Data, Owner, Indicator}
use Rattle.plan.specs.declared.verdict.PlanCounts.{PlanCounts}
use Rattle.plan.specs.declared.verdict.BadRecord.{BadRecord}
use Rattle.plan.specs.Check.{check_plan}
use Rattle.plan.specs.Refusals.{number_of}
use Rattle.plan.specs.Shortest.{shortest_area}
use Rattle.facts.specs.Good.{Each}
use Rattle.refusals.specs.Table.{Unrefused}
use Rattle.refusals.proofs.Exactly.{refused_exactly, good_unrefused}
use Rattle.answers.specs.declared.Refusal.TheVariants.{Plan as BadPlan}
use Rattle.model.specs.Plan.{said}
use Rattle.model.specs.Calls.{Call, reception, response, no_response, tick, take, fullness, World, closed, holding, Gateway, Step}
use Rattle.model.specs.Calls.{opening, call, opened, answered, reply_of, world_after, replies, after}
use Rattle.model.specs.Words.{Shape}
use Rattle.model.specs.OpeningRules.{Opens, RefusedOpening, Numbered, Closed, OpeningRules}
use Rattle.model.specs.Rules.{inside, Meets, OfBytes, Same, RulesDecide}
use Rattle.model.proofs.Begins.{one_beginning}
use Rattle.model.proofs.Agrees.{agrees}
use Rattle.model.proofs.Outcomes.{shaped}

-- ---- a number has one reason

unfoldable reason_of : ℕ → Reason
reason_of n = get_or (Indicator ∷ Short ∷ Kind ∷ Place ∷ Count ∷ Range ∷ Order ∷ Data ∷ Owner ∷ []) n Indicator

reason_of-number_of : (reason : Reason) → reason_of (number_of reason) ≡ reason
unfolding reason_of number_of
reason_of-number_of Short = refl
reason_of-number_of Kind = refl
reason_of-number_of Place = refl
reason_of-number_of Count = refl
reason_of-number_of Range = refl
reason_of-number_of Order = refl
reason_of-number_of Data = refl
reason_of-number_of Owner = refl
reason_of-number_of Indicator = refl

pub one_reason : (x y : Reason) → number_of x ≡ number_of y → x ≡ y
one_reason x y e = sym (reason_of-number_of x) ∙ ap reason_of e ∙ reason_of-number_of y

-- ---- one step

-- both give one answer, and leave one world, in which a plan that is open is good and its state has one thing of each kind
unfoldable Sound : World → Type 0
Sound closed = Unit {0}
Sound (holding plan s) = Unrefused plan × Shape (said plan) s

record Steps (g h : Gateway) (w : World) (c : Step) : Type 0 where
  reply : reply_of g w c ≡ reply_of h w c
  world : world_after g w c ≡ world_after h w c
  sound : Sound (world_after g w c)

module _ (room : ℕ) (g h : Gateway) (a : Meets room g) (b : Meets room h) where
  -- ---- an opening

  module _ (w : World) (k : Sound w) (plan : List ℕ) where
    refused : {x y : _} → RefusedOpening g w plan x → RefusedOpening h w plan y → x ≡ y → Steps g h w (opening plan)
    unfolding reply_of world_after
    refused x y e =
        record { reply = ap opened (x.answer ∙ e ∙ sym y.answer); world = x.stays ∙ sym y.stays; sound = rw x.stays k }

    bad : {number at : ℕ} → Numbered g w plan number at → Numbered h w plan number at → Steps g h w (opening plan)
    bad {number} {at} x y =
        refused x.refused y.refused (ap (λ r. Err (record { why = BadPlan r; record_number = at })) (one_reason x.reason y.reason (x.numbered ∙ sym y.numbered)))

    opens : Unrefused plan → Opens g w plan → Opens h w plan → Steps g h w (opening plan)
    unfolding reply_of world_after Sound
    opens u x y =
        record {
          reply = ap opened (x.answer ∙ sym y.answer);
          world = x.begins ∙ ap (holding plan) (one_beginning (said plan) x.state y.state x.initial y.initial) ∙ sym y.begins;
          sound = rw x.begins (u, x.initial.shape);
        }

    step_opening : Bytes plan → Steps g h w (opening plan)
    step_opening bytes = go (check_plan plan) refl
      where
        x : OpeningRules room g w plan
        x = a.opening w plan bytes

        y : OpeningRules room h w plan
        y = b.opening w plan bytes

        fits : Unrefused plan → Dec (shortest_area ≤ room) → Steps g h w (opening plan)
        fits u (yes l) = opens u (x.good u l) (y.good u l)
        fits u (no l) = refused (x.short u (omega arith)) (y.short u (omega arith)) refl

        go : (v : Result PlanCounts BadRecord) → check_plan plan ≡ v → Steps g h w (opening plan)
        go (Err fault) e =
            let r = (refused_exactly plan (number_of fault.reason) fault.record_number).1 (fault.reason, e, refl) in bad (x.bad _ _ r) (y.bad _ _ r)
        go (Ok counts) e = fits (good_unrefused plan counts.nodes counts.tx counts.rx e) (dec_le shortest_area room)

  -- ---- a call

  shut : {c : Call} {x : _} → Closed g c x → Closed h c x → Steps g h closed (call c)
  unfolding reply_of world_after Sound
  shut x y = record { reply = ap answered (x.answer ∙ sym y.answer); world = x.stays ∙ sym y.stays; sound = rw x.stays tt }

  step_call : (w : World) → Sound w → (c : Call) → Steps g h w (call c)
  unfolding reply_of world_after Sound inside
  step_call closed k (reception n id payload) = shut (a.unopened.reception n id payload) (b.unopened.reception n id payload)
  step_call closed k (response n id payload sum) = shut (a.unopened.response n id payload sum) (b.unopened.response n id payload sum)
  step_call closed k (no_response n id) = shut (a.unopened.no_response n id) (b.unopened.no_response n id)
  step_call closed k (tick report) = shut (a.unopened.tick report) (b.unopened.tick report)
  step_call closed k (take n) = shut (a.unopened.take n) (b.unopened.take n)
  step_call closed k (fullness t) = shut (a.unopened.fullness t) (b.unopened.fullness t)
  step_call (holding plan s) (u, k) c =
      let x = agrees (said plan) (inside plan g) (inside plan h) (a.since plan u) (b.since plan u) s k c in
      let p = a.stays plan s c u k in
      let q = b.stays plan s c u k in
      record {
        reply = ap answered x.answer;
        world = p ∙ ap (holding plan) x.next ∙ sym q;
        sound = rw p (u, shaped (said plan) (inside plan g) (a.since plan u) s k c);
      }

  step : (w : World) → Sound w → (c : Step) → OfBytes c → Steps g h w c
  unfolding OfBytes
  step w k (opening plan) bytes = step_opening w k plan bytes
  step w k (call c) bytes = step_call w k c

  -- ---- any steps

  steps : (w : World) → Sound w → (cs : List Step) → Each OfBytes cs → Same g h w cs
  unfolding replies after Each
  steps w k [] bytes = record { replies = refl; world = refl }
  steps w k (c ∷ cs) bytes =
      let x = step w k c bytes.0 in
      let y = steps (world_after g w c) x.sound cs bytes.1 in
      record { replies = rw (x.reply, ← x.world) (ap (λ rest. reply_of h w c ∷ rest) y.replies); world = rw (← x.world) y.world }

pub rules_decide : RulesDecide
unfolding Sound
rules_decide room g h a b cs bytes = steps room g h a b closed tt cs bytes
