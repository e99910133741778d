-- What a caller knows of a source after an acceptance: one of its own begins anew, and anything else leaves it.
use mathlib.Core.Path.{◌≡◌, sym, ap, ◌∙◌}
use mathlib.Core.List.{List, [], ◌∷◌, ◌++◌}
use mathlib.Core.Option.{Option, some}
use Prim.Native.Nat.{ℕ, ◌<◌}
use native.Mathlib.Decide.{ℕ_discrete}
use lib.ListN.{length}
use borrow.Author.Tests.{eq-eqb}
use Rattle.std.specs.Prelude.{Ok}
use Rattle.base.proofs.Picks.{picks, by_eqb, cases}
use Rattle.records.specs.declared.record.Id.{Id}
use Rattle.records.specs.Ids.{same_id}
use Rattle.records.proofs.IdLaws.{same_is}
use Rattle.model.proofs.Ids.{is_same}
use Rattle.plan.specs.Rows.{rows_of}
use Rattle.facts.specs.Good.{GoodPlan}
use Rattle.area.specs.Claims.{RxEvent, accepted}
use Rattle.answers.specs.declared.Received.TheVariants.{Accepted}
use Rattle.tables.specs.Reads.{row_at}
use Rattle.model.specs.Plan.{said}
use Rattle.model.specs.State.{State}
use Rattle.model.specs.Words.{LinRow, Names}
use Rattle.model.proofs.Lawful.{lawful}
use Rattle.history.specs.Past.{number_for}
use Rattle.history.proofs.Rows.{number_named}
use Rattle.age.specs.Acceptance.{Acceptance, by_reception}
use Rattle.age.proofs.Logs.{accepted_own, accepted_other, failed_other}
use Rattle.age.proofs.Knows.{ages_of, Timed, Knows}

-- it is for Rx frame q, which the node and the ID name, and leaves state z
module _ {plan : List ℕ} (good : GoodPlan plan) (r : ℕ) (l : r < length (rows_of plan)) (log : List RxEvent) (last : Option Acceptance)
    (n : ℕ) (i : Id) (payload : List ℕ) (q : ℕ) (names : Names (said plan) n i q) (z : State) where
  abbrev told : List RxEvent
  told = log ++ accepted q payload ∷ []

  -- where it is the source's own, what its timer then is
  abbrev pub Anew : Type 0
  Anew = (LinRow (said plan) r → ⊥) → 0 < (row_at plan r).frame.reload → (x : Acceptance) → x.ticks ≡ 0 → Timed plan r z told x

  abbrev newest : Option Acceptance
  newest = by_reception (row_at plan r).frame n i payload (Ok Accepted) last

  its_own : r ≡ q → Anew → Knows plan r z told newest
  unfolding by_reception
  its_own e anew =
      let node : (row_at plan r).frame.node ≡ n = rw e names.node in
      let id : (row_at plan r).frame.id ≡ i = rw e names.id in
      rw (
        picks _ (some (record { payload = payload; ticks = 0 })) last (is_same _ i id),
        picks _ (some (record { payload = payload; ticks = 0 })) last (eq-eqb _ n node),
      )
      (record { payload = accepted_own r log q payload e; timed = λ c h x is. anew c h x (sym (ap ages_of is)) })

  anothers : (r ≡ q → ⊥) → Knows plan r z log last → Knows plan r z told newest
  unfolding by_reception
  anothers d old =
      by_eqb Then (row_at plan r).frame.node n _ _
      (λ e. cases Then (same_id (row_at plan r).frame.id i) _ _
      (λ f. absurd (d ((lawful plan good).one n i r q (record { exists = l; node = e; id = same_is _ i f }) names))) (λ f. same)) (λ e. same)
    where
      Then : Option Acceptance → Type 0
      Then y = Knows plan r z told y

      same : Knows plan r z told last
      same =
          record {
            payload = accepted_other r log q payload d ∙ old.payload;
            timed = λ c h x is. rw (failed_other r log q payload d) (old.timed c h x is);
          }

  pub Knows-accepted :
      (r ≡ q → Anew) → ((r ≡ q → ⊥) → Knows plan r z log last) → Knows plan r z (log ++ accepted (number_for n i (rows_of plan)) payload ∷ []) newest
  Knows-accepted anew other =
      rw (number_named plan good n i q (record { exists = names.exists; node = names.node; id = names.id })) (go (ℕ_discrete r q))
    where
      go : Dec (r ≡ q) → Knows plan r z told newest
      go (yes e) = its_own e (anew e)
      go (no d) = anothers d (other d)
