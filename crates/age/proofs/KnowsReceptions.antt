-- What a caller knows of a source after a reception: an accepted one of its own loads its timer.
use mathlib.Core.Path.{◌≡◌, refl, sym, ap, ◌∙◌}
use mathlib.Core.Logic.{inl, ⊎_elim}
use mathlib.Core.List.{List, ◌++◌, append-nil}
use mathlib.Core.Option.{Option}
use Prim.Native.Nat.{ℕ, ◌<◌}
use native.Mathlib.Omega.{arith}
use lib.ListN.{length, get_or}
use Rattle.std.specs.Prelude.{Result, Ok, Err}
use Rattle.records.specs.declared.record.Id.{Id}
use Rattle.plan.specs.Rows.{rows_of}
use Rattle.facts.specs.Good.{GoodPlan}
use Rattle.area.specs.Claims.{RxEvent}
use Rattle.answers.specs.declared.Refusal.{Refusal}
use Rattle.answers.specs.declared.Received.{Received}
use Rattle.answers.specs.declared.Received.TheVariants.{Accepted, NoRow, TooShort}
use Rattle.tables.specs.Reads.{row_at}
use Rattle.model.specs.Plan.{said, row_in}
use Rattle.model.specs.State.{State}
use Rattle.model.specs.Calls.{reception, received, Running, running}
use Rattle.model.specs.Words.{Names, Shape}
use Rattle.model.specs.ReceptionRules.{Aside, Accepts}
use Rattle.model.proofs.Meets.{runs}
use Rattle.model.proofs.Outcomes.{order_aside, reception_outcome}
use Rattle.history.specs.Past.{number_for, told_reception}
use Rattle.age.specs.Acceptance.{Acceptance, by_reception}
use Rattle.age.proofs.Due.{due_loaded, due_least}
use Rattle.age.proofs.Logs.{failed_own}
use Rattle.age.proofs.Knows.{Knows, its_prescaler, Knows-still}
use Rattle.age.proofs.KnowsAcceptances.{Anew, Knows-accepted}

module _ {plan : List ℕ} (good : GoodPlan plan) (r : ℕ) (l : r < length (rows_of plan)) (s : State) (shape : Shape (said plan) s)
    {log : List RxEvent} {last : Option Acceptance} (k : Knows plan r s log last) where
  abbrev g : Running
  g = running (said plan)

  module _ (n : ℕ) (i : Id) (payload : List ℕ) where
    abbrev z : State
    z = g.next s (reception n i payload)

    abbrev After : Result Received Refusal → State → Type 0
    After x z = Knows plan r z (log ++ told_reception x (number_for n i (rows_of plan)) payload) (by_reception (row_at plan r).frame n i payload x last)

    not_accepted : (x : Result Received Refusal) → (x ≡ Ok Accepted → ⊥) → After x s
    unfolding told_reception by_reception
    not_accepted (Ok Accepted) d = absurd (d refl)
    not_accepted (Ok (NoRow place)) d = rw (append-nil log) k
    not_accepted (Ok TooShort) d = rw (append-nil log) k
    not_accepted (Err why) d = rw (append-nil log) k

    module _ (q : ℕ) (names : Names (said plan) n i q) (w : Accepts (said plan) g s n i payload q) where
      aside : Aside w.again z
      aside = order_aside (said plan) payload (row_in (said plan) q).claims w.again z w.puts

      timers : (j v : ℕ) → get_or w.again.rx_timers j 0 ≡ v → get_or z.rx_timers j 0 ≡ v
      timers j v e = ap (λ xs. get_or xs j 0) aside.rx_timers ∙ e

      loaded : r ≡ q → Anew good r l log last n i payload q names z
      loaded e c h x none_yet =
          let holds : get_or z.rx_timers r 0 ≡ (row_at plan r).frame.reload = rw e (timers q _ w.restarts.rx_timers.this) in
          let (ticks, due, few) = due_loaded _ (its_prescaler good r l) z.number (row_at plan r).frame.reload h in
          let least = due_least _ (its_prescaler good r l) _ _ ticks due in
          inl (failed_own r log q payload e, (ticks, rw holds due, omega (arith, few), omega (arith, least)))

      accepts : After (Ok Accepted) z
      unfolding told_reception
      accepts =
          Knows-accepted good r l log last n i payload q names z loaded
          (λ d. Knows-still (aside.number ∙ w.restarts.recounts.number) (timers r _ (w.restarts.rx_timers.others r d)) k)

    pub knows_received : (x : Result Received Refusal) → g.answer s (reception n i payload) ≡ received x → After x z
    knows_received x e =
        ⊎_elim
        (λ (y, d, w).
        let same : x ≡ y = let f = w.answer in cc in
        rw w.stays (not_accepted x (λ is. d (sym same ∙ is))))
        (λ (q, names, not_lin, w).
        let same : x ≡ Ok Accepted = let f = w.answer in cc in
        rw same (accepts q names w))
        (reception_outcome (said plan) g (runs plan good) s shape n i payload)
