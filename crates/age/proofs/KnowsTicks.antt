-- What a caller knows of a source after a tick: it is one tick older, and its timer one tick nearer to its expiry, or expired, as the report says.
use mathlib.Core.Path.{◌≡◌, refl, sym, ap, ◌∙◌}
use mathlib.Core.Logic.{inl, inr, ⊎_elim}
use mathlib.Core.List.{List, ◌++◌, append-nil}
use mathlib.Core.Option.{Option, none, some}
use Prim.Native.Nat.{ℕ, zero, suc, ◌<◌}
use native.Mathlib.Nat.{sub-zero}
use native.Mathlib.Omega.{arith}
use native.Mathlib.Decide.{ℕ_discrete}
use lib.ListN.{length, get_or, take as first_of}
use lib.Seq.{get_or-take}
use Rattle.std.specs.Prelude.{Result, Ok, Err}
use Rattle.base.proofs.Apart.{differ}
use Rattle.plan.specs.Rows.{rows_of}
use Rattle.facts.specs.Good.{GoodPlan}
use Rattle.area.specs.Claims.{RxEvent}
use Rattle.answers.specs.declared.Refusal.{Refusal}
use Rattle.answers.specs.declared.Refusal.TheVariants.{ShortReport}
use Rattle.tables.specs.Reads.{row_at}
use Rattle.model.specs.Plan.{said}
use Rattle.model.specs.State.{State}
use Rattle.model.specs.Calls.{tick, ticked, Running, running}
use Rattle.model.specs.Words.{LinRow, Shape}
use Rattle.model.specs.TickRules.{RxExpires, TimesOut, Done}
use Rattle.model.specs.Rules.{Runs}
use Rattle.model.proofs.Meets.{runs}
use Rattle.model.proofs.Outcomes.{TickOutcome, tick_outcome}
use Rattle.history.specs.Past.{told_report, told_tick}
use Rattle.history.specs.Fresh.{or_else, last_accepted, last_failed}
use Rattle.age.specs.Acceptance.{Acceptance, older, by_tick}
use Rattle.age.proofs.Due.{due_last, due_later, Due-falls}
use Rattle.age.proofs.Logs.{accepted_more, report_accepts, Told, report_tells, failed_stays, failed_now}
use Rattle.age.proofs.Knows.{payload_of, ages_of, Soon, Timed, Knows, its_prescaler}

older_payload : (y : Option Acceptance) → payload_of y ≡ payload_of (older y)
unfolding older
older_payload none = refl
older_payload (some x) = refl

module _ {plan : List ℕ} (good : GoodPlan plan) (r : ℕ) (l : r < length (rows_of plan)) (s : State) (shape : Shape (said plan) s)
    {log : List RxEvent} {last : Option Acceptance} (k : Knows plan r s log last) where
  abbrev g : Running
  g = running (said plan)

  meets : Runs (said plan) (running (said plan))
  meets = runs plan good

  handled : 0 < (row_at plan r).frame.prescaler
  handled = its_prescaler good r l

  module _ (report : List ℕ) where
    abbrev Ticks : Result (Unit {0}) Refusal → List ℕ → State → Type 0
    Ticks x given z = Knows plan r z (log ++ told_tick x (length (rows_of plan)) given) (by_tick x last)

    module _ (w : Done (said plan) g s report) where
      abbrev told : List RxEvent
      told = told_report 0 (first_of (length (rows_of plan)) w.given)

      -- what the report tells of the source
      tells : Told r told (get_or w.given r 0)
      tells =
          rw (ap (λ j. get_or (first_of (length (rows_of plan)) w.given) j 0) (sub-zero r) ∙ get_or-take (length (rows_of plan)) w.given r 0 l)
          at (report_tells r 0 (first_of (length (rows_of plan)) w.given) (omega arith))

      -- a timeout is reported
      reported : TimesOut (said plan) s r → get_or w.given r 0 ≡ 0 → ⊥
      reported x z = go (ℕ_discrete (get_or s.longs r 0) 1)
        where
          go : Dec (get_or s.longs r 0 ≡ 1) → ⊥
          go (yes d) = omega (arith, w.reports.long r x d)
          go (no d) = omega (arith, w.reports.short r x d)

      -- the last tick of those that were left, and any other, of a source that is not LIN
      ticks_on : (LinRow (said plan) r → ⊥) → (x y : Acceptance) → x.ticks ≡ suc y.ticks → last_failed r log ≡ some 0 → Soon plan r s y
          → Timed plan r (g.next s (tick report)) (log ++ told) x
      ticks_on c x y e f (zero, due, few, more) = absurd (omega (arith, due.all))
      ticks_on c x y e f (suc zero, due, few, more) =
          let (divides, one_left) = due_last _ handled _ _ due in
          let expires : RxExpires (said plan) s r = record { frame = l; handled = divides; last = one_left } in
          ⊎_elim (λ (nothing, z). absurd (reported (record { expires = expires; not_lin = c }) z))
          (λ (now, d). inr (failed_now r log told 1 now, omega (arith, more))) tells
      ticks_on c x y e f (suc (suc ticks), due, few, more) =
          let quiet = w.reports.nothing r l (λ z. due_later _ handled _ _ ticks due z.expires.handled z.expires.last) in
          ⊎_elim
          (λ (nothing, z).
          inl (
            failed_stays r log told nothing ∙ f,
            (suc ticks, rw w.ticks.number (Due-falls _ handled _ _ ticks _ _ due (w.ticks.rx_timers r l)), omega (arith, few), omega (arith, more)),
          ))
          (λ (now, d). absurd (d quiet)) tells

      done : Ticks (Ok tt) w.given (g.next s (tick report))
      unfolding told_tick by_tick or_else older
      done =
          record {
            payload =
                accepted_more r log told ∙ ap (λ y. or_else y (last_accepted r log)) (report_accepts r 0 (first_of (length (rows_of plan)) w.given))
                ∙ k.payload ∙ older_payload last;
            timed = λ c h x is. by_last c x h last refl is;
          }
        where
          by_last : (LinRow (said plan) r → ⊥) → (x : Acceptance) → 0 < (row_at plan r).frame.reload → (y : Option Acceptance) → last ≡ y → older y ≡ some x
              → Timed plan r (g.next s (tick report)) (log ++ told) x
          by_last c x h none e is = absurd (differ cc)
          by_last c x h (some y) e is =
              let one_more : x.ticks ≡ suc y.ticks = sym (ap ages_of is) in
              ⊎_elim (λ (f, left). ticks_on c x y one_more f left)
              (λ (f, more).
              inr (⊎_elim (λ (nothing, z). failed_stays r log told nothing ∙ f) (λ (now, d). failed_now r log told 1 now) tells, omega (arith, more)))
              (k.timed c h y e)

    pub knows_ticked : (x : Result (Unit {0}) Refusal) (given : List ℕ) → g.answer s (tick report) ≡ ticked x given → Ticks x given (g.next s (tick report))
    unfolding told_tick by_tick
    knows_ticked x given e = go (tick_outcome (said plan) g meets s shape report)
      where
        go : TickOutcome (said plan) g s report → Ticks x given (g.next s (tick report))
        go (inl (stays, u)) =
            let f = ((meets.tick s shape report).refused u).answer in
            let same : x ≡ Err ShortReport = cc in
            rw (same, stays, append-nil log) k
        go (inr (u, w)) =
            let f = w.answer in
            let same : x ≡ Ok tt = cc in
            let its : given ≡ w.given = cc in
            rw (same, its) (done w)
