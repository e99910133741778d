-- What a caller knows of a source after a response on LIN, and after "no response": they are of a LIN source, and leave every timer.
use mathlib.Core.Path.{◌≡◌, refl, sym, ap, ◌∙◌}
use mathlib.Core.Logic.{⊎_elim}
use mathlib.Core.List.{List, [], ◌∷◌, ◌++◌, append-nil}
use mathlib.Core.Option.{Option}
use Prim.Native.Nat.{ℕ, ◌<◌}
use lib.ListN.{length, get_or}
use Rattle.std.specs.Prelude.{Result, Ok, Err}
use Rattle.records.specs.declared.record.Id.TheVariants.{Standard}
use Rattle.plan.specs.Rows.{rows_of}
use Rattle.facts.specs.Good.{GoodPlan}
use Rattle.area.specs.Claims.{RxEvent, expired}
use Rattle.answers.specs.declared.Refusal.{Refusal}
use Rattle.answers.specs.declared.Responded.{Responded}
use Rattle.answers.specs.declared.Responded.TheVariants.{Accepted, TooShort, WrongSum}
use Rattle.answers.specs.declared.Timeout.{Timeout}
use Rattle.answers.specs.declared.Timeout.TheVariants as silence
use Rattle.tables.specs.Reads.{row_at}
use Rattle.model.specs.Plan.{said, row_in}
use Rattle.model.specs.State.{State}
use Rattle.model.specs.Calls.{response, no_response, responded, silent, Running, running}
use Rattle.model.specs.Words.{LinRow, Polls, Shape}
use Rattle.model.specs.ReceptionRules.{Aside}
use Rattle.model.specs.ResponseRules.{AcceptsResponse}
use Rattle.model.specs.SilenceRules.{Silences}
use Rattle.model.proofs.Meets.{runs}
use Rattle.model.proofs.Outcomes.{order_aside, response_outcome, silence_outcome}
use Rattle.history.specs.Past.{number_for, told_response, told_silence}
use Rattle.history.proofs.Rows.{number_named}
use Rattle.age.specs.Acceptance.{Acceptance, by_response}
use Rattle.age.proofs.Logs.{expired_accepts, expired_anothers}
use Rattle.age.proofs.Knows.{Knows, Knows-still}
use Rattle.age.proofs.KnowsAcceptances.{Knows-accepted}

module _ {plan : List ℕ} (good : GoodPlan plan) (r : ℕ) (l : r < length (rows_of plan)) (s : State) (shape : Shape (said plan) s)
    {log : List RxEvent} {last : Option Acceptance} (k : Knows plan r s log last) (n i : ℕ) where
  abbrev g : Running
  g = running (said plan)

  -- the Rx frame that is asked for is one of a LIN node
  asked_lin : (q : ℕ) → Polls (said plan) n i q → r ≡ q → LinRow (said plan) r
  asked_lin q x e = rw (e, x.names.node) x.lin

  -- ---- a response

  module _ (payload : List ℕ) (sum : ℕ) where
    abbrev z : State
    z = g.next s (response n i payload sum)

    abbrev After : Result Responded Refusal → State → Type 0
    After x z = Knows plan r z (log ++ told_response x (number_for n (Standard i) (rows_of plan)) payload) (by_response (row_at plan r).frame n i payload x last)

    not_accepted : (x : Result Responded Refusal) → (x ≡ Ok Accepted → ⊥) → After x s
    unfolding told_response by_response
    not_accepted (Ok Accepted) d = absurd (d refl)
    not_accepted (Ok TooShort) d = rw (append-nil log) k
    not_accepted (Ok WrongSum) d = rw (append-nil log) k
    not_accepted (Err why) d = rw (append-nil log) k

    accepts : (q : ℕ) → Polls (said plan) n i q → AcceptsResponse (said plan) g s n i payload sum q → After (Ok Accepted) z
    unfolding told_response by_response
    accepts q x w =
        let aside : Aside w.again z = order_aside (said plan) payload (row_in (said plan) q).claims w.again z w.puts in
        Knows-accepted good r l log last n (Standard i) payload q x.names z (λ e c. absurd (c (asked_lin q x e)))
        (λ d. Knows-still (aside.number ∙ w.recounts.number) (ap (λ xs. get_or xs r 0) (aside.rx_timers ∙ w.rx_timers)) k)

    pub knows_responded : (x : Result Responded Refusal) → g.answer s (response n i payload sum) ≡ responded x → After x z
    knows_responded x e =
        ⊎_elim
        (λ (y, d, w).
        let same : x ≡ y = let f = w.answer in cc in
        rw w.stays (not_accepted x (λ is. d (sym same ∙ is))))
        (λ (q, polls, w).
        let same : x ≡ Ok Accepted = let f = w.answer in cc in
        rw same (accepts q polls w))
        (response_outcome (said plan) g (runs plan good) s shape n i payload sum)

  -- ---- no response

  abbrev Silent : Result Timeout Refusal → State → Type 0
  Silent x z = Knows plan r z (log ++ told_silence x (number_for n (Standard i) (rows_of plan))) last

  silences : (x : Result Timeout Refusal) (q : ℕ) → Polls (said plan) n i q → Silences (said plan) q s (g.next s (no_response n i)) → Silent x (g.next s (no_response n i))
  silences x q polls w =
      rw (number_named plan good n (Standard i) q (record { exists = polls.names.exists; node = polls.names.node; id = polls.names.id })) (by_answer x)
    where
      same : Knows plan r (g.next s (no_response n i)) log last
      same = Knows-still w.number (ap (λ xs. get_or xs r 0) w.rx_timers) k

      timeout : Knows plan r (g.next s (no_response n i)) (log ++ expired q ∷ []) last
      timeout =
          record {
            payload = expired_accepts r log q ∙ same.payload;
            timed = λ c h x is. rw (expired_anothers r log q (λ e. c (asked_lin q polls e))) (same.timed c h x is);
          }

      by_answer : (x : Result Timeout Refusal) → Knows plan r (g.next s (no_response n i)) (log ++ told_silence x q) last
      by_answer (Ok silence.Short) = unfold told_silence in timeout
      by_answer (Ok silence.Long) = unfold told_silence in timeout
      by_answer (Err why) = unfold told_silence in rw (append-nil log) same

  pub knows_silent : (x : Result Timeout Refusal) → g.answer s (no_response n i) ≡ silent x → Silent x (g.next s (no_response n i))
  unfolding told_silence
  knows_silent x e =
      ⊎_elim
      (λ (why, w).
      let same : x ≡ Err why = let f = w.answer in cc in
      rw (same, w.stays, append-nil log) k)
      (λ (q, polls, w). silences x q polls w)
      (silence_outcome (said plan) g (runs plan good) s shape n i)
