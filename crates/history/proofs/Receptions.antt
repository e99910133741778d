-- A reception, a response and "no response" turn a number that goes by the events (`Turns`) as their answers tell: by an acceptance or an expiry of the
-- plan's Rx frame of that node and ID, or not at all.
use mathlib.Core.Path.{◌≡◌, refl}
use mathlib.Core.List.{List}
use Prim.Native.Nat.{ℕ, ◌<◌}
use native.Mathlib.Omega.{arith}
use lib.Dec.{eqb}
use lib.ListN.{length}
use Rattle.std.specs.Prelude.{Result, Ok, Err}
use Rattle.base.specs.Numbers.{byte_at}
use Rattle.base.proofs.Picks.{both}
use Rattle.records.specs.declared.record.Id.{Id}
use Rattle.records.specs.declared.record.Id.TheVariants.{Standard}
use Rattle.plan.specs.Rows.{rows_of}
use Rattle.facts.specs.Good.{GoodPlan}
use Rattle.answers.specs.declared.Refusal.{Refusal}
use Rattle.answers.specs.declared.Received.{Received}
use Rattle.answers.specs.declared.Received.TheVariants.{Accepted, NoRow, TooShort}
use Rattle.answers.specs.declared.Responded.{Responded}
use Rattle.answers.specs.declared.Responded.TheVariants as responded
use Rattle.answers.specs.declared.Timeout.{Timeout}
use Rattle.answers.specs.declared.Timeout.TheVariants as silence
use Rattle.area.specs.Layout.{long}
use Rattle.area.specs.Claims.{RxEvent, accepted}
use Rattle.reception.specs.Reception.{accepted_area, received_answer, received_area}
use Rattle.polling.specs.Polling.{accepted_area as responded_with, responded_answer, responded_area, silent_answer, silent_area}
use Rattle.ticking.specs.Tick.{expired_area}
use Rattle.tables.specs.Reads.{Reads}
use Rattle.history.specs.Past.{number_for, told_reception, told_response, told_silence}
use Rattle.history.proofs.Rows.{number_named}
use Rattle.history.proofs.Named.{reception_cases, response_cases, by_silence}
use Rattle.history.proofs.Again.{again_restarted, again_long}
use Rattle.history.proofs.Replay.{replay}
use Rattle.history.proofs.Turns.{Turns}

module _ {plan : List ℕ} (good : GoodPlan plan) {P : ℕ → Type 0} {now : List ℕ → ℕ} {turn : ℕ → RxEvent → ℕ} (u : Turns plan P now turn) (a : List ℕ)
    (reads : Reads plan a) where
  -- ---- an acceptance, on CAN and on LIN

  module _ (r : ℕ) (payload : List ℕ) (h : r < length (rows_of plan)) where
    pub accepted_turns : now (accepted_area a r payload) ≡ turn (now a) (accepted r payload)
    unfolding accepted_area
    accepted_turns = u.accepts a _ reads r payload h (again_restarted a r (omega (arith, good.counts.rx)))

    pub responded_turns : now (responded_with a r payload) ≡ turn (now a) (accepted r payload)
    unfolding responded_with
    responded_turns = u.accepts a _ reads r payload h (again_long a r (omega (arith, good.counts.rx)))

  -- ---- the calls

  module _ (n : ℕ) where
    pub reception_turns :
        (id : Id) (payload : List ℕ)
        → now (received_area a n id payload)
        ≡ replay turn (told_reception (received_answer a n id payload) (number_for n id (rows_of plan)) payload) (now a)
    unfolding told_reception replay
    reception_turns id payload =
        reception_cases plan good a reads n id payload (λ x c. now c ≡ replay turn (told_reception x (number_for n id (rows_of plan)) payload) (now a)) other
        (λ r x. rw (number_named plan good n id r x) (accepted_turns r payload x.exists))
      where
        other : (x : Result Received Refusal) → (x ≡ Ok Accepted → ⊥) → now a ≡ replay turn (told_reception x (number_for n id (rows_of plan)) payload) (now a)
        other (Ok Accepted) d = absurd (d refl)
        other (Ok (NoRow place)) d = refl
        other (Ok TooShort) d = refl
        other (Err why) d = refl

    abbrev number : ℕ → ℕ
    number id = number_for n (Standard id) (rows_of plan)

    pub response_turns :
        (id : ℕ) (payload : List ℕ) (sum : ℕ)
        → now (responded_area a n id payload sum)
        ≡ replay turn (told_response (responded_answer a n id payload sum) (number id) payload) (now a)
    unfolding told_response replay
    response_turns id payload sum =
        response_cases plan good a reads n id payload sum (λ x c. now c ≡ replay turn (told_response x (number id) payload) (now a)) other
        (λ r x. rw (number_named plan good n (Standard id) r x) (responded_turns r payload x.exists))
      where
        other : (x : Result Responded Refusal) → (x ≡ Ok responded.Accepted → ⊥) → now a ≡ replay turn (told_response x (number id) payload) (now a)
        other (Ok responded.Accepted) d = absurd (d refl)
        other (Ok responded.TooShort) d = refl
        other (Ok responded.WrongSum) d = refl
        other (Err why) d = refl

    -- long or short, it is an expiry
    pub silence_turns : (id : ℕ) → now (silent_area a n id) ≡ replay turn (told_silence (silent_answer a n id) (number id)) (now a)
    unfolding told_silence replay
    silence_turns id =
        by_silence plan good a reads n id (λ x c. now c ≡ replay turn (told_silence x (number id)) (now a)) (λ why. refl)
        (λ r x.
        let turns = u.expires a reads r x.exists in
        rw (number_named plan good n (Standard id) r x)
        (both (λ (y : Result Timeout Refusal). now (expired_area a r) ≡ replay turn (told_silence y r) (now a)) (eqb (byte_at a (long r)) 1) (Ok silence.Long) (Ok silence.Short)
        turns turns))
