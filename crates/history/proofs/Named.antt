-- A reception, a response and "no response" on an area that holds a good plan, by their answers: either nothing changes, or they are for the plan's Rx
-- frame that the node and the ID name.
use mathlib.Core.Path.{◌≡◌}
use mathlib.Core.List.{List}
use Prim.Native.Nat.{ℕ, ◌%◌}
use native.Mathlib.Nat.{mod-eq_of_lt}
use native.Mathlib.Omega.{arith}
use lib.Dec.{eqb}
use Rattle.std.specs.Prelude.{Result, Ok, Err}
use Rattle.base.specs.Pick.{pick}
use Rattle.base.specs.Numbers.{byte_at}
use Rattle.records.specs.declared.record.Id.{Id}
use Rattle.records.specs.declared.record.Id.TheVariants.{Standard}
use Rattle.records.specs.declared.record.RxNumber.{RxNumber}
use Rattle.facts.specs.Good.{GoodPlan}
use Rattle.area.specs.Layout.{long}
use Rattle.answers.specs.declared.Refusal.{Refusal}
use Rattle.answers.specs.declared.Received.{Received}
use Rattle.answers.specs.declared.Received.TheVariants as received
use Rattle.answers.specs.declared.Responded.{Responded}
use Rattle.answers.specs.declared.Responded.TheVariants as responded
use Rattle.answers.specs.declared.Timeout.{Timeout}
use Rattle.answers.specs.declared.Timeout.TheVariants as silence
use Rattle.reception.specs.Reception.{accepted_area, received_answer, received_area}
use Rattle.reception.proofs.ReceptionLaws.{by_answer}
use Rattle.polling.specs.Polling.{accepted_area as responded_with, responded_answer, responded_area, silent_answer, silent_area}
use Rattle.ticking.specs.Tick.{expired_area}
use Rattle.tables.specs.Reads.{Reads}
use Rattle.tables.specs.Statements.{Names}
use Rattle.history.proofs.Rows.{row_named}
use Rattle.history.proofs.Responses.{by_responded, by_silent}

module _ (plan : List ℕ) (good : GoodPlan plan) (a : List ℕ) (reads : Reads plan a) (n : ℕ) where
  pub reception_cases :
      (id : Id) (payload : List ℕ) (P : Result Received Refusal → List ℕ → Type 0) → ((x : Result Received Refusal) → (x ≡ Ok received.Accepted → ⊥) → P x a)
      → ((r : ℕ) → Names plan n id r → P (Ok received.Accepted) (accepted_area a r payload)) → P (received_answer a n id payload) (received_area a n id payload)
  reception_cases id payload P other taken =
      by_answer a n id payload P other (λ r f. taken r.0 (row_named plan good a reads n id f.known r f.found))

  -- the number that a LIN call brings into range is in range
  named_in_range : (id : Id) (r : RxNumber) → Names plan n id r.0 → r.0 % 256 ≡ r.0
  named_in_range id r x = mod-eq_of_lt (omega (arith, x.exists, good.counts.rx))

  pub response_cases :
      (id : ℕ) (payload : List ℕ) (sum : ℕ) (P : Result Responded Refusal → List ℕ → Type 0) → ((x : Result Responded Refusal) → (x ≡ Ok responded.Accepted → ⊥) → P x a)
      → ((r : ℕ) → Names plan n (Standard id) r → P (Ok responded.Accepted) (responded_with a r payload))
      → P (responded_answer a n id payload sum) (responded_area a n id payload sum)
  response_cases id payload sum P other taken =
      by_responded a n id payload sum P other
      (λ k r e. let x = row_named plan good a reads n (Standard id) k r e in rw (named_in_range (Standard id) r x) (taken r.0 x))

  pub by_silence :
      (id : ℕ) (P : Result Timeout Refusal → List ℕ → Type 0) → ((why : Refusal) → P (Err why) a)
      → ((r : ℕ) → Names plan n (Standard id) r → P (pick (eqb (byte_at a (long r)) 1) (Ok silence.Long) (Ok silence.Short)) (expired_area a r))
      → P (silent_answer a n id) (silent_area a n id)
  by_silence id P refused silenced =
      by_silent a n id P refused (λ k r e. let x = row_named plan good a reads n (Standard id) k r e in rw (named_in_range (Standard id) r x) (silenced r.0 x))
