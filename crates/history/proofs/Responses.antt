-- A response and "no response", by their answers: either nothing changes, or the lookup has found an Rx frame of a LIN node.
use mathlib.Core.Path.{◌≡◌, refl}
use mathlib.Core.List.{List}
use Prim.Native.Nat.{ℕ, ◌%◌, ◌<◌}
use lib.Dec.{leb, ltb, eqb}
use lib.ListN.{length}
use borrow.Author.Tests.{ltb-true}
use Rattle.std.specs.Prelude.{Result, Ok, Err}
use Rattle.base.specs.Pick.{pick}
use Rattle.base.specs.Numbers.{byte_at}
use Rattle.base.proofs.Apart.{differ}
use Rattle.base.proofs.Picks.{cases}
use Rattle.records.specs.declared.record.Id.TheVariants.{Standard}
use Rattle.records.specs.declared.record.RxNumber.{RxNumber}
use Rattle.records.specs.Nodes.{is_lin}
use Rattle.area.specs.Layout.{long, marked, node_count, type_on, rx_frame}
use Rattle.answers.specs.declared.Refusal.{Refusal}
use Rattle.answers.specs.declared.Refusal.TheVariants.{NotOpen, NoNode, LongPayload, WrongCall}
use Rattle.answers.specs.declared.Responded.{Responded}
use Rattle.answers.specs.declared.Responded.TheVariants.{Accepted, TooShort, WrongSum}
use Rattle.answers.specs.declared.Timeout.{Timeout}
use Rattle.answers.specs.declared.Timeout.TheVariants as silence
use Rattle.reception.specs.declared.lookup.Found.{Found}
use Rattle.reception.specs.declared.lookup.Found.TheVariants.{At, Nothing}
use Rattle.reception.specs.Lookup.{looked_up}
use Rattle.polling.specs.Polling.{polled, is_sum, accepted_area, row_answer, row_area, polled_answer, polled_area, responded_answer, responded_area}
use Rattle.polling.specs.Polling.{silence_of, silenced_by, silent_answer, silent_area}
use Rattle.ticking.specs.Tick.{expired_area}
use Rattle.history.proofs.Pairs.{pairs}

module _ (a : List ℕ) (n id : ℕ) where
  -- what is asked for there is a row that the lookup has found
  polled_found : (r : RxNumber) → polled a n id ≡ At r → looked_up a n (Standard id) ≡ At r
  unfolding polled
  polled_found r = cases (λ x. x ≡ At r → looked_up a n (Standard id) ≡ At r) (is_lin (type_on a n)) _ _ (λ t e. e) (λ t e. absurd (differ cc))

  -- what holds of every answer but an acceptance with the area as it was, and of an acceptance with what it does, holds of a response
  pub by_responded :
      (payload : List ℕ) (sum : ℕ) (P : Result Responded Refusal → List ℕ → Type 0) → ((x : Result Responded Refusal) → (x ≡ Ok Accepted → ⊥) → P x a)
      → (n < node_count a → (r : RxNumber) → looked_up a n (Standard id) ≡ At r → P (Ok Accepted) (accepted_area a (r.0 % 256) payload))
      → P (responded_answer a n id payload sum) (responded_area a n id payload sum)
  unfolding responded_answer responded_area
  by_responded payload sum P other taken =
      pairs P (marked a)
      (λ o. pairs P (ltb n (node_count a)) (λ k. go (ltb-true n (node_count a) k) (polled a n id) refl) (λ k. refuse NoNode))
      (λ o. refuse NotOpen)
    where
      refuse : (why : Refusal) → P (Err why) a
      refuse why = other (Err why) (λ e. differ cc)

      go : n < node_count a → (f : Found) → polled a n id ≡ f → P (polled_answer a f id payload sum) (polled_area a f id payload sum)
      go k (Nothing place) e = unfold polled_answer polled_area in refuse WrongCall
      go k (At r) e = unfold polled_answer polled_area row_answer row_area in
          pairs P (leb (length payload) 8)
          (λ s. pairs P (ltb (length payload) (rx_frame a (r.0 % 256)).size) (λ t. other (Ok TooShort) (λ w. differ cc))
          (λ t. pairs P (is_sum id payload sum) (λ u. taken k r (polled_found r e)) (λ u. other (Ok WrongSum) (λ w. differ cc))))
          (λ s. refuse LongPayload)

  -- the same of "no response": what holds of a refusal with the area as it was, and of an expiry
  pub by_silent :
      (P : Result Timeout Refusal → List ℕ → Type 0) → ((why : Refusal) → P (Err why) a)
      → (n < node_count a → (r : RxNumber) → looked_up a n (Standard id) ≡ At r
      → P (pick (eqb (byte_at a (long (r.0 % 256))) 1) (Ok silence.Long) (Ok silence.Short)) (expired_area a (r.0 % 256)))
      → P (silent_answer a n id) (silent_area a n id)
  unfolding silent_answer silent_area
  by_silent P refused silenced =
      pairs P (marked a)
      (λ o. pairs P (ltb n (node_count a)) (λ k. go (ltb-true n (node_count a) k) (polled a n id) refl) (λ k. refused NoNode))
      (λ o. refused NotOpen)
    where
      go : n < node_count a → (f : Found) → polled a n id ≡ f → P (silence_of a f) (silenced_by a f)
      go k (Nothing place) e = unfold silence_of silenced_by in refused WrongCall
      go k (At r) e = unfold silence_of silenced_by in silenced k r (polled_found r e)
