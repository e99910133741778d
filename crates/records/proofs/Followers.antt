-- Laws of the signal or destination at a place: what stands there by its kind byte, and what a caller that found one knows of the record.
use mathlib.Core.Path.{◌≡◌, refl, sym}
use mathlib.Core.List.{List}
use Prim.Native.Nat.{ℕ, ◌+◌, ◌-◌, ◌≤◌, ◌<◌}
use native.Mathlib.Omega.{arith}
use lib.ListN.{length}
use Rattle.base.proofs.Apart.{differ}
use Rattle.base.specs.Pick.{pick}
use Rattle.base.specs.Numbers.{byte_at}
use Rattle.records.specs.declared.record.SignalBody.{SignalBody}
use Rattle.records.specs.declared.record.DestinationBody.{DestinationBody}
use Rattle.records.specs.declared.record.Follower.TheVariants as follower
use Rattle.records.specs.declared.record.Record.{Record}
use Rattle.records.specs.declared.record.Record.TheVariants.{Head, Node, Tx, Rx, Signal, Destination, Broken}
use Rattle.records.specs.Kinds.{form_of, length_of, tx_record, rx_record, fields_at, kind_of, signal_bytes, destination_bytes}
use Rattle.records.specs.Records.{record_at, size_of}
use Rattle.records.specs.Reading.{step_at, follower_of, follower_at}
use Rattle.records.proofs.RecordLaws.{by_kind_byte, no_fields, by_whole, record_cut, record_whole}

-- ---- by the kind byte

module _ (plan : List ℕ) (at : ℕ) where
  -- a byte that is the kind of neither
  pub follower_other : (byte_at plan at ≡ 5 → ⊥) → (byte_at plan at ≡ 6 → ⊥) → follower.Other ≡ follower_at plan at
  unfolding follower_of fields_at tx_record rx_record form_of pick
  follower_other n5 n6 =
      let kind = byte_at plan at in
      by_whole (λ r. follower.Other ≡ follower_of r) plan at (λ fault. refl)
      (by_kind_byte (λ k. (k ≡ 5 → ⊥) → (k ≡ 6 → ⊥) → follower.Other ≡ follower_of (fields_at k plan at))
      (λ s d. refl) (λ s d. refl) (λ s d. refl) (λ s d. refl) (λ s d. absurd (s refl)) (λ s d. absurd (d refl)) (λ s d. refl) (λ s d. refl) kind
      (λ none s d. rw (← (no_fields kind none plan at))) n5 n6)

module _ (plan : List ℕ) (at : ℕ) (h : at < length plan) where
  pub follower_cut : 0 < length_of (byte_at plan at) → length plan - at < length_of (byte_at plan at) → follower.Other ≡ follower_at plan at
  unfolding follower_of
  follower_cut z l = rw (sym (record_cut plan at h z l))

  pub follower_signal :
      {body : SignalBody} → byte_at plan at ≡ 5 → signal_bytes ≤ length plan - at → Signal body ≡ fields_at 5 plan at
      → follower.Signal body ≡ follower_at plan at
  unfolding follower_of length_of form_of pick
  follower_signal kind l e = rw (← (record_whole plan at h (rw kind (omega arith)) (rw kind l)), kind, ← e)

  pub follower_destination :
      {body : DestinationBody} → byte_at plan at ≡ 6 → destination_bytes ≤ length plan - at → Destination body ≡ fields_at 6 plan at
      → follower.Destination body ≡ follower_at plan at
  unfolding follower_of length_of form_of pick
  follower_destination kind l e = rw (← (record_whole plan at h (rw kind (omega arith)) (rw kind l)), kind, ← e)

-- ---- where one was found, the record is it

is_signal : (r : Record) {body : SignalBody} → follower.Signal body ≡ follower_of r → Signal body ≡ r
unfolding follower_of
is_signal (Signal own) e = cc
is_signal (Head order) e = absurd (differ cc)
is_signal (Node body) e = absurd (differ cc)
is_signal (Tx frame) e = absurd (differ cc)
is_signal (Rx frame) e = absurd (differ cc)
is_signal (Destination body) e = absurd (differ cc)
is_signal (Broken fault) e = absurd (differ cc)

is_destination : (r : Record) {body : DestinationBody} → follower.Destination body ≡ follower_of r → Destination body ≡ r
unfolding follower_of
is_destination (Destination own) e = cc
is_destination (Head order) e = absurd (differ cc)
is_destination (Node body) e = absurd (differ cc)
is_destination (Tx frame) e = absurd (differ cc)
is_destination (Rx frame) e = absurd (differ cc)
is_destination (Signal body) e = absurd (differ cc)
is_destination (Broken fault) e = absurd (differ cc)

module _ (plan : List ℕ) (at : ℕ) where
  pub step_signal :
      {body : SignalBody} → follower.Signal body ≡ follower_at plan at → record { found = Signal body; next = at + signal_bytes } ≡ step_at plan at
  unfolding size_of kind_of length_of form_of pick
  step_signal e = rw (← (is_signal (record_at plan at) e))

  pub step_destination :
      {body : DestinationBody} → follower.Destination body ≡ follower_at plan at
      → record { found = Destination body; next = at + destination_bytes } ≡ step_at plan at
  unfolding size_of kind_of length_of form_of pick
  step_destination e = rw (← (is_destination (record_at plan at) e))
