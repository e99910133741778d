-- Signals and destinations put nothing into an area, so that a run of them may be passed over.
use Rattle.std.proofs.Common.{◌≡◌, ℕ, ◌+◌, ◌-◌, ◌<◌, ◌≤◌, List, length, take, drop, get_or, refl, ap, ◌∙◌, arith}
use Rattle.std.proofs.lemmas.List.{take_rest, get_or-drop, length-drop}
use Rattle.base.specs.Pick.{pick}
use Rattle.base.specs.Numbers.{byte_at}
use Rattle.records.specs.declared.decode.Step.{Step}
use Rattle.records.specs.Kinds.{signal_bytes, destination_bytes, form_of, length_of, fields_at}
use Rattle.records.specs.Records.{record_at, size_of, records_at}
use Rattle.records.proofs.RecordLaws.{records_step, step_whole}
use Rattle.opening.specs.Opened.{with_record, with_records, Passes}

-- what a pattern says of a plan from a place on
pub begins_with : (plan : List ℕ) (at kind : ℕ) → get_or (take (length plan - at) (drop at plan)) 0 0 ≡ kind → byte_at plan at ≡ kind
begins_with plan at kind e =
    let here : at + 0 ≡ at = omega arith in
    let first : get_or (drop at plan) 0 0 ≡ kind = rw (take_rest plan at) at e in
    rw (get_or-drop at plan 0 0, here) at first

pub are_left : (plan : List ℕ) (at n : ℕ) → n ≤ length (take (length plan - at) (drop at plan)) → n ≤ length plan - at
are_left plan at n h = rw (take_rest plan at, length-drop at plan) at h

pub Passes-none : (plan : List ℕ) (at : ℕ) → at ≤ length plan → Passes plan at at
Passes-none plan at h = record { onward = omega arith; within = h; leaves = λ a. refl }

pub Passes-then : {plan : List ℕ} {i j k : ℕ} → Passes plan i j → Passes plan j k → Passes plan i k
Passes-then p q = record { onward = omega (arith, p.onward, q.onward); within = q.within; leaves = λ a. q.leaves a ∙ p.leaves a }

module _ (plan : List ℕ) (at : ℕ) where
  -- a whole record that leaves every area as it is
  Passes-whole :
      (n : ℕ) → n ≡ length_of (byte_at plan at) → 0 < n → n ≤ length plan - at
      → ((a : List ℕ) → with_record at (fields_at (byte_at plan at) plan at) a ≡ a) → Passes plan at (at + n)
  unfolding with_records
  Passes-whole n is some fits still =
      let here : at < length plan = omega arith in
      let step = step_whole plan at here {r = fields_at (byte_at plan at) plan at} {n = n} refl is some fits in
      let found : fields_at (byte_at plan at) plan at ≡ record_at plan at = ap (λ (x : Step). x.found) step in
      let next : at + n ≡ at + size_of (record_at plan at) = ap (λ (x : Step). x.next) step in
      let first : (a : List ℕ) → with_records at (records_at plan at) a
      ≡ with_records (at + size_of (record_at plan at)) (records_at plan (at + size_of (record_at plan at))) (with_record at (record_at plan at) a) =
      λ a. rw (records_step plan at here) refl in
      record { onward = omega arith; within = omega arith; leaves = λ a. rw (first a, ← next, ← found, still a) }

  pub Passes-signal : byte_at plan at ≡ 5 → signal_bytes ≤ length plan - at → Passes plan at (at + signal_bytes)
  unfolding with_record length_of fields_at form_of pick
  Passes-signal is fits = Passes-whole signal_bytes (rw is) (omega arith) fits (λ a. rw is)

  pub Passes-destination : byte_at plan at ≡ 6 → destination_bytes ≤ length plan - at → Passes plan at (at + destination_bytes)
  unfolding with_record length_of fields_at form_of pick
  Passes-destination is fits = Passes-whole destination_bytes (rw is) (omega arith) fits (λ a. rw is)
