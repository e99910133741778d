-- Laws of the input's front and of the event at a place.
use mathlib.Core.Path.{◌≡◌, sym, ap, ◌∙◌}
use mathlib.Core.List.{List}
use Prim.Native.Nat.{ℕ, ◌+◌, ◌-◌, ◌≤◌, ◌<◌}
use native.Mathlib.Omega.{arith}
use borrow.Author.Tests.{le-leb, lt-leb, leb-false, ltb-false, ne_eqb, lt-ltb, le-ltb}
use lib.ListN.{length, take, drop, replicate, length-take}
use lib.Dec.{leb, ltb, eqb}
use Rattle.base.specs.Pick.{pick}
use Rattle.base.specs.Numbers.{byte_at, two_at}
use Rattle.base.proofs.Apart.{differ}
use Rattle.base.proofs.Picks.{picks, passes, cases, by_eqb}
use Rattle.records.specs.Ids.{behind_id}
use Rattle.events.specs.declared.Event.{Event}
use Rattle.events.specs.declared.Event.TheVariants.{Bad}
use Rattle.events.specs.declared.Kind.{Kind}
use Rattle.events.specs.declared.Kind.TheVariants as kind
use Rattle.std.specs.Prelude.{Option, Some, None}
use Rattle.events.specs.Events.{byte_of, front_of, event_length, whole_event, event_at, event_size, Within, payload_at}

-- the input's front, by what decides it
module _ (input : List ℕ) where
  pub front_long : 65536 < length input → None ≡ front_of input
  unfolding front_of pick
  front_long l = rw (lt-ltb _ _ l)

  pub front_cut : length input ≤ 65536 → length input < 2 → None ≡ front_of input
  unfolding front_of pick
  front_cut l c = rw (le-ltb _ _ l, lt-ltb _ _ c)

  pub front_short : length input ≤ 65536 → 2 ≤ length input → length input < 2 + two_at input 0 → None ≡ front_of input
  unfolding front_of pick
  front_short l c s = rw (le-ltb _ _ l, le-ltb _ _ c, lt-ltb _ _ s)

  pub front_plan : length input ≤ 65536 → 2 ≤ length input → 2 + two_at input 0 ≤ length input
      → Some (2 + two_at input 0) ≡ front_of input
  unfolding front_of pick
  front_plan l c s = rw (le-ltb _ _ l, le-ltb _ _ c, le-ltb _ _ s)

-- a byte that is no kind passes every choice by kind
module _ (kind : ℕ) (n16 : kind ≡ 16 → ⊥) (n17 : kind ≡ 17 → ⊥) (n18 : kind ≡ 18 → ⊥) (n19 : kind ≡ 19 → ⊥) (n20 : kind ≡ 20 → ⊥)
    (n21 : kind ≡ 21 → ⊥) where
  no_kind {ℓ} : {A : Type ℓ} (a b c d e f z : A)
      → z ≡ pick (eqb kind 16) a (pick (eqb kind 17) b (pick (eqb kind 18) c (pick (eqb kind 19) d (pick (eqb kind 20) e (pick (eqb kind 21) f z)))))
  unfolding pick
  no_kind a b c d e f z = rw (ne_eqb _ _ n16, ne_eqb _ _ n17, ne_eqb _ _ n18, ne_eqb _ _ n19, ne_eqb _ _ n20, ne_eqb _ _ n21)

  pub no_length : 0 ≡ event_length kind
  unfolding event_length
  no_length = no_kind _ _ _ _ _ _ _

  pub no_event : (input : List ℕ) (at : ℕ) → Bad ≡ whole_event kind input at
  unfolding whole_event
  no_event input at = no_kind _ _ _ _ _ _ _

-- a whole event has the bytes that its kind says
whole_size : (kind : ℕ) (input : List ℕ) (at : ℕ) → event_size (whole_event kind input at) ≡ event_length kind
unfolding whole_event event_size event_length behind_id pick
whole_size kind input at =
    let P : Event → Type 0 = λ e. event_size e ≡ event_length kind in
    by_eqb P kind 16 _ _ (λ e. rw e) (λ n16.
    by_eqb P kind 17 _ _ (λ e. rw e) (λ n17.
    by_eqb P kind 18 _ _ (λ e. rw e) (λ n18.
    by_eqb P kind 19 _ _ (λ e. rw e) (λ n19.
    by_eqb P kind 20 _ _ (λ e. rw e) (λ n20.
    by_eqb P kind 21 _ _ (λ e. rw e) (λ n21. no_length kind n16 n17 n18 n19 n20 n21))))))

-- the event at a place lies within the input
Within-event : (input : List ℕ) (at : ℕ) → Within input at (event_at input at)
unfolding event_at event_size
Within-event input at =
    let kind = byte_at input at in
    cases (Within input at) (leb (length input) at) _ _ (λ t. tt) (λ t.
    cases (Within input at) (ltb (length input - at) (event_length kind)) _ _ (λ s. omega (arith, leb-false)) (λ s.
    omega (arith, ltb-false, leb-false, whole_size kind input at)))

pub event_within : (input : List ℕ) (at : ℕ) {read : Option Event} → read ≡ event_at input at → Within input at read
event_within input at q = rw q (Within-event input at)

-- the event at a place, by what decides it
pub event_end : (input : List ℕ) (at : ℕ) → length input ≤ at → None ≡ event_at input at
unfolding event_at
event_end input at h = sym (picks _ _ _ (le-leb (length input) at h))

module _ (input : List ℕ) (at : ℕ) (h : at < length input) where
  pub event_cut : length input - at < event_length (byte_at input at) → Some Bad ≡ event_at input at
  unfolding event_at pick
  event_cut l = rw (lt-leb _ _ h, lt-ltb _ _ l)

  pub event_whole : event_length (byte_at input at) ≤ length input - at → Some (whole_event (byte_at input at) input at) ≡ event_at input at
  unfolding event_at pick
  event_whole l = rw (lt-leb _ _ h, le-ltb _ _ l)

  -- of no kind
  pub event_unknown : ((k : Kind) → byte_of k ≡ byte_at input at → ⊥) → Some Bad ≡ event_at input at
  event_unknown n =
      let n16 = λ (e : byte_at input at ≡ 16). n kind.Reception (sym e) in
      let n17 = λ (e : byte_at input at ≡ 17). n kind.Tick (sym e) in
      let n18 = λ (e : byte_at input at ≡ 18). n kind.Take (sym e) in
      let n19 = λ (e : byte_at input at ≡ 19). n kind.ExtendedReception (sym e) in
      let n20 = λ (e : byte_at input at ≡ 20). n kind.Response (sym e) in
      let n21 = λ (e : byte_at input at ≡ 21). n kind.NoResponse (sym e) in
      ap (λ (e : Event). Some e) (no_event (byte_at input at) n16 n17 n18 n19 n20 n21 input at)
      ∙ event_whole (omega (arith, no_length (byte_at input at) n16 n17 n18 n19 n20 n21))

-- where there is an event, the input goes on
pub event_before : (input : List ℕ) (at : ℕ) (e : Event) → Some e ≡ event_at input at → at < length input
unfolding event_at
event_before input at e =
    cases (λ (read : Option Event). Some e ≡ read → at < length input) (leb (length input) at) _ _
    (λ t q. absurd (differ cc))
    (λ t q. omega (arith, leb-false))

-- the payload that is handed on
module _ (input : List ℕ) (at : ℕ) where
  pub payload_long : 8 < byte_at input at → payload_at input at ≡ replicate 9 0
  unfolding payload_at
  payload_long l = picks _ _ _ (lt-ltb _ _ l)

  pub payload_short : byte_at input at ≤ 8 → payload_at input at ≡ take (byte_at input at) (drop (at + 1) input)
  unfolding payload_at
  payload_short l = passes _ _ _ (le-ltb _ _ l)

  pub payload_few : length (payload_at input at) ≤ 9
  unfolding payload_at
  payload_few =
      cases (λ (p : List ℕ). length p ≤ 9) (ltb 8 (byte_at input at)) _ _
      (λ t. omega arith)
      (λ t. omega (arith, ltb-false, length-take (byte_at input at) (drop (at + 1) input)))
