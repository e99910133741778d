-- Laws of the record at a place, and of the records from a place on.
use mathlib.Core.Path.{◌≡◌, refl, sym, ap, ◌∙◌}
use mathlib.Core.Bool.{false}
use mathlib.Core.List.{List, [], ◌∷◌}
use Prim.Native.Nat.{ℕ, zero, suc, ◌+◌, ◌-◌, ◌≤◌, ◌<◌}
use native.Mathlib.Nat.{add-zero}
use native.Mathlib.Omega.{arith}
use borrow.Author.Tests.{le-leb, lt-leb, leb-true, leb-false, ltb-false, eqb-false, eq-eqb, ne_eqb, lt-ltb, le-ltb}
use lib.ListN.{length}
use lib.Dec.{leb, ltb, eqb}
use Rattle.base.specs.Pick.{pick}
use Rattle.base.specs.Numbers.{byte_at, two_at, four_at}
use Rattle.base.proofs.Picks.{picks, passes, both, cases, by_eqb}
use Rattle.records.specs.declared.record.Record.{Record}
use Rattle.records.specs.declared.record.Record.TheVariants.{Head, Node, Signal, Destination, Broken}
use Rattle.records.specs.declared.record.Id.{Id}
use Rattle.records.specs.declared.record.Id.TheVariants.{Standard, Extended}
use Rattle.records.specs.declared.record.Fault.{Fault}
use Rattle.records.specs.declared.record.Fault.TheVariants.{End, BadKind, Cut}
use Rattle.records.specs.Kinds.{Form, form_of, length_of, stage_of_kind, tx_at, rx_at, tx_record, rx_record, fields_at, tx_kind, rx_kind, kind_of}
use Rattle.records.specs.declared.decode.Step.{Step}
use Rattle.records.specs.Reading.{step_at}
use Rattle.records.specs.Records.{record_at, size_of, records_from, records_at}

-- a byte that is no kind: the kinds are 1 to 8
abbrev pub NoKind : ℕ → Type 0
NoKind kind = 0 < kind → kind ≤ 8 → ⊥

not_both : {kind : ℕ} → kind ≤ 8 → 8 < kind → ⊥
not_both most past = omega arith

past_four : {kind : ℕ} → 0 < kind → (kind ≡ 1 → ⊥) → (kind ≡ 2 → ⊥) → (kind ≡ 3 → ⊥) → (kind ≡ 4 → ⊥) → 4 < kind
past_four some n1 n2 n3 n4 = omega arith

past_eight : {kind : ℕ} → 4 < kind → (kind ≡ 5 → ⊥) → (kind ≡ 6 → ⊥) → (kind ≡ 7 → ⊥) → (kind ≡ 8 → ⊥) → 8 < kind
past_eight more n5 n6 n7 n8 = omega arith

pub no_kind :
    {kind : ℕ} → (kind ≡ 1 → ⊥) → (kind ≡ 2 → ⊥) → (kind ≡ 3 → ⊥) → (kind ≡ 4 → ⊥) → (kind ≡ 5 → ⊥) → (kind ≡ 6 → ⊥) → (kind ≡ 7 → ⊥) → (kind ≡ 8 → ⊥)
    → NoKind kind
no_kind n1 n2 n3 n4 n5 n6 n7 n8 some most = not_both most (past_eight (past_four some n1 n2 n3 n4) n5 n6 n7 n8)

-- what holds of each kind, and of a byte that is none, holds of every byte
pub by_kind_byte :
    (P : ℕ → Type 0) → P 1 → P 2 → P 3 → P 4 → P 5 → P 6 → P 7 → P 8 → (kind : ℕ) → (NoKind kind → P kind) → P kind
by_kind_byte P p1 p2 p3 p4 p5 p6 p7 p8 kind other =
    let Q : ℕ → Type 0 = λ n. P kind in
    by_eqb Q kind 1 0 0 (λ e. rw e p1) (λ n1.
    by_eqb Q kind 2 0 0 (λ e. rw e p2) (λ n2.
    by_eqb Q kind 3 0 0 (λ e. rw e p3) (λ n3.
    by_eqb Q kind 4 0 0 (λ e. rw e p4) (λ n4.
    by_eqb Q kind 5 0 0 (λ e. rw e p5) (λ n5.
    by_eqb Q kind 6 0 0 (λ e. rw e p6) (λ n6.
    by_eqb Q kind 7 0 0 (λ e. rw e p7) (λ n7.
    by_eqb Q kind 8 0 0 (λ e. rw e p8) (λ n8. other (no_kind n1 n2 n3 n4 n5 n6 n7 n8)))))))))

-- it passes every row of the table: such a record has no length, and no fields
module _ (kind : ℕ) (none : NoKind kind) where
  not_one : (n : ℕ) → 0 < n → n ≤ 8 → eqb kind n ≡ false
  not_one n some most = ne_eqb kind n (λ (e : kind ≡ n). none (omega arith) (omega arith))

  no_form : record { bytes = 0; stage = 0; fields = λ plan at. Broken BadKind } ≡ form_of kind
  unfolding form_of pick
  no_form =
      rw (
        not_one 1 (omega arith) (omega arith),
        not_one 2 (omega arith) (omega arith),
        not_one 3 (omega arith) (omega arith),
        not_one 4 (omega arith) (omega arith),
        not_one 5 (omega arith) (omega arith),
        not_one 6 (omega arith) (omega arith),
        not_one 7 (omega arith) (omega arith),
        not_one 8 (omega arith) (omega arith),
      )

  pub no_length : 0 ≡ length_of kind
  unfolding length_of
  no_length = ap (λ (f : Form). f.bytes) no_form

  pub no_stage : 0 ≡ stage_of_kind kind
  unfolding stage_of_kind
  no_stage = ap (λ (f : Form). f.stage) no_form

  pub no_fields : (plan : List ℕ) (at : ℕ) → Broken BadKind ≡ fields_at kind plan at
  unfolding fields_at
  no_fields plan at = ap (λ (f : Form). f.fields plan at) no_form

-- a whole record has the bytes that its kind says
fields_size : (kind : ℕ) (plan : List ℕ) (at : ℕ) → 0 < length_of kind → size_of (fields_at kind plan at) ≡ length_of kind
unfolding fields_at tx_record rx_record tx_at rx_at size_of kind_of tx_kind rx_kind length_of form_of pick
fields_size kind plan at h =
    by_kind_byte (λ k. size_of (fields_at k plan at) ≡ length_of k) refl refl refl refl refl refl refl refl kind
    (λ none. absurd (omega (arith, no_length kind none)))

-- what holds of every fault, and of the fields of the kind whose byte stands at a place, holds of the record there
pub by_whole :
    (P : Record → Type 0) (plan : List ℕ) (at : ℕ) → ((fault : Fault) → P (Broken fault)) → P (fields_at (byte_at plan at) plan at) → P (record_at plan at)
unfolding record_at
by_whole P plan at broken whole = both P _ _ _ (broken End) (both P _ _ _ (broken BadKind) (both P _ _ _ (broken (Cut _)) whole))

-- ---- what holds of each kind, with the fields that stand there, and of a fault holds of the record at a place

-- an ID that stands in the record at a place
pub data IdAt (plan : List ℕ) (at : ℕ) : Id → Type 0 where
  two : IdAt plan at (Standard (two_at plan (at + 2)))
  four : IdAt plan at (Extended (four_at plan (at + 2)))

module _ (P : Record → Type 0) (plan : List ℕ) (at : ℕ) (broken : (fault : Fault) → P (Broken fault)) (head : P (Head (byte_at plan (at + 1))))
    (node : P (Node (record { of = byte_at plan (at + 1) }))) (tx : (id : Id) → IdAt plan at id → P (tx_record id plan at))
    (rx : (id : Id) → IdAt plan at id → P (rx_record id plan at))
    (signal : P (Signal (record { position = byte_at plan (at + 1); size = byte_at plan (at + 2) })))
    (destination : P (Destination (record { tx = record { 0 = two_at plan (at + 1) }; position = byte_at plan (at + 3) }))) where
  by_fields : (kind : ℕ) → P (fields_at kind plan at)
  unfolding fields_at form_of pick
  by_fields kind =
      by_kind_byte (λ k. P (fields_at k plan at)) head node (tx _ two) (rx _ two) signal destination (tx _ four) (rx _ four) kind
      (λ none. rw (← (no_fields kind none plan at)) (broken BadKind))

  pub by_record : P (record_at plan at)
  by_record = by_whole P plan at broken (by_fields _)

-- a record lies within the plan, and before the end it takes a byte at least
record Within (plan : List ℕ) (at : ℕ) (r : Record) : Type 0 where
  pub room : at ≤ length plan → at + size_of r ≤ length plan
  pub before : at < length plan → 0 < size_of r

Within-record : (plan : List ℕ) (at : ℕ) → Within plan at (record_at plan at)
unfolding record_at size_of
Within-record plan at =
    let kind = byte_at plan at in
    let whole : (r : Record) → 0 < size_of r → at + size_of r ≤ length plan → Within plan at r =
    λ r some fits. record { room = λ h. fits; before = λ h. some } in
    cases (Within plan at) (leb (length plan) at) _ _ (λ t. record { room = λ h. omega arith; before = λ h. omega (arith, leb-true) }) (λ t.
    cases (Within plan at) (eqb (length_of kind) 0) _ _ (λ z. whole _ (omega arith) (omega (arith, leb-false))) (λ z.
    cases (Within plan at) (ltb (length plan - at) (length_of kind)) _ _ (λ s. whole _ (omega arith) (omega (arith, leb-false))) (λ s.
    let some : 0 < length_of kind = omega (arith, eqb-false) in
    let size = fields_size kind plan at some in
    whole _ (omega arith) (omega (arith, ltb-false, leb-false)))))

-- before the end a record takes at least a byte
pub record_some : (plan : List ℕ) (at : ℕ) → at < length plan → 0 < size_of (record_at plan at)
record_some plan at h = (Within-record plan at).before h

-- before the end a reader goes on, and never past it
pub step_onward : (plan : List ℕ) (at : ℕ) → at < length plan → (at < (step_at plan at).next) × ((step_at plan at).next ≤ length plan)
step_onward plan at h = let w = Within-record plan at in (omega (arith, w.before h), w.room (omega arith))

-- a step that was taken there: its record, its place, and that it goes on
pub step_found : (plan : List ℕ) (at : ℕ) {x : Step} → x ≡ step_at plan at → x.found ≡ record_at plan at
step_found plan at e = ap (λ (x : Step). x.found) e

pub step_next : (plan : List ℕ) (at : ℕ) {x : Step} → x ≡ step_at plan at → x.next ≡ (step_at plan at).next
step_next plan at e = ap (λ (x : Step). x.next) e

pub goes_on : (plan : List ℕ) (at : ℕ) {x : Step} → x ≡ step_at plan at → at < length plan → (at < x.next) × (x.next ≤ length plan)
goes_on plan at e h = rw e (step_onward plan at h)

-- the four answers, each by what decides it
pub record_end : (plan : List ℕ) (at : ℕ) → length plan ≤ at → record_at plan at ≡ Broken End
unfolding record_at
record_end plan at h = picks _ _ _ (le-leb (length plan) at h)

module _ (plan : List ℕ) (at : ℕ) (h : at < length plan) where
  pub record_bad : length_of (byte_at plan at) ≡ 0 → Broken BadKind ≡ record_at plan at
  unfolding record_at pick
  record_bad z = rw (lt-leb _ _ h, eq-eqb _ _ z)

  pub record_cut : 0 < length_of (byte_at plan at) → length plan - at < length_of (byte_at plan at) → Broken (Cut (byte_at plan at)) ≡ record_at plan at
  unfolding record_at pick
  record_cut z l = rw (lt-leb _ _ h, ne_eqb (length_of (byte_at plan at)) 0 (λ e. omega arith), lt-ltb _ _ l)

  pub record_whole : 0 < length_of (byte_at plan at) → length_of (byte_at plan at) ≤ length plan - at → fields_at (byte_at plan at) plan at ≡ record_at plan at
  unfolding record_at pick
  record_whole z l = rw (lt-leb _ _ h, ne_eqb (length_of (byte_at plan at)) 0 (λ e. omega arith), le-ltb _ _ l)

-- and with the place behind it
pub step_end : (plan : List ℕ) (at : ℕ) → length plan ≤ at → record { found = Broken End; next = at } ≡ step_at plan at
unfolding size_of
step_end plan at h = rw (record_end plan at h, add-zero at)

module _ (plan : List ℕ) (at : ℕ) (h : at < length plan) where
  pub step_bad : length_of (byte_at plan at) ≡ 0 → record { found = Broken BadKind; next = at + 1 } ≡ step_at plan at
  unfolding size_of
  step_bad z = rw (sym (record_bad plan at h z))

  pub step_cut :
      0 < length_of (byte_at plan at) → length plan - at < length_of (byte_at plan at)
      → record { found = Broken (Cut (byte_at plan at)); next = at + 1 } ≡ step_at plan at
  unfolding size_of
  step_cut z l = rw (sym (record_cut plan at h z l))

  pub step_whole :
      {r : Record} {n : ℕ} → r ≡ fields_at (byte_at plan at) plan at → n ≡ length_of (byte_at plan at) → 0 < n → n ≤ length plan - at
      → record { found = r; next = at + n } ≡ step_at plan at
  step_whole {r} {n} e k z l =
      let some : 0 < length_of (byte_at plan at) = omega arith in
      let f = e ∙ record_whole plan at h some (omega arith) in
      let size : size_of (record_at plan at) ≡ n = ap size_of (sym f ∙ e) ∙ fields_size (byte_at plan at) plan at some ∙ sym k in
      rw (f, size)

-- a record before the end is never the end
pub end_only : (plan : List ℕ) (at : ℕ) → record_at plan at ≡ Broken End → length plan ≤ at
unfolding size_of
end_only plan at e = let before : at < length plan → ⊥ = λ h. omega (arith, record_some plan at h, ap size_of e) in omega arith

-- a larger bound reads the same records
enough : (b c : ℕ) (plan : List ℕ) (at : ℕ) → length plan - at ≤ b → length plan - at ≤ c → records_from b plan at ≡ records_from c plan at
unfolding records_from
enough zero zero plan at hb hc = refl
enough zero (suc c) plan at hb hc = sym (picks _ _ _ (le-leb (length plan) at (omega arith)))
enough (suc b) zero plan at hb hc = picks _ _ _ (le-leb (length plan) at (omega arith))
enough (suc b) (suc c) plan at hb hc =
    cases (λ (rs : List Record). rs ≡ records_from (suc c) plan at) (leb (length plan) at) _ _
    (λ t. sym (picks _ _ _ t))
    (λ t. let some = record_some plan at (leb-false _ _ t) in
    let next = at + size_of (record_at plan at) in
    ap (λ (rs : List Record). record_at plan at ∷ rs) (enough b c plan next (omega arith) (omega arith)) ∙ sym (passes _ _ _ t))

-- at the plan's end there are none
pub records_end : (plan : List ℕ) (at : ℕ) → length plan ≤ at → records_at plan at ≡ []
unfolding records_at records_from
records_end plan at h = let e : length plan - at ≡ 0 = omega arith in rw e

-- before it there is one, and then those from its end on
pub records_step :
    (plan : List ℕ) (at : ℕ) → at < length plan → records_at plan at ≡ record_at plan at ∷ records_at plan (at + size_of (record_at plan at))
unfolding records_at records_from
records_step plan at h =
    let some = record_some plan at h in
    let next = at + size_of (record_at plan at) in
    enough (length plan - at) (suc (length plan - at)) plan at (omega arith) (omega arith) ∙ passes _ _ _ (lt-leb (length plan) at h)
    ∙ ap (λ (rs : List Record). record_at plan at ∷ rs) (enough (length plan - at) (length plan - next) plan next (omega arith) (omega arith))
