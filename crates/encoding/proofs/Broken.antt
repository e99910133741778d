-- Where no whole record stands.
use mathlib.Core.Path.{◌≡◌, refl, sym, ap, ◌∙◌}
use mathlib.Core.Logic.{◌⊎◌, inl, inr, ⊎_elim}
use mathlib.Core.List.{List}
use Prim.Native.Nat.{ℕ, ◌+◌, ◌≤◌, ◌<◌}
use native.Mathlib.Decide.{dec_lt, dec_le}
use native.Mathlib.Omega.{arith}
use lib.ListN.{length}
use Rattle.base.proofs.Apart.{differ}
use Rattle.base.specs.Numbers.{byte_at}
use Rattle.base.specs.Pick.{pick}
use Rattle.records.specs.declared.record.Record.TheVariants.{Broken}
use Rattle.records.specs.declared.record.Fault.TheVariants.{BadKind, Cut}
use Rattle.records.specs.Kinds.{form_of, length_of, tx_record, rx_record, fields_at}
use Rattle.records.specs.Records.{record_at}
use Rattle.records.proofs.RecordLaws.{by_kind_byte, no_length, record_end, end_only, record_bad, record_cut, record_whole}
use Rattle.encoding.specs.Encode.{Whole, BrokenExactly}

-- a record of a kind has bytes, and its fields are a whole record
known : (kind : ℕ) → 0 < kind → kind ≤ 8 → 0 < length_of kind
unfolding length_of form_of pick
known kind l h =
    by_kind_byte (λ k. 0 < length_of k) (omega arith) (omega arith) (omega arith) (omega arith) (omega arith) (omega arith) (omega arith) (omega arith) kind
    (λ d. absurd (d l h))

fields_whole : (kind : ℕ) (plan : List ℕ) (at : ℕ) → 0 < kind → kind ≤ 8 → Whole (fields_at kind plan at)
unfolding fields_at tx_record rx_record form_of pick Whole
fields_whole kind plan at l h = by_kind_byte (λ k. Whole (fields_at k plan at)) tt tt tt tt tt tt tt tt kind (λ d. absurd (d l h))

module _ (plan : List ℕ) (at : ℕ) (inside : at < length plan) where
  abbrev kind : ℕ
  kind = byte_at plan at

  abbrev Unknown : Type 0
  Unknown = (kind ≡ 0) ⊎ (8 < kind)

  abbrev Short : ℕ → Type 0
  Short k = (kind ≡ k) × (0 < k) × (k ≤ 8) × (length plan < at + length_of k)

  -- one of three stands there
  bad_there : Unknown → record_at plan at ≡ Broken BadKind
  bad_there w = sym (record_bad plan at inside (sym (no_length kind (λ l h. ⊎_elim (λ e. omega arith) (λ e. omega arith) w))))

  cut_there : (k : ℕ) → Short k → record_at plan at ≡ Broken (Cut k)
  cut_there k w =
      let same : length_of kind ≡ length_of k = ap length_of w.0 in
      sym (record_cut plan at inside (omega (arith, known k w.1 w.2)) (omega arith)) ∙ ap (λ (k : ℕ). Broken (Cut k)) w.0

  Whole-there : 0 < kind → kind ≤ 8 → at + length_of kind ≤ length plan → Whole (record_at plan at)
  Whole-there l h m = rw (← (record_whole plan at inside (known kind l h) (omega arith))) (fields_whole kind plan at l h)

  there : Unknown ⊎ (Short kind ⊎ Whole (record_at plan at))
  there = go (dec_lt 0 kind) (dec_le kind 8) (dec_lt (length plan) (at + length_of kind))
    where
      go : Dec (0 < kind) → Dec (kind ≤ 8) → Dec (length plan < at + length_of kind) → Unknown ⊎ (Short kind ⊎ Whole (record_at plan at))
      go (no l) h m = inl (inl (omega arith))
      go (yes l) (no h) m = inl (inr (omega arith))
      go (yes l) (yes h) (yes m) = inr (inl (refl, l, h, m))
      go (yes l) (yes h) (no m) = inr (inr (Whole-there l h (omega arith)))

  bad_only : record_at plan at ≡ Broken BadKind → Unknown
  unfolding Whole
  bad_only e =
      ⊎_elim (λ w. w)
      (⊎_elim (λ w. let c = cut_there kind w in absurd (differ cc)) (λ w. absurd (rw e at w)))
      there

  cut_only : (k : ℕ) → record_at plan at ≡ Broken (Cut k) → Short k
  unfolding Whole
  cut_only k e =
      ⊎_elim (λ w. let c = bad_there w in absurd (differ cc))
      (⊎_elim
      (λ w. let c = cut_there kind w in let z : kind ≡ k = cc in (z, rw z at w.1, rw z at w.2, rw z at w.3))
      (λ w. absurd (rw e at w)))
      there

pub broken_exactly : BrokenExactly
broken_exactly plan at =
    record {
      end = (end_only plan at, record_end plan at);
      bad = λ h. (bad_only plan at h, bad_there plan at h);
      cut = λ h kind. (cut_only plan at h kind, cut_there plan at h kind);
    }
