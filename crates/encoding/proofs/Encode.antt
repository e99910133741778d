-- What is decoded is encoded.
use mathlib.Core.Path.{◌≡◌, refl, sym, ap, ◌∙◌}
use mathlib.Core.Logic.{dite}
use mathlib.Core.List.{List, [], ◌∷◌, ◌++◌}
use Prim.Native.Nat.{ℕ, zero, suc, ◌+◌, ◌-◌, ◌*◌, ◌/◌, ◌%◌, ◌≤◌, ◌<◌}
use native.Mathlib.Decide.{dec_lt}
use native.Mathlib.Omega.{arith}
use native.Mathlib.Nat.{add-zero}
use borrow.Author.Tests.{ltb-false, eqb-false}
use lib.Dec.{leb, ltb, eqb}
use lib.ListN.{length, drop, drop_of_length-le}
use lib.Seq.{drop-cons}
use Rattle.base.specs.Pick.{pick}
use Rattle.base.specs.Numbers.{byte_at, two_at, four_at, Bytes}
use Rattle.base.proofs.Picks.{cases}
use Rattle.records.specs.declared.record.Id.TheVariants.{Standard, Extended}
use Rattle.records.specs.declared.record.Record.{Record}
use Rattle.records.specs.declared.record.Record.TheVariants.{Head, Node, Tx, Rx, Signal, Destination, Broken}
use Rattle.records.specs.Ids.{behind_id}
use Rattle.records.specs.Kinds.{stage_of, form_of, length_of, tx_kind, rx_kind, kind_of, eight_at, tx_at, rx_at, tx_record, rx_record, fields_at}
use Rattle.records.specs.Records.{record_at, size_of, records_at, records}
use Rattle.records.proofs.RecordLaws.{by_kind_byte, no_length, record_some, records_end, records_step}
use Rattle.plan.proofs.TestLaws.{no_fault}
use Rattle.facts.specs.Good.{Each, Placed, InPlace}
use Rattle.facts.proofs.GoodFacts.{good_facts}
use Rattle.encoding.specs.Encode.{four_bytes, tx_begin, rx_begin, bytes_of, encode, Whole, EncodesDecoded, EncodesGood}
use Rattle.encoding.proofs.Decode.{tx_behind, rx_behind}

-- the bytes of a number that four bytes make
four_split : (a b c d : ℕ) → b < 256 → c < 256 → d < 256 → four_bytes ((a * 256 + b) * 65536 + (c * 256 + d)) ≡ a ∷ b ∷ c ∷ d ∷ []
four_split a b c d lb lc ld =
    let v = (a * 256 + b) * 65536 + (c * 256 + d) in
    let ea : v / 16777216 ≡ a = omega arith in
    let eb : v / 65536 % 256 ≡ b = omega arith in
    let ec : v / 256 % 256 ≡ c = omega arith in
    let ed : v % 256 ≡ d = omega arith in
    λ i. ea i ∷ eb i ∷ ec i ∷ ed i ∷ []

module _ (plan : List ℕ) (b : Bytes plan) (at : ℕ) where
  -- k bytes, from the i-th after a place on
  abbrev span : ℕ → ℕ → List ℕ
  span i zero = []
  span i (suc k) = byte_at plan (at + i) ∷ span (suc i) k

  -- they and the rest are all from there on
  span_rest : (k i : ℕ) → at + i + k ≤ length plan → span i k ++ drop (at + i + k) plan ≡ drop (at + i) plan
  span_rest zero i h = rw (add-zero (at + i))
  span_rest (suc k) i h =
      let next : at + suc i + k ≡ at + i + suc k = omega arith in
      let one : at + suc i ≡ suc (at + i) = omega arith in
      let later = rw (next, one) at (span_rest k (suc i) (omega arith)) in
      ap (λ (xs : List ℕ). byte_at plan (at + i) ∷ xs) later ∙ sym (drop-cons plan (at + i) 0 (omega arith))

  first : byte_at plan at ≡ byte_at plan (at + 0)
  first = ap (byte_at plan) (sym (add-zero at))

  -- the two bytes of a number
  high : (i : ℕ) → two_at plan (at + i) / 256 ≡ byte_at plan (at + i)
  high i = omega (arith, b (at + i + 1))

  low : (i : ℕ) → two_at plan (at + i) % 256 ≡ byte_at plan (at + suc i)
  low i = let e : at + i + 1 ≡ at + suc i = omega arith in omega (arith, b (at + i + 1), ap (byte_at plan) e)

  -- the bytes from the k-th on, by how far behind it they stand
  abbrev run : ℕ → ℕ → ℕ → List ℕ
  run k j zero = []
  run k j (suc n) = byte_at plan (at + (k + j)) ∷ run k (suc j) n

  nth : (k j : ℕ) → byte_at plan (at + k + j) ≡ byte_at plan (at + (k + j))
  nth k j = ap (byte_at plan) (omega arith)

  nth_first : (k : ℕ) → byte_at plan (at + k) ≡ byte_at plan (at + (k + 0))
  nth_first k = ap (byte_at plan) (omega arith)

  -- the four bytes of an ID
  four : four_bytes (four_at plan (at + 2)) ≡ span 2 4
  four =
      let last : byte_at plan (at + 2 + 2 + 1) ≡ byte_at plan (at + 5) = ap (byte_at plan) (omega arith) in
      four_split _ _ _ _ (b (at + 2 + 1)) (b (at + 2 + 2)) (b (at + 2 + 2 + 1)) ∙ (λ i. byte_at plan (at + 2) ∷ nth 2 1 i ∷ nth 2 2 i ∷ last i ∷ [])

  -- a frame's fields behind the ID, which begin at the k-th: they do not depend on the node and the ID
  tx_behind-tx_at : (k : ℕ) → tx_behind (tx_at 0 (Standard 0) plan (at + k)) ≡ run k 0 13
  unfolding tx_at eight_at
  tx_behind-tx_at k =
      λ i. nth_first k i ∷ nth k 1 i ∷ nth k 2 i ∷ nth k 3 i ∷ nth k 4 i ∷ nth k 5 i ∷ p 1 i ∷ p 2 i ∷ p 3 i ∷ p 4 i ∷ p 5 i ∷ p 6 i ∷ p 7 i ∷ []
    where
      p : (j : ℕ) → byte_at plan (at + k + 5 + j) ≡ byte_at plan (at + (k + (5 + j)))
      p j = ap (byte_at plan) (omega arith)

  rx_behind-rx_at : (k : ℕ) → rx_behind (rx_at 0 (Standard 0) plan (at + k)) ≡ run k 0 7
  unfolding rx_at
  rx_behind-rx_at k = λ i. nth_first k i ∷ nth k 1 i ∷ nth k 2 i ∷ nth k 3 i ∷ nth k 4 i ∷ nth k 5 i ∷ nth k 6 i ∷ []

  -- the bytes of each kind that has a number of more than one byte, each a path in each byte
  tx_bytes : byte_at plan at ≡ 3 → bytes_of (tx_record (Standard (two_at plan (at + 2))) plan at) ≡ span 0 17
  unfolding bytes_of tx_begin tx_record tx_at behind_id
  tx_bytes e = λ i. (sym e ∙ first) i ∷ byte_at plan (at + 1) ∷ high 2 i ∷ low 2 i ∷ tx_behind-tx_at 4 i

  rx_bytes : byte_at plan at ≡ 4 → bytes_of (rx_record (Standard (two_at plan (at + 2))) plan at) ≡ span 0 11
  unfolding bytes_of rx_begin rx_record rx_at behind_id
  rx_bytes e = λ i. (sym e ∙ first) i ∷ byte_at plan (at + 1) ∷ high 2 i ∷ low 2 i ∷ rx_behind-rx_at 4 i

  long_tx_bytes : byte_at plan at ≡ 7 → bytes_of (tx_record (Extended (four_at plan (at + 2))) plan at) ≡ span 0 19
  unfolding bytes_of tx_begin tx_record tx_at behind_id
  long_tx_bytes e = λ i. (sym e ∙ first) i ∷ byte_at plan (at + 1) ∷ four i ++ tx_behind-tx_at 6 i

  long_rx_bytes : byte_at plan at ≡ 8 → bytes_of (rx_record (Extended (four_at plan (at + 2))) plan at) ≡ span 0 13
  unfolding bytes_of rx_begin rx_record rx_at behind_id
  long_rx_bytes e = λ i. (sym e ∙ first) i ∷ byte_at plan (at + 1) ∷ four i ++ rx_behind-rx_at 6 i

  bytes_of-destination : byte_at plan at ≡ 6 → bytes_of (Destination (record { tx = record { 0 = two_at plan (at + 1) }; position = byte_at plan (at + 3) }))
      ≡ span 0 4
  unfolding bytes_of
  bytes_of-destination e = λ i. (sym e ∙ first) i ∷ high 1 i ∷ low 1 i ∷ span 3 1

  -- a whole record's bytes, and the rest
  abbrev Rests : Record → Type 0
  Rests r = Whole r → bytes_of r ++ drop (at + size_of r) plan ≡ drop at plan

  rests : (r : Record) (k : ℕ) → size_of r ≡ k → at + k ≤ length plan → bytes_of r ≡ span 0 k → Rests r
  rests r k z h e w =
      let n : at + 0 + k ≡ at + k = omega arith in
      rw (z, e) (rw (n, add-zero at) at (span_rest k 0 (omega arith)))

  fields_rest : (kind : ℕ) → 0 < length_of kind → byte_at plan at ≡ kind → at + length_of kind ≤ length plan → Rests (fields_at kind plan at)
  unfolding fields_at tx_record rx_record tx_at rx_at length_of form_of tx_kind rx_kind kind_of bytes_of size_of pick
  fields_rest kind some =
      by_kind_byte (λ k. byte_at plan at ≡ k → at + length_of k ≤ length plan → Rests (fields_at k plan at))
      (λ e room. rests _ 2 refl room (λ i. (sym e ∙ first) i ∷ span 1 1))
      (λ e room. rests _ 2 refl room (λ i. (sym e ∙ first) i ∷ span 1 1))
      (λ e room. rests _ 17 refl room (tx_bytes e))
      (λ e room. rests _ 11 refl room (rx_bytes e))
      (λ e room. rests _ 3 refl room (λ i. (sym e ∙ first) i ∷ span 1 2))
      (λ e room. rests _ 4 refl room (bytes_of-destination e))
      (λ e room. rests _ 19 refl room (long_tx_bytes e))
      (λ e room. rests _ 13 refl room (long_rx_bytes e))
      kind
      (λ none. absurd (omega (arith, no_length kind none)))

-- the record at a place
record_rests : (plan : List ℕ) (b : Bytes plan) (at : ℕ) → at < length plan → Rests plan b at (record_at plan at)
unfolding record_at Whole
record_rests plan b at h =
    let kind = byte_at plan at in
    let P = Rests plan b at in
    cases P (leb (length plan) at) _ _ (λ t w. absurd w) (λ t.
    cases P (eqb (length_of kind) 0) _ _ (λ z w. absurd w) (λ z.
    cases P (ltb (length plan - at) (length_of kind)) _ _ (λ s w. absurd w) (λ s.
    fields_rest plan b at kind (omega (arith, eqb-false (length_of kind) 0 z)) refl
    (omega (arith, ltb-false (length plan - at) (length_of kind) s)))))

-- ---- all records

abbrev Back : List ℕ → ℕ → Type 0
Back plan at = Each Whole (records_at plan at) → encode (records_at plan at) ≡ drop at plan

Back-at_end : (plan : List ℕ) (at : ℕ) → length plan ≤ at → Back plan at
unfolding encode
Back-at_end plan at d w = rw (records_end plan at d) (sym (drop_of_length-le plan d))

before_end : (plan : List ℕ) (at : ℕ) → Bytes plan → at < length plan → Back plan (at + size_of (record_at plan at)) → Back plan at
unfolding encode Each
before_end plan at b i more w =
    let all : Each Whole (record_at plan at ∷ records_at plan (at + size_of (record_at plan at))) = rw (records_step plan at i) at w in
    rw (records_step plan at i, more all.1) (record_rests plan b at i all.0)

-- the first argument bounds the bytes that are left
from : (bound : ℕ) (plan : List ℕ) (at : ℕ) → Bytes plan → length plan - at ≤ bound → Back plan at
from zero plan at b l = Back-at_end plan at (omega arith)
from (suc bound) plan at b l =
    dite (dec_lt at (length plan))
    (λ i. before_end plan at b i (from bound plan (at + size_of (record_at plan at)) b (omega (arith, record_some plan at i))))
    (λ d. Back-at_end plan at (omega arith))

pub encodes_decoded : EncodesDecoded
unfolding records
encodes_decoded plan b w = from (length plan) plan 0 b (omega arith) w

-- ---- a good plan's records are whole

placed_whole : (last : ℕ) (r : Record) → Placed last r → Whole r
unfolding Whole
placed_whole last (Head order) p = tt
placed_whole last (Node body) p = tt
placed_whole last (Tx x) p = tt
placed_whole last (Rx x) p = tt
placed_whole last (Signal body) p = tt
placed_whole last (Destination body) p = tt
placed_whole last (Broken fault) p = no_fault fault p.known p.whole

all_whole : (last : ℕ) (rs : List Record) → InPlace last rs → Each Whole rs
unfolding InPlace Each
all_whole last [] p = tt
all_whole last (r ∷ rs) p = (placed_whole last r p.0, all_whole (stage_of r) rs p.1)

pub encodes_good : EncodesGood
encodes_good plan n t r b g = encodes_decoded plan b (all_whole 0 (records plan) (good_facts plan n t r g).0.place)
