-- What is encoded is decoded.
use mathlib.Core.Path.{◌≡◌, refl, sym, ap, ◌∙◌}
use mathlib.Core.List.{List, [], ◌∷◌, ◌++◌, append_assoc}
use Prim.Native.Nat.{ℕ, zero, suc, ◌+◌, ◌-◌, ◌/◌, ◌%◌, ◌≤◌, ◌<◌}
use native.Mathlib.Omega.{arith}
use native.Mathlib.Nat.{add-zero}
use lib.ListN.{length, length-append}
use lib.Seq.{get_or-append-add}
use Rattle.base.specs.Pick.{pick}
use Rattle.base.specs.Numbers.{byte_at, two_at, four_at}
use Rattle.base.proofs.Picks.{both}
use Rattle.records.specs.declared.record.Id.{Id}
use Rattle.records.specs.declared.record.Id.TheVariants.{Standard, Extended}
use Rattle.records.specs.declared.record.TxFrame.{TxFrame}
use Rattle.records.specs.declared.record.RxFrame.{RxFrame}
use Rattle.records.specs.declared.record.NodeBody.{NodeBody}
use Rattle.records.specs.declared.record.SignalBody.{SignalBody}
use Rattle.records.specs.declared.record.DestinationBody.{DestinationBody}
use Rattle.records.specs.declared.record.Record.{Record}
use Rattle.records.specs.declared.record.Record.TheVariants.{Head, Node, Tx, Rx, Signal, Destination, Broken}
use Rattle.records.specs.Ids.{behind_id}
use Rattle.records.specs.Kinds.{form_of, length_of, eight_at, tx_at, rx_at, tx_record, rx_record, fields_at}
use Rattle.records.specs.Records.{record_at, size_of, records_from, records_at, records, eight_bytes}
use Rattle.records.proofs.Payloads.{eight_same}
use Rattle.records.proofs.RecordLaws.{by_record, record_whole, records_end, records_step}
use Rattle.facts.specs.Good.{Each}
use Rattle.encoding.specs.Encode.{tx_begin, rx_begin, bytes_of, encode, Whole, Eight, DecodedEight, DecodesPlaced, DecodesEncoded}
use Rattle.encoding.proofs.Sizes.{sizes_agree, some_bytes}

-- a plan with some bytes at a place: what is read there is what they say
module _ (front xs rest : List ℕ) where
  abbrev plan : List ℕ
  plan = front ++ (xs ++ rest)

  abbrev at : ℕ
  at = length front

  byte : (i : ℕ) → byte_at plan (at + i) ≡ byte_at (xs ++ rest) i
  byte i = get_or-append-add front (xs ++ rest) i 0

  byte_first : byte_at plan at ≡ byte_at (xs ++ rest) 0
  byte_first = ap (byte_at plan) (sym (add-zero at)) ∙ byte 0

  enough : length xs ≤ length plan - at
  enough = rw (length-append front (xs ++ rest), length-append xs rest) (omega arith)

  -- a two-byte number
  two : (i v : ℕ) → byte_at (xs ++ rest) i ≡ v / 256 → byte_at (xs ++ rest) (i + 1) ≡ v % 256 → two_at plan (at + i) ≡ v
  two i v e f =
      let g : byte_at plan (at + i + 1) ≡ v % 256 = ap (byte_at plan) (omega arith) ∙ byte (i + 1) ∙ f in
      rw (byte i, e, g) (omega arith)

  -- a four-byte number
  four : (i v : ℕ) → byte_at (xs ++ rest) i ≡ v / 16777216 → byte_at (xs ++ rest) (i + 1) ≡ v / 65536 % 256
      → byte_at (xs ++ rest) (i + 2) ≡ v / 256 % 256 → byte_at (xs ++ rest) (i + 2 + 1) ≡ v % 256 → four_at plan (at + i) ≡ v
  four i v e f g h =
      let front = two i (v / 65536) (e ∙ omega arith) f in
      let place : at + i + 2 ≡ at + (i + 2) = omega arith in
      let back : two_at plan (at + i + 2) ≡ v % 65536 = rw place (two (i + 2) (v % 65536) (g ∙ omega arith) (h ∙ omega arith)) in
      omega (arith, front, back)

  -- the bytes behind some of them
  behind : (begin ys : List ℕ) → xs ++ rest ≡ begin ++ ys → (i : ℕ) → byte_at plan (at + length begin + i) ≡ byte_at ys i
  behind begin ys e i = ap (byte_at plan) (omega arith) ∙ byte (length begin + i) ∙ rw e (get_or-append-add begin ys i 0)

  -- a whole record of a kind that the first byte says
  is_record : (kind : ℕ) (r : Record) → byte_at (xs ++ rest) 0 ≡ kind → length_of kind ≡ length xs → 0 < length xs → fields_at kind plan at ≡ r
      → record_at plan at ≡ r
  is_record kind r e l m f =
      let k : byte_at plan at ≡ kind = byte_first ∙ e in
      let inside : at < length plan = omega (arith, enough) in
      sym (record_whole plan at inside (rw (k, l) m) (rw (k, l) enough)) ∙ rw k f

-- ---- a frame's fields behind the ID, read where they stand; and the frame with another ID, so that a proof goes by its format

module _ (x : TxFrame) where
  abbrev pub tx_behind : List ℕ
  tx_behind = x.size ∷ x.prescaler ∷ x.reload ∷ x.initial ∷ x.flags ∷ eight_bytes x.payload

  abbrev tx_with : Id → TxFrame
  tx_with id =
      record {
        node = x.node;
        id = id;
        size = x.size;
        prescaler = x.prescaler;
        reload = x.reload;
        initial = x.initial;
        flags = x.flags;
        payload = x.payload;
      }

  tx_at_fields : (plan : List ℕ) (at : ℕ) (rest : List ℕ) → length x.payload ≡ 8 → ((i : ℕ) → byte_at plan (at + i) ≡ byte_at (tx_behind ++ rest) i) → tx_at x.node x.id plan at ≡ x
  unfolding tx_at eight_at
  tx_at_fields plan at rest eight b =
      let first = ap (byte_at plan) (sym (add-zero at)) ∙ b 0 in
      let p : (k : ℕ) → byte_at plan (at + 5 + k) ≡ byte_at (tx_behind ++ rest) (5 + k) = λ k. ap (byte_at plan) (omega arith) ∙ b (5 + k) in
      let payload : eight_at plan (at + 5) ≡ x.payload =
      (λ i. b 5 i ∷ p 1 i ∷ p 2 i ∷ p 3 i ∷ p 4 i ∷ p 5 i ∷ p 6 i ∷ p 7 i ∷ []) ∙ sym (eight_same x.payload eight) in
      λ i.
      record {
        node = x.node;
        id = x.id;
        size = first i;
        prescaler = b 1 i;
        reload = b 2 i;
        initial = b 3 i;
        flags = b 4 i;
        payload = payload i;
      }

module _ (x : RxFrame) where
  abbrev pub rx_behind : List ℕ
  rx_behind = x.size ∷ x.prescaler ∷ x.reload ∷ x.initial ∷ x.enable ∷ x.position ∷ x.long ∷ []

  abbrev rx_with : Id → RxFrame
  rx_with id =
      record {
        node = x.node;
        id = id;
        size = x.size;
        prescaler = x.prescaler;
        reload = x.reload;
        initial = x.initial;
        enable = x.enable;
        position = x.position;
        long = x.long;
      }

  rx_at_fields : (plan : List ℕ) (at : ℕ) (rest : List ℕ) → ((i : ℕ) → byte_at plan (at + i) ≡ byte_at (rx_behind ++ rest) i) → rx_at x.node x.id plan at ≡ x
  unfolding rx_at
  rx_at_fields plan at rest b =
      let first = ap (byte_at plan) (sym (add-zero at)) ∙ b 0 in
      λ i.
      record {
        node = x.node;
        id = x.id;
        size = first i;
        prescaler = b 1 i;
        reload = b 2 i;
        initial = b 3 i;
        enable = b 4 i;
        position = b 5 i;
        long = b 6 i;
      }

-- ---- each kind

module _ (front rest : List ℕ) where
  -- a record's bytes, read where they stand
  abbrev Read : Record → Type 0
  Read r = record_at (front ++ (bytes_of r ++ rest)) (length front) ≡ r

  head : (order : ℕ) → Read (Head order)
  unfolding bytes_of fields_at form_of pick length_of
  head order = is_record front (1 ∷ order ∷ []) rest 1 (Head order) refl refl (omega arith) (ap Head (byte front (1 ∷ order ∷ []) rest 1))

  node : (body : NodeBody) → Read (Node body)
  unfolding bytes_of fields_at form_of pick length_of
  node body =
      let xs : List ℕ = 2 ∷ body.of ∷ [] in
      let fields : ◌≡◌ {A = NodeBody} (record { of = byte_at (front ++ (xs ++ rest)) (length front + 1) }) body = λ i. record { of = byte front xs rest 1 i } in
      is_record front xs rest 2 (Node body) refl refl (omega arith) (ap Node fields)

  signal : (body : SignalBody) → Read (Signal body)
  unfolding bytes_of fields_at form_of pick length_of
  signal body = is_record front (bytes_of (Signal body)) rest 5 (Signal body) refl refl (omega arith) (ap Signal fields)
    where
      fields : ◌≡◌ {A = SignalBody} (record {
        position = byte_at (front ++ (bytes_of (Signal body) ++ rest)) (length front + 1);
        size = byte_at (front ++ (bytes_of (Signal body) ++ rest)) (length front + 2);
      }) body
      fields = let b = byte front (bytes_of (Signal body)) rest in λ i. record { position = b 1 i; size = b 2 i }

  destination : (body : DestinationBody) → Read (Destination body)
  unfolding bytes_of fields_at form_of pick length_of
  destination body = is_record front (bytes_of (Destination body)) rest 6 (Destination body) refl refl (omega arith) (ap Destination fields)
    where
      fields : ◌≡◌ {A = DestinationBody} (record {
        tx = record { 0 = two_at (front ++ (bytes_of (Destination body) ++ rest)) (length front + 1) };
        position = byte_at (front ++ (bytes_of (Destination body) ++ rest)) (length front + 3);
      }) body
      fields =
          let xs = bytes_of (Destination body) in
          λ i. record { tx = record { 0 = two front xs rest 1 body.tx.0 refl refl i }; position = byte front xs rest 3 i }

  tx : (x : TxFrame) (id : Id) → length x.payload ≡ 8 → Read (Tx (tx_with x id))
  unfolding bytes_of tx_begin fields_at tx_record behind_id form_of pick length_of
  tx x (Standard n) eight =
      let xs = bytes_of (Tx (tx_with x (Standard n))) in
      is_record front xs rest 3 _ refl refl (omega arith)
      (ap Tx
      ((λ i. tx_at (byte front xs rest 1 i) (Standard (two front xs rest 2 n refl refl i)) (front ++ (xs ++ rest)) (length front + 4))
      ∙ tx_at_fields (tx_with x (Standard n)) (front ++ (xs ++ rest)) (length front + 4) rest eight (behind front xs rest (tx_begin x.node (Standard n)) _ refl)))
  tx x (Extended n) eight =
      let xs = bytes_of (Tx (tx_with x (Extended n))) in
      is_record front xs rest 7 _ refl refl (omega arith)
      (ap Tx
      ((λ i. tx_at (byte front xs rest 1 i) (Extended (four front xs rest 2 n refl refl refl refl i)) (front ++ (xs ++ rest)) (length front + 6))
      ∙ tx_at_fields (tx_with x (Extended n)) (front ++ (xs ++ rest)) (length front + 6) rest eight (behind front xs rest (tx_begin x.node (Extended n)) _ refl)))

  rx : (x : RxFrame) (id : Id) → Read (Rx (rx_with x id))
  unfolding bytes_of rx_begin fields_at rx_record behind_id form_of pick length_of
  rx x (Standard n) =
      let xs = bytes_of (Rx (rx_with x (Standard n))) in
      is_record front xs rest 4 _ refl refl (omega arith)
      (ap Rx
      ((λ i. rx_at (byte front xs rest 1 i) (Standard (two front xs rest 2 n refl refl i)) (front ++ (xs ++ rest)) (length front + 4))
      ∙ rx_at_fields (rx_with x (Standard n)) (front ++ (xs ++ rest)) (length front + 4) rest (behind front xs rest (rx_begin x.node (Standard n)) _ refl)))
  rx x (Extended n) =
      let xs = bytes_of (Rx (rx_with x (Extended n))) in
      is_record front xs rest 8 _ refl refl (omega arith)
      (ap Rx
      ((λ i. rx_at (byte front xs rest 1 i) (Extended (four front xs rest 2 n refl refl refl refl i)) (front ++ (xs ++ rest)) (length front + 6))
      ∙ rx_at_fields (rx_with x (Extended n)) (front ++ (xs ++ rest)) (length front + 6) rest (behind front xs rest (rx_begin x.node (Extended n)) _ refl)))

pub decodes_placed : DecodesPlaced
unfolding Whole Eight
decodes_placed front rest (Head order) w l = head front rest order
decodes_placed front rest (Node body) w l = node front rest body
decodes_placed front rest (Tx x) w l = tx front rest x x.id l
decodes_placed front rest (Rx x) w l = rx front rest x x.id
decodes_placed front rest (Signal body) w l = signal front rest body
decodes_placed front rest (Destination body) w l = destination front rest body
decodes_placed front rest (Broken fault) w l = absurd w

-- ---- all records

eight_placed : (plan : List ℕ) (at : ℕ) → Eight (record_at plan at)
unfolding Eight tx_at tx_record rx_record eight_at
eight_placed plan at = by_record Eight plan at (λ fault. tt) tt tt (λ id stands. refl) (λ id stands. tt) tt tt

eight_from : (plan : List ℕ) (bound at : ℕ) → Each Eight (records_from bound plan at)
unfolding records_from Each
eight_from plan zero at = tt
eight_from plan (suc bound) at = both (Each Eight) _ _ _ tt (eight_placed plan at, eight_from plan bound _)

pub decoded_eight : DecodedEight
unfolding records records_at
decoded_eight plan = eight_from plan _ 0

from : (rs : List Record) (front : List ℕ) → Each Whole rs → Each Eight rs → records_at (front ++ encode rs) (length front) ≡ rs
unfolding encode Each
from [] front w l = records_end (front ++ []) (length front) (rw length-append (omega arith))
from (r ∷ rs) front w l =
    let plan = front ++ (bytes_of r ++ encode rs) in
    let e = decodes_placed front (encode rs) r w.0 l.0 in
    let z = (sizes_agree r w.0).bytes in
    let inside : length front < length plan =
    rw (length-append front (bytes_of r ++ encode rs), length-append (bytes_of r) (encode rs)) (omega (arith, some_bytes r w.0)) in
    let next : records_at plan (length front + size_of r) ≡ rs = more (sym z) (from rs (front ++ bytes_of r) w.1 l.1) in
    records_step plan (length front) inside ∙ rw (e, next)
  where
    more : size_of r ≡ length (bytes_of r) → records_at ((front ++ bytes_of r) ++ encode rs) (length (front ++ bytes_of r)) ≡ rs
        → records_at (front ++ (bytes_of r ++ encode rs)) (length front + size_of r) ≡ rs
    more k f = rw (k, ← (length-append front (bytes_of r)), ← (append_assoc front (bytes_of r) (encode rs))) f

pub decodes_encoded : DecodesEncoded
unfolding records
decodes_encoded rs w l = from rs [] w l
