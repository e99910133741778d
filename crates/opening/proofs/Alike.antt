-- Two areas that are alike, but for what is past them, stay so, whatever is stored in both.
use Rattle.std.proofs.Common.{◌≡◌, ℕ, zero, suc, ◌+◌, ◌%◌, ◌<◌, ◌≤◌, Bool, true, false, eqb, List, [], ◌∷◌, set, sym, refl, ◌∙◌, arith, length-set, get_or-set_other, get_or-set_same, eqb-true}
use borrow.Author.Tests.{eqb-false}
use Rattle.base.specs.Pick.{pick}
use Rattle.base.specs.Numbers.{byte_at, low_at, set_low}
use Rattle.records.specs.declared.record.TxFrame.{TxFrame}
use Rattle.records.specs.declared.record.RxFrame.{RxFrame}
use Rattle.records.specs.declared.record.Record.{Record}
use Rattle.records.specs.declared.record.Record.TheVariants.{Head, Node, Tx, Rx, Signal, Destination, Broken}
use Rattle.area.specs.Layout.{area_length, order_byte, node_count_byte, can_count_byte, tx_count_bytes, rx_count_bytes, LongEnough, node, queue}
use Rattle.opening.specs.Opened.{with_tx_timer, with_payload, with_frame, with_tx_place, with_tx, with_rx_timer, with_key, with_row, with_node_row, with_request, with_rx}
use Rattle.opening.specs.Opened.{with_can, with_node, with_record, with_records, rings_before, with_rings, with_fullness}
use Rattle.records.specs.Records.{size_of}

pub record Alike (a b : List ℕ) : Type 0 where
  pub first : LongEnough a
  pub second : LongEnough b
  pub at : (j : ℕ) → j < area_length → byte_at a j ≡ byte_at b j

alike_low_at : {a b : List ℕ} → Alike a b → (k : ℕ) → k + 1 < area_length → low_at a k ≡ low_at b k
alike_low_at s k h = rw (s.at k (omega arith), s.at (k + 1) h)

pub Alike-set : {a b : List ℕ} (i : ℕ) {v w : ℕ} → v ≡ w → Alike a b → Alike (set a i v) (set b i w)
Alike-set {a} {b} i {v} {w} e s = record {
  first = simp length-set s.first;
  second = simp length-set s.second;
  at = λ j h. go j h (eqb j i) refl;
}
  where
    go : (j : ℕ) → j < area_length → (t : Bool) → eqb j i ≡ t → byte_at (set a i v) j ≡ byte_at (set b i w) j
    go j h true t =
        let is = eqb-true j i t in
        rw (is, get_or-set_same a i v 0 (omega (arith, s.first)), get_or-set_same b i w 0 (omega (arith, s.second))) e
    go j h false t =
        let no' = eqb-false j i t in
        get_or-set_other a i j v 0 no' ∙ s.at j h ∙ sym (get_or-set_other b i j w 0 no')

pub Alike-set_low : {a b : List ℕ} (i : ℕ) {v w : ℕ} → v ≡ w → Alike a b → Alike (set_low a i v) (set_low b i w)
Alike-set_low i e s = Alike-set (i + 1) (rw e) (Alike-set i (rw e) s)

Alike-pick : {a b c d : List ℕ} (t : Bool) → Alike a b → Alike c d → Alike (pick t a c) (pick t b d)
unfolding pick
Alike-pick true s u = s
Alike-pick false s u = u

Alike-tx_timer : (t : ℕ) (x : TxFrame) {a b : List ℕ} → Alike a b → Alike (with_tx_timer t x a) (with_tx_timer t x b)
unfolding with_tx_timer
Alike-tx_timer t x s = Alike-set _ refl (Alike-set _ refl (Alike-set _ refl s))

Alike-payload : (t : ℕ) (e : List ℕ) {a b : List ℕ} → Alike a b → Alike (with_payload t e a) (with_payload t e b)
unfolding with_payload
Alike-payload t e s =
    Alike-set _ refl (Alike-set _ refl (Alike-set _ refl (Alike-set _ refl
    (Alike-set _ refl (Alike-set _ refl (Alike-set _ refl (Alike-set _ refl s)))))))

Alike-frame : (n : ℕ) {a b : List ℕ} → n < 16 → Alike a b → Alike (with_frame n a) (with_frame n b)
unfolding with_frame
Alike-frame n h s = Alike-set_low _ (rw (alike_low_at s (queue n + 2) (omega arith))) s

Alike-tx_place : (t at : ℕ) (x : TxFrame) {a b : List ℕ} → Alike a b → Alike (with_tx_place t at x a) (with_tx_place t at x b)
unfolding with_tx_place
Alike-tx_place t at x s = Alike-set _ refl (Alike-set_low _ refl s)

Alike-tx : (at : ℕ) (x : TxFrame) {a b : List ℕ} → Alike a b → Alike (with_tx at x a) (with_tx at x b)
unfolding with_tx
Alike-tx at x s =
    rw (alike_low_at s tx_count_bytes (omega arith))
    (Alike-set_low tx_count_bytes refl
    (Alike-frame (x.node % 16) (omega arith) (Alike-payload _ x.payload (Alike-tx_timer _ x (Alike-tx_place _ at x s)))))

Alike-rx_timer : (r : ℕ) (x : RxFrame) {a b : List ℕ} → Alike a b → Alike (with_rx_timer r x a) (with_rx_timer r x b)
unfolding with_rx_timer
Alike-rx_timer r x s = Alike-set _ refl (Alike-set _ refl (Alike-set _ refl (Alike-set _ refl s)))

Alike-row : (r at : ℕ) (x : RxFrame) {a b : List ℕ} → Alike a b → Alike (with_row r at x a) (with_row r at x b)
unfolding with_row with_key
Alike-row r at x s = Alike-set _ refl (Alike-set_low _ refl (Alike-set_low _ refl (Alike-set_low _ refl s)))

Alike-node_row : (n r : ℕ) {a b : List ℕ} → n < 16 → Alike a b → Alike (with_node_row n r a) (with_node_row n r b)
unfolding with_node_row
Alike-node_row n r h s =
    rw (alike_low_at s (node n + 2) (omega arith)) (Alike-set_low _ refl (Alike-pick _ (Alike-set_low _ refl s) s))

Alike-request : (n : ℕ) {a b : List ℕ} → n < 16 → Alike a b → Alike (with_request n a) (with_request n b)
unfolding with_request
Alike-request n h s = rw (s.at can_count_byte (omega arith)) (Alike-pick _ s (Alike-frame n h s))

Alike-rx : (at : ℕ) (x : RxFrame) {a b : List ℕ} → Alike a b → Alike (with_rx at x a) (with_rx at x b)
unfolding with_rx
Alike-rx at x s =
    rw (alike_low_at s rx_count_bytes (omega arith))
    (Alike-set_low rx_count_bytes refl
    (Alike-request (x.node % 16) (omega arith) (Alike-node_row (x.node % 16) _ (omega arith) (Alike-row _ at x (Alike-rx_timer _ x s)))))

Alike-can : (type : ℕ) {a b : List ℕ} → Alike a b → Alike (with_can type a) (with_can type b)
unfolding with_can
Alike-can type s = rw (s.at can_count_byte (omega arith)) (Alike-pick _ (Alike-set can_count_byte refl s) s)

Alike-node : (type : ℕ) {a b : List ℕ} → Alike a b → Alike (with_node type a) (with_node type b)
unfolding with_node
Alike-node type s = Alike-can type (rw (s.at node_count_byte (omega arith)) (Alike-set node_count_byte refl s))

Alike-record : (at : ℕ) (r : Record) {a b : List ℕ} → Alike a b → Alike (with_record at r a) (with_record at r b)
unfolding with_record
Alike-record at (Head order) s = Alike-set order_byte refl s
Alike-record at (Node body) s = Alike-node body.of s
Alike-record at (Tx x) s = Alike-tx at x s
Alike-record at (Rx x) s = Alike-rx at x s
Alike-record at (Signal body) s = s
Alike-record at (Destination body) s = s
Alike-record at (Broken fault) s = s

pub Alike-records : (at : ℕ) (rs : List Record) {a b : List ℕ} → Alike a b → Alike (with_records at rs a) (with_records at rs b)
unfolding with_records
Alike-records at [] s = s
Alike-records at (r ∷ rs) s = Alike-records (at + size_of r) rs (Alike-record at r s)

Alike-before : (n : ℕ) {a b : List ℕ} → n ≤ 16 → Alike a b → rings_before a n ≡ rings_before b n
unfolding rings_before
Alike-before zero h s = refl
Alike-before (suc n) h s = rw (Alike-before n (omega arith) s, alike_low_at s (queue n + 2) (omega arith))

pub Alike-rings : (n : ℕ) {a b : List ℕ} → n ≤ 16 → Alike a b → Alike (with_rings n a) (with_rings n b)
unfolding with_rings
Alike-rings zero h s = s
Alike-rings (suc n) h s = Alike-set_low _ (Alike-before n (omega arith) s) (Alike-rings n (omega arith) s)

pub Alike-fullness : (sets : List ℕ) (n : ℕ) {a b : List ℕ} → Alike a b → Alike (with_fullness sets n a) (with_fullness sets n b)
unfolding with_fullness
Alike-fullness sets zero s = s
Alike-fullness sets (suc n) s = Alike-set_low _ refl (Alike-fullness sets n s)
