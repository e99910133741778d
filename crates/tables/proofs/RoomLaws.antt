-- What an opening's records count at a node's queue: its Tx frames, and the Rx frames of a LIN node, which are asked for.
use mathlib.Core.Path.{◌≡◌, refl, ap, ◌∙◌}
use mathlib.Core.Bool.{Bool, true, false}
use mathlib.Core.List.{List, [], ◌∷◌}
use Prim.Native.Nat.{ℕ, suc, ◌+◌, ◌%◌, ◌<◌, ◌≤◌}
use native.Mathlib.Omega.{arith}
use lib.Dec.{ltb, eqb}
use lib.ListN.{set}
use Rattle.base.specs.Pick.{pick}
use Rattle.base.specs.Numbers.{low_at, set_low}
use Rattle.base.proofs.Picks.{by_eqb, into, alike}
use Rattle.base.proofs.Ranges.{low_same}
use Rattle.records.specs.declared.record.TxFrame.{TxFrame}
use Rattle.records.specs.declared.record.RxFrame.{RxFrame}
use Rattle.records.specs.declared.record.Record.{Record}
use Rattle.records.specs.declared.record.Record.TheVariants.{Head, Node, Tx, Rx, Signal, Destination, Broken}
use Rattle.records.specs.Views.{on_rx}
use Rattle.records.specs.Kinds.{stage_of}
use Rattle.records.proofs.Variants.{by_node}
use Rattle.plan.specs.Tests.{in_range}
use Rattle.plan.specs.Rows.{row_of, rows_from, tx_frames, cans_in}
use Rattle.plan.proofs.TestLaws.{tx_ranges, rx_ranges}
use Rattle.facts.specs.Good.{Each, InPlace}
use Rattle.facts.proofs.Places.{later}
use Rattle.area.specs.Layout.{order_byte, can_count_byte, tx_count_bytes, rx_count_bytes, nodes_start, queues_start, tx_reloads_start, LongEnough}
use Rattle.area.specs.Layout.{queue, can_count}
use Rattle.area.proofs.Frame.{Same, Same-refl, Same-then, Same-set, Same-set_low, same_two}
use Rattle.opening.specs.Opened.{next_tx, next_rx, with_tx_timer, with_payload, with_frame, with_tx_place, with_tx, with_rx_timer, with_row, with_node_row, with_request, with_rx}
use Rattle.opening.specs.Opened.{with_record, with_records}
use Rattle.opening.proofs.Kept.{Same-records}
use Rattle.opening.proofs.Counted.{one_more, counts}
use Rattle.tables.specs.Reads.{frames_on, rows_on}
use Rattle.tables.proofs.Spared.{Same-own, Same-tx}
use Rattle.tables.proofs.RxSide.{leaves_node, leaves_rx_timer, leaves_row, leaves_node_row, leaves_rx}
use Rattle.records.specs.Records.{size_of}

-- where the room of node n is counted
abbrev pub Room : ℕ → ℕ → Type 0
Room n j = (queue n + 2 ≤ j) × (j < queue n + 4)

abbrev counted : ℕ → List ℕ → ℕ
counted n a = low_at a (queue n + 2)

-- of a choice between numbers
one_else : (t : Bool) (v : ℕ) → pick t v (v + 1) ≡ v + pick t 0 1
unfolding pick
one_else true v = omega arith
one_else false v = refl

none_or_both : (t : Bool) (v w : ℕ) → pick t 0 (v + w) ≡ pick t 0 v + pick t 0 w
unfolding pick
none_or_both true v w = omega arith
none_or_both false v w = refl

-- ---- one frame more

module _ (n : ℕ) (h : n < 16) where
  more_frame : (a : List ℕ) → LongEnough a → counted n a + 1 < 65536 → counted n (with_frame n a) ≡ counted n a + 1
  unfolding with_frame
  more_frame a long most = low_same a (queue n + 2) (counted n a + 1) (omega arith) (omega arith)

  more_request : (a : List ℕ) → LongEnough a → counted n a + 1 < 65536 → counted n (with_request n a) ≡ counted n a + pick (ltb n (can_count a)) 0 1
  unfolding with_request
  more_request a long most =
      into (counted n) (ltb n (can_count a)) a (with_frame n a) ∙ rw (more_frame a long most) (one_else (ltb n (can_count a)) (counted n a))

  -- the count of all frames stands elsewhere
  past_count : (i v : ℕ) (a : List ℕ) → i + 2 ≤ nodes_start → counted n (set_low a i v) ≡ counted n a
  past_count i v a l =
      same_two (Same-set_low {P = Room n} i v (omega arith) (omega arith) (Same-refl a)) (queue n + 2) (omega arith) (omega arith)

  own_tx : (at : ℕ) (x : TxFrame) (a : List ℕ) → LongEnough a → counted n a + 1 < 65536 → x.node % 16 ≡ n → counted n (with_tx at x a) ≡ counted n a + 1
  unfolding with_tx
  own_tx at x a long most is =
      let c = with_payload (next_tx a) x.payload (with_tx_timer (next_tx a) x (with_tx_place (next_tx a) at x a)) in
      let s : Same (Room n) a c = Same-own (next_tx a) at x a (omega arith) in
      let e = same_two s (queue n + 2) (omega arith) (omega arith) in
      rw is (past_count tx_count_bytes _ (with_frame n c) (omega arith) ∙ more_frame c (omega (arith, s.len)) (omega arith) ∙ omega arith)

  other_tx : (at : ℕ) (x : TxFrame) (a : List ℕ) → (x.node % 16 ≡ n → ⊥) → counted n (with_tx at x a) ≡ counted n a
  other_tx at x a differs =
      let s : Same (Room n) a (with_tx at x a) = Same-tx at x a (omega arith) (omega arith) (omega arith) in
      same_two s (queue n + 2) (omega arith) (omega arith)

  room_tx : (at : ℕ) (x : TxFrame) (a : List ℕ) → LongEnough a → x.node < 16 → counted n a + 1 < 65536
      → counted n (with_tx at x a) ≡ counted n a + pick (eqb x.node n) 1 0
  room_tx at x a long node most =
      by_eqb (λ (v : ℕ). counted n (with_tx at x a) ≡ counted n a + v) x.node n 1 0
      (λ e. own_tx at x a long most (omega arith)) (λ d. other_tx at x a (λ e. d (omega arith)) ∙ omega arith)

  own_rx : (at : ℕ) (x : RxFrame) (a : List ℕ) → LongEnough a → counted n a + 1 < 65536 → x.node % 16 ≡ n
      → counted n (with_rx at x a) ≡ counted n a + pick (ltb n (can_count a)) 0 1
  unfolding with_rx
  own_rx at x a long most is =
      let c = with_node_row n (next_rx a) (with_row (next_rx a) at x (with_rx_timer (next_rx a) x a)) in
      let s : Same (λ j. (nodes_start ≤ j → queues_start ≤ j) × (j < tx_reloads_start)) a c =
      Same-then (leaves_rx_timer (next_rx a) x a (omega arith) (omega arith) (omega arith) (omega arith))
      (Same-then (leaves_row (next_rx a) at x _ (omega arith) (omega arith) (omega arith))
      (leaves_node_row n (next_rx a) _ (λ j lo hi p. omega (arith, p.0 (omega arith))))) in
      let e : counted n c ≡ counted n a = same_two s (queue n + 2) (λ l. omega arith, omega arith) (λ l. omega arith, omega arith) in
      let can : can_count c ≡ can_count a = s.at can_count_byte (λ l. omega arith, omega arith) in
      rw is (past_count rx_count_bytes _ (with_request n c) (omega arith) ∙ more_request c (omega (arith, s.len)) (omega arith) ∙ rw (e, can) refl)

  other_rx : (at : ℕ) (x : RxFrame) (a : List ℕ) → (x.node % 16 ≡ n → ⊥) → counted n (with_rx at x a) ≡ counted n a
  other_rx at x a differs =
      let s : Same (Room n) a (with_rx at x a) = leaves_rx at x a (omega arith) in
      same_two s (queue n + 2) (omega arith) (omega arith)

  room_rx : (at : ℕ) (x : RxFrame) (a : List ℕ) → LongEnough a → x.node < 16 → counted n a + 1 < 65536
      → counted n (with_rx at x a) ≡ counted n a + pick (ltb n (can_count a)) 0 (pick (eqb x.node n) 1 0)
  room_rx at x a long node most =
      by_eqb (λ (v : ℕ). counted n (with_rx at x a) ≡ counted n a + pick (ltb n (can_count a)) 0 v) x.node n 1 0
      (λ e. own_rx at x a long most (omega arith))
      (λ d. other_rx at x a (λ e. d (omega arith)) ∙ omega (arith, alike {A = ℕ} (ltb n (can_count a)) 0))

-- ---- the count of CAN nodes, along the records

cans_more : (rs : List Record) (r : Record) → cans_in (r ∷ rs) ≡ cans_in (r ∷ []) + cans_in rs
unfolding cans_in
cans_more rs =
    by_node (λ r. cans_in (r ∷ rs) ≡ cans_in (r ∷ []) + cans_in rs) (λ body. one_more (eqb body.of 0) (cans_in rs))
    (λ r no'.
    let more = no'.by (cans_in rs) (λ body. pick (eqb body.of 0) (suc (cans_in rs)) (cans_in rs)) in
    let here = no'.by {A = ℕ} 0 (λ body. pick (eqb body.of 0) 1 0) in
    omega arith)

-- after a frame there is no node
no_cans : (stage : ℕ) (rs : List Record) → 3 ≤ stage → InPlace stage rs → cans_in rs ≡ 0
unfolding InPlace cans_in stage_of
no_cans stage [] h place = refl
no_cans stage (r ∷ rs) h place =
    let l = (later stage r place.0).frames h in
    by_node (λ r. 3 ≤ stage_of r → cans_in (r ∷ rs) ≡ cans_in rs) (λ body m. absurd (omega arith)) (λ r no' m. no'.by _ _) r l
    ∙ no_cans (stage_of r) rs l place.1

-- records that are left, of a plan of m nodes, of which c are CAN nodes, when the area is a
pub record Left (m c stage : ℕ) (rs : List Record) (a : List ℕ) : Type 0 where
  pub place : InPlace stage rs
  pub ranges : Each (λ r. in_range m r ≡ true) rs
  pub can : can_count a + cans_in rs ≡ c
  pub size : LongEnough a

Left-rest :
    (m c stage at : ℕ) (r : Record) (rs : List Record) (a : List ℕ) → c < 256 → Left m c stage (r ∷ rs) a → Left m c (stage_of r) rs (with_record at r a)
unfolding InPlace Each with_records
Left-rest m c stage at r rs a small l =
    let e = cans_more rs r in
    let k = (counts at (r ∷ []) a (omega (arith, l.size))).can (omega (arith, l.can)) in
    record {
      place = l.place.1;
      ranges = l.ranges.1;
      can = omega (arith, l.can);
      size = rw (Same-records (λ j. ⊥) (λ p. p) (λ j low high p. p) at (r ∷ []) a).len l.size;
    }

-- ---- all records

module _ (n : ℕ) (h : n < 16) (m c : ℕ) (few : m ≤ 16) (small : c < 256) where
  -- the Tx frames, and the Rx frames where the node is no CAN node
  abbrev waiters : ℕ → List Record → ℕ
  waiters k rs = frames_on n (tx_frames rs) + pick (ltb n c) 0 (rows_on n (rows_from k rs))

  -- the number that the next row gets
  abbrev next : ℕ → Record → ℕ
  next k r = on_rx k (λ x. suc k) r

  room_record :
      (at stage k : ℕ) (r : Record) (rs : List Record) (a : List ℕ) → Left m c stage (r ∷ rs) a → counted n a + 1 < 65536
      → counted n (with_record at r a) + waiters (next k r) rs ≡ counted n a + waiters k (r ∷ rs)
  unfolding with_record tx_frames rows_from row_of frames_on rows_on InPlace Each in_range cans_in stage_of
  room_record at stage k (Head order) rs a l most =
      let s : Same (Room n) a (set a order_byte order) = Same-set order_byte order (omega arith) (Same-refl a) in
      ap (λ (v : ℕ). v + waiters k rs) (same_two s (queue n + 2) (omega arith) (omega arith))
  room_record at stage k (Node body) rs a l most =
      let s = leaves_node {P = Room n} body.of a (omega arith) in
      ap (λ (v : ℕ). v + waiters k rs) (same_two s (queue n + 2) (omega arith) (omega arith))
  room_record at stage k (Tx x) rs a l most =
      let e = room_tx n h at x a l.size (omega (arith, (tx_ranges m x l.ranges.0).node)) most in
      omega arith
  room_record at stage k (Rx x) rs a l most =
      let is : can_count a ≡ c = omega (arith, l.can, no_cans 4 rs (omega arith) l.place.1) in
      let e = rw is at (room_rx n h at x a l.size (omega (arith, (rx_ranges m x l.ranges.0).node)) most) in
      let s = none_or_both (ltb n c) (pick (eqb x.node n) 1 0) (rows_on n (rows_from (suc k) rs)) in
      omega arith
  room_record at stage k (Signal body) rs a l most = refl
  room_record at stage k (Destination body) rs a l most = refl
  room_record at stage k (Broken fault) rs a l most = refl

  pub room_records :
      (at stage k : ℕ) (rs : List Record) (a : List ℕ) → Left m c stage rs a → counted n a + waiters k rs < 65535
      → counted n (with_records at rs a) ≡ counted n a + waiters k rs
  unfolding with_records tx_frames rows_from frames_on rows_on
  room_records at stage k [] a l most = omega (arith, alike {A = ℕ} (ltb n c) 0)
  room_records at stage k (r ∷ rs) a l most =
      let e = room_record at stage k r rs a l (omega arith) in
      room_records (at + size_of r) (stage_of r) (next k r) rs (with_record at r a) (Left-rest m c stage at r rs a small l) (omega arith) ∙ e
