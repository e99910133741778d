-- What an area that a good plan opened holds of the header, the Tx frames and the queues.
use mathlib.Core.Path.{◌≡◌, refl, sym, ◌∙◌}
use mathlib.Core.List.{List}
use Prim.Native.Nat.{ℕ, zero, suc, ◌+◌, ◌/◌, ◌<◌, ◌≤◌}
use native.Mathlib.Omega.{arith}
use lib.ListN.{length, get_or}
use Rattle.base.specs.Numbers.{byte_at, low_at}
use Rattle.base.proofs.Ranges.{at_most_is}
use Rattle.bits.specs.Payload.{digit_of, bit_at}
use Rattle.bits.specs.Owners.{owners}
use Rattle.bits.proofs.OwnerLaws.{owners-le}
use Rattle.records.specs.Records.{records, eight_bytes}
use Rattle.records.specs.Nodes.{is_lin}
use Rattle.records.specs.Ids.{behind_id, Possible}
use Rattle.records.specs.Views.{no_tx}
use Rattle.plan.specs.Check.{good_with, check_plan, sets_of}
use Rattle.plan.specs.Rows.{tx_of, rows_of, nodes_in, cans_in, order_in}
use Rattle.plan.proofs.TestLaws.{TxRanges}
use Rattle.facts.specs.Good.{GoodPlan}
use Rattle.facts.proofs.GoodFacts.{good_facts}
use Rattle.facts.proofs.Bounds.{good_bounds}
use Rattle.facts.proofs.ByNumber.{good_types, cans_few, frame_ranges}
use Rattle.area.specs.Layout.{order_byte, node_count_byte, can_count_byte, tx_count_bytes, full_start, plan_start, last_place, waiter_range, entry_count, LongEnough}
use Rattle.area.specs.Layout.{queue, tx_timer, waits, full, payload, spot, order, type_on, tx_frame}
use Rattle.area.specs.Queue.{ends_of}
use Rattle.area.proofs.Frame.{Same, same_two}
use Rattle.opening.specs.Opened.{blank, with_records, rings_before, with_rings, with_fullness, opened}
use Rattle.opening.proofs.BlankLaws.{blank-length, blank-zero}
use Rattle.opening.proofs.OpenedLaws.{opened-length, opened-marked, opened-plan, opened_cans, opened_counts}
use Rattle.tables.specs.Reads.{planned_tx, type_at, waiters_on, Header, TxTable, Rings, initial}
use Rattle.tables.proofs.Verbatim.{opened_verbatim, tx_ends, home_of_node, tx_read}
use Rattle.tables.proofs.Stored.{rows_at}
use Rattle.tables.proofs.Spared.{Same-rings, Same-fullness}
use Rattle.tables.proofs.TxLeft.{Left, left_records, left_last}
use Rattle.tables.proofs.TxRecords.{PutTx, Put-kept, put_records}
use Rattle.tables.proofs.RoomLaws.{room_records}
use Rattle.tables.proofs.RingLaws.{total, waiters-le, waiters_total, ring_start, ring_room, ring_within, ring_apart}
use Rattle.tables.proofs.NodeTypes.{asked_by_type}
use Rattle.tables.proofs.HeadOrder.{order_records}

-- a bit of a kept payload is that bit of its eight bytes
digit_spot : (o t b : ℕ) → digit_of o (spot t b) ≡ digit_of o b
unfolding digit_of
digit_spot zero t b = omega arith
digit_spot (suc o) t b = omega arith

-- the fullness of each frame is read as it was stored
fullness_at :
    (sets : List ℕ) (a : List ℕ) → LongEnough a → (t : ℕ) → t < 256 → low_at (with_fullness sets 256 a) (full t) ≡ owners (get_or sets t 0) 64
unfolding with_fullness
fullness_at sets a long t h =
    rows_at (λ n. with_fullness sets n a) full (λ n. owners (get_or sets n 0) 64) (λ n. refl) (omega arith) 256
    (λ n l. (omega arith, omega (arith, owners-le (get_or sets n 0) 64))) 256 (omega arith) t h

module _ (plan a : List ℕ) (n t r : ℕ) (good : check_plan plan ≡ good_with n t r) (room : LongEnough a) where
  facts : GoodPlan plan
  facts = (good_facts plan n t r good).0

  few : length (tx_of plan) ≤ 256
  few = facts.counts.tx

  -- ---- the area before the rings and the fullness

  abbrev recorded : List ℕ
  recorded = with_records 0 (records plan) (blank plan a)

  zeros : (j : ℕ) → node_count_byte ≤ j → j < plan_start → byte_at (blank plan a) j ≡ 0
  zeros j low high = blank-zero plan a room j high (omega arith) (omega arith) (omega arith) (omega arith)

  long : LongEnough (blank plan a)
  long = omega (arith, blank-length plan a)

  none : low_at (blank plan a) tx_count_bytes ≡ 0
  none = omega (arith, zeros tx_count_bytes (omega arith) (omega arith), zeros (tx_count_bytes + 1) (omega arith) (omega arith))

  -- what the records leave of the blank area, and what the rings and the fullness leave then
  left-blank : Same (Left 0) (blank plan a) recorded
  unfolding tx_of
  left-blank = left_records 0 0 (records plan) (blank plan a) (omega arith) (omega (arith, none, few)) (omega (arith, long))

  left-opened : (k : ℕ) → Same (Left k) recorded (opened plan a)
  unfolding opened
  left-opened k = left_last k (sets_of plan) recorded

  -- so a place that nothing writes is zero
  still : (j : ℕ) → node_count_byte ≤ j → j < plan_start → Left 0 j → byte_at (opened plan a) j ≡ 0
  still j low high l = (left-opened 0).at j l ∙ left-blank.at j l ∙ zeros j low high

  -- ---- the header

  -- the fullness stands above the header and the queues
  low : Same (λ j. j < full_start) (with_rings 16 recorded) (opened plan a)
  unfolding opened
  low = Same-fullness (sets_of plan) 256 _ (omega arith) (omega arith)

  order_is : order (opened plan a) ≡ order_in (records plan)
  order_is =
      let P : ℕ → Type 0 = λ j. j ≡ order_byte in
      let s : Same P recorded (with_rings 16 recorded) = Same-rings 16 recorded (omega arith) in
      let z = blank-zero plan a room order_byte (omega arith) (omega arith) (omega arith) (omega arith) (omega arith) in
      low.at order_byte (omega arith) ∙ s.at order_byte refl ∙ order_records 0 (records plan) (blank plan a) facts.place (omega (arith, long)) z

  type_is : (k : ℕ) → k < nodes_in (records plan) → type_on (opened plan a) k ≡ type_at plan k
  unfolding type_on
  type_is k h = rw (opened_cans plan a room (omega (arith, cans_few plan facts))) (sym (good_types plan facts k h))

  pub opened_header : Header plan (opened plan a)
  opened_header =
      let c = opened_counts plan a n t r good room in
      let k = (good_facts plan n t r good).1 in
      record {
        size = omega (arith, opened-length plan a);
        mark = opened-marked plan a room;
        holds = opened-plan plan a room (omega (arith, (good_bounds plan n t r good).short));
        order = order_is;
        nodes = c.nodes ∙ k.nodes;
        types = type_is;
        tx = c.tx ∙ k.tx;
        rx = c.rx ∙ k.rx;
      }

  -- ---- the Tx frames

  puts : (k : ℕ) → k < length (tx_of plan) → PutTx plan (opened plan a) k (planned_tx plan k)
  unfolding tx_of records
  puts k h =
      let short = (good_bounds plan n t r good).short in
      let p = put_records plan (omega arith) 0 (records plan) (blank plan a) refl long (omega (arith, none, few)) k h in
      let number : low_at (blank plan a) tx_count_bytes + k ≡ k = omega (arith, none) in
      Put-kept plan recorded (opened plan a) k (length (tx_of plan)) (planned_tx plan k) h few (left-opened _) (rw number at p)

  -- its node and its ID are in range
  planned_tx_in_range : (k : ℕ) → k < length (tx_of plan) → TxRanges (nodes_in (records plan)) (planned_tx plan k)
  planned_tx_in_range k h = frame_ranges plan facts no_tx k h

  tx_low : (k : ℕ) → k < length (tx_of plan) → (planned_tx plan k).node < 16
  tx_low k h = omega (arith, (planned_tx_in_range k h).node, facts.counts.nodes)

  tx_possible : (k : ℕ) → k < length (tx_of plan) → Possible (planned_tx plan k).id
  tx_possible k h = (planned_tx_in_range k h).id

  frame_is : (k : ℕ) → k < length (tx_of plan) → tx_frame (opened plan a) k ≡ planned_tx plan k
  unfolding tx_frame
  frame_is k h =
      let short = (good_bounds plan n t r good).short in
      let p = puts k h in
      let x = planned_tx plan k in
      let near : p.at + behind_id x.id ≤ last_place = omega (arith, tx_ends plan p.at x p.reads) in
      rw (p.place, at_most_is last_place (p.at + behind_id x.id) near)
      (tx_read plan (opened plan a) (opened_verbatim plan a room (omega arith)) (omega arith) k p.at x p.reads (tx_low k h) (tx_possible k h) p.home)

  pub opened_tx : (k : ℕ) → k < length (tx_of plan) → TxTable plan (opened plan a) k
  unfolding opened
  opened_tx k h =
      let p = puts k h in
      let s = Same-rings {P = λ j. ⊥} 16 recorded (omega arith) in
      record {
        frame = frame_is k h;
        home = rw p.home (home_of_node (planned_tx plan k).node (planned_tx plan k).id (tx_low k h));
        reload = p.reload;
        mask = p.mask;
        full = fullness_at (sets_of plan) (with_rings 16 recorded) (omega (arith, left-blank.len, long)) k (omega (arith, few));
      }

  -- ---- the queues

  counted : (k : ℕ) → k < 16 → low_at recorded (queue k + 2) ≡ waiters_on plan k
  unfolding tx_of rows_of
  counted k h =
      let z = zeros (queue k + 2) (omega arith) (omega arith) in
      let y = zeros (queue k + 2 + 1) (omega arith) (omega arith) in
      let asked = asked_by_type plan facts k in
      let e =
      room_records k h (nodes_in (records plan)) (cans_in (records plan)) facts.counts.nodes (omega (arith, cans_few plan facts)) 0 0 0 (records plan)
      (blank plan a)
      (record { place = facts.place; ranges = facts.ranges; can = omega (arith, zeros can_count_byte (omega arith) (omega arith)); size = long }) in
      e (omega (arith, few, facts.counts.rx, waiters-le (tx_of plan) (rows_of plan) (λ k. is_lin (type_at plan k)) k)) ∙ omega arith

  most : (k : ℕ) → total (waiters_on plan) k ≤ entry_count
  most k = omega (arith, few, facts.counts.rx, waiters_total (tx_of plan) (rows_of plan) (λ k. is_lin (type_at plan k)) k)

  ring : (k : ℕ) → k < 16 → ((ends_of (opened plan a) k).start ≡ rings_before recorded k) × ((ends_of (opened plan a) k).room ≡ waiters_on plan k)
  unfolding ends_of
  ring k h = (
    same_two low (queue k) (omega arith) (omega arith)
        ∙ ring_start (waiters_on plan) most recorded counted (omega (arith, left-blank.len, long)) k h,
    same_two low (queue k + 2) (omega arith) (omega arith) ∙ ring_room (waiters_on plan) most recorded counted k h,
  )

  pub opened_rings : (k : ℕ) → k < 16 → Rings plan (opened plan a) k
  opened_rings k h =
      let x = ring k h in
      record {
        within = rw (x.0, x.1) (ring_within (waiters_on plan) most recorded counted k h);
        room = x.1;
        apart = λ m l d.
            let y = ring m l in
            rw (x.0, x.1, y.0, y.1) (ring_apart (waiters_on plan) most recorded counted m k l h d);
      }

  -- ---- what has begun

  pub opened_payload : (k b : ℕ) → k < length (tx_of plan) → b < 64 → bit_at (order (opened plan a)) (opened plan a) (spot k b) ≡ initial plan k b
  unfolding bit_at initial
  opened_payload k b h l =
      let e : spot k b / 8 ≡ payload k + b / 8 = omega arith in
      rw (order_is, digit_spot (order_in (records plan)) k b, e, (puts k h).payload (b / 8) (omega arith))

  pub opened_bytes : (k i : ℕ) → k < length (tx_of plan) → i < 8 → byte_at (opened plan a) (payload k + i) ≡ get_or (eight_bytes (planned_tx plan k).payload) i 0
  opened_bytes k i h l = (puts k h).payload i l

  pub opened-tx_timer : (k : ℕ) → k < length (tx_of plan) → byte_at (opened plan a) (tx_timer k) ≡ (planned_tx plan k).initial
  opened-tx_timer k h = (puts k h).initial

  pub opened-waits : (k : ℕ) → k < waiter_range → byte_at (opened plan a) (waits k) ≡ 0
  opened-waits k h = still (waits k) (omega arith) (omega arith) (omega arith)

  pub opened_empty : (k : ℕ) → k < 16 → ((ends_of (opened plan a) k).first ≡ 0) × ((ends_of (opened plan a) k).waiting ≡ 0)
  unfolding ends_of
  opened_empty k h =
      let z : (j : ℕ) → queue k + 4 ≤ j → j < queue k + 8 → byte_at (opened plan a) j ≡ 0 =
      λ j l m. still j (omega arith) (omega arith) (omega arith) in (
        omega (arith, z (queue k + 4) (omega arith) (omega arith), z (queue k + 4 + 1) (omega arith) (omega arith)),
        omega (arith, z (queue k + 6) (omega arith) (omega arith), z (queue k + 6 + 1) (omega arith) (omega arith)),
      )
