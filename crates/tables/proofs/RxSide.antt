-- What the parts of an opening leave, over any P that names no place that they write; and the places that only Rx frames write.
use mathlib.Core.Path.{◌≡◌, refl}
use mathlib.Core.List.{List, ◌∷◌}
use Prim.Native.Nat.{ℕ, zero, suc, ◌+◌, ◌%◌, ◌<◌, ◌≤◌}
use native.Mathlib.Omega.{arith}
use lib.ListN.{length, set}
use Rattle.base.specs.Numbers.{set_low}
use Rattle.records.specs.declared.record.TxFrame.{TxFrame}
use Rattle.records.specs.declared.record.RxFrame.{RxFrame}
use Rattle.records.specs.declared.record.Record.{Record}
use Rattle.records.specs.declared.record.Record.TheVariants.{Head, Node, Tx, Rx, Signal, Destination, Broken}
use Rattle.plan.specs.Rows.{rows_from}
use Rattle.area.specs.Layout.{node_count_byte, can_count_byte, tx_count_bytes, rx_count_bytes, header_end, queues_start, rx_reloads_start, tx_timers_start}
use Rattle.area.specs.Layout.{rx_timers_start, full_start, keys_start, homes_start, payloads_start, rx_masks_start, requests_start}
use Rattle.area.specs.Layout.{node, queue, rx_reload, rx_timer, long, key, rx_place, home, payload, rx_mask}
use Rattle.area.proofs.Frame.{Same, Same-refl, Same-then, Same-set, Same-set_low, Same-pick}
use Rattle.opening.specs.Opened.{with_tx_timer, with_payload, with_frame, with_tx_place, with_tx, with_record, with_rings, with_fullness}
use Rattle.opening.specs.Opened.{next_rx, with_rx_timer, with_key, with_row, with_node_row, with_request, with_rx, with_can, with_node}

-- P names no place from low to before high
abbrev pub Clear : (ℕ → Type 0) → ℕ → ℕ → Type 0
Clear P low high = (j : ℕ) → low ≤ j → j < high → P j → ⊥

module _ {P : ℕ → Type 0} where
  pub put : {a b : List ℕ} {low high : ℕ} → Clear P low high → (i v : ℕ) → low ≤ i → i < high → Same P a b → Same P a (set b i v)
  put clear i v l h s = Same-set i v (clear i l h) s

  pub put_two : {a b : List ℕ} {low high : ℕ} → Clear P low high → (i v : ℕ) → low ≤ i → i + 1 < high → Same P a b → Same P a (set_low b i v)
  put_two clear i v l h s = Same-set_low i v (clear i l (omega arith)) (clear (i + 1) (omega arith) h) s

  -- ---- an Rx frame: its timer, its row, its node

  pub leaves_rx_timer :
      (r : ℕ) (x : RxFrame) (a : List ℕ) → Clear P (rx_reload r) (rx_reload r + 1) → Clear P (rx_timer r) (rx_timer r + 1) → Clear P (long r) (long r + 1)
      → Clear P (rx_mask r) (rx_mask r + 1) → Same P a (with_rx_timer r x a)
  unfolding with_rx_timer
  leaves_rx_timer r x a reload timer count mask =
      put count _ _ (omega arith) (omega arith) (put mask _ _ (omega arith) (omega arith)
      (put timer _ _ (omega arith) (omega arith) (put reload _ _ (omega arith) (omega arith) (Same-refl a))))

  pub leaves_row :
      (r at : ℕ) (x : RxFrame) (a : List ℕ) → Clear P (key r) (key r + 4) → Clear P (rx_place r) (rx_place r + 2)
      → Clear P (home (requests_start + r)) (home (requests_start + r) + 1) → Same P a (with_row r at x a)
  unfolding with_row with_key
  leaves_row r at x a key place home =
      put home _ _ (omega arith) (omega arith) (put_two place _ _ (omega arith) (omega arith)
      (put_two key _ _ (omega arith) (omega arith) (put_two key _ _ (omega arith) (omega arith) (Same-refl a))))

  -- a node record: the two counts
  pub leaves_node : (type : ℕ) (a : List ℕ) → Clear P node_count_byte tx_count_bytes → Same P a (with_node type a)
  unfolding with_node with_can
  leaves_node type a clear =
      let s = put clear node_count_byte _ (omega arith) (omega arith) (Same-refl a) in
      Same-pick _ _ _ (put clear can_count_byte _ (omega arith) (omega arith) s) s

  pub leaves_request : (n : ℕ) (a : List ℕ) → Clear P (queue n + 2) (queue n + 4) → Same P a (with_request n a)
  unfolding with_request with_frame
  leaves_request n a clear = Same-pick _ _ _ (Same-refl a) (put_two clear _ _ (omega arith) (omega arith) (Same-refl a))

  pub leaves_node_row : (n r : ℕ) (a : List ℕ) → Clear P (node n) (node n + 4) → Same P a (with_node_row n r a)
  unfolding with_node_row
  leaves_node_row n r a clear =
      put_two clear _ _ (omega arith) (omega arith)
      (Same-pick _ _ _ (put_two clear _ _ (omega arith) (omega arith) (Same-refl a)) (Same-refl a))

-- P names no place that Rx frame r of node n writes
pub record RxClear (P : ℕ → Type 0) (r n : ℕ) : Type 0 where
  pub count : Clear P rx_count_bytes header_end
  pub node : Clear P (node n) (node n + 4)
  pub room : Clear P (queue n + 2) (queue n + 4)
  pub reload : Clear P (rx_reload r) (rx_reload r + 1)
  pub timer : Clear P (rx_timer r) (rx_timer r + 1)
  pub long : Clear P (long r) (long r + 1)
  pub key : Clear P (key r) (key r + 4)
  pub place : Clear P (rx_place r) (rx_place r + 2)
  pub home : Clear P (home (requests_start + r)) (home (requests_start + r) + 1)
  pub mask : Clear P (rx_mask r) (rx_mask r + 1)

pub leaves_rx : {P : ℕ → Type 0} (at : ℕ) (x : RxFrame) (a : List ℕ) → RxClear P (next_rx a) (x.node % 16) → Same P a (with_rx at x a)
unfolding with_rx
leaves_rx at x a c =
    put_two c.count _ _ (omega arith) (omega arith)
    (Same-then (leaves_rx_timer _ x a c.reload c.timer c.long c.mask)
    (Same-then (leaves_row _ at x _ c.key c.place c.home)
    (Same-then (leaves_node_row _ _ _ c.node) (leaves_request _ _ c.room))))

pub rx_length : (at : ℕ) (x : RxFrame) (a : List ℕ) → length (with_rx at x a) ≡ length a
rx_length at x a = (leaves_rx {P = λ j. ⊥} at x a (omega arith)).len

-- ---- the places that only Rx frames write, by what they are not: header, queues and Tx reload values, Tx timers, fullness and Tx places,
-- homes of Tx frames, payloads and Tx masks

pub record RxSide (j : ℕ) : Type 0 where
  pub header : rx_count_bytes ≤ j
  pub low : queues_start ≤ j → rx_reloads_start ≤ j
  pub timers : tx_timers_start ≤ j → rx_timers_start ≤ j
  pub middle : full_start ≤ j → keys_start ≤ j
  pub homes : homes_start ≤ j → home requests_start ≤ j
  pub high : payloads_start ≤ j → rx_masks_start ≤ j

header_clear : Clear RxSide 0 rx_count_bytes
header_clear j l h p = omega (arith, p.header)

low_clear : Clear RxSide queues_start rx_reloads_start
low_clear j l h p = omega (arith, p.low l)

timers_clear : Clear RxSide tx_timers_start rx_timers_start
timers_clear j l h p = omega (arith, p.timers l)

middle_clear : Clear RxSide full_start keys_start
middle_clear j l h p = omega (arith, p.middle l)

homes_clear : Clear RxSide homes_start (home requests_start)
homes_clear j l h p = omega (arith, p.homes l)

high_clear : Clear RxSide payloads_start rx_masks_start
high_clear j l h p = omega (arith, p.high l)

leaves_tx_timer : (t : ℕ) (x : TxFrame) (a : List ℕ) → t < 256 → Same RxSide a (with_tx_timer t x a)
unfolding with_tx_timer
leaves_tx_timer t x a h =
    put high_clear _ _ (omega arith) (omega arith)
    (put timers_clear _ _ (omega arith) (omega arith) (put low_clear _ _ (omega arith) (omega arith) (Same-refl a)))

in_payload : {a b : List ℕ} (t i v : ℕ) → t < 256 → i < 8 → Same RxSide a b → Same RxSide a (set b (payload t + i) v)
in_payload t i v h l s = put high_clear _ _ (omega arith) (omega arith) s

leaves_payload : (t : ℕ) (b : List ℕ) (a : List ℕ) → t < 256 → Same RxSide a (with_payload t b a)
unfolding with_payload
leaves_payload t b a h =
    in_payload t 7 _ h (omega arith) (in_payload t 6 _ h (omega arith) (in_payload t 5 _ h (omega arith) (in_payload t 4 _ h (omega arith)
    (in_payload t 3 _ h (omega arith) (in_payload t 2 _ h (omega arith) (in_payload t 1 _ h (omega arith)
    (put high_clear _ _ (omega arith) (omega arith) (Same-refl a))))))))

leaves_tx_place : (t at : ℕ) (x : TxFrame) (a : List ℕ) → t < 256 → Same RxSide a (with_tx_place t at x a)
unfolding with_tx_place
leaves_tx_place t at x a h =
    put homes_clear _ _ (omega arith) (omega arith) (put_two middle_clear _ _ (omega arith) (omega arith) (Same-refl a))

leaves_tx : (at : ℕ) (x : TxFrame) (a : List ℕ) → Same RxSide a (with_tx at x a)
unfolding with_tx with_frame
leaves_tx at x a =
    put_two header_clear _ _ (omega arith) (omega arith) (put_two low_clear _ _ (omega arith) (omega arith)
    (Same-then (leaves_tx_place _ at x a (omega arith))
    (Same-then (leaves_tx_timer _ x _ (omega arith)) (leaves_payload _ x.payload _ (omega arith)))))

leaves_rings : (n : ℕ) (a : List ℕ) → n ≤ 16 → Same RxSide a (with_rings n a)
unfolding with_rings
leaves_rings zero a h = Same-refl a
leaves_rings (suc n) a h = put_two low_clear _ _ (omega arith) (omega arith) (leaves_rings n a (omega arith))

leaves_fullness : (sets : List ℕ) (n : ℕ) (a : List ℕ) → n ≤ 256 → Same RxSide a (with_fullness sets n a)
unfolding with_fullness
leaves_fullness sets zero a h = Same-refl a
leaves_fullness sets (suc n) a h = put_two middle_clear _ _ (omega arith) (omega arith) (leaves_fullness sets n a (omega arith))

pub leaves_last : (sets a : List ℕ) → Same RxSide a (with_fullness sets 256 (with_rings 16 a))
leaves_last sets a = Same-then (leaves_rings 16 a (omega arith)) (leaves_fullness sets 256 _ (omega arith))

-- ---- a record is an Rx frame, or it makes no row and leaves these places

pub data Kind (at : ℕ) (r : Record) : Type 0 where
  frame : (x : RxFrame) → r ≡ Rx x → Kind at r
  other : ((n : ℕ) (rs : List Record) → rows_from n (r ∷ rs) ≡ rows_from n rs) → ((a : List ℕ) → Same RxSide a (with_record at r a)) → Kind at r

pub kind : (at : ℕ) (r : Record) → Kind at r
unfolding rows_from with_record
kind at (Rx x) = frame x refl
kind at (Head order) = other (λ n rs. refl) (λ a. put header_clear 3 order (omega arith) (omega arith) (Same-refl a))
kind at (Node body) = other (λ n rs. refl) (λ a. leaves_node body.of a (λ j l h. header_clear j (omega arith) (omega arith)))
kind at (Tx x) = other (λ n rs. refl) (leaves_tx at x)
kind at (Signal body) = other (λ n rs. refl) Same-refl
kind at (Destination body) = other (λ n rs. refl) Same-refl
kind at (Broken fault) = other (λ n rs. refl) Same-refl
