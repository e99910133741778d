-- What an opening leaves of the Tx frames that are stored already, and of the places that no record writes.
use mathlib.Core.Path.{◌≡◌, ap, ◌∙◌}
use mathlib.Core.List.{List, [], ◌∷◌}
use Prim.Native.Nat.{ℕ, ◌+◌, ◌%◌, ◌<◌, ◌≤◌}
use native.Mathlib.Omega.{arith}
use lib.ListN.{length}
use Rattle.base.specs.Numbers.{low_at}
use Rattle.records.specs.declared.record.TxFrame.{TxFrame}
use Rattle.records.specs.declared.record.Record.{Record}
use Rattle.records.specs.declared.record.Record.TheVariants.{Tx}
use Rattle.base.specs.Pick.{pick}
use Rattle.records.specs.Kinds.{form_of, length_of, kind_of}
use Rattle.records.specs.Records.{size_of}
use Rattle.plan.specs.Rows.{tx_frames}
use Rattle.area.specs.Layout.{tx_count_bytes, header_end, queues_start, tx_reloads_start, tx_timers_start, waits_start, full_start}
use Rattle.area.specs.Layout.{tx_places_start, homes_start, homes_end, payloads_start, tx_masks_start, masks_end}
use Rattle.area.specs.Layout.{queue, tx_reload, tx_timer, tx_place, home, payload, tx_mask}
use Rattle.area.proofs.Frame.{Same, Same-refl, Same-then}
use Rattle.opening.specs.Opened.{next_tx, with_tx, with_record, with_records, with_rings, with_fullness}
use Rattle.opening.proofs.Counted.{counts}
use Rattle.tables.proofs.Stored.{None}
use Rattle.tables.proofs.Spared.{NoTx, Same-tx, tx_length, NoRx, Other, along, Same-rings, Same-fullness}

-- ---- a place that nothing writes once the Tx frames below k are stored: no header, node, start or room of a queue, Rx frame, fullness, later frame

pub record Left (k j : ℕ) : Type 0 where
  pub low : queues_start ≤ j
  pub queues : j < tx_reloads_start → 4 ≤ j % 8
  pub reloads : tx_reloads_start ≤ j → j < tx_timers_start → j < tx_reload k
  pub timers : tx_timers_start ≤ j → j < waits_start → j < tx_timer k
  pub tables : full_start ≤ j → j < homes_start → (tx_places_start ≤ j) × (j < tx_place k)
  pub homes : homes_start ≤ j → j < homes_end → j < home k
  pub payloads : payloads_start ≤ j → j < tx_masks_start → j < payload k
  pub masks : tx_masks_start ≤ j → j < masks_end → j < tx_mask k

left_queues : (k n : ℕ) → n < 16 → None (Left k) (queue n) (queue n + 4)
left_queues k n h j l m p = omega (arith, p.queues (omega arith))

left_rx : (k : ℕ) → k ≤ 256 → NoRx (Left k)
left_rx k h = record {
  low = λ j l m p. omega arith;
  rooms = λ n b j l m p. left_queues k n b j (omega arith) m p;
  reloads = λ j l m p. omega (arith, p.reloads (omega arith) m);
  timers = λ j l m p. omega (arith, p.timers (omega arith) m);
  rows = λ j l m p. omega (arith, p.tables (omega arith) m);
  homes = λ j l m p. omega (arith, p.homes (omega arith) m);
  masks = λ j l m p. omega (arith, p.masks (omega arith) m);
}

left_tx : (k t : ℕ) → k ≤ t → t < 256 → NoTx (Left k) t
left_tx k t h b = record {
  reload = λ p. omega (arith, p.reloads (omega arith) (omega arith));
  timer = λ p. omega (arith, p.timers (omega arith) (omega arith));
  place = λ j l m p. omega (arith, p.tables (omega arith) (omega arith));
  home = λ p. omega (arith, p.homes (omega arith) (omega arith));
  payload = λ j l m p. omega (arith, p.payloads (omega arith) (omega arith));
  mask = λ p. omega (arith, p.masks (omega arith) (omega arith));
}

-- ---- the area after one record: its length, and the number that the next Tx frame gets

pub next_tx_number :
    (at : ℕ) (x : TxFrame) (a : List ℕ) → header_end ≤ length a → low_at a tx_count_bytes < 256
    → (length (with_tx at x a) ≡ length a) × (low_at (with_tx at x a) tx_count_bytes ≡ low_at a tx_count_bytes + 1)
unfolding with_records with_record tx_frames
next_tx_number at x a l h = (tx_length at x a, (counts at (Tx x ∷ []) a l).tx (omega arith))

pub next_other :
    (at : ℕ) (r : Record) (a : List ℕ) → Other r → header_end ≤ length a → low_at a tx_count_bytes ≤ 256
    → (length (with_record at r a) ≡ length a) × (low_at (with_record at r a) tx_count_bytes ≡ low_at a tx_count_bytes)
unfolding with_records tx_frames
next_other at r a o l h =
    let e : length (tx_frames (r ∷ [])) ≡ 0 = ap length (o.frames []) in
    ((o.keeps (λ j. ⊥) (omega arith) at a).len, (counts at (r ∷ []) a l).tx (omega arith) ∙ omega arith)

-- ---- so what stands of the Tx frames below k is left by all records that follow

abbrev LeftBy : ℕ → ℕ → List Record → List ℕ → Type 0
LeftBy k at rs a = k ≤ low_at a tx_count_bytes → low_at a tx_count_bytes + length (tx_frames rs) ≤ 256 → header_end ≤ length a → Same (Left k) a (with_records at rs a)

pub left_records : (k at : ℕ) (rs : List Record) (a : List ℕ) → LeftBy k at rs a
unfolding with_records with_record form_of length_of kind_of size_of pick tx_frames
left_records k =
    along (LeftBy k)
    (λ at a low most long. Same-refl a)
    (λ at x rs a rest low most long.
    let e = next_tx_number at x a long (omega arith) in
    Same-then
    (Same-tx at x a (left_tx k (next_tx a) (omega arith) (omega arith))
    (λ j l m. left_queues k (x.node % 16) (omega arith) j (omega arith) m) (λ j l m p. omega arith))
    (rest (omega arith) (omega arith) (omega arith)))
    (λ at r rs a o rest low most long.
    let f = ap length (o.frames rs) in
    let e = next_other at r a o long (omega arith) in
    Same-then (o.keeps (Left k) (left_rx k (omega arith)) at a) (rest (omega arith) (omega arith) (omega arith)))

-- and by the rings and the fullness
pub left_last : (k : ℕ) (sets a : List ℕ) → Same (Left k) a (with_fullness sets 256 (with_rings 16 a))
left_last k sets a =
    Same-then (Same-rings 16 a (λ n h j low high. left_queues k n h j low (omega arith)))
    (Same-fullness sets 256 _ (omega arith) (λ j low high p. omega (arith, p.tables low (omega arith))))
