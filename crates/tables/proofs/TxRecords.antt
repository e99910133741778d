-- What the records make of the Tx frames: each stands under its number as its record says.
use mathlib.Core.Path.{◌≡◌, refl, ap, ◌∙◌}
use mathlib.Core.List.{List, ◌∷◌}
use Prim.Native.Nat.{ℕ, zero, suc, ◌+◌, ◌%◌, ◌<◌, ◌≤◌}
use native.Mathlib.Omega.{arith}
use lib.ListN.{length, get_or, set, length-set}
use lib.Seq.{get_or-set_same}
use Rattle.base.specs.Numbers.{byte_at, low_at, set_low}
use Rattle.base.proofs.Ranges.{low_same}
use Rattle.clock.specs.Counter.{mask_of}
use Rattle.records.specs.declared.record.TxFrame.{TxFrame}
use Rattle.records.specs.declared.record.Record.{Record}
use Rattle.records.specs.declared.record.Record.TheVariants.{Tx}
use Rattle.records.specs.Views.{no_tx}
use Rattle.records.specs.Ids.{behind_id}
use Rattle.records.specs.Records.{size_of, record_at, records_at, eight_bytes}
use Rattle.plan.specs.Rows.{tx_frames}
use Rattle.area.specs.Layout.{tx_count_bytes, tx_reloads_start, tx_places_start, homes_start, homes_end, payloads_start, tx_masks_start, LongEnough}
use Rattle.area.specs.Layout.{tx_reload, tx_timer, tx_place, home, payload, tx_mask}
use Rattle.area.proofs.Frame.{Same, Same-refl, Same-then, Same-set, Same-set_low, same_two}
use Rattle.opening.specs.Opened.{next_tx, home_of, with_tx_timer, with_payload, with_tx_place, with_tx, with_record, with_records}
use Rattle.tables.proofs.Verbatim.{records_head, tx_ends}
use Rattle.tables.proofs.Stored.{None, written_at}
use Rattle.tables.proofs.Spared.{payload-written, Same-payload, Same-timer, Same-frame, Other, along}
use Rattle.tables.proofs.TxLeft.{Left, next_tx_number, next_other, left_records}

-- ---- what stands of Tx frame t, where its record is x

pub record PutTx (plan b : List ℕ) (t : ℕ) (x : TxFrame) : Type 0 where
  pub at : ℕ
  pub reads : record_at plan at ≡ Tx x
  pub place : low_at b (tx_place t) ≡ at + behind_id x.id
  pub home : byte_at b (home t) ≡ home_of x.node x.id
  pub reload : byte_at b (tx_reload t) ≡ x.reload
  pub initial : byte_at b (tx_timer t) ≡ x.initial
  pub mask : byte_at b (tx_mask t) ≡ mask_of x.prescaler
  pub payload : (i : ℕ) → i < 8 → byte_at b (payload t + i) ≡ byte_at (eight_bytes x.payload) i

pub Put-kept :
    (plan a b : List ℕ) (t k : ℕ) (x : TxFrame) → t < k → k ≤ 256 → Same (Left k) a b → PutTx plan a t x → PutTx plan b t x
Put-kept plan a b t k x h l s p =
    record {
      at = p.at;
      reads = p.reads;
      place = same_two s (tx_place t) (omega arith) (omega arith) ∙ p.place;
      home = s.at _ (omega arith) ∙ p.home;
      reload = s.at _ (omega arith) ∙ p.reload;
      initial = s.at _ (omega arith) ∙ p.initial;
      mask = s.at _ (omega arith) ∙ p.mask;
      payload = λ i m. s.at _ (omega arith) ∙ p.payload i m;
    }

-- the area with one more Tx frame, part by part
module _ (at : ℕ) (x : TxFrame) (a : List ℕ) (long : LongEnough a) where
  abbrev t : ℕ
  t = next_tx a

  abbrev placed : List ℕ
  placed = with_tx_place t at x a

  placed_size : length placed ≡ length a
  unfolding with_tx_place
  placed_size = simp length-set

  abbrev timed : List ℕ
  timed = with_tx_timer t x placed

  abbrev loaded : List ℕ
  loaded = with_payload t x.payload timed

  -- the counts stand before the tables
  counted : {P : ℕ → Type 0} → None P 0 tx_reloads_start → Same P loaded (with_tx at x a)
  unfolding with_tx
  counted none =
      Same-set_low tx_count_bytes _ (none tx_count_bytes (omega arith) (omega arith)) (none (tx_count_bytes + 1) (omega arith) (omega arith))
      (Same-frame (x.node % 16) loaded (λ j low high. none j (omega arith) (omega arith)))

  -- the places and the homes stand between the timers and the payloads
  since : Same (λ j. (tx_places_start ≤ j) × (j < homes_end)) placed (with_tx at x a)
  since =
      Same-then (Same-timer t x placed (omega arith) (omega arith) (omega arith))
      (Same-then (Same-payload t x.payload timed (omega arith)) (counted (omega arith)))

  put_place : at + behind_id x.id < 65536 → low_at (with_tx at x a) (tx_place t) ≡ at + behind_id x.id
  unfolding with_tx_place
  put_place h =
      let b = set_low a (tx_place t) (at + behind_id x.id) in
      let s : Same (λ j. j < homes_start) b placed = Same-set _ _ (omega arith) (Same-refl b) in
      same_two since (tx_place t) (omega arith) (omega arith) ∙ same_two s (tx_place t) (omega arith) (omega arith)
      ∙ low_same a (tx_place t) (at + behind_id x.id) (omega arith) h

  put_home : byte_at (with_tx at x a) (home t) ≡ home_of x.node x.id
  unfolding with_tx_place
  put_home =
      since.at (home t) (omega arith)
      ∙ get_or-set_same (set_low a (tx_place t) (at + behind_id x.id)) (home t) (home_of x.node x.id) 0 (simp length-set (omega arith))

  -- the payload and the counts stand before and behind the timer's bytes
  later : {P : ℕ → Type 0} → None P 0 tx_reloads_start → None P payloads_start tx_masks_start → Same P timed (with_tx at x a)
  later low high = Same-then (Same-payload t x.payload timed (λ j l m. high j (omega arith) (omega arith))) (counted low)

  put_reload : byte_at (with_tx at x a) (tx_reload t) ≡ x.reload
  unfolding with_tx_timer
  put_reload =
      let one = set placed (tx_reload t) x.reload in
      let s : Same (λ j. j ≡ tx_reload t) one timed = Same-set _ _ (omega arith) (Same-set _ _ (omega arith) (Same-refl one)) in
      (later {P = λ j. j ≡ tx_reload t} (omega arith) (omega arith)).at _ refl ∙ s.at _ refl
      ∙ get_or-set_same placed (tx_reload t) x.reload 0 (omega (arith, placed_size))

  put_initial : byte_at (with_tx at x a) (tx_timer t) ≡ x.initial
  unfolding with_tx_timer
  put_initial =
      let one = set placed (tx_reload t) x.reload in
      let two = set one (tx_timer t) x.initial in
      let s : Same (λ j. j ≡ tx_timer t) two timed = Same-set _ _ (omega arith) (Same-refl two) in
      (later {P = λ j. j ≡ tx_timer t} (omega arith) (omega arith)).at _ refl ∙ s.at _ refl
      ∙ get_or-set_same one (tx_timer t) x.initial 0 (simp length-set (omega (arith, placed_size)))

  put_mask : byte_at (with_tx at x a) (tx_mask t) ≡ mask_of x.prescaler
  unfolding with_tx_timer
  put_mask =
      let two = set (set placed (tx_reload t) x.reload) (tx_timer t) x.initial in
      (later {P = λ j. j ≡ tx_mask t} (omega arith) (omega arith)).at _ refl
      ∙ get_or-set_same two (tx_mask t) (mask_of x.prescaler) 0 (simp length-set (omega (arith, placed_size)))

  put_payload : (i : ℕ) → i < 8 → byte_at (with_tx at x a) (payload t + i) ≡ byte_at (eight_bytes x.payload) i
  put_payload i h =
      let P : ℕ → Type 0 = λ j. payloads_start ≤ j in
      let s : Same P loaded (with_tx at x a) = counted (omega arith) in
      let l : length timed ≡ length placed = (Same-timer {P = λ j. ⊥} t x placed (omega arith) (omega arith) (omega arith)).len in
      s.at _ (omega arith)
      ∙ rw (payload-written t x.payload timed)
      (written_at timed (payload t) (eight_bytes x.payload) i h (rw l (omega (arith, placed_size))))

put_tx :
    (plan : List ℕ) (at : ℕ) (x : TxFrame) (a : List ℕ) → LongEnough a → at + behind_id x.id < 65536 → record_at plan at ≡ Tx x
    → PutTx plan (with_tx at x a) (next_tx a) x
put_tx plan at x a long small is =
    record {
      at = at;
      reads = is;
      place = put_place at x a long small;
      home = put_home at x a long;
      reload = put_reload at x a long;
      initial = put_initial at x a long;
      mask = put_mask at x a long;
      payload = put_payload at x a long;
    }

-- ---- so each Tx frame of the records from a place on stands under its number

module _ (plan : List ℕ) (short : length plan ≤ 65536) where
  abbrev PutBy : ℕ → List Record → List ℕ → Type 0
  PutBy at rs a =
      records_at plan at ≡ rs → LongEnough a → low_at a tx_count_bytes + length (tx_frames rs) ≤ 256 → (k : ℕ) → k < length (tx_frames rs)
      → PutTx plan (with_records at rs a) (low_at a tx_count_bytes + k) (get_or (tx_frames rs) k no_tx)

  put_first : (at : ℕ) (x : TxFrame) (rs : List Record) (a : List ℕ) → PutBy (at + size_of (Tx x)) rs (with_tx at x a) → PutBy at (Tx x ∷ rs) a
  unfolding tx_frames with_records with_record
  put_first at x rs a rest is long most zero h =
      let r = records_head plan at (Tx x) rs is in
      let e = next_tx_number at x a (omega arith) (omega arith) in
      let number : low_at a tx_count_bytes + 0 ≡ next_tx a = omega arith in
      let later = left_records (next_tx a + 1) (at + size_of (Tx x)) rs (with_tx at x a) (omega arith) (omega arith) (omega arith) in
      rw number
      (Put-kept plan (with_tx at x a) _ (next_tx a) (next_tx a + 1) x (omega arith) (omega arith) later (put_tx plan at x a long (omega (arith, tx_ends plan at x r.1)) r.1))
  put_first at x rs a rest is long most (suc k) h =
      let e = next_tx_number at x a (omega arith) (omega arith) in
      let number : low_at a tx_count_bytes + suc k ≡ low_at (with_tx at x a) tx_count_bytes + k = omega arith in
      rw number (rest (records_head plan at (Tx x) rs is).2 (omega arith) (omega arith) k (omega arith))

  put_other :
      (at : ℕ) (r : Record) (rs : List Record) (a : List ℕ) → Other r → PutBy (at + size_of r) rs (with_record at r a) → PutBy at (r ∷ rs) a
  unfolding with_records
  put_other at r rs a o rest is long most k h =
      let f = ap length (o.frames rs) in
      let e = next_other at r a o (omega arith) (omega arith) in
      rw (o.frames rs, ← e.1) (rest (records_head plan at r rs is).2 (omega arith) (omega arith) k (omega arith))

  pub put_records : (at : ℕ) (rs : List Record) (a : List ℕ) → PutBy at rs a
  unfolding tx_frames
  put_records = along PutBy (λ at a is long most k h. absurd (omega arith)) put_first put_other
