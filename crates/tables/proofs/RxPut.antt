-- What an Rx record puts into the area for its frame: its timer, its mask, its long counter and its row.
use mathlib.Core.Path.{◌≡◌, ◌∙◌}
use mathlib.Core.List.{List}
use Prim.Native.Nat.{ℕ, ◌+◌, ◌/◌, ◌%◌, ◌<◌, ◌≤◌}
use native.Mathlib.Omega.{arith}
use lib.ListN.{length, set, length-set}
use lib.Seq.{get_or-set_same, get_or-set_other}
use Rattle.base.specs.Numbers.{byte_at, low_at, set_low}
use Rattle.base.proofs.Ranges.{low_same}
use Rattle.clock.specs.Counter.{mask_of}
use Rattle.records.specs.declared.record.RxFrame.{RxFrame}
use Rattle.records.specs.Ids.{behind_id, key_of}
use Rattle.records.proofs.IdLaws.{key_four}
use Rattle.area.specs.Layout.{rx_reloads_start, keys_start, rx_places_start, homes_start, rx_masks_start, requests_start, LongEnough}
use Rattle.area.specs.Layout.{rx_reload, rx_timer, long, key, rx_place, home, rx_mask}
use Rattle.area.proofs.Frame.{Same, Same-refl, Same-then, Same-set, same_two, Same-set_low}
use Rattle.opening.specs.Opened.{next_rx, home_of, with_rx_timer, with_key, with_row, with_rx}
use Rattle.tables.proofs.RxSide.{Clear, put_two, leaves_row, leaves_node_row, leaves_request}

-- all that stands for Rx frame r, whose record x is at a place of the plan
pub record Put (a : List ℕ) (r at : ℕ) (x : RxFrame) : Type 0 where
  pub reload : byte_at a (rx_reload r) ≡ x.reload
  pub initial : byte_at a (rx_timer r) ≡ x.initial
  pub mask : byte_at a (rx_mask r) ≡ mask_of x.prescaler
  pub long : byte_at a (long r) ≡ x.long
  pub low : low_at a (key r) ≡ key_of x.id % 65536
  pub high : low_at a (key r + 2) ≡ key_of x.id / 65536
  pub place : low_at a (rx_place r) ≡ at + behind_id x.id
  pub home : byte_at a (home (requests_start + r)) ≡ home_of x.node x.id

-- a byte that was stored, and is not stored over
record Byte (a : List ℕ) (j v : ℕ) : Type 0 where
  is : byte_at a j ≡ v

here : (a : List ℕ) (i v : ℕ) → i < length a → Byte (set a i v) i v
here a i v h = record { is = get_or-set_same a i v 0 h }

past : {a : List ℕ} {j w : ℕ} (i v : ℕ) → (j ≡ i → ⊥) → Byte a j w → Byte (set a i v) j w
past {a} {j} i v d b = record { is = get_or-set_other a i j v 0 d ∙ b.is }

module _ (r : ℕ) (x : RxFrame) (a : List ℕ) (h : r < 256) (l : LongEnough a) where
  -- the area before each further store
  abbrev one : List ℕ
  one = set a (rx_reload r) x.reload

  abbrev two : List ℕ
  two = set one (rx_timer r) x.initial

  abbrev three : List ℕ
  three = set two (rx_mask r) (mask_of x.prescaler)

  timer_size : LongEnough (with_rx_timer r x a)
  unfolding with_rx_timer
  timer_size = simp length-set l

  timer_reload : Byte (with_rx_timer r x a) (rx_reload r) x.reload
  unfolding with_rx_timer
  timer_reload =
      past (long r) _ (omega arith) (past (rx_mask r) _ (omega arith)
      (past (rx_timer r) _ (omega arith) (here a (rx_reload r) _ (omega arith))))

  timer_initial : Byte (with_rx_timer r x a) (rx_timer r) x.initial
  unfolding with_rx_timer
  timer_initial =
      past (long r) _ (omega arith) (past (rx_mask r) _ (omega arith) (here one (rx_timer r) _ (simp length-set (omega arith))))

  timer_mask : Byte (with_rx_timer r x a) (rx_mask r) (mask_of x.prescaler)
  unfolding with_rx_timer
  timer_mask = past (long r) _ (omega arith) (here two (rx_mask r) _ (simp length-set (omega arith)))

  timer_long : Byte (with_rx_timer r x a) (long r) x.long
  unfolding with_rx_timer
  timer_long = here three (long r) _ (simp length-set (omega arith))

  module _ (at : ℕ) where
    -- the area with the key, and with the place
    abbrev keyed : List ℕ
    keyed = with_key r (key_of x.id) a

    abbrev placed : List ℕ
    placed = set_low keyed (rx_place r) (at + behind_id x.id)

    keyed_size : LongEnough keyed
    unfolding with_key
    keyed_size = simp length-set l

    since_key : Same (λ j. j < rx_places_start) keyed (with_row r at x a)
    unfolding with_row
    since_key = Same-set _ _ (omega arith) (Same-set_low _ _ (omega arith) (omega arith) (Same-refl keyed))

    row_low : low_at (with_row r at x a) (key r) ≡ key_of x.id % 65536
    unfolding with_key
    row_low =
        let s : Same (λ j. j < key r + 2) (set_low a (key r) (key_of x.id % 65536)) keyed = Same-set_low _ _ (omega arith) (omega arith) (Same-refl _) in
        same_two since_key (key r) (omega arith) (omega arith) ∙ same_two s (key r) (omega arith) (omega arith)
        ∙ low_same a (key r) (key_of x.id % 65536) (omega arith) (omega arith)

    row_high : low_at (with_row r at x a) (key r + 2) ≡ key_of x.id / 65536
    unfolding with_key
    row_high =
        let b = set_low a (key r) (key_of x.id % 65536) in
        same_two since_key (key r + 2) (omega arith) (omega arith)
        ∙ low_same b (key r + 2) (key_of x.id / 65536) (simp length-set (omega arith)) (omega (arith, key_four x.id))

    row_place : at + behind_id x.id < 65536 → low_at (with_row r at x a) (rx_place r) ≡ at + behind_id x.id
    unfolding with_row
    row_place k =
        let s : Same (λ j. j < homes_start) placed (with_row r at x a) = Same-set _ _ (omega arith) (Same-refl placed) in
        same_two s (rx_place r) (omega arith) (omega arith) ∙ low_same keyed (rx_place r) (at + behind_id x.id) (omega (arith, keyed_size)) k

    row_home : byte_at (with_row r at x a) (home (requests_start + r)) ≡ home_of x.node x.id
    unfolding with_row
    row_home = get_or-set_same placed (home (requests_start + r)) (home_of x.node x.id) 0 (simp length-set (omega (arith, keyed_size)))

-- after the row come the node, the request and the count
after_row :
    {P : ℕ → Type 0} (at : ℕ) (x : RxFrame) (a : List ℕ) → Clear P 0 rx_reloads_start
    → Same P (with_row (next_rx a) at x (with_rx_timer (next_rx a) x a)) (with_rx at x a)
unfolding with_rx
after_row at x a low =
    put_two low _ _ (omega arith) (omega arith)
    (Same-then (leaves_node_row _ _ _ (λ j l h. low j (omega arith) (omega arith)))
    (leaves_request _ _ (λ j l h. low j (omega arith) (omega arith))))

pub Put-one : (at : ℕ) (x : RxFrame) (a : List ℕ) → LongEnough a → at + behind_id x.id < 65536 → Put (with_rx at x a) (next_rx a) at x
Put-one at x a l here' =
    let r = next_rx a in
    let h : r < 256 = omega arith in
    let t = with_rx_timer r x a in
    let m : LongEnough t = timer_size r x a h l in
    let s : Same (λ j. (rx_reloads_start ≤ j) × (keys_start ≤ j → rx_masks_start ≤ j)) t (with_rx at x a) =
    Same-then
    (leaves_row r at x t (λ j lo hi p. omega (arith, p.1 (omega arith))) (λ j lo hi p. omega (arith, p.1 (omega arith)))
    (λ j lo hi p. omega (arith, p.1 (omega arith))))
    (after_row at x a (omega arith)) in
    let w : Same (λ j. keys_start ≤ j) (with_row r at x t) (with_rx at x a) = after_row at x a (omega arith) in
    record {
      reload = s.at (rx_reload r) (omega arith) ∙ (timer_reload r x a h l).is;
      initial = s.at (rx_timer r) (omega arith) ∙ (timer_initial r x a h l).is;
      mask = s.at (rx_mask r) (omega arith) ∙ (timer_mask r x a h l).is;
      long = s.at (long r) (omega arith) ∙ (timer_long r x a h l).is;
      low = same_two w (key r) (omega arith) (omega arith) ∙ row_low r x t h m at;
      high = same_two w (key r + 2) (omega arith) (omega arith) ∙ row_high r x t h m at;
      place = same_two w (rx_place r) (omega arith) (omega arith) ∙ row_place r x t h m at here';
      home = w.at _ (omega arith) ∙ row_home r x t h m at;
    }
