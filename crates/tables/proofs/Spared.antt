-- What the parts of an opening leave, over any set P of places that a part does not write; finer than `opening` has it.
use mathlib.Core.Path.{◌≡◌, refl}
use mathlib.Core.List.{List, [], ◌∷◌}
use Prim.Native.Nat.{ℕ, zero, suc, ◌+◌, ◌%◌, ◌<◌, ◌≤◌}
use native.Mathlib.Nat.{add-zero}
use native.Mathlib.Omega.{arith}
use lib.ListN.{length}
use Rattle.records.specs.declared.record.TxFrame.{TxFrame}
use Rattle.records.specs.declared.record.RxFrame.{RxFrame}
use Rattle.records.specs.declared.record.Record.{Record}
use Rattle.records.specs.declared.record.Record.TheVariants.{Head, Node, Tx, Rx, Signal, Destination, Broken}
use Rattle.records.specs.Records.{size_of, eight_bytes}
use Rattle.plan.specs.Rows.{tx_frames}
use Rattle.area.specs.Layout.{tx_count_bytes, rx_count_bytes, queues_start, rx_reloads_start, tx_timers_start, rx_timers_start, waits_start}
use Rattle.area.specs.Layout.{full_start, tx_places_start, keys_start, homes_start, homes_end, rx_masks_start, masks_end, requests_start}
use Rattle.area.specs.Layout.{queue, tx_reload, tx_timer, tx_place, home, payload, tx_mask}
use Rattle.area.proofs.Frame.{Same, Same-refl, Same-then, Same-set, Same-pick}
use Rattle.opening.specs.Opened.{next_tx, with_tx_timer, with_payload, with_frame, with_tx_place, with_tx, with_rx_timer}
use Rattle.opening.specs.Opened.{with_key, with_row, with_node_row, with_rx, with_record, with_rings, with_fullness}
use Rattle.tables.proofs.Stored.{None, put, put_two, written, Same-written}
use Rattle.tables.proofs.RxSide.{leaves_node, leaves_request}

-- ---- the parts of a Tx frame of number t

-- P names none of its own places
pub record NoTx (P : ℕ → Type 0) (t : ℕ) : Type 0 where
  pub reload : P (tx_reload t) → ⊥
  pub timer : P (tx_timer t) → ⊥
  pub place : None P (tx_place t) (tx_place t + 2)
  pub home : P (home t) → ⊥
  pub payload : None P (payload t) (payload t + 8)
  pub mask : P (tx_mask t) → ⊥

pub payload-written : (t : ℕ) (b : List ℕ) (a : List ℕ) → with_payload t b a ≡ written a (payload t) 0 (eight_bytes b)
unfolding with_payload written
payload-written t b a = rw (add-zero (payload t))

module _ {P : ℕ → Type 0} where
  pub Same-payload : (t : ℕ) (b : List ℕ) (a : List ℕ) → None P (payload t) (payload t + 8) → Same P a (with_payload t b a)
  Same-payload t b a none =
      rw (payload-written t b a) (Same-written a (payload t) 0 (eight_bytes b) (λ j low high. none j (omega arith) (omega arith)))

  pub Same-timer :
      (t : ℕ) (x : TxFrame) (a : List ℕ) → (P (tx_reload t) → ⊥) → (P (tx_timer t) → ⊥) → (P (tx_mask t) → ⊥) → Same P a (with_tx_timer t x a)
  unfolding with_tx_timer
  Same-timer t x a reload timer mask = Same-set _ _ mask (Same-set _ _ timer (Same-set _ _ reload (Same-refl a)))

  pub Same-frame : (n : ℕ) (a : List ℕ) → None P (queue n + 2) (queue n + 4) → Same P a (with_frame n a)
  unfolding with_frame
  Same-frame n a none = put_two none _ _ (omega arith) (omega arith) (Same-refl a)

  Same-place : (t at : ℕ) (x : TxFrame) (a : List ℕ) → None P (tx_place t) (tx_place t + 2) → (P (home t) → ⊥) → Same P a (with_tx_place t at x a)
  unfolding with_tx_place
  Same-place t at x a place home = Same-set _ _ home (put_two place _ _ (omega arith) (omega arith) (Same-refl a))

  -- all that is written of it, but for the counts
  pub Same-own :
      (t at : ℕ) (x : TxFrame) (a : List ℕ) → NoTx P t → Same P a (with_payload t x.payload (with_tx_timer t x (with_tx_place t at x a)))
  Same-own t at x a f =
      Same-then (Same-place t at x a f.place f.home)
      (Same-then (Same-timer t x _ f.reload f.timer f.mask) (Same-payload t x.payload _ f.payload))

  pub Same-tx :
      (at : ℕ) (x : TxFrame) (a : List ℕ) → NoTx P (next_tx a) → None P (queue (x.node % 16) + 2) (queue (x.node % 16) + 4) → None P tx_count_bytes rx_count_bytes
      → Same P a (with_tx at x a)
  unfolding with_tx
  Same-tx at x a own frames count =
      put_two count tx_count_bytes _ (omega arith) (omega arith) (Same-then (Same-own (next_tx a) at x a own) (Same-frame (x.node % 16) _ frames))

pub tx_length : (at : ℕ) (x : TxFrame) (a : List ℕ) → length (with_tx at x a) ≡ length a
tx_length at x a = (Same-tx {P = λ j. ⊥} at x a (omega arith) (omega arith) (omega arith)).len

-- ---- the other records

-- P names no place of the header, the nodes, the queues' rooms and the Rx frames
pub record NoRx (P : ℕ → Type 0) : Type 0 where
  pub low : None P 0 queues_start
  pub rooms : (n : ℕ) → n < 16 → None P (queue n + 2) (queue n + 4)
  pub reloads : None P rx_reloads_start tx_timers_start
  pub timers : None P rx_timers_start waits_start
  pub rows : None P keys_start homes_start
  pub homes : None P (home requests_start) homes_end
  pub masks : None P rx_masks_start masks_end

module _ {P : ℕ → Type 0} (f : NoRx P) where
  Same-rx_timer : (r : ℕ) (x : RxFrame) (a : List ℕ) → r < 256 → Same P a (with_rx_timer r x a)
  unfolding with_rx_timer
  Same-rx_timer r x a h =
      put f.timers _ _ (omega arith) (omega arith) (put f.masks _ _ (omega arith) (omega arith)
      (put f.timers _ _ (omega arith) (omega arith) (put f.reloads _ _ (omega arith) (omega arith) (Same-refl a))))

  Same-row : (r at : ℕ) (x : RxFrame) (a : List ℕ) → r < 256 → Same P a (with_row r at x a)
  unfolding with_row with_key
  Same-row r at x a h =
      put f.homes _ _ (omega arith) (omega arith) (put_two f.rows _ _ (omega arith) (omega arith)
      (put_two f.rows _ _ (omega arith) (omega arith) (put_two f.rows _ _ (omega arith) (omega arith) (Same-refl a))))

  Same-node_row : (n r : ℕ) (a : List ℕ) → n < 16 → Same P a (with_node_row n r a)
  unfolding with_node_row
  Same-node_row n r a h =
      put_two f.low _ _ (omega arith) (omega arith)
      (Same-pick _ _ _ (put_two f.low _ _ (omega arith) (omega arith) (Same-refl a)) (Same-refl a))

  Same-rx : (at : ℕ) (x : RxFrame) (a : List ℕ) → Same P a (with_rx at x a)
  unfolding with_rx
  Same-rx at x a =
      put_two f.low rx_count_bytes _ (omega arith) (omega arith)
      (Same-then (Same-rx_timer _ x a (omega arith))
      (Same-then (Same-row _ at x _ (omega arith))
      (Same-then (Same-node_row _ _ _ (omega arith)) (leaves_request _ _ (f.rooms (x.node % 16) (omega arith))))))

-- a record that is no Tx frame: it leaves all places of the Tx frames
pub record Other (r : Record) : Type 1 where
  pub frames : (rs : List Record) → tx_frames (r ∷ rs) ≡ tx_frames rs
  pub keeps : (P : ℕ → Type 0) → NoRx P → (at : ℕ) (a : List ℕ) → Same P a (with_record at r a)

-- so what is proved of the records from a place on goes by two cases
pub along :
    (Q : ℕ → List Record → List ℕ → Type 0) → ((at : ℕ) (a : List ℕ) → Q at [] a)
    → ((at : ℕ) (x : TxFrame) (rs : List Record) (a : List ℕ) → Q (at + size_of (Tx x)) rs (with_tx at x a) → Q at (Tx x ∷ rs) a)
    → ((at : ℕ) (r : Record) (rs : List Record) (a : List ℕ) → Other r → Q (at + size_of r) rs (with_record at r a) → Q at (r ∷ rs) a)
    → (at : ℕ) (rs : List Record) (a : List ℕ) → Q at rs a
unfolding tx_frames with_record
along Q none tx other at [] a = none at a
along Q none tx other at (r ∷ rs) a = step r (along Q none tx other (at + size_of r) rs (with_record at r a))
  where
    by : (r : Record) → ((rs : List Record) → tx_frames (r ∷ rs) ≡ tx_frames rs)
        → ((P : ℕ → Type 0) → NoRx P → (at : ℕ) (a : List ℕ) → Same P a (with_record at r a))
        → Q (at + size_of r) rs (with_record at r a) → Q at (r ∷ rs) a
    by r frames keeps = other at r rs a (record { frames = frames; keeps = keeps })

    step : (r : Record) → Q (at + size_of r) rs (with_record at r a) → Q at (r ∷ rs) a
    step (Tx x) = tx at x rs a
    step (Head o) = by (Head o) (λ rs. refl) (λ P f at a. put f.low 3 o (omega arith) (omega arith) (Same-refl a))
    step (Node body) = by (Node body) (λ rs. refl) (λ P f at a. leaves_node body.of a (λ j l h. f.low j (omega arith) (omega arith)))
    step (Rx x) = by (Rx x) (λ rs. refl) (λ P f at a. Same-rx f at x a)
    step (Signal body) = by (Signal body) (λ rs. refl) (λ P f at a. Same-refl a)
    step (Destination body) = by (Destination body) (λ rs. refl) (λ P f at a. Same-refl a)
    step (Broken fault) = by (Broken fault) (λ rs. refl) (λ P f at a. Same-refl a)

-- ---- the rings' starts, and the fullness

module _ {P : ℕ → Type 0} where
  pub Same-rings : (n : ℕ) (a : List ℕ) → ((k : ℕ) → k < n → None P (queue k) (queue k + 2)) → Same P a (with_rings n a)
  unfolding with_rings
  Same-rings zero a none = Same-refl a
  Same-rings (suc n) a none =
      put_two (none n (omega arith)) (queue n) _ (omega arith) (omega arith) (Same-rings n a (λ k h. none k (omega arith)))

  pub Same-fullness : (sets : List ℕ) (n : ℕ) (a : List ℕ) → n ≤ 256 → None P full_start tx_places_start → Same P a (with_fullness sets n a)
  unfolding with_fullness
  Same-fullness sets zero a h none = Same-refl a
  Same-fullness sets (suc n) a h none = put_two none _ _ (omega arith) (omega arith) (Same-fullness sets n a (omega arith) none)
