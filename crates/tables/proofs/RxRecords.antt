-- What stands in an opened area for each Rx frame: what its record put there, which no later record writes over.
use mathlib.Core.Path.{◌≡◌, ◌∙◌}
use mathlib.Core.Logic.{⊎_elim}
use mathlib.Core.List.{List, ◌∷◌}
use Prim.Native.Nat.{ℕ, suc, ◌+◌, ◌%◌, ◌<◌, ◌≤◌}
use native.Mathlib.Nat.{eq-or-lt_of_le}
use native.Mathlib.Omega.{arith}
use lib.ListN.{length}
use Rattle.records.specs.declared.record.RxFrame.{RxFrame}
use Rattle.records.specs.declared.record.Record.TheVariants.{Rx}
use Rattle.records.specs.Records.{record_at, size_of, records_at}
use Rattle.plan.specs.Rows.{row_of, rows_of}
use Rattle.facts.specs.Good.{GoodPlan}
use Rattle.area.specs.Layout.{rx_reloads_start, tx_timers_start, rx_timers_start, long_start, waits_start, full_start, keys_start, rx_places_start}
use Rattle.area.specs.Layout.{homes_start, homes_end, payloads_start, rx_masks_start, requests_start, LongEnough, rx_reload, rx_timer, long, key, rx_place, home, rx_mask}
use Rattle.area.proofs.Frame.{Same, Same-fewer, same_two}
use Rattle.opening.specs.Opened.{with_rx, opened}
use Rattle.tables.specs.Reads.{row_at}
use Rattle.tables.proofs.Verbatim.{Sound, rx_ends}
use Rattle.tables.proofs.RxSide.{RxClear, leaves_rx, RxSide}
use Rattle.tables.proofs.RowWalk.{Meets, opened_walk}
use Rattle.tables.proofs.RxPut.{Put, Put-one}

-- ---- the places of the Rx frames below k, which no later record writes

record Below (k j : ℕ) : Type 0 where
  tables : rx_reloads_start ≤ j
  reload : j < tx_timers_start → j < rx_reload k
  timers : tx_timers_start ≤ j → rx_timers_start ≤ j
  timer : rx_timers_start ≤ j → j < long_start → j < rx_timer k
  long : long_start ≤ j → j < waits_start → j < long k
  middle : full_start ≤ j → keys_start ≤ j
  key : keys_start ≤ j → j < rx_places_start → j < key k
  place : rx_places_start ≤ j → j < homes_start → j < rx_place k
  homes : homes_start ≤ j → home requests_start ≤ j
  home : home requests_start ≤ j → j < homes_end → j < home (requests_start + k)
  high : payloads_start ≤ j → rx_masks_start ≤ j
  mask : rx_masks_start ≤ j → j < rx_mask k

below_side : (k j : ℕ) → Below k j → RxSide j
below_side k j p =
    record { header = omega (arith, p.tables); low = λ m. p.tables; timers = p.timers; middle = p.middle; homes = p.homes; high = p.high }

below_clear : (k n : ℕ) → k < 256 → n < 16 → RxClear (Below k) k n
below_clear k n h l =
    record {
      count = λ j lo hi p. omega (arith, p.tables);
      node = λ j lo hi p. omega (arith, p.tables);
      room = λ j lo hi p. omega (arith, p.tables);
      reload = λ j lo hi p. omega (arith, p.reload (omega arith));
      timer = λ j lo hi p. omega (arith, p.timer (omega arith) (omega arith));
      long = λ j lo hi p. omega (arith, p.long (omega arith) (omega arith));
      key = λ j lo hi p. omega (arith, p.key (omega arith) (omega arith));
      place = λ j lo hi p. omega (arith, p.place (omega arith) (omega arith));
      home = λ j lo hi p. omega (arith, p.home (omega arith) (omega arith));
      mask = λ j lo hi p. omega (arith, p.mask (omega arith));
    }

Put-kept : {a b : List ℕ} (k r at : ℕ) (x : RxFrame) → r < k → k ≤ 256 → Same (Below k) a b → Put a r at x → Put b r at x
Put-kept k r at x l h s p =
    record {
      reload = s.at (rx_reload r) (omega arith) ∙ p.reload;
      initial = s.at (rx_timer r) (omega arith) ∙ p.initial;
      mask = s.at (rx_mask r) (omega arith) ∙ p.mask;
      long = s.at (long r) (omega arith) ∙ p.long;
      low = same_two s (key r) (omega arith) (omega arith) ∙ p.low;
      high = same_two s (key r + 2) (omega arith) (omega arith) ∙ p.high;
      place = same_two s (rx_place r) (omega arith) (omega arith) ∙ p.place;
      home = s.at _ (omega arith) ∙ p.home;
    }

-- ---- all frames

-- the record of Rx frame r is met in the plan, makes its row, and is put into the area
pub record Stands (plan a : List ℕ) (r : ℕ) : Type 0 where
  pub at : ℕ
  pub frame : RxFrame
  pub reads : record_at plan at ≡ Rx frame
  pub row : row_at plan r ≡ row_of r frame (records_at plan (at + size_of (Rx frame)))
  pub sound : Sound (Rx frame ∷ records_at plan (at + size_of (Rx frame)))
  pub put : Put a r at frame

abbrev AllStand : List ℕ → ℕ → List ℕ → Type 0
AllStand plan k a = (r : ℕ) → r < k → Stands plan a r

stand_kept : (plan : List ℕ) (k : ℕ) (a b : List ℕ) → k ≤ 256 → Same (Below k) a b → AllStand plan k a → AllStand plan k b
stand_kept plan k a b h s all r l =
    let p = all r l in
    record {
      at = p.at;
      frame = p.frame;
      reads = p.reads;
      row = p.row;
      sound = p.sound;
      put = Put-kept k r p.at p.frame l h s p.put;
    }

module _ (plan : List ℕ) (good : GoodPlan plan) (short : length plan ≤ 65536) where
  stand_more : (k at : ℕ) (x : RxFrame) (a : List ℕ) → Meets plan k at x a → AllStand plan k a → AllStand plan (suc k) (with_rx at x a)
  unfolding row_of
  stand_more k at x a m all r l =
      let most : k < 256 = omega (arith, m.exists, good.counts.rx) in
      ⊎_elim
      (λ (e : r ≡ k).
      rw e
      (record {
        at = at;
        frame = x;
        reads = m.reads;
        row = m.row;
        sound = m.sound;
        put = rw m.next at (Put-one at x a m.size (omega (arith, rx_ends plan at x m.reads)));
      }))
      (λ (b : r < k).
      stand_kept plan k a (with_rx at x a) (omega arith) (leaves_rx at x a (rw m.next (below_clear k (x.node % 16) most (omega arith)))) all r b)
      (eq-or-lt_of_le (omega arith))

  pub opened_stands : (a : List ℕ) → LongEnough a → (r : ℕ) → r < length (rows_of plan) → Stands plan (opened plan a) r
  opened_stands a room =
      opened_walk plan good (AllStand plan)
      (λ k b c h s. stand_kept plan k b c (omega (arith, good.counts.rx)) (Same-fewer (below_side k) s))
      stand_more a room (λ r l. absurd (omega arith))
