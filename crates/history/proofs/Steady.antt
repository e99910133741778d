-- The bytes that no call after an opening changes: all but the tick counter, the queues' ends and entries, the timers, the long counters,
-- the waits and the payloads. All that `Reads` says is read there.
use mathlib.Core.Path.{◌≡◌, ◌∙◌}
use mathlib.Core.List.{List}
use Prim.Native.Nat.{ℕ, ◌+◌, ◌<◌, ◌≤◌}
use native.Mathlib.Omega.{arith}
use Rattle.base.specs.Numbers.{low_at}
use Rattle.base.proofs.Ranges.{at_most-le}
use Rattle.area.specs.Layout.{requests_start, counter_byte, tx_count_bytes, rx_count_bytes, queues_start, tx_reloads_start, tx_timers_start, long_start, full_start, entries_start}
use Rattle.area.specs.Layout.{tx_masks_start, node, queue, tx_reload, rx_reload, long, full, key, tx_mask, rx_mask, first_row, row_count}
use Rattle.area.proofs.Frame.{Same, same_two, Same-fewer}
use Rattle.area.proofs.Kept.{Planned, Kept, in_header, in_tables, marked_kept, order_kept, node_count_kept, type_on_kept, tx_count_kept, rx_count_kept}
use Rattle.area.proofs.Kept.{start_kept, room_kept, plan_of_kept, home_node_kept, tx_frame_kept, rx_frame_kept, claims_kept}
use Rattle.tables.specs.Reads.{Header, TxTable, RxTable, NodeTable, Rings, Reads}
use Rattle.history.proofs.Aside.{Aside}

pub record Steady (j : ℕ) : Type 0 where
  pub count : j ≡ counter_byte → ⊥
  pub ends : (n : ℕ) → n < 16 → queue n + 4 ≤ j → j < queue n + 8 → ⊥
  pub timers : tx_timers_start ≤ j → j < long_start → ⊥
  pub low : long_start ≤ j → j < full_start → ⊥
  pub high : entries_start ≤ j → j < tx_masks_start → ⊥

pub planned_steady : (j : ℕ) → Planned j → Steady j
planned_steady j p =
    record {
      count = p.count;
      ends = p.ends;
      timers = λ l m. p.low (omega arith) (omega arith);
      low = λ l m. p.low (omega arith) m;
      high = λ l m. p.high l (omega arith);
    }

-- from the reload values on: one of these, or a place past the payloads
Steady-from : (j : ℕ) → tx_reloads_start ≤ j → (tx_timers_start ≤ j → tx_masks_start ≤ j) → Steady j
Steady-from j h past =
    record {
      count = λ e. omega arith;
      ends = λ n l x y. omega arith;
      timers = λ x y. omega (arith, past x);
      low = λ x y. omega (arith, past (omega arith));
      high = λ x y. omega (arith, past (omega arith));
    }

pub reload_steady : (j : ℕ) → tx_reloads_start ≤ j → j < tx_timers_start → Steady j
reload_steady j h l = Steady-from j h (λ x. omega arith)

pub mask_steady : (j : ℕ) → tx_masks_start ≤ j → Steady j
mask_steady j h = Steady-from j (omega arith) (λ x. h)

pub steady_aside : Aside Steady
steady_aside =
    record {
      ends = λ n h j l m p. p.ends n h l m;
      ring = λ j l m p. p.high l (omega arith);
      timers = λ j l m p. p.timers l m;
      waits = λ j l m p. p.low (omega arith) m;
    }

pub steady_long : (r : ℕ) → r < 256 → Steady (long r) → ⊥
steady_long r h p = p.low (omega arith) (omega arith)

-- ---- what is read there

module _ {a b : List ℕ} (s : Same Steady a b) where
  pub kept_steady : Kept a b
  kept_steady = Same-fewer planned_steady s

  -- a number of two bytes among the nodes, and in a table
  node_two : (j : ℕ) → counter_byte < j → j + 1 < queues_start → low_at b j ≡ low_at a j
  node_two j h l = same_two kept_steady j (in_header j (omega arith) (λ e. omega arith)) (in_header (j + 1) (omega arith) (λ e. omega arith))

  table_two : (j : ℕ) → full_start ≤ j → j + 1 < entries_start → low_at b j ≡ low_at a j
  table_two j h l = same_two kept_steady j (in_tables j h (omega arith)) (in_tables (j + 1) (omega arith) (omega arith))

  module _ {plan : List ℕ} where
    header : Header plan a → Header plan b
    header h =
        record {
          size = omega (arith, s.len, h.size);
          mark = marked_kept kept_steady ∙ h.mark;
          holds = plan_of_kept kept_steady ∙ h.holds;
          order = order_kept kept_steady ∙ h.order;
          nodes = node_count_kept kept_steady ∙ h.nodes;
          types = λ n l. type_on_kept kept_steady n ∙ h.types n l;
          tx = tx_count_kept kept_steady ∙ h.tx;
          rx = rx_count_kept kept_steady ∙ h.rx;
        }

    tx_table : (t : ℕ) → t < 256 → TxTable plan a t → TxTable plan b t
    tx_table t h x =
        record {
          frame = tx_frame_kept kept_steady t h ∙ x.frame;
          home = home_node_kept kept_steady t (omega arith) ∙ x.home;
          reload = s.at (tx_reload t) (reload_steady _ (omega arith) (omega arith)) ∙ x.reload;
          mask = s.at (tx_mask t) (mask_steady _ (omega arith)) ∙ x.mask;
          full = table_two (full t) (omega arith) (omega arith) ∙ x.full;
        }

    rx_table : (r : ℕ) → r < 256 → RxTable plan a r → RxTable plan b r
    rx_table r h x =
        record {
          frame = rx_frame_kept kept_steady r h ∙ x.frame;
          home = home_node_kept kept_steady (requests_start + r) (omega arith) ∙ x.home;
          claims = claims_kept kept_steady r h ∙ x.claims;
          key = rw (table_two (key r + 2) (omega arith) (omega arith), table_two (key r) (omega arith) (omega arith)) x.key;
          reload = s.at (rx_reload r) (reload_steady _ (omega arith) (omega arith)) ∙ x.reload;
          mask = s.at (rx_mask r) (mask_steady _ (omega arith)) ∙ x.mask;
        }

    node_table : (n : ℕ) → n < 16 → NodeTable plan a n → NodeTable plan b n
    node_table n h x =
        let first : first_row b n ≡ first_row a n = rw (node_two (node n) (omega arith) (omega arith)) in
        let count : row_count b n ≡ row_count a n = rw (node_two (node n + 2) (omega arith) (omega arith)) in
        record {
          within = rw (first, count) x.within;
          theirs = λ i l. rw first (x.theirs i (omega arith));
          all = λ r l e. rw (first, count) (x.all r l e);
        }

    rings : (n : ℕ) → n < 16 → Rings plan a n → Rings plan b n
    rings n h x =
        let start = start_kept kept_steady n h in
        let room = room_kept kept_steady n h in
        record {
          within = rw (start, room) x.within;
          room = room ∙ x.room;
          apart = λ m l d. rw (start, room, start_kept kept_steady m l, room_kept kept_steady m l) (x.apart m l d);
        }

    -- the counts in the header bound the frames
    pub Reads-steady : Reads plan a → Reads plan b
    Reads-steady r =
        let h = r.header in
        record {
          header = header h;
          tx = λ t l. tx_table t (omega (arith, h.tx, at_most-le 256 (low_at a tx_count_bytes))) (r.tx t l);
          rx = λ t l. rx_table t (omega (arith, h.rx, at_most-le 256 (low_at a rx_count_bytes))) (r.rx t l);
          node = λ n l. node_table n l (r.node n l);
          rings = λ n l. rings n l (r.rings n l);
        }
