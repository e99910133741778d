-- What the queues need of an area that holds a good plan. No call after the opening changes it.
use mathlib.Core.Path.{◌≡◌, ◌∙◌}
use mathlib.Core.List.{List}
use Prim.Native.Nat.{ℕ, ◌+◌, ◌<◌}
use native.Mathlib.Omega.{arith}
use lib.ListN.{length}
use Rattle.plan.specs.Rows.{rows_of, tx_of}
use Rattle.facts.specs.Good.{Each}
use Rattle.area.specs.Layout.{requests_start, LongEnough, home_node, tx_frame, rx_frame, claims}
use Rattle.area.proofs.Kept.{Kept, home_node_kept, tx_frame_kept, rx_frame_kept, claims_kept, start_kept, room_kept}
use Rattle.tables.specs.Reads.{planned_tx, row_at, Reads, Rings}
use Rattle.sending.proofs.Plans.{Lies, Sendable}

pub record Holding (plan a : List ℕ) : Type 0 where
  pub fit : Sendable plan
  pub size : LongEnough a
  pub frame : (t : ℕ) → t < length (tx_of plan) → tx_frame a t ≡ planned_tx plan t
  pub row : (r : ℕ) → r < length (rows_of plan) → rx_frame a r ≡ (row_at plan r).frame
  pub frame_home : (t : ℕ) → t < length (tx_of plan) → home_node a t ≡ (planned_tx plan t).node
  pub row_home : (r : ℕ) → r < length (rows_of plan) → home_node a (requests_start + r) ≡ (row_at plan r).frame.node
  pub lies : (r : ℕ) → r < length (rows_of plan) → Each (Lies plan) (claims a r)
  pub rings : (n : ℕ) → n < 16 → Rings plan a n

module _ {plan a : List ℕ} where
  pub holding : Sendable plan → Reads plan a → Holding plan a
  holding fit reads =
      record {
        fit = fit;
        size = reads.header.size;
        frame = λ t h. (reads.tx t h).frame;
        row = λ r h. (reads.rx r h).frame;
        frame_home = λ t h. (reads.tx t h).home;
        row_home = λ r h. (reads.rx r h).home;
        lies = λ r h. rw (reads.rx r h).claims (fit.claims r h);
        rings = reads.rings;
      }

  Rings-kept : {b : List ℕ} → Kept a b → ((n : ℕ) → n < 16 → Rings plan a n) → (n : ℕ) → n < 16 → Rings plan b n
  Rings-kept k rings n h =
      record {
        within = rw (start_kept k n h, room_kept k n h) (rings n h).within;
        room = room_kept k n h ∙ (rings n h).room;
        apart = λ m l d. rw (start_kept k n h, room_kept k n h, start_kept k m l, room_kept k m l) ((rings n h).apart m l d);
      }

  pub Holding-kept : {b : List ℕ} → Kept a b → Holding plan a → Holding plan b
  Holding-kept k h =
      record {
        fit = h.fit;
        size = omega (arith, k.len);
        frame = λ t l. tx_frame_kept k t (omega (arith, h.fit.tx)) ∙ h.frame t l;
        row = λ r l. rx_frame_kept k r (omega (arith, h.fit.rx)) ∙ h.row r l;
        frame_home = λ t l. home_node_kept k t (omega (arith, h.fit.tx)) ∙ h.frame_home t l;
        row_home = λ r l. home_node_kept k (requests_start + r) (omega (arith, h.fit.rx)) ∙ h.row_home r l;
        lies = λ r l. rw (claims_kept k r (omega (arith, h.fit.rx))) (h.lies r l);
        rings = Rings-kept k h.rings;
      }
