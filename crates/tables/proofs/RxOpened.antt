-- Of an opened area: what the tables say of each Rx frame and of each node is what the plan says.
use mathlib.Core.Path.{◌≡◌}
use mathlib.Core.List.{List}
use Prim.Native.Nat.{ℕ, ◌+◌, ◌≤◌, ◌<◌}
use native.Mathlib.Omega.{arith}
use lib.ListN.{length}
use Rattle.base.specs.Numbers.{byte_at, low_at}
use Rattle.base.proofs.Ranges.{at_most_is}
use Rattle.records.specs.Ids.{behind_id, Possible}
use Rattle.plan.specs.Check.{good_with, check_plan}
use Rattle.plan.specs.Rows.{row_of, rows_of}
use Rattle.facts.specs.Good.{GoodPlan}
use Rattle.facts.proofs.GoodFacts.{good_facts}
use Rattle.facts.proofs.Bounds.{good_bounds}
use Rattle.area.specs.Layout.{last_place, requests_start, LongEnough, node, rx_timer, long, first_row, row_count, rx_fields_place, stored, rx_frame, claims}
use Rattle.opening.specs.Opened.{opened}
use Rattle.tables.specs.Reads.{row_at, RxTable, NodeTable}
use Rattle.tables.proofs.Verbatim.{Verbatim, opened_verbatim, rx_ends, home_of_node, rx_read, claims_read}
use Rattle.tables.proofs.RxRecords.{Stands, opened_stands}
use Rattle.tables.proofs.NodeRows.{opened-among}
use Rattle.tables.proofs.RowFacts.{row_node, row_possible}

-- an Rx frame that stands in an area with its plan is what the plan says
module _
    (plan a : List ℕ) (r : ℕ) (good : GoodPlan plan) (exists : r < length (rows_of plan)) (short : length plan ≤ last_place) (v : Verbatim plan (stored a))
    (s : Stands plan a r)
  where
    abbrev fields : ℕ
    fields = s.at + behind_id s.frame.id

    place_is : rx_fields_place a r ≡ fields
    place_is = rw s.put.place (at_most_is last_place fields (omega (arith, rx_ends plan s.at s.frame s.reads)))

    -- its node and its ID are in range
    low : s.frame.node < 16
    unfolding row_of
    low = rw s.row at (row_node plan good r exists)

    possible : Possible s.frame.id
    unfolding row_of
    possible = rw s.row at (row_possible plan good r exists)

    stands_frame : rx_frame a r ≡ s.frame
    unfolding rx_frame
    stands_frame = rw place_is (rx_read plan a v (omega arith) (requests_start + r) s.at s.frame s.reads low possible s.put.home)

    stands_claims : claims a r ≡ (row_at plan r).claims
    unfolding claims row_of
    stands_claims = rw (place_is, s.row) (claims_read plan a v (omega arith) r s.at s.frame s.reads s.sound)

    stands_table : RxTable plan a r
    unfolding row_of
    stands_table =
        let p = s.put in
        record {
          frame = rw s.row stands_frame;
          home = rw (s.row, p.home) (home_of_node s.frame.node s.frame.id low);
          claims = stands_claims;
          key = rw s.row (omega (arith, p.high, p.low));
          reload = rw s.row p.reload;
          mask = rw s.row p.mask;
        }

module _ (plan a : List ℕ) (n t r : ℕ) (good : check_plan plan ≡ good_with n t r) (room : LongEnough a) where
  facts : GoodPlan plan
  facts = (good_facts plan n t r good).0

  stands : (k : ℕ) → k < length (rows_of plan) → Stands plan (opened plan a) k
  stands = opened_stands plan facts (omega (arith, (good_bounds plan n t r good).short)) a room

  pub opened_rx : (k : ℕ) → k < length (rows_of plan) → RxTable plan (opened plan a) k
  opened_rx k h =
      let short = (good_bounds plan n t r good).short in
      stands_table plan (opened plan a) k facts h (omega arith) (opened_verbatim plan a room (omega arith)) (stands k h)

  pub opened-rx_timer : (k : ℕ) → k < length (rows_of plan) → byte_at (opened plan a) (rx_timer k) ≡ (row_at plan k).frame.initial
  unfolding row_of
  opened-rx_timer k h = rw (stands k h).row (stands k h).put.initial

  pub opened-long : (k : ℕ) → k < length (rows_of plan) → byte_at (opened plan a) (long k) ≡ (row_at plan k).frame.long
  unfolding row_of
  opened-long k h = rw (stands k h).row (stands k h).put.long

  pub opened_node : (m : ℕ) → m < 16 → NodeTable plan (opened plan a) m
  opened_node m h =
      let p = opened-among plan facts a room m h in
      let f : first_row (opened plan a) m ≡ low_at (opened plan a) (node m) = omega (arith, p.within, facts.counts.rx) in
      let c : row_count (opened plan a) m ≡ low_at (opened plan a) (node m + 2) = omega (arith, p.within, facts.counts.rx) in
      record { within = rw (f, c) p.within; theirs = rw (f, c) p.theirs; all = rw (f, c) p.all }
