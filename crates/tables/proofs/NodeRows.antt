-- The nodes' table in an opened area: a node's rows are exactly the plan's Rx frames of that node.
use mathlib.Core.Path.{◌≡◌, sym, ap, ◌∙◌}
use mathlib.Core.Logic.{⊎_elim}
use mathlib.Core.List.{List}
use Prim.Native.Nat.{ℕ, suc, ◌+◌, ◌%◌, ◌<◌, ◌≤◌, zero-le}
use native.Mathlib.Nat.{eq-or-lt_of_le}
use native.Mathlib.Decide.{ℕ_discrete}
use native.Mathlib.Omega.{arith}
use borrow.Author.Tests.{eq-eqb, ne_eqb}
use lib.Dec.{eqb}
use lib.ListN.{length, length-set}
use Rattle.base.specs.Pick.{pick}
use Rattle.base.specs.Numbers.{low_at, set_low}
use Rattle.base.proofs.Picks.{picks, passes, both}
use Rattle.base.proofs.Ranges.{low_same}
use Rattle.records.specs.declared.record.RxFrame.{RxFrame}
use Rattle.plan.specs.Rows.{Row, row_of, rows_of}
use Rattle.facts.specs.Good.{GoodPlan}
use Rattle.area.specs.Layout.{rx_count_bytes, header_end, queues_start, LongEnough, node}
use Rattle.area.proofs.Frame.{Same, Same-refl, Same-then, same_two, Same-set_low}
use Rattle.opening.specs.Opened.{next_rx, with_rx_timer, with_row, with_node_row, with_rx, opened}
use Rattle.tables.proofs.RxSide.{leaves_rx_timer, leaves_row, leaves_request, RxClear, leaves_rx}
use Rattle.tables.proofs.RowWalk.{Meets, blank_two, opened_walk}
use Rattle.tables.proofs.RowFacts.{row_node}
use Rattle.tables.proofs.NodeSpans.{node_at, Among, Among-other, Among-first, Among-next}

-- ---- one row more in the area

abbrev first : List ℕ → ℕ → ℕ
first a n = low_at a (node n)

abbrev count : List ℕ → ℕ → ℕ
count a n = low_at a (node n + 2)

module _ (n r : ℕ) (a : List ℕ) (h : n < 16) (l : LongEnough a) where
  -- the area before the count is stored
  abbrev begun : List ℕ
  begun = pick (eqb (count a n) 0) (set_low a (node n) r) a

  more_count : count a n < 65535 → count (with_node_row n r a) n ≡ count a n + 1
  unfolding with_node_row
  more_count m =
      let long : LongEnough begun = both (λ (b : List ℕ). LongEnough b) (eqb (count a n) 0) _ _ (simp length-set l) l in
      low_same begun (node n + 2) (count a n + 1) (omega arith) (omega arith)

  first-begun : first (with_node_row n r a) n ≡ first begun n
  unfolding with_node_row
  first-begun =
      let s : Same (λ j. j < node n + 2) begun (with_node_row n r a) = Same-set_low _ _ (omega arith) (omega arith) (Same-refl begun) in
      same_two s (node n) (omega arith) (omega arith)

  first_put : count a n ≡ 0 → r < 65536 → first (with_node_row n r a) n ≡ r
  first_put z small = first-begun ∙ rw (picks _ (set_low a (node n) r) a (eq-eqb (count a n) 0 z)) (low_same a (node n) r (omega arith) small)

  first_kept : 0 < count a n → first (with_node_row n r a) n ≡ first a n
  first_kept some = first-begun ∙ rw (passes _ (set_low a (node n) r) a (ne_eqb (count a n) 0 (omega arith)))

-- what is read of node n, where its four bytes are the same
module _ {P : ℕ → Type 0} {a b : List ℕ} (s : Same P a b) (n : ℕ) (p : (j : ℕ) → node n ≤ j → j < node n + 4 → P j) where
  same_first : first b n ≡ first a n
  same_first = same_two s (node n) (p _ (omega arith) (omega arith)) (p _ (omega arith) (omega arith))

  same_count : count b n ≡ count a n
  same_count = same_two s (node n + 2) (p _ (omega arith) (omega arith)) (p _ (omega arith) (omega arith))

-- ---- one Rx frame more

abbrev InNodes : ℕ → Type 0
InNodes j = (header_end ≤ j) × (j < queues_start)

module _ (at : ℕ) (x : RxFrame) (a : List ℕ) where
  -- the area before its node's row is stored
  abbrev rowed : List ℕ
  rowed = with_row (next_rx a) at x (with_rx_timer (next_rx a) x a)

  same_rowed : Same InNodes a rowed
  same_rowed =
      Same-then
      (leaves_rx_timer _ x a (omega arith) (omega arith) (omega arith) (omega arith))
      (leaves_row _ at x _ (omega arith) (omega arith) (omega arith))

  module _ (n : ℕ) (is : x.node % 16 ≡ n) (l : LongEnough a) where
    abbrev before_first : first rowed n ≡ first a n
    before_first = same_first same_rowed n (omega arith)

    abbrev before_count : count rowed n ≡ count a n
    before_count = same_count same_rowed n (omega arith)

    long : LongEnough rowed
    long = omega (arith, same_rowed.len)

    after_node : Same InNodes (with_node_row n (next_rx a) rowed) (with_rx at x a)
    unfolding with_rx
    after_node =
        rw is
        (Same-set_low rx_count_bytes (next_rx a + 1) (omega arith) (omega arith) (leaves_request n (with_node_row n (next_rx a) rowed) (omega arith)))

    own_count : count a n < 65535 → count (with_rx at x a) n ≡ count a n + 1
    own_count m =
        same_count after_node n (omega arith)
        ∙ more_count n (next_rx a) rowed (omega arith) long (omega (arith, before_count))
        ∙ omega (arith, before_count)

    own_first : count a n ≡ 0 → first (with_rx at x a) n ≡ next_rx a
    own_first z =
        same_first after_node n (omega arith)
        ∙ first_put n (next_rx a) rowed (omega arith) long (before_count ∙ z) (omega arith)

    own_kept : 0 < count a n → first (with_rx at x a) n ≡ first a n
    own_kept some =
        same_first after_node n (omega arith)
        ∙ first_kept n (next_rx a) rowed (omega arith) long (omega (arith, before_count)) ∙ before_first

  -- another node's place in the table
  other_clear : (n : ℕ) → n < 16 → (x.node % 16 ≡ n → ⊥) → RxClear (λ j. (node n ≤ j) × (j < node n + 4)) (next_rx a) (x.node % 16)
  other_clear n h d = omega arith

-- ---- all of them

abbrev AllAmong : List ℕ → ℕ → List ℕ → Type 0
AllAmong plan k a = (n : ℕ) → n < 16 → Among plan n k (first a n) (count a n)

Among-kept : {P : ℕ → Type 0} {a b : List ℕ} (plan : List ℕ) (n k : ℕ) → Same P a b → ((j : ℕ) → node n ≤ j → j < node n + 4 → P j)
    → Among plan n k (first a n) (count a n) → Among plan n k (first b n) (count b n)
Among-kept plan n k s p m = rw (same_first s n p, same_count s n p) m

module _ (plan : List ℕ) (good : GoodPlan plan) where
  among_more : (k at : ℕ) (x : RxFrame) (a : List ℕ) → Meets plan k at x a → AllAmong plan k a → AllAmong plan (suc k) (with_rx at x a)
  unfolding row_of
  among_more k at x a m all n h = go (ℕ_discrete x.node n)
    where
      own : node_at plan k ≡ x.node
      own = ap (λ (s : Row). s.frame.node) m.row

      small : x.node < 16
      small = omega (arith, row_node plan good k m.exists, own)

      go : Dec (x.node ≡ n) → Among plan n (suc k) (first (with_rx at x a) n) (count (with_rx at x a) n)
      go (no d) =
          Among-kept plan n (suc k) (leaves_rx at x a (other_clear at x a n h (λ e. d (omega (arith, small))))) (omega arith)
          (Among-other plan n k _ _ (all n h) (λ e. d (omega (arith, own))))
      go (yes e) =
          let is : x.node % 16 ≡ n = omega (arith, small) in
          let here : node_at plan k ≡ n = own ∙ e in
          let p = all n h in
          let most : count a n < 65535 = omega (arith, p.within, m.exists, good.counts.rx) in
          ⊎_elim
          (λ (z : 0 ≡ count a n).
          let one : count a n + 1 ≡ 1 = omega arith in
          rw (own_first at x a n is m.size (sym z), own_count at x a n is m.size most, m.next, one)
          (Among-first plan n k _ _ p here (sym z)))
          (λ (some : 0 < count a n).
          rw (own_kept at x a n is m.size some, own_count at x a n is m.size most) (Among-next plan n k _ _ p good m.exists here some))
          (eq-or-lt_of_le zero-le)

  pub opened-among : (a : List ℕ) → LongEnough a → (n : ℕ) → n < 16
      → Among plan n (length (rows_of plan)) (low_at (opened plan a) (node n)) (low_at (opened plan a) (node n + 2))
  opened-among a room =
      opened_walk plan good (AllAmong plan)
      (λ k b c h s all n l. Among-kept plan n k s (omega arith) (all n l))
      among_more a room
      (λ n l. rw (blank_two plan a room (node n) (omega arith) (omega arith), blank_two plan a room (node n + 2) (omega arith) (omega arith))
      (record { within = omega arith; theirs = λ i h. absurd (omega arith); all = λ r h e. absurd (omega arith) }))
