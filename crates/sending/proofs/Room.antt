-- Different numbers, each of what can wait on node n, are no more than node n has Tx frames and, on LIN, Rx frames: so a ring has room for them all.
use mathlib.Core.Path.{◌≡◌, refl, ap, ◌∙◌}
use mathlib.Core.List.{List, [], ◌∷◌, ◌++◌, map}
use Prim.Native.Nat.{ℕ, ◌+◌, ◌-◌, ◌≤◌, ◌<◌}
use native.Mathlib.Omega.{arith}
use lib.Dec.{ltb}
use lib.ListN.{length, get_or, length-append, length-map, get_or-append, get_or-map}
use lib.Seq.{get_or-append-add}
use borrow.Author.Tests.{lt-ltb, le-ltb}
use Rattle.base.specs.Pick.{pick}
use Rattle.base.proofs.Picks.{picks, passes, into}
use Rattle.records.specs.declared.record.TxFrame.{TxFrame}
use Rattle.records.specs.Views.{no_tx}
use Rattle.records.specs.declared.record.NodeType.TheVariants.{Lin}
use Rattle.records.specs.Nodes.{is_lin}
use Rattle.plan.specs.Rows.{Row, no_row, rows_of, tx_of}
use Rattle.area.specs.Layout.{requests_start}
use Rattle.tables.specs.Reads.{frames_on, rows_on, type_at, waiters_on}
use Rattle.sending.proofs.Plans.{Sendable}
use Rattle.sending.proofs.Waiters.{CanWait, of_frame, of_request}
use Rattle.sending.proofs.Counting.{count_on, count_append, no_more}

-- ---- the nodes of some frames and rows

abbrev tx_nodes : List TxFrame → List ℕ
tx_nodes xs = map (λ x. x.node) xs

abbrev row_nodes : List Row → List ℕ
row_nodes ys = map (λ y. y.frame.node) ys

frames_count : (n : ℕ) (xs : List TxFrame) → count_on n (tx_nodes xs) ≡ frames_on n xs
unfolding count_on frames_on
frames_count n [] = refl
frames_count n (x ∷ xs) = omega (arith, frames_count n xs)

rows_count : (n : ℕ) (ys : List Row) → count_on n (row_nodes ys) ≡ rows_on n ys
unfolding count_on rows_on
rows_count n [] = refl
rows_count n (y ∷ ys) = omega (arith, rows_count n ys)

-- ---- those of all that can wait on node n, the Tx frames first

module _ (plan : List ℕ) (n : ℕ) where
  abbrev asked : List ℕ
  asked = pick (is_lin (type_at plan n)) (row_nodes (rows_of plan)) []

  abbrev homes : List ℕ
  homes = tx_nodes (tx_of plan) ++ asked

  homes_count : count_on n homes ≡ waiters_on plan n
  unfolding count_on
  homes_count =
      count_append n (tx_nodes (tx_of plan)) asked
      ∙ rw (frames_count n (tx_of plan), into (count_on n) (is_lin (type_at plan n)) (row_nodes (rows_of plan)) [], rows_count n (rows_of plan))

  -- where number k has its place among them
  unfoldable place : ℕ → ℕ
  place k = pick (ltb k requests_start) k (length (tx_of plan) + (k - requests_start))

  length-tx_nodes : length (tx_nodes (tx_of plan)) ≡ length (tx_of plan)
  length-tx_nodes = length-map (tx_of plan) (λ x. x.node)

  all_asked : type_at plan n ≡ Lin → asked ≡ row_nodes (rows_of plan)
  unfolding is_lin
  all_asked lin = picks _ _ _ (ap is_lin lin)

  module _ (fit : Sendable plan) where
    place_frame : (t : ℕ) → t < length (tx_of plan) → place t ≡ t
    unfolding place
    place_frame t h = picks _ _ _ (lt-ltb t requests_start (omega (arith, fit.tx)))

    place_request : (k r : ℕ) → k ≡ requests_start + r → place k ≡ length (tx_of plan) + r
    unfolding place
    place_request k r is = passes _ _ _ (le-ltb k requests_start (omega arith)) ∙ omega arith

    within : (k : ℕ) → CanWait plan n k → place k < length homes
    within k (of_frame h e) = omega (arith, place_frame k h, length-append (tx_nodes (tx_of plan)) asked, length-tx_nodes)
    within k (of_request r is h e lin) =
        let rows = ap length (all_asked lin) ∙ length-map (rows_of plan) (λ y. y.frame.node) in
        omega (arith, place_request k r is, length-append (tx_nodes (tx_of plan)) asked, length-tx_nodes, rows)

    home : (k : ℕ) → CanWait plan n k → get_or homes (place k) 0 ≡ n
    home k (of_frame h e) =
        ap (λ i. get_or homes i 0) (place_frame k h)
        ∙ get_or-append (tx_nodes (tx_of plan)) asked 0 k (omega (arith, length-tx_nodes))
        ∙ get_or-map (λ x. x.node) (tx_of plan) k no_tx
        ∙ e
    home k (of_request r is h e lin) =
        let at : place k ≡ length (tx_nodes (tx_of plan)) + r = omega (arith, place_request k r is, length-tx_nodes) in
        ap (λ i. get_or homes i 0) at
        ∙ get_or-append-add (tx_nodes (tx_of plan)) asked r 0
        ∙ ap (λ ys. get_or ys r 0) (all_asked lin)
        ∙ get_or-map (λ y. y.frame.node) (rows_of plan) r no_row
        ∙ e

    apart : (j k : ℕ) → CanWait plan n j → CanWait plan n k → place j ≡ place k → j ≡ k
    apart j k (of_frame h e) (of_frame l f) s = omega (arith, place_frame j h, place_frame k l)
    apart j k (of_frame h e) (of_request r is l f lin) s = absurd (omega (arith, place_frame j h, place_request k r is))
    apart j k (of_request r is h e lin) (of_frame l f) s = absurd (omega (arith, place_frame k l, place_request j r is))
    apart j k (of_request q is h e lin) (of_request r are l f lin') s = omega (arith, place_request j q is, place_request k r are)

    -- g 0 to g (m - 1) are different, and each can wait on node n
    pub room_for_all :
        (g : ℕ → ℕ) (m : ℕ) → ((i : ℕ) → i < m → CanWait plan n (g i)) → ((i j : ℕ) → i < m → j < m → g i ≡ g j → i ≡ j) → m ≤ waiters_on plan n
    room_for_all g m can once =
        rw (← homes_count)
        (no_more n homes (λ i. place (g i)) m
        (record {
          within = λ i h. within (g i) (can i h);
          node = λ i h. home (g i) (can i h);
          once = λ i j h l e. once i j h l (apart (g i) (g j) (can i h) (can j l) e);
        }))
