-- The rings of an opened area: each node's has room for exactly those that can wait on it, and begins where the one before it ends.
use mathlib.Core.Path.{◌≡◌, refl, ◌∙◌}
use mathlib.Core.Logic.{◌≢◌, ◌⊎◌, inl, inr, ⊎_elim}
use mathlib.Core.Bool.{Bool}
use mathlib.Core.List.{List, [], ◌∷◌}
use Prim.Native.Nat.{ℕ, zero, suc, ◌+◌, ◌<◌, ◌≤◌}
use native.Mathlib.Nat.{eq-or-lt_of_le}
use native.Mathlib.Decide.{dec_lt}
use native.Mathlib.Omega.{arith}
use lib.Dec.{eqb}
use lib.ListN.{length}
use Rattle.base.specs.Pick.{pick}
use Rattle.base.specs.Numbers.{low_at}
use Rattle.base.proofs.Picks.{both, by_eqb}
use Rattle.records.specs.declared.record.TxFrame.{TxFrame}
use Rattle.plan.specs.Rows.{Row}
use Rattle.area.specs.Layout.{entry_count, LongEnough, queue}
use Rattle.area.specs.Queue.{ends_of}
use Rattle.area.proofs.Frame.{Same, same_two}
use Rattle.opening.specs.Opened.{rings_before, with_rings}
use Rattle.tables.specs.Reads.{frames_on, rows_on}
use Rattle.tables.proofs.Stored.{rows_at}
use Rattle.tables.proofs.Spared.{Same-rings}
use Rattle.tables.proofs.RoomLaws.{Room}

-- ---- what is counted by node comes to no more than there is

-- of the nodes below n together
pub total : (ℕ → ℕ) → ℕ → ℕ
total w zero = 0
total w (suc n) = total w n + w n

-- one thing is of one node
total_one : (m n : ℕ) → (total (λ k. pick (eqb m k) 1 0) n ≤ 1) × (n ≤ m → total (λ k. pick (eqb m k) 1 0) n ≡ 0)
unfolding total
total_one m zero = omega arith
total_one m (suc n) =
    let p = total_one m n in
    let b = total (λ k. pick (eqb m k) 1 0) n in
    by_eqb (λ (v : ℕ). (b + v ≤ 1) × (suc n ≤ m → b + v ≡ 0)) m n 1 0
    (λ e. let z = p.1 (omega arith) in omega arith) (λ d. (omega arith, λ l. let z = p.1 (omega arith) in omega arith))

module _
    {A : Type 0} (node_of : A → ℕ) (on : ℕ → List A → ℕ) (none : (n : ℕ) → on n [] ≡ 0)
    (more : (n : ℕ) (x : A) (xs : List A) → on n (x ∷ xs) ≡ pick (eqb (node_of x) n) 1 0 + on n xs)
  where
    total_none : (n : ℕ) → total (λ k. on k []) n ≡ 0
    unfolding total
    total_none zero = refl
    total_none (suc n) = omega (arith, total_none n, none n)

    total_more : (x : A) (xs : List A) (n : ℕ) → total (λ k. on k (x ∷ xs)) n ≡ total (λ k. pick (eqb (node_of x) k) 1 0) n + total (λ k. on k xs) n
    unfolding total
    total_more x xs zero = refl
    total_more x xs (suc n) = omega (arith, total_more x xs n, more n x xs)

    total_le : (xs : List A) (n : ℕ) → total (λ k. on k xs) n ≤ length xs
    total_le [] n = omega (arith, total_none n)
    total_le (x ∷ xs) n = omega (arith, total_more x xs n, (total_one (node_of x) n).0, total_le xs n)

frames_total : (xs : List TxFrame) (n : ℕ) → total (λ k. frames_on k xs) n ≤ length xs
unfolding frames_on
frames_total = total_le (λ x. x.node) frames_on (λ n. refl) (λ n x xs. refl)

rows_total : (ys : List Row) (n : ℕ) → total (λ k. rows_on k ys) n ≤ length ys
unfolding rows_on
rows_total = total_le (λ y. y.frame.node) rows_on (λ n. refl) (λ n y ys. refl)

-- the Tx frames of each node, and of some nodes the Rx frames
module _ (xs : List TxFrame) (ys : List Row) (asks : ℕ → Bool) where
  abbrev waiters : ℕ → ℕ
  waiters n = frames_on n xs + pick (asks n) (rows_on n ys) 0

  total_two : (n : ℕ) → total waiters n ≤ total (λ k. frames_on k xs) n + total (λ k. rows_on k ys) n
  unfolding total
  total_two zero = omega arith
  total_two (suc n) = omega (arith, total_two n, both (λ (v : ℕ). v ≤ rows_on n ys) (asks n) (rows_on n ys) 0 (omega arith) (omega arith))

  pub waiters-le : (n : ℕ) → waiters n ≤ length xs + length ys
  unfolding total
  waiters-le n = omega (arith, total_two (suc n), frames_total xs (suc n), rows_total ys (suc n))

  pub waiters_total : (n : ℕ) → total waiters n ≤ length xs + length ys
  waiters_total n = omega (arith, total_two n, frames_total xs n, rows_total ys n)

-- ---- the starts

-- a later ring begins where this one has ended
rings_after : (b : List ℕ) (m n : ℕ) → m < n → rings_before b m + (ends_of b m).room ≤ rings_before b n
unfolding rings_before ends_of
rings_after b m zero h = absurd (omega arith)
rings_after b m (suc n) h =
    ⊎_elim (λ (e : m ≡ n). rw e (omega arith)) (λ (l : m < n). omega (arith, rings_after b m n l)) (eq-or-lt_of_le (omega arith))

-- ---- the rings that are made of an area b, in which what can wait on each node is counted

module _ (w : ℕ → ℕ) (most : (n : ℕ) → total w n ≤ entry_count) (b : List ℕ) (counted : (n : ℕ) → n < 16 → low_at b (queue n + 2) ≡ w n) where
  rings_before_is : (n : ℕ) → n ≤ 16 → rings_before b n ≡ total w n
  unfolding rings_before total
  rings_before_is zero h = omega arith
  rings_before_is (suc n) h = omega (arith, rings_before_is n (omega arith), counted n (omega arith))

  pub ring_start : LongEnough b → (n : ℕ) → n < 16 → low_at (with_rings 16 b) (queue n) ≡ rings_before b n
  unfolding with_rings
  ring_start long n h =
      rows_at (λ k. with_rings k b) queue (rings_before b) (λ k. refl) (omega arith) 16
      (λ k l. (omega arith, omega (arith, rings_before_is k (omega arith), most k))) 16 (omega arith) n h

  pub ring_room : (n : ℕ) → n < 16 → (ends_of (with_rings 16 b) n).room ≡ w n
  unfolding ends_of
  ring_room n h =
      let s : Same (Room n) b (with_rings 16 b) = Same-rings 16 b (omega arith) in
      same_two s (queue n + 2) (omega arith) (omega arith) ∙ counted n h

  pub ring_within : (n : ℕ) → n < 16 → rings_before b n + w n ≤ entry_count
  unfolding total
  ring_within n h = omega (arith, rings_before_is n (omega arith), most (suc n))

  ring_after : (m n : ℕ) → m < n → n < 16 → rings_before b m + w m ≤ rings_before b n
  unfolding ends_of
  ring_after m n l h = omega (arith, rings_after b m n l, counted m (omega arith))

  pub ring_apart :
      (m n : ℕ) → m < 16 → n < 16 → m ≢ n
      → (rings_before b m + w m ≤ rings_before b n) ⊎ (rings_before b n + w n ≤ rings_before b m)
  ring_apart m n h l d = go (dec_lt m n)
    where
      go : Dec (m < n) → (rings_before b m + w m ≤ rings_before b n) ⊎ (rings_before b n + w n ≤ rings_before b m)
      go (yes less) = inl (ring_after m n less l)
      go (no more) = inr (ring_after n m (omega arith) h)
