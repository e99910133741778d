-- What a take leaves: the counter, the timers and the long counters.
use mathlib.Core.Path.{◌≡◌}
use mathlib.Core.Bool.{true}
use mathlib.Core.List.{List}
use Prim.Native.Nat.{ℕ, ◌≤◌, ◌<◌}
use native.Mathlib.Omega.{arith}
use lib.Dec.{ltb}
use borrow.Author.Tests.{ltb-true}
use Rattle.base.specs.Numbers.{byte_at}
use Rattle.base.proofs.Picks.{both, cases}
use Rattle.base.proofs.Ranges.{at_most-le}
use Rattle.area.specs.Layout.{queues_start, tx_reloads_start, waits_start, node_count_byte, node_count}
use Rattle.area.specs.Queue.{oldest, dequeued}
use Rattle.area.proofs.Frame.{Same, Same-refl, Same-dequeued}
use Rattle.taking.specs.Taken.{oldest_area, taken_area}

-- what holds of the area as it was, and of the area without a node's oldest frame, holds of what the call leaves
by_taken : (P : List ℕ → Type 0) (a : List ℕ) (n : ℕ) → (n < 16 → P (dequeued a n)) → P a → P (taken_area a n)
unfolding taken_area oldest_area
by_taken P a n gone stayed =
    let known : ltb n (node_count a) ≡ true → n < 16 = λ e. omega (arith, ltb-true n (node_count a) e, at_most-le 16 (byte_at a node_count_byte)) in
    both P _ _ _ (cases P (ltb n (node_count a)) _ _ (λ e. both P _ _ _ stayed (gone (known e))) (λ e. stayed)) stayed

-- no end of a queue, and no wait
abbrev pub Untaken : ℕ → Type 0
Untaken j = (queues_start ≤ j → tx_reloads_start ≤ j) × (j < waits_start)

pub untaken : (a : List ℕ) (n : ℕ) → Same Untaken a (taken_area a n)
unfolding oldest
untaken a n =
    by_taken (Same Untaken a) a n (λ h. Same-dequeued a n (λ j l m p. omega (arith, p.0 (omega arith))) (λ p. omega arith)) (Same-refl a)
