-- How long a plan in place is, by the counts of its records.
use mathlib.Core.Path.{◌≡◌, refl}
use mathlib.Core.List.{List, [], ◌∷◌}
use Prim.Native.Nat.{ℕ, zero, suc, ◌+◌, ◌-◌, ◌*◌, ◌≤◌}
use native.Mathlib.Omega.{arith}
use lib.Dec.{leb, eqb}
use lib.ListN.{length}
use borrow.Author.Tests.{leb-true, leb-false, ne_eqb}
use Rattle.base.specs.Pick.{pick}
use Rattle.base.proofs.Picks.{cases, both}
use Rattle.records.specs.declared.record.Id.{Id}
use Rattle.records.specs.declared.record.Id.TheVariants.{Standard, Extended}
use Rattle.records.specs.declared.record.Record.{Record}
use Rattle.records.specs.declared.record.Record.TheVariants.{Head, Node, Tx, Rx, Signal, Destination, Broken}
use Rattle.records.specs.Kinds.{form_of, length_of, tx_kind, rx_kind, kind_of, stage_of}
use Rattle.records.specs.Records.{size_of, record_at, records_from, records_at, records}
use Rattle.records.proofs.RecordLaws.{record_some}
use Rattle.plan.proofs.TestLaws.{no_fault}
use Rattle.plan.specs.Rows.{tx_frames, nodes_in}
use Rattle.facts.specs.Good.{InPlace, count_of}
use Rattle.facts.proofs.Places.{later}

-- ---- the records reach the plan's end

total : List Record → ℕ
total [] = 0
total (r ∷ rs) = size_of r + total rs

reach : (bound : ℕ) (plan : List ℕ) (at : ℕ) → length plan ≤ at + bound → length plan ≤ at + total (records_from bound plan at)
unfolding records_from total
reach zero plan at h = omega arith
reach (suc bound) plan at h =
    cases (λ (rs : List Record). length plan ≤ at + total rs) (leb (length plan) at) _ _
    (λ e. omega (arith, leb-true (length plan) at e))
    (λ e.
    let some = record_some plan at (leb-false (length plan) at e) in
    omega (arith, reach bound plan (at + size_of (record_at plan at)) (omega arith)))

-- ---- what they come to

no_head : (rs : List Record) (stage : ℕ) → InPlace stage rs → 1 ≤ stage → count_of 1 rs ≡ 0
unfolding InPlace count_of pick
no_head [] stage h l = refl
no_head (r ∷ rs) stage h l =
    let k = (later stage r h.0).body l in
    rw (ne_eqb (stage_of r) 1 (omega arith)) (omega (arith, no_head rs (stage_of r) h.1 (omega arith)))

one_head : (rs : List Record) → InPlace 0 rs → count_of 1 rs ≤ 1
unfolding InPlace count_of
one_head [] h = omega arith
one_head (r ∷ rs) h =
    let k = (later 0 r h.0).kind in
    both (λ (n : ℕ). n + count_of 1 rs ≤ 1) (eqb (stage_of r) 1) 1 0 (omega (arith, no_head rs (stage_of r) h.1 k))
    (omega (arith, no_head rs (stage_of r) h.1 k))

-- a frame is longest with a four-byte ID
tx_most : (id : Id) → length_of (tx_kind id) ≤ 19
unfolding length_of form_of tx_kind pick
tx_most (Standard n) = omega arith
tx_most (Extended n) = omega arith

rx_most : (id : Id) → length_of (rx_kind id) ≤ 13
unfolding length_of form_of rx_kind pick
rx_most (Standard n) = omega arith
rx_most (Extended n) = omega arith

total_most :
    (rs : List Record) (stage : ℕ) → InPlace stage rs
    → total rs ≤ 2 * count_of 1 rs + 2 * nodes_in rs + 19 * length (tx_frames rs) + 13 * count_of 4 rs + 3 * count_of 5 rs + 4 * count_of 6 rs
unfolding total form_of length_of size_of InPlace count_of nodes_in tx_frames kind_of stage_of pick
total_most [] stage h = omega arith
total_most (Head order ∷ rs) stage h = omega (arith, total_most rs _ h.1)
total_most (Node body ∷ rs) stage h = omega (arith, total_most rs _ h.1)
total_most (Tx x ∷ rs) stage h = omega (arith, tx_most x.id, total_most rs _ h.1)
total_most (Rx x ∷ rs) stage h = omega (arith, rx_most x.id, total_most rs _ h.1)
total_most (Signal body ∷ rs) stage h = omega (arith, total_most rs _ h.1)
total_most (Destination body ∷ rs) stage h = omega (arith, total_most rs _ h.1)
total_most (Broken fault ∷ rs) stage h = absurd (no_fault fault h.0.known h.0.whole)

pub plan_length_bound :
    (plan : List ℕ) → InPlace 0 (records plan)
    → length plan
    ≤ 2 + 2 * nodes_in (records plan) + 19 * length (tx_frames (records plan)) + 13 * count_of 4 (records plan) + 3 * count_of 5 (records plan)
    + 4 * count_of 6 (records plan)
unfolding records records_at
plan_length_bound plan i =
    omega (
      arith,
      reach (length plan - 0) plan 0 (omega arith),
      total_most (records plan) 0 i,
      one_head (records plan) i,
    )
