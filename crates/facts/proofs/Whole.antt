-- The whole plan, from the start of the check: what its records make of the counts, the sizes and the claims.
use mathlib.Core.Path.{◌≡◌, refl}
use mathlib.Core.List.{List}
use Prim.Native.Nat.{ℕ, zero, suc, ◌+◌, ◌^◌, ◌/◌, ◌%◌}
use native.Mathlib.Nat.{zero-div}
use native.Mathlib.Omega.{arith}
use lib.ListN.{length, get_or, replicate, length-replicate}
use Rattle.bits.specs.Digit.{digit}
use Rattle.records.specs.declared.record.Record.{Record}
use Rattle.plan.specs.Limits.{most_tx}
use Rattle.plan.specs.Progress.{start}
use Rattle.plan.specs.Rows.{rows_from, all_claims, tx_frames}
use Rattle.facts.specs.Good.{InPlace, sizes_of}
use Rattle.facts.proofs.Passes.{finally}
use Rattle.facts.proofs.Totals.{totals}
use Rattle.facts.proofs.Counts.{Bounded}
use Rattle.facts.proofs.Sizes.{sizes_length, sizes_high}
use Rattle.facts.proofs.Owners.{Has}
use Rattle.facts.proofs.Claims.{left, no_left, Final}

abbrev pub zeros : List ℕ
zeros = replicate most_tx 0

pub zeros-length : length zeros ≡ most_tx
zeros-length = length-replicate {A = ℕ} most_tx 0

zeros_at : (n t : ℕ) → get_or {A = ℕ} (replicate n 0) t 0 ≡ 0
zeros_at zero t = refl
zeros_at (suc n) zero = refl
zeros_at (suc n) (suc t) = zeros_at n t

-- no bit has an owner at first
pub nobody : (t b : ℕ) → Has zeros t b → ⊥
unfolding digit
nobody t b h =
    let z : 0 / 2 ^ b % 2 ≡ 1 = rw (zeros_at most_tx t) at h in
    omega (arith, rw (zero-div (2 ^ b)) at z)

module _ (rs : List Record) (place : InPlace 0 rs) where
  pub whole_claims : left 0 0 start.row 0 rs ≡ all_claims (rows_from 0 rs)
  whole_claims = no_left 0 0 start.row 0 rs 0 place (omega arith)

  pub whole_sizes : Bounded (finally start.counts rs) → Final (sizes_of (tx_frames rs)) zeros start.counts rs
  unfolding start
  whole_sizes b =
      let t = totals rs 0 start.counts place in
      record {
        number = omega (arith, t.tx, sizes_length (tx_frames rs));
        same = λ k l.
            let e : 0 + k ≡ k = omega arith in
            rw e at (sizes_high rs start.counts zeros k (omega (arith, t.tx, b.tx, zeros-length)) (omega (arith, sizes_length (tx_frames rs))));
      }
