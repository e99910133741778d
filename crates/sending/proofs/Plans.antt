-- What a good plan says of its Tx frames, its rows and its claims, by number.
use mathlib.Core.Path.{◌≡◌}
use mathlib.Core.List.{List, [], ◌∷◌}
use Prim.Native.Nat.{ℕ, ◌+◌, ◌≤◌, ◌<◌}
use native.Mathlib.Omega.{arith}
use lib.ListN.{length}
use Rattle.records.specs.Views.{no_tx}
use Rattle.plan.specs.Check.{good_with, check_plan}
use Rattle.plan.specs.Rows.{width_of, Claim, rows_of, claims_of, tx_of, no_row}
use Rattle.facts.specs.Good.{Each, Fits, sizes_of}
use Rattle.facts.specs.Statements.{Small}
use Rattle.facts.proofs.Sizes.{sizes_length}
use Rattle.facts.proofs.GoodFacts.{good_facts}
use Rattle.facts.proofs.ByNumber.{frame_ranges, row_each, claims_small}
use Rattle.tables.specs.Reads.{planned_tx, row_at}
use Rattle.tables.proofs.RowFacts.{row_node}

-- a claim lies in the 64 bits of a Tx frame of the plan
pub record Lies (plan : List ℕ) (c : Claim) : Type 0 where
  pub frame : c.tx < length (tx_of plan)
  pub bits : c.at + width_of c.from ≤ 64

pub record Sendable (plan : List ℕ) : Type 0 where
  pub tx : length (tx_of plan) ≤ 256
  pub rx : length (rows_of plan) ≤ 256
  pub node : (t : ℕ) → t < length (tx_of plan) → (planned_tx plan t).node < 16
  pub size : (t : ℕ) → t < length (tx_of plan) → (planned_tx plan t).size ≤ 8
  pub row : (r : ℕ) → r < length (rows_of plan) → (row_at plan r).frame.node < 16
  pub claims : (r : ℕ) → r < length (rows_of plan) → Each (Lies plan) (row_at plan r).claims

-- ---- the claims

Each-both : {A : Type 0} {P Q R : A → Type 0} → ((x : A) → P x → Q x → R x) → (xs : List A) → Each P xs → Each Q xs → Each R xs
unfolding Each
Each-both f [] h k = tt
Each-both f (x ∷ xs) h k = (f x h.0 k.0, Each-both f xs h.1 k.1)

lies : (plan : List ℕ) (c : Claim) → Fits (sizes_of (tx_of plan)) c → Small c → Lies plan c
lies plan c f s = record { frame = omega (arith, sizes_length (tx_of plan), f.exists); bits = s.bits }

pub sendable : (plan : List ℕ) (n t r : ℕ) → check_plan plan ≡ good_with n t r → Sendable plan
unfolding tx_of claims_of
sendable plan n t r e =
    let f = (good_facts plan n t r e).0 in
    let b = claims_small plan f in
    record {
      tx = f.counts.tx;
      rx = f.counts.rx;
      node = λ t h. omega (arith, (frame_ranges plan f no_tx t h).node, f.counts.nodes);
      size = λ t h. (frame_ranges plan f no_tx t h).size;
      row = row_node plan f;
      claims = λ r h. row_each (Lies plan) (rows_of plan) no_row r h (Each-both (lies plan) (claims_of plan) f.fits b);
    }
