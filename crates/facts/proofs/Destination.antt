-- A destination: its four tests say that its claim, and that of the failure bit where one is awaited, fit and keep off the owned bits.
use mathlib.Core.Path.{◌≡◌, refl}
use mathlib.Core.Bool.{Bool, true, false, not, ◌&&◌, ◌||◌}
use mathlib.Core.List.{List, ◌∷◌}
use mathlib.Core.Option.{none, some}
use Prim.Native.Nat.{ℕ, ◌+◌, ◌*◌, ◌≤◌, ◌<◌}
use native.Mathlib.Omega.{arith}
use lib.Dec.{leb, ltb}
use lib.ListN.{length, get_or, set, length-set}
use lib.Seq.{get_or-set_same, set-set}
use borrow.Author.Tests.{ltb-true, leb-true, lt-ltb, le-leb, not-true}
use Rattle.base.specs.Pick.{pick}
use Rattle.bits.specs.Owners.{owned, clash}
use Rattle.plan.specs.Rows.{copy, failure, width_of, Claim, with_failure}
use Rattle.plan.proofs.TestLaws.{and_both}
use Rattle.facts.specs.Good.{Each, Fits}
use Rattle.facts.proofs.Owners.{taken, Clear, Clear-back, clear_next, Clear-swap}

-- what stands of the claims to come
pub record Claimed (all sets : List ℕ) (cs : List Claim) : Type 0 where
  pub clear : Clear sets cs
  pub fits : Each (Fits all) cs

-- the Tx frames of the plan, by number and sizes, and those that the check knows
pub record SameSizes (all sizes : List ℕ) (count : ℕ) : Type 0 where
  pub number : count ≡ length all
  pub same : (t : ℕ) → t < length all → get_or sizes t 0 ≡ get_or all t 0

-- the four tests, where `idle` says that no failure bit is awaited
pub record Tested (sizes sets : List ℕ) (count t q s position : ℕ) (idle : Bool) : Type 0 where
  pub inside : (ltb t count && leb (q + s) (8 * get_or sizes t 0)) ≡ true
  pub free : not (clash (get_or sets t 0) q s) ≡ true
  pub indicated : (idle || ltb position (8 * get_or sizes t 0)) ≡ true
  pub indicator : (idle || not (clash (owned (get_or sets t 0) q s) position 1)) ≡ true

-- the sets after it
abbrev pub sets_by : List ℕ → ℕ → ℕ → ℕ → ℕ → Bool → List ℕ
sets_by sets t q s position idle = set sets t (pick idle (owned (get_or sets t 0) q s) (owned (owned (get_or sets t 0) q s) position 1))

-- its claim, and the failure bit's
abbrev pub claim_of : ℕ → ℕ → ℕ → ℕ → ℕ → Claim
claim_of n t q x s = record { rx = n; tx = t; at = q; from = copy x s }

abbrev pub failure_of : ℕ → ℕ → ℕ → Claim
failure_of n t position = record { rx = n; tx = t; at = position; from = failure }

module _ (all sizes : List ℕ) (count : ℕ) (known : SameSizes all sizes count) (n t : ℕ) where
  inside_fits : (q x s : ℕ) → (ltb t count && leb (q + s) (8 * get_or sizes t 0)) ≡ true → Fits all (claim_of n t q x s)
  unfolding width_of
  inside_fits q x s e =
      let a = and_both (ltb t count) (leb (q + s) (8 * get_or sizes t 0)) e in
      let l : t < length all = omega (arith, ltb-true t count a.0, known.number) in
      record { exists = l; inside = omega (arith, leb-true (q + s) (8 * get_or sizes t 0) a.1, known.same t l) }

  fits_inside : (q x s : ℕ) → Fits all (claim_of n t q x s) → (ltb t count && leb (q + s) (8 * get_or sizes t 0)) ≡ true
  unfolding width_of
  fits_inside q x s f =
      rw (
        lt-ltb t count (omega (arith, f.exists, known.number)),
        le-leb (q + s) (8 * get_or sizes t 0) (omega (arith, f.inside, known.same t f.exists)),
      )

-- the failure bit joins after the claim, and stands before it in the list
pub twice :
    (sets : List ℕ) (n t q x s position : ℕ) → t < length sets
    → taken (taken sets (claim_of n t q x s)) (failure_of n t position) ≡ sets_by sets t q s position false
unfolding width_of pick
twice sets n t q x s position there = rw (get_or-set_same sets t (owned (get_or sets t 0) q s) 0 there, set-set)

module _ (all sizes sets : List ℕ) (count : ℕ) (known : SameSizes all sizes count) (long : length all ≤ length sets)
    (n t q x s position : ℕ) (cs : List Claim) where
  pub destination_back :
      (idle : Bool) → Tested sizes sets count t q s position idle → Claimed all (sets_by sets t q s position idle) cs
      → Claimed all sets (with_failure n (pick idle none (some position)) t (claim_of n t q x s ∷ cs))
  unfolding with_failure pick width_of Each
  destination_back true h k =
      let f = inside_fits all sizes count known n t q x s h.inside in
      record { clear = Clear-back sets (claim_of n t q x s) cs (omega (arith, f)) (not-true _ h.free) k.clear; fits = (f, k.fits) }
  destination_back false h k =
      let f = inside_fits all sizes count known n t q x s h.inside in
      let there : t < length sets = omega (arith, f.exists) in
      let c = claim_of n t q x s in
      let d = failure_of n t position in
      let joins : Clear (taken (taken sets c) d) cs = rw (twice sets n t q x s position there) k.clear in
      let apart : clash (get_or (taken sets c) t 0) position 1 ≡ false =
      rw (get_or-set_same sets t (owned (get_or sets t 0) q s) 0 there) (not-true _ h.indicator) in
      let more = Clear-back (taken sets c) d cs (simp length-set there) apart joins in
      record {
        clear = Clear-swap sets c d cs (Clear-back sets c (d ∷ cs) there (not-true _ h.free) more);
        fits = (
          record { exists = f.exists; inside = omega (arith, ltb-true position (8 * get_or sizes t 0) h.indicated, known.same t f.exists) },
          (f, k.fits),
        );
      }

  pub destination_next :
      (idle : Bool) → Claimed all sets (with_failure n (pick idle none (some position)) t (claim_of n t q x s ∷ cs))
      → Tested sizes sets count t q s position idle × Claimed all (sets_by sets t q s position idle) cs
  unfolding with_failure pick width_of Each
  destination_next true h =
      let f = h.fits.0 in
      let a = clear_next sets (claim_of n t q x s) cs (omega (arith, f)) h.clear in (
        record { inside = fits_inside all sizes count known n t q x s f; free = rw a.0; indicated = refl; indicator = refl },
        record { clear = a.1; fits = h.fits.1 },
      )
  destination_next false h =
      let f = h.fits.1.0 in
      let there : t < length sets = omega (arith, f.exists) in
      let c = claim_of n t q x s in
      let d = failure_of n t position in
      let a = clear_next sets c (d ∷ cs) there (Clear-swap sets d c cs h.clear) in
      let b = clear_next (taken sets c) d cs (simp length-set there) a.1 in
      let apart : clash (owned (get_or sets t 0) q s) position 1 ≡ false =
      rw (get_or-set_same sets t (owned (get_or sets t 0) q s) 0 there) at b.0 in (
        record {
          inside = fits_inside all sizes count known n t q x s f;
          free = rw a.0;
          indicated = lt-ltb position (8 * get_or sizes t 0) (omega (arith, h.fits.0.inside, known.same t f.exists));
          indicator = rw apart;
        },
        record { clear = rw (twice sets n t q x s position there) at b.1; fits = h.fits.1.1 },
      )
