-- The bound is reached by a plan with one source; where its timer stands still, or its indicator is off, it passes every bound.
use mathlib.Core.Path.{refl, sym}
use mathlib.Core.List.{List}
use Prim.Native.Nat.{ℕ, ◌-◌, ◌*◌, ◌≤◌, ◌<◌}
use native.Mathlib.Nat.{le_of_eq, mul-pos}
use native.Mathlib.Omega.{arith}
use lib.ListN.{length, replicate, length-replicate}
use Rattle.base.specs.Pick.{pick}
use Rattle.bits.specs.Digit.{digit}
use Rattle.bits.specs.Payload.{digit_of, bit_at}
use Rattle.clock.specs.Counter.{Prescaler}
use Rattle.plan.specs.Rows.{with_failure, awaited, width_of, all_claims, claims_of}
use Rattle.history.specs.Fresh.{holds, owner_from, owner_in, owner}
use Rattle.age.specs.BestBound.{Aged, Still, BestBound, NoSmallerBound, Unflagged, NoBound}
use Rattle.age.proofs.Due.{prescaler_range}
use Rattle.age.proofs.Quiet.{Quiet, off_quiet, stopped_quiet, loaded_quiet}
use Rattle.age.proofs.OneSource.{Enable, off, on, one_source, one_source_order, one_source_types, one_source_rows, given}
use Rattle.age.proofs.Silence.{calls_of, last_of, handed, accepted}

module _ {e r p : ℕ} (enable : Enable e) (byte : r < 256) (prescaler : Prescaler p) (a : List ℕ) (long : 32768 ≤ length a) (k : ℕ)
    (quiet : Quiet e r p k 1 r) where
  abbrev aged : Aged a r p k
  aged =
      record {
        calls = calls_of (one_source e r p) k;
        plan = one_source e r p;
        t = 0;
        payload = given;
        r = 0;
        last = last_of k;
        handed = handed enable byte prescaler a long k quiet;
        row = rw (one_source_rows e r p) (omega arith);
        accepted = accepted enable byte prescaler a long k quiet;
        its_reload = rw (one_source_rows e r p);
        its_prescaler = rw (one_source_rows e r p);
        its_ticks = refl;
      }

module _ {r p : ℕ} (byte : r < 256) (prescaler : Prescaler p) (a : List ℕ) (long : 32768 ≤ length a) (k : ℕ) where
  -- an indicator that is on, while no tick sets its failure bit
  still : Quiet 1 r p k 1 r → Still a r p k
  unfolding owner claims_of all_claims owner_in holds owner_from width_of with_failure awaited bit_at digit_of digit pick
  still quiet =
      let x = aged on byte prescaler a long k quiet in
      record {
        aged = x;
        heard =
            record {
              row = x.row;
              can = rw (one_source_rows 1 r p, one_source_types 1 r p);
              indicates = rw (one_source_rows 1 r p);
              accepted = x.accepted;
            };
        zero = rw (one_source_order 1 r p, one_source_rows 1 r p);
      }

  -- one that is off
  unflagged : Unflagged a r p k
  unfolding owner claims_of all_claims owner_in holds owner_from width_of with_failure awaited bit_at digit_of digit pick
  unflagged =
      record {
        aged = aged off byte prescaler a long k (off_quiet r p k 1 r);
        off = rw (one_source_rows 0 r p);
        bit = 0;
        from = 0;
        carries = rw (one_source_rows 0 r p);
        value = rw (one_source_order 0 r p);
      }

pub best_bound : BestBound
best_bound a long r p ticks above byte prescaler e =
    still byte prescaler a long ticks (loaded_quiet 1 r p (prescaler_range prescaler).0 ticks above e)

pub no_smaller_bound : NoSmallerBound
no_smaller_bound least bounds r p above byte prescaler =
    let some : 0 < r * p = mul-pos above (prescaler_range prescaler).0 in
    let s = best_bound (replicate 32768 0) (le_of_eq (sym (length-replicate {A = ℕ} 32768 0))) r p (r * p - 1) above byte prescaler (omega arith) in
    let x = s.aged in
    let few = bounds _ x.calls x.plan x.t x.payload x.handed x.r x.last s.heard (rw x.its_reload above) s.zero in
    let few : x.last.ticks < least r p = rw (x.its_reload, x.its_prescaler) at few in
    omega (arith, x.its_ticks)

pub no_bound : NoBound
no_bound a long p ticks prescaler =
    record {
      stopped = still (omega arith) prescaler a long ticks (stopped_quiet 1 0 p ticks 1);
      off = λ r above byte. unflagged byte prescaler a long ticks;
    }
