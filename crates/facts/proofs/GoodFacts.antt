-- A plan that the check calls good has all the facts.
use mathlib.Core.Path.{◌≡◌, sym, ◌∙◌}
use mathlib.Core.List.{List, [], ◌∷◌}
use Prim.Native.Nat.{ℕ, ◌<◌}
use native.Mathlib.Omega.{arith}
use lib.ListN.{length}
use Rattle.records.specs.declared.record.Record.{Record}
use Rattle.records.specs.Records.{records}
use Rattle.plan.specs.Progress.{start}
use Rattle.plan.proofs.Verdicts.{same_counts}
use Rattle.plan.specs.Check.{good_with, check_plan}
use Rattle.plan.specs.Rows.{rows_of, claims_of, tx_frames, tx_of, nodes_in, types_in}
use Rattle.facts.specs.Good.{Each, Along, InPlace, LinLast, InRange, InLinRange, Counted, sizes_of, GoodPlan}
use Rattle.facts.specs.Statements.{Answered, GoodFacts}
use Rattle.facts.proofs.Lists.{Each-both}
use Rattle.facts.proofs.Passes.{Passes, finally, good_passes, passes_good}
use Rattle.facts.proofs.Places.{passes_place}
use Rattle.facts.proofs.Totals.{totals, rows_count}
use Rattle.facts.proofs.Counts.{Bounded, passes_bounded}
use Rattle.facts.proofs.Few.{passes_few}
use Rattle.facts.proofs.Ranges.{passes_ranges, passes_fits}
use Rattle.facts.proofs.Lin.{cans_first, passes_first, fits_lin}
use Rattle.facts.proofs.Rising.{passes_rising}
use Rattle.facts.proofs.Signals.{passes_signals}
use Rattle.facts.proofs.Sizes.{sizes_length}
use Rattle.facts.proofs.Destination.{Claimed}
use Rattle.facts.proofs.Claims.{passes_claims}
use Rattle.facts.proofs.Followers.{passes_followed}
use Rattle.facts.proofs.Whole.{zeros, zeros-length, whole_claims, whole_sizes}

some_record : (rs : List Record) → Passes start zeros zeros rs → 0 < length rs
unfolding Passes start
some_record [] h = h.1
some_record (r ∷ rs) h = omega arith

module _ (plan : List ℕ) (h : Passes start zeros zeros (records plan)) where
  place : InPlace 0 (records plan)
  unfolding start
  place = passes_place (records plan) start zeros zeros h

  bounded : Bounded (finally start.counts (records plan))
  unfolding start
  bounded = passes_bounded (records plan) start zeros zeros h (omega arith)

  counts : Counted plan
  unfolding start rows_of tx_of
  counts =
      let t = totals (records plan) 0 start.counts place in
      let b = bounded in
      record {
        nodes = omega arith;
        tx = omega arith;
        rx = omega (arith, rows_count (records plan) 0 0 place);
        signals = omega arith;
        destinations = omega arith;
        few = passes_few (records plan) start zeros zeros h (omega arith) (omega arith);
      }

  ranges : InRange plan
  unfolding start
  ranges =
      let t = totals (records plan) 0 start.counts place in
      let e : (finally start.counts (records plan)).nodes ≡ nodes_in (records plan) = omega arith in
      rw e at (passes_ranges (records plan) start zeros zeros h)

  lin : Along LinLast (records plan)
  unfolding start
  lin = cans_first (records plan) start.counts (passes_first (records plan) start zeros zeros h) (omega arith)

  lin_ranges : Each (InLinRange (types_in (records plan))) (records plan)
  unfolding start
  lin_ranges =
      let t = totals (records plan) 0 start.counts place in
      Each-both (fits_lin (records plan) lin (finally start.counts (records plan)) (omega arith)) (records plan) ranges
      (passes_fits (records plan) start zeros zeros h)

  claims : Claimed (sizes_of (tx_of plan)) zeros (claims_of plan)
  unfolding start tx_of claims_of rows_of
  claims =
      let t = totals (records plan) 0 start.counts place in
      let b = bounded in
      rw (whole_claims (records plan) place) at
      (passes_claims (sizes_of (tx_frames (records plan))) (records plan) 0 0 start zeros zeros
      (omega (arith, sizes_length (tx_frames (records plan)), zeros-length))
      (whole_sizes (records plan) place b) h)

  facts : GoodPlan plan
  unfolding start rows_of
  facts =
      record {
        nonempty = some_record (records plan) h;
        place = place;
        lin = lin;
        counts = counts;
        ranges = ranges;
        lin_ranges = lin_ranges;
        rising = (passes_rising (records plan) start zeros zeros h).rising;
        signals = passes_signals (records plan) start zeros zeros h;
        fits = claims.fits;
        once = claims.clear.once;
        followed = passes_followed (records plan) start zeros zeros h;
      }

  answered : (n t r : ℕ) → check_plan plan ≡ good_with n t r → Answered plan n t r
  unfolding start tx_of rows_of check_plan
  answered n t r e =
      let k = totals (records plan) 0 start.counts place in
      let c = finally start.counts (records plan) in
      let g : check_plan plan ≡ good_with c.nodes c.tx c.rx = passes_good (records plan) start zeros zeros h in
      let same = same_counts (sym e ∙ g) in
      record { nodes = omega (arith, same); tx = omega (arith, same); rx = omega (arith, same, rows_count (records plan) 0 0 place) }

pub good_facts : GoodFacts
unfolding check_plan
good_facts plan n t r e =
    let h = good_passes n t r (records plan) start zeros zeros e in
    (facts plan h, answered plan h n t r e)
