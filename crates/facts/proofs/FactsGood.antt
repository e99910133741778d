-- A plan that has all the facts is good: at each record the facts of the records from there on give every test.
use mathlib.Core.Path.{◌≡◌, sym, ◌∙◌}
use mathlib.Core.Bool.{true}
use mathlib.Core.List.{List, [], ◌∷◌}
use Prim.Native.Nat.{ℕ, ◌+◌, ◌≤◌, ◌<◌}
use native.Mathlib.Omega.{arith}
use lib.ListN.{length}
use Rattle.base.proofs.Apart.{differ}
use Rattle.records.specs.declared.record.Record.{Record}
use Rattle.records.specs.Kinds.{stage_of}
use Rattle.records.specs.Records.{records}
use Rattle.plan.specs.declared.progress.Progress.{Progress}
use Rattle.plan.specs.Progress.{counted, after, start}
use Rattle.plan.specs.Tests.{in_range, fits_node}
use Rattle.plan.specs.Check.{sizes_after, sets_after, check_plan}
use Rattle.plan.specs.Rows.{rows_from, rows_of, claims_of, tx_frames, tx_of, nodes_in}
use Rattle.plan.proofs.Turn.{sets_length}
use Rattle.facts.specs.Good.{Each, Along, InPlace, LinLast, Few, SignalsFit, sizes_of, Followed, GoodPlan}
use Rattle.facts.specs.Statements.{FactsGood, RefusedLacks}
use Rattle.facts.proofs.Lists.{Each-both, Each-all}
use Rattle.plan.proofs.CheckLaws.{Passed}
use Rattle.facts.proofs.Passes.{Passes, finally, sizes_finally, passes_good}
use Rattle.facts.proofs.Places.{nothing}
use Rattle.facts.proofs.Totals.{totals, rows_count}
use Rattle.facts.proofs.Counts.{Bounded, Bounded-before}
use Rattle.facts.proofs.Few.{FewMore, few_next, bounded_room}
use Rattle.facts.proofs.Ranges.{range_same, fits_same}
use Rattle.facts.proofs.Lin.{LinSoFar, lin_next, lin_fits}
use Rattle.facts.proofs.Rising.{RisingOver, rising_next}
use Rattle.facts.proofs.Signals.{signals_next}
use Rattle.facts.proofs.Sizes.{sizes_length}
use Rattle.facts.proofs.Destination.{Claimed}
use Rattle.facts.proofs.Claims.{left, Final, claims_next}
use Rattle.facts.proofs.Followers.{Await, idle, is_followed, awaits_next}
use Rattle.facts.proofs.Whole.{zeros, zeros-length, nobody, whole_claims, whole_sizes}

-- the facts of the records from a progress on; `all` are the sizes of the plan's Tx frames
record Rest (all : List ℕ) (p : Progress) (sizes sets : List ℕ) (rs : List Record) : Type 0 where
  place : InPlace p.stage rs
  lin : LinSoFar p.counts rs
  lins : Along LinLast rs
  bounded : Bounded (finally p.counts rs)
  few : FewMore p.row rs
  fews : Along Few rs
  ranges : Each (λ r. in_range (finally p.counts rs).nodes r ≡ true) rs
  lin_ranges : Each (λ r. fits_node (finally p.counts rs) r ≡ true) rs
  rising : RisingOver p.row.floor (rows_from p.counts.rx rs)
  signals : SignalsFit p.row.room rs
  long : length all ≤ length sets
  final : Final all sizes p.counts rs
  number : ℕ
  position : ℕ
  claims : Claimed all sets (left number p.counts.rx p.row position rs)
  awaits : Await p.row.awaits rs
  followers : Along Followed rs

-- they give the record's tests, and those of the records after it
rest_step :
    (all : List ℕ) (p : Progress) (sizes sets : List ℕ) (r : Record) (rs : List Record) → Rest all p sizes sets (r ∷ rs)
    → Passed p sizes sets r × Rest all (after p r) (sizes_after p.counts.tx sizes r) (sets_after p.row sets r) rs
unfolding InPlace Along Each finally sizes_finally after
rest_step all p sizes sets r rs h =
    let placed = h.place.0 in
    let place = h.place.1 in
    let counted_then = Bounded-before rs (stage_of r) (counted p.counts r) place h.bounded in
    let lin_then = lin_next p.counts r rs h.lins.0 h.lin in
    let rises_then = rising_next p.number p.counts p.row r rs h.rising in
    let claims_then = claims_next all sets sizes h.long p.number h.number h.position p.counts p.row r rs h.final place
    placed.known placed.whole h.signals h.claims in (
      record {
        follows = is_followed p.row (stage_of r) h.awaits.next.first;
        known = placed.known;
        whole = placed.whole;
        stands = placed.stands;
        first = lin_then.0;
        room = bounded_room p.counts p.row r rs counted_then h.few;
        range = sym (range_same p.counts r rs place) ∙ h.ranges.0;
        fits = sym (fits_same p.counts r rs place) ∙ h.lin_ranges.0;
        order = rises_then.0;
        inside = claims_then.0.inside;
        free = claims_then.0.free;
        indicated = claims_then.0.indicated;
        indicator = claims_then.0.indicator;
      },
      record {
        place = place;
        lin = lin_then.1;
        lins = h.lins.1;
        bounded = h.bounded;
        few = few_next p.number p.row r rs placed.known placed.whole place h.few h.fews.0;
        fews = h.fews.1;
        ranges = h.ranges.1;
        lin_ranges = h.lin_ranges.1;
        rising = rises_then.1;
        signals = signals_next p.number p.row r rs h.signals;
        long = omega (arith, h.long, sets_length p.row sets r);
        final = h.final;
        number = claims_then.1.0;
        position = claims_then.1.1;
        claims = claims_then.1.2;
        awaits = awaits_next p.number p.row r rs placed.known placed.whole h.followers.0 h.awaits;
        followers = h.followers.1;
      },
    )

rest_passes :
    (all : List ℕ) (rs : List Record) (p : Progress) (sizes sets : List ℕ) → Rest all p sizes sets rs → 0 < p.number + length rs → Passes p sizes sets rs
unfolding Passes stage_of after
rest_passes all [] p sizes sets h l = (is_followed p.row 0 h.awaits.next.first, omega arith)
rest_passes all (r ∷ rs) p sizes sets h l =
    let k = rest_step all p sizes sets r rs h in
    (k.0, rest_passes all rs (after p r) _ _ k.1 (omega arith))

-- at the start they are those of the plan
whole : (plan : List ℕ) → GoodPlan plan → Rest (sizes_of (tx_frames (records plan))) start zeros zeros (records plan)
unfolding start rows_of tx_of claims_of Each
whole plan h =
    let rs = records plan in
    let k = h.counts in
    let t = totals rs 0 start.counts h.place in
    let b : Bounded (finally start.counts rs) = omega (arith, rows_count rs 0 0 h.place) in
    let e : (finally start.counts rs).nodes ≡ nodes_in rs = omega arith in
    record {
      place = h.place;
      lin = record { most = omega arith; none = λ l. absurd (omega arith) };
      lins = h.lin;
      bounded = b;
      few = omega (arith, nothing rs 0 h.place (omega arith));
      fews = k.few;
      ranges = rw e h.ranges;
      lin_ranges = Each-both (lin_fits rs h.lin (finally start.counts rs) (omega arith)) rs h.ranges h.lin_ranges;
      rising = record { above = Each-all (λ r. omega arith) (rows_from 0 rs); rising = h.rising };
      signals = h.signals;
      long = omega (arith, sizes_length (tx_frames rs), zeros-length);
      final = whole_sizes rs h.place b;
      number = 0;
      position = 0;
      claims = rw (whole_claims rs h.place) (record { clear = record { free = λ i j one. absurd (nobody i j one); once = h.once }; fits = h.fits });
      awaits = idle rs;
      followers = h.followed;
    }

pub facts_good : FactsGood
unfolding check_plan start tx_of rows_of
facts_good plan h =
    let rs = records plan in
    let t = totals rs 0 start.counts h.place in
    let c = finally start.counts rs in
    let en : nodes_in rs ≡ c.nodes = omega arith in
    let et : length (tx_frames rs) ≡ c.tx = omega arith in
    let er : length (rows_from 0 rs) ≡ c.rx = omega (arith, rows_count rs 0 0 h.place) in
    rw (en, et, er) (passes_good rs start zeros zeros (rest_passes (sizes_of (tx_frames rs)) rs start zeros zeros (whole plan h) (omega (arith, h.nonempty))))

pub refused_lacks : RefusedLacks
refused_lacks plan reason number e h =
    let g = facts_good plan h in
    differ cc
