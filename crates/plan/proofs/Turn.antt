-- One turn of the check: where it stands, the rest of the records decides and joins as the whole plan does.
use mathlib.Core.Path.{◌≡◌, refl, sym, ap, ◌∙◌}
use mathlib.Core.Bool.{◌&&◌}
use mathlib.Core.List.{List, [], ◌∷◌}
use Rattle.std.specs.Prelude.{Result, Ok, Err}
use Prim.Native.Nat.{ℕ, zero, suc, ◌+◌, ◌-◌, ◌^◌, ◌≤◌, ◌<◌}
use native.Mathlib.Omega.{arith}
use borrow.Author.Tests.{leb-true, ltb-true}
use lib.Dec.{leb, ltb, eqb}
use lib.ListN.{length, get_or, replicate, length-set, length-replicate}
use Rattle.base.proofs.Apart.{differ}
use Rattle.base.proofs.Picks.{both}
use Rattle.records.specs.declared.record.SignalBody.{SignalBody}
use Rattle.records.specs.declared.record.DestinationBody.{DestinationBody}
use Rattle.records.specs.declared.record.Follower.{Follower}
use Rattle.records.specs.declared.record.Follower.TheVariants as follower
use Rattle.records.specs.declared.record.Record.{Record}
use Rattle.records.specs.declared.record.Record.TheVariants.{Head, Node, Tx, Rx, Signal, Destination, Broken}
use Rattle.records.specs.declared.decode.Step.{Step}
use Rattle.records.specs.Kinds.{signal_bytes, destination_bytes, signal_stage, stage_of}
use Rattle.records.specs.Records.{records_at, records}
use Rattle.records.specs.Reading.{step_at, follower_of, follower_at}
use Rattle.base.specs.Pick.{pick}
use Rattle.records.proofs.Variants.{by_destination}
use Rattle.records.proofs.Followers.{step_signal, step_destination}
use Rattle.records.proofs.RecordLaws.{step_onward, records_end, records_step}
use Rattle.plan.specs.Limits.{most_nodes, most_tx, most_rx, most_signals, most_in_frame, most_destinations, most_of_signal}
use Rattle.plan.specs.declared.verdict.PlanCounts.{PlanCounts}
use Rattle.plan.specs.declared.progress.RowSoFar.{RowSoFar}
use Rattle.plan.specs.declared.progress.Progress.{Progress}
use Rattle.plan.specs.declared.verdict.BadRecord.{BadRecord}
use Rattle.plan.specs.Progress.{counted, row_after, after, start}
use Rattle.plan.specs.Tests.{may_stand, has_room, in_range, in_data, is_free, indicator_in_data, indicator_is_free}
use Rattle.plan.specs.Check.{good_with, placed, judged, sizes_after, sets_after, ended, verdict_of, check_on, check_plan, sets_unless, sets_on, sets_of, sets_fold}
use Rattle.plan.specs.Motion.{Fair, Tables, sizes_then, sets_then}
use Rattle.plan.proofs.TestLaws.{and_both, no_fault}
use Rattle.plan.proofs.CheckLaws.{Passed, passed, sizes_then_same, sets_then_same, sets_other}

-- ---- the bounds are kept by every record that is taken

pub Fair-after : (p : Progress) (sizes sets : List ℕ) (r : Record) → Fair p → Passed p sizes sets r → p.number + 1 < 2 ^ 63 → Fair (after p r)
unfolding after counted row_after stage_of has_room in_range may_stand pick
Fair-after p sizes sets (Head order) f t h = omega arith
Fair-after p sizes sets (Node body) f t h =
    let l = ltb-true p.counts.nodes most_nodes t.room in
    let c = both (λ n. n ≤ p.counts.nodes + 1) (eqb body.of 0) (p.counts.can + 1) p.counts.can (omega (arith, f.can)) (omega (arith, f.can)) in
    omega arith
Fair-after p sizes sets (Tx frame) f t h = let l = ltb-true p.counts.tx most_tx t.room in omega arith
Fair-after p sizes sets (Rx frame) f t h = let l = ltb-true p.counts.rx most_rx t.room in omega arith
Fair-after p sizes sets (Signal body) f t h =
    let room = and_both (ltb p.counts.signals most_signals) (ltb p.row.signals most_in_frame) t.room in
    let range = and_both (leb body.position 63 && ltb 0 body.size) (leb body.size 64) t.range in
    let few = ltb-true p.counts.signals most_signals room.0 in
    let fewer = ltb-true p.row.signals most_in_frame room.1 in
    let low = ltb-true 0 body.size (and_both (leb body.position 63) (ltb 0 body.size) range.0).1 in
    let high = leb-true body.size 64 range.1 in
    omega arith
Fair-after p sizes sets (Destination body) f t h =
    let room = and_both (ltb p.counts.destinations most_destinations) (ltb p.row.destinations most_of_signal) t.room in
    let few = ltb-true p.counts.destinations most_destinations room.0 in
    let fewer = ltb-true p.row.destinations most_of_signal room.1 in
    let some = f.sized (leb-true signal_stage p.stage t.stands) in
    omega arith
Fair-after p sizes sets (Broken fault) f t h = absurd (no_fault fault t.known t.whole)

pub sets_length : (row : RowSoFar) (sets : List ℕ) (r : Record) → length (sets_after row sets r) ≡ length sets
unfolding sets_after
sets_length row sets =
    by_destination (λ r. length (sets_after row sets r) ≡ length sets) (λ body. length-set sets body.tx.0 _)
    (λ r other. ap length (other.by _ _))

-- ---- where the check stands: before the record at a place

pub record Stands (plan : List ℕ) (at : ℕ) (p : Progress) (sizes sets : List ℕ) : Type 0 where
  pub fair : Fair p
  pub tables : Tables sizes
  pub long : length sets ≡ most_tx
  pub inside : at ≤ length plan
  pub number : p.number ≤ at
  pub rest : check_on p sizes sets (records_at plan at) ≡ check_plan plan
  pub joins : sets_on p sizes sets (records_at plan at) ≡ sets_of plan

zeros : (n i : ℕ) → get_or (replicate n 0) i 0 ≤ 8
zeros zero i = omega arith
zeros (suc n) zero = omega arith
zeros (suc n) (suc i) = zeros n i

pub begins : (plan : List ℕ) → Stands plan 0 start (replicate most_tx 0) (replicate most_tx 0)
unfolding check_plan sets_of records start
begins plan = record {
  fair = omega arith;
  tables = record { long = length-replicate {A = ℕ} most_tx 0; small = zeros most_tx };
  long = length-replicate {A = ℕ} most_tx 0;
  inside = omega arith;
  number = omega arith;
  rest = refl;
  joins = refl;
}

-- at the end
pub ends :
    (plan : List ℕ) (at : ℕ) (p : Progress) (sizes sets : List ℕ) → Stands plan at p sizes sets → length plan ≤ at
    → (ended p ≡ check_plan plan) × (sets ≡ sets_of plan)
unfolding check_on sets_on
ends plan at p sizes sets s h = let end = records_end plan at h in (rw end at s.rest, rw end at s.joins)

-- before the end
pub record Here (plan : List ℕ) (at : ℕ) (p : Progress) (sizes sets : List ℕ) : Type 0 where
  pub short : length plan < 2 ^ 63
  pub inside : at < length plan
  pub stood : Stands plan at p sizes sets

-- a record that was read there and judged
pub record Turned (plan : List ℕ) (at : ℕ) (p : Progress) (sizes sets : List ℕ) (read : Step) (next : Result Progress BadRecord) : Type 0 where
  pub here : Here plan at p sizes sets
  pub found : read ≡ step_at plan at
  pub done : next ≡ judged p sizes sets read.found

-- what a definition over the records makes of those after it
abbrev on_rest : {A : Type 0} → List ℕ → Progress → List ℕ → List ℕ → Step → (Progress → List ℕ → List ℕ → List Record → A) → A
on_rest plan p sizes sets read f =
    f (after p read.found) (sizes_after p.counts.tx sizes read.found) (sets_after p.row sets read.found) (records_at plan read.next)

module _ {plan : List ℕ} {at : ℕ} {p : Progress} {sizes sets : List ℕ} {read : Step} {next : Result Progress BadRecord} (t : Turned plan at p sizes sets read next) where
  decides : verdict_of next (on_rest plan p sizes sets read check_on) ≡ check_plan plan
  unfolding check_on
  decides = rw (t.done, t.found) (rw (records_step plan at t.here.inside) at t.here.stood.rest)

  joined : sets_unless next sets (on_rest plan p sizes sets read sets_on) ≡ sets_of plan
  unfolding sets_on
  joined = rw (t.done, t.found) (rw (records_step plan at t.here.inside) at t.here.stood.joins)

  -- the place behind it
  pub onward : (at < read.next) × (read.next ≤ length plan)
  onward = rw t.found (step_onward plan at t.here.inside)

  pub refuses :
      {bad : BadRecord} {sets' : List ℕ} → next ≡ Err bad → sets' ≡ sets_then next p sets read.found
      → (Err bad ≡ check_plan plan) × (sets' ≡ sets_of plan)
  unfolding verdict_of sets_unless
  refuses is et = (rw is at decides, (rw is at et) ∙ (rw is at joined))

  pub goes :
      {q : Progress} {sizes' sets' : List ℕ} → next ≡ Ok q → sizes' ≡ sizes_then next p sizes read.found → Tables sizes'
      → sets' ≡ sets_then next p sets read.found → Stands plan read.next q sizes' sets'
  unfolding verdict_of sets_unless after
  goes {q} {sizes'} {sets'} is es tables et =
      let pass = passed p sizes sets read.found q (sym t.done ∙ is) in
      let es' : sizes' ≡ sizes_after p.counts.tx sizes read.found = rw is at es in
      let et' : sets' ≡ sets_after p.row sets read.found = rw is at et in
      rw (pass.1, et', es')
      (record {
        fair = Fair-after p sizes sets read.found t.here.stood.fair pass.0 (omega (arith, onward, t.here.short, t.here.stood.number));
        tables = rw es' at tables;
        long = sets_length p.row sets read.found ∙ t.here.stood.long;
        inside = onward.1;
        number = omega (arith, onward, t.here.stood.number);
        rest = rw is at decides;
        joins = rw is at joined;
      })

  pub falls : length plan - read.next < length plan - at
  falls = omega (arith, onward)

-- ---- a signal and a destination, which are read apart from the other records

module _ {plan : List ℕ} {at : ℕ} {p : Progress} {sizes sets : List ℕ} {found : Follower} (h : Here plan at p sizes sets) (told : found ≡ follower_at plan at)
    {next : Result Progress BadRecord} where
  pub signal_turned :
      {body : SignalBody} → found ≡ follower.Signal body → next ≡ judged p [] [] (Signal body)
      → Turned plan at p sizes sets (record { found = Signal body; next = at + signal_bytes }) next
  unfolding judged placed in_data is_free indicator_in_data indicator_is_free
  signal_turned is done = record { here = h; found = step_signal plan at (sym is ∙ told); done = done }

  pub destination_turned :
      {body : DestinationBody} → found ≡ follower.Destination body → next ≡ judged p sizes sets (Destination body)
      → Turned plan at p sizes sets (record { found = Destination body; next = at + destination_bytes }) next
  destination_turned is done = record { here = h; found = step_destination plan at (sym is ∙ told); done = done }

module _ {plan : List ℕ} {at behind : ℕ} {p : Progress} {sizes sets : List ℕ} {next : Result Progress BadRecord} where
  module _ {body : SignalBody} (t : Turned plan at p sizes sets (record { found = Signal body; next = behind }) next) where
    pub signal_goes : {q : Progress} → next ≡ Ok q → Stands plan behind q sizes sets
    unfolding sizes_after sets_after
    signal_goes go =
        goes t go (sizes_then_same p sizes (Signal body) refl next) t.here.stood.tables (sets_then_same p sets (Signal body) refl next)

    pub signal_refuses : {bad : BadRecord} → next ≡ Err bad → (Err bad ≡ check_plan plan) × (sets ≡ sets_of plan)
    unfolding sets_after
    signal_refuses stop = refuses t stop (sets_then_same p sets (Signal body) refl next)

  pub destination_goes :
      {body : DestinationBody} {q : Progress} {sets' : List ℕ} → Turned plan at p sizes sets (record { found = Destination body; next = behind }) next
      → next ≡ Ok q → sets' ≡ sets_then next p sets (Destination body) → Stands plan behind q sizes sets'
  unfolding sizes_after
  destination_goes {body} t go et = goes t go (sizes_then_same p sizes (Destination body) refl next) t.here.stood.tables et

-- ---- any other record leaves the sets

module _ {plan : List ℕ} {at : ℕ} {p : Progress} {sizes sets : List ℕ} {read : Step} {next : Result Progress BadRecord} (t : Turned plan at p sizes sets read next)
    (other : follower_of read.found ≡ follower.Other) where
  pub other_goes :
      {q : Progress} {sizes' : List ℕ} → next ≡ Ok q → sizes' ≡ sizes_then next p sizes read.found → Tables sizes'
      → Stands plan read.next q sizes' sets
  other_goes go es tables = goes t go es tables (sets_other p sets read.found other next)

  pub other_refuses : {bad : BadRecord} → next ≡ Err bad → (Err bad ≡ check_plan plan) × (sets ≡ sets_of plan)
  other_refuses stop = refuses t stop (sets_other p sets read.found other next)

-- ---- a good plan's sets are those that all its records leave

good_step :
    (next : Result Progress BadRecord) (v : Result PlanCounts BadRecord) (sets rest all : List ℕ) (n t x : ℕ) → verdict_of next v ≡ good_with n t x → (v ≡ good_with n t x → rest ≡ all)
    → sets_unless next sets rest ≡ all
unfolding verdict_of sets_unless
good_step (Ok q) v sets rest all n t x e more = more e
good_step (Err bad) v sets rest all n t x e more = absurd (differ cc)

pub sets_good :
    (p : Progress) (sizes sets : List ℕ) (rs : List Record) (n t x : ℕ) → check_on p sizes sets rs ≡ good_with n t x
    → sets_on p sizes sets rs ≡ sets_fold p.number p.row sets rs
unfolding check_on sets_on sets_fold after
sets_good p sizes sets [] n t x e = refl
sets_good p sizes sets (r ∷ rs) n t x e = good_step (judged p sizes sets r) _ _ _ _ n t x e (sets_good (after p r) _ _ rs n t x)

pub good_sets :
    (plan : List ℕ) (n t x : ℕ) → check_plan plan ≡ good_with n t x → sets_of plan ≡ sets_fold 0 start.row (replicate most_tx 0) (records plan)
unfolding check_plan sets_of start
good_sets plan n t x e = sets_good start _ _ (records plan) n t x e
