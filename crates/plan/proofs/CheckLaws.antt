-- One record more: what a record that passes leaves, and that the rest then decides as the whole plan does.
use mathlib.Core.Path.{◌≡◌, refl, sym}
use mathlib.Core.Bool.{Bool, true, false}
use mathlib.Core.List.{List, []}
use Rattle.std.specs.Prelude.{Result, Ok, Err}
use Prim.Native.Nat.{ℕ}
use Rattle.base.proofs.Apart.{differ}
use Rattle.base.specs.Pick.{pick}
use Rattle.records.specs.declared.record.Record.{Record}
use Rattle.records.specs.declared.record.Record.TheVariants.{Head, Node, Tx, Rx, Signal, Destination, Broken}
use Rattle.records.specs.declared.record.SignalBody.{SignalBody}
use Rattle.records.specs.declared.record.DestinationBody.{DestinationBody}
use Rattle.records.specs.declared.record.Follower.TheVariants as follower
use Rattle.records.specs.Kinds.{stage_of}
use Rattle.records.specs.Reading.{follower_of}
use Rattle.records.proofs.Variants.{by_destination}
use Rattle.plan.specs.declared.verdict.Reason.{Reason}
use Rattle.plan.specs.declared.progress.Progress.{Progress}
use Rattle.plan.specs.declared.verdict.BadRecord.{BadRecord}
use Rattle.plan.specs.Progress.{after}
use Rattle.plan.specs.Tests.{followed, is_kind, is_whole, may_stand, can_first, has_room, in_range, fits_node, rises, in_data, is_free}
use Rattle.plan.specs.Tests.{indicator_in_data, indicator_is_free}
use Rattle.plan.specs.Check.{need, placed, judged, sizes_after, sets_after}
use Rattle.plan.specs.Motion.{sizes_then, sets_then}

-- ---- what a record that is taken passed

need_go : (t : Bool) (a : Reason) (n : ℕ) (rest : Result Progress BadRecord) (q : Progress) → need t a n rest ≡ Ok q → (t ≡ true) × (rest ≡ Ok q)
unfolding need pick
need_go true a n rest q e = (refl, e)
need_go false a n rest q e = absurd (differ cc)

pub record Passed (p : Progress) (sizes sets : List ℕ) (r : Record) : Type 0 where
  pub follows : followed p.row (stage_of r) ≡ true
  pub known : is_kind r ≡ true
  pub whole : is_whole r ≡ true
  pub stands : may_stand p.stage r ≡ true
  pub first : can_first p.counts r ≡ true
  pub room : has_room p.counts p.row r ≡ true
  pub range : in_range p.counts.nodes r ≡ true
  pub fits : fits_node p.counts r ≡ true
  pub order : rises p.row r ≡ true
  pub inside : in_data p.counts p.row sizes r ≡ true
  pub free : is_free p.row sets r ≡ true
  pub indicated : indicator_in_data p.row sizes r ≡ true
  pub indicator : indicator_is_free p.row sets r ≡ true

pub passed : (p : Progress) (sizes sets : List ℕ) (r : Record) (q : Progress) → judged p sizes sets r ≡ Ok q → Passed p sizes sets r × (q ≡ after p r)
unfolding judged placed
passed p sizes sets r q e =
    let a = need_go _ _ _ _ q e in
    let b = need_go _ _ _ _ q a.1 in
    let c = need_go _ _ _ _ q b.1 in
    let d = need_go _ _ _ _ q c.1 in
    let f = need_go _ _ _ _ q d.1 in
    let g = need_go _ _ _ _ q f.1 in
    let h = need_go _ _ _ _ q g.1 in
    let i = need_go _ _ _ _ q h.1 in
    let j = need_go _ _ _ _ q i.1 in
    let k = need_go _ _ _ _ q j.1 in
    let l = need_go _ _ _ _ q k.1 in
    let m = need_go _ _ _ _ q l.1 in
    let o = need_go _ _ _ _ q m.1 in (
      record {
        follows = a.0;
        known = b.0;
        whole = c.0;
        stands = d.0;
        first = f.0;
        room = g.0;
        range = h.0;
        fits = i.0;
        order = j.0;
        inside = k.0;
        free = l.0;
        indicated = m.0;
        indicator = o.0;
      },
      (cc),
    )

-- a record that leaves the tables leaves them whether it is taken or not
pub sizes_then_same : (p : Progress) (sizes : List ℕ) (r : Record) → sizes_after p.counts.tx sizes r ≡ sizes → (n : Result Progress BadRecord) → sizes ≡ sizes_then n p sizes r
sizes_then_same p sizes r same (Ok q) = sym same
sizes_then_same p sizes r same (Err bad) = refl

pub sets_then_same : (p : Progress) (sets : List ℕ) (r : Record) → sets_after p.row sets r ≡ sets → (n : Result Progress BadRecord) → sets ≡ sets_then n p sets r
sets_then_same p sets r same (Ok q) = sym same
sets_then_same p sets r same (Err bad) = refl

-- ---- a record that is no signal and no destination

no_signal : (body : SignalBody) → follower_of (Signal body) ≡ follower.Other → ⊥
unfolding follower_of
no_signal body e = differ cc

no_destination : (body : DestinationBody) → follower_of (Destination body) ≡ follower.Other → ⊥
unfolding follower_of
no_destination body e = differ cc

-- it does not ask for the tables, and leaves the sets
module _ (p : Progress) (sizes sets : List ℕ) where
  pub judged_other : (r : Record) → follower_of r ≡ follower.Other → judged p [] [] r ≡ judged p sizes sets r
  unfolding judged placed in_data is_free indicator_in_data indicator_is_free
  judged_other (Destination body) other = absurd (no_destination body other)
  judged_other (Head order) other = refl
  judged_other (Node body) other = refl
  judged_other (Tx frame) other = refl
  judged_other (Rx frame) other = refl
  judged_other (Signal body) other = refl
  judged_other (Broken fault) other = refl

same_sets : (p : Progress) (sets : List ℕ) (r : Record) → follower_of r ≡ follower.Other → sets_after p.row sets r ≡ sets
unfolding sets_after
same_sets p sets =
    by_destination (λ r. follower_of r ≡ follower.Other → sets_after p.row sets r ≡ sets) (λ body other. absurd (no_destination body other))
    (λ r none other. none.by _ _)

pub sets_other : (p : Progress) (sets : List ℕ) (r : Record) → follower_of r ≡ follower.Other → (n : Result Progress BadRecord) → sets ≡ sets_then n p sets r
sets_other p sets r other n = sets_then_same p sets r (same_sets p sets r other) n
