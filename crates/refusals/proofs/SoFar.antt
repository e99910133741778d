-- What the check knows after records that pass, all in words of those records.
use mathlib.Core.Path.{◌≡◌, refl, ◌∙◌}
use mathlib.Core.Logic.{◌↔◌}
use mathlib.Core.List.{List, [], ◌∷◌, ◌++◌}
use Prim.Native.Nat.{ℕ, ◌≤◌, ◌<◌}
use native.Mathlib.Nat.{zero-add}
use native.Mathlib.Omega.{arith}
use lib.ListN.{length, get_or}
use borrow.Author.Tests.{eq-eqb}
use Rattle.base.specs.Pick.{pick}
use Rattle.records.specs.declared.record.Record.{Record}
use Rattle.records.specs.declared.record.Record.TheVariants.{Rx, Signal}
use Rattle.records.specs.Ids.{Possible}
use Rattle.records.specs.Kinds.{stage_of}
use Rattle.plan.specs.Progress.{row_after, after, start}
use Rattle.plan.specs.Tests.{in_range}
use Rattle.plan.specs.Rows.{cans_in}
use Rattle.plan.proofs.TestLaws.{rx_ranges}
use Rattle.facts.specs.Good.{Each, count_of}
use Rattle.facts.specs.Statements.{State, begun, stepped, state_after, AllGo}
use Rattle.facts.proofs.Owners.{Has}
use Rattle.refusals.specs.Before.{RxBefore, SignalBefore, TxBefore, LinBefore, Owned}
use Rattle.refusals.proofs.Passing.{Whole, went, past, all_whole, all_since, row_in, counts_in, stage_in}
use Rattle.refusals.proofs.Read.{adds, number, last_stage}
use Rattle.refusals.proofs.Reading.{Reading, reading, Sized, sized}
use Rattle.refusals.proofs.Awaiting.{Awaiting, awaiting}
use Rattle.refusals.proofs.Standing.{Stand, stand}
use Rattle.refusals.proofs.Sizes.{tx_before, sizes_are}
use Rattle.refusals.proofs.LinNodes.{few_cans, lin_before, lin_above}
use Rattle.refusals.proofs.Claimed.{owned_are}

pub record SoFar (before : List Record) (s : State) : Type 0 where
  pub number : s.progress.number ≡ length before
  pub nodes : (counts_in s).nodes ≡ count_of 2 before
  pub can : (counts_in s).can ≡ cans_in before
  pub tx : (counts_in s).tx ≡ count_of 3 before
  pub rx : (counts_in s).rx ≡ count_of 4 before
  pub signals : (counts_in s).signals ≡ count_of 5 before
  pub destinations : (counts_in s).destinations ≡ count_of 6 before
  pub first : before ≡ [] → stage_in s ≡ 0
  pub next : (front : List Record) (y : Record) → before ≡ front ++ y ∷ [] → Whole y × (stage_in s ≡ stage_of y)
  pub stands : Stand before s.progress
  pub reading : (x : RxBefore before) → Reading (length x.front) x.frame x.since (row_in s)
  pub awaits : (x : RxBefore before) → x.frame.enable ≡ 1 → Awaiting (row_in s).awaits x.since
  pub possible : (x : RxBefore before) → Possible x.frame.id
  pub cans : cans_in before ≤ count_of 2 before
  pub lin : (n : ℕ) → cans_in before ≤ n → n < count_of 2 before → LinBefore n before
  pub above : (n : ℕ) → LinBefore n before → (cans_in before ≤ n) × (n < count_of 2 before)
  pub sized : (x : SignalBefore before) → Sized x.body.size x.destinations (row_in s)
  pub frames : (t : ℕ) → t < count_of 3 before → TxBefore t before
  pub sizes : (t : ℕ) (y : TxBefore t before) → get_or s.sizes t 0 ≡ y.frame.size
  pub owned : (t b : ℕ) → Has s.sets t b ↔ Owned before t b

module _ (before : List Record) (g : AllGo begun before) where
  last_is : (front : List Record) (y : Record) → before ≡ front ++ y ∷ [] → Whole y × (stage_in (state_after begun before) ≡ stage_of y)
  unfolding Each
  last_is front y e =
      let since = all_since front (y ∷ []) begun (rw e at g) in
      ((all_whole (y ∷ []) (state_after begun front) since).0, rw e (last_stage front y begun))

  module _ (x : RxBefore before) where
    here : AllGo (state_after begun x.front) (Rx x.frame ∷ x.since)
    here = all_since x.front (Rx x.frame ∷ x.since) begun (rw x.split at g)

    reads : Reading (length x.front) x.frame x.since (row_in (state_after begun before))
    unfolding AllGo start
    reads =
        rw (x.split, past x.front (Rx x.frame ∷ x.since) begun)
        (reading (state_after begun x.front) (length x.front) (number x.front begun ∙ zero-add _) x.frame x.since x.last
        (all_whole x.since _ here.1))

    waits : x.frame.enable ≡ 1 → Awaiting (row_in (state_after begun before)).awaits x.since
    unfolding AllGo state_after after row_after pick
    waits on =
        rw (x.split, past x.front (Rx x.frame ∷ x.since) begun)
        (awaiting (stepped (state_after begun x.front) (Rx x.frame)) x.since here.1 x.last (rw (eq-eqb x.frame.enable 1 on)))

    can_be : Possible x.frame.id
    unfolding AllGo in_range
    can_be = (rx_ranges _ x.frame (went (state_after begun x.front) (Rx x.frame) here.0).range).id

  sizes_so : (x : SignalBefore before) → Sized x.body.size x.destinations (row_in (state_after begun before))
  sizes_so x =
      rw (x.split, past x.front (Signal x.body ∷ x.destinations) begun)
      (sized (state_after begun x.front) x.body x.destinations x.only)

  pub so_far : SoFar before (state_after begun before)
  unfolding start state_after
  so_far =
      let w = all_whole before begun g in
      let a = adds before begun w in
      record {
        number = number before begun ∙ zero-add _;
        nodes = a.nodes ∙ zero-add _;
        can = a.can ∙ zero-add _;
        tx = a.tx ∙ zero-add _;
        rx = a.rx ∙ zero-add _;
        signals = a.signals ∙ zero-add _;
        destinations = a.destinations ∙ zero-add _;
        first = λ e. rw e;
        next = last_is;
        stands =
            stand before [] begun g
            (record { rx = λ l. absurd (omega arith); signal = λ l. absurd (omega arith); floor = λ l. refl; awaits = λ l. refl });
        reading = reads;
        awaits = waits;
        possible = can_be;
        cans = few_cans before g;
        lin = lin_before before g;
        above = lin_above before g;
        sized = sizes_so;
        frames = λ t l. tx_before before t w l;
        sizes = sizes_are before g;
        owned = owned_are before g;
      }
