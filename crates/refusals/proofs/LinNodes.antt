-- The LIN nodes before are those whose number is not below that of the CAN nodes.
use mathlib.Core.Path.{◌≡◌, refl, sym, ap, ◌∙◌}
use mathlib.Core.Bool.{true≢false}
use mathlib.Core.List.{List, [], ◌∷◌, ◌++◌}
use Prim.Native.Nat.{ℕ, ◌≤◌, ◌<◌}
use native.Mathlib.Decide.{dec_lt}
use native.Mathlib.Omega.{arith}
use lib.ListN.{get_or}
use borrow.Author.Tests.{leb-true}
use Rattle.base.proofs.Apart.{differ}
use Rattle.records.specs.declared.record.NodeType.TheVariants.{Can, Lin}
use Rattle.records.specs.declared.record.Record.{Record}
use Rattle.records.specs.declared.record.Record.TheVariants.{Node}
use Rattle.records.specs.Kinds.{stage_of}
use Rattle.records.specs.Nodes.{type_of}
use Rattle.plan.specs.Progress.{after, start}
use Rattle.plan.specs.Tests.{is_whole, in_range}
use Rattle.plan.specs.Rows.{cans_in, types_in}
use Rattle.facts.specs.Good.{Each, count_of}
use Rattle.facts.specs.Statements.{State, begun, stepped, state_after, AllGo}
use Rattle.facts.proofs.Lin.{lin_type, type_lin, CansFirst, cans_first, cans_most, TypesAre, types_are}
use Rattle.claims.specs.Claims as claims
use Rattle.claims.proofs.OfKind.{named}
use Rattle.claims.proofs.Splits.{instead, each_here, count_below, split_at}
use Rattle.claims.proofs.Numbered.{types_by_splits, nodes_counted}
use Rattle.refusals.specs.Before.{LinBefore}
use Rattle.refusals.proofs.Passing.{went, all_since, counts_in}

-- no record that passes is cut, and each node passes its test
all_uncut : (rs : List Record) (s : State) → AllGo s rs → Each claims.Whole rs
unfolding AllGo Each
all_uncut [] s h = tt
all_uncut (r ∷ rs) s h = (uncut, all_uncut rs (stepped s r) h.1)
  where
    uncut : claims.Whole r
    uncut kind e = unfold is_whole in true≢false (sym (went s r h.0).whole ∙ ap is_whole e)

all_first : (rs : List Record) (s : State) → AllGo s rs → CansFirst (counts_in s) rs
unfolding AllGo CansFirst after
all_first [] s h = tt
all_first (r ∷ rs) s h = ((went s r h.0).first, all_first rs (stepped s r) h.1)

module _ (before : List Record) (g : AllGo begun before) where
  types : TypesAre before
  unfolding start
  types = types_are before (cans_first before start.counts (all_first before begun g) (omega arith))

  pub few_cans : cans_in before ≤ count_of 2 before
  few_cans = omega (arith, cans_most before, nodes_counted before (all_uncut before begun g))

  pub lin_before : (n : ℕ) → cans_in before ≤ n → n < count_of 2 before → LinBefore n before
  unfolding AllGo in_range
  lin_before n l m =
      let uncut = all_uncut before begun g in
      let at = split_at 2 n before m in
      let x = (named at.here (each_here claims.Whole at.front at.here at.rest (rw at.split at uncut))).node at.is in
      let e : before ≡ at.front ++ Node x.0 ∷ at.rest = at.split ∙ instead at.front at.rest x.1 in
      let here = went (state_after begun at.front) (Node x.0) (all_since at.front (Node x.0 ∷ at.rest) begun (rw e at g)).0 in
      let is = (types_by_splits before uncut).each at.front at.rest x.0 e Can in
      let lin : type_of x.0.of ≡ Lin =
      sym is ∙ ap (λ (k : ℕ). get_or (types_in before) k Can) at.many ∙ types.lin n l (omega (arith, m, nodes_counted before uncut)) in
      let some = type_lin x.0.of lin in
      record {
        front = at.front;
        body = x.0;
        since = at.rest;
        split = e;
        number = at.many;
        type = omega (arith, leb-true x.0.of 1 here.range, some);
      }

  pub lin_above : (n : ℕ) → LinBefore n before → (cans_in before ≤ n) × (n < count_of 2 before)
  unfolding stage_of
  lin_above n x = (go (dec_lt n (cans_in before)), omega (arith, x.number, count_below 2 x.front x.since before (Node x.body) refl x.split))
    where
      is : get_or (types_in before) (count_of 2 x.front) Can ≡ type_of x.body.of
      is = (types_by_splits before (all_uncut before begun g)).each x.front x.since x.body x.split Can

      go : Dec (n < cans_in before) → cans_in before ≤ n
      go (yes l) =
          let can = types.can n l in
          let lin = lin_type x.body.of (λ z. omega (arith, z, x.type)) in
          let at = ap (λ (k : ℕ). get_or (types_in before) k Can) x.number in
          let e = is in
          absurd (differ cc)
      go (no l) = omega arith
