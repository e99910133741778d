-- LIN nodes follow all CAN nodes: the test of each node says so, and the type of each node by its number; so a frame's node is a LIN node exactly
-- where its number is not below that of the CAN nodes.
use mathlib.Core.Path.{◌≡◌, refl, sym, ap, ◌∙◌}
use mathlib.Core.Bool.{true, false≢true}
use mathlib.Core.List.{List, [], ◌∷◌}
use Prim.Native.Nat.{ℕ, zero, suc, ◌+◌, ◌≤◌, ◌<◌}
use native.Mathlib.Decide.{ℕ_discrete, dec_lt}
use native.Mathlib.Omega.{arith}
use lib.Dec.{ltb, eqb}
use lib.ListN.{length, get_or}
use borrow.Author.Tests.{ltb-true, ltb-false, eqb-true, eq-eqb, ne_eqb, lt-ltb, le-ltb}
use Rattle.base.specs.Pick.{pick}
use Rattle.base.proofs.Apart.{differ}
use Rattle.base.proofs.Picks.{cases, both}
use Rattle.records.specs.declared.record.Id.{Id}
use Rattle.records.specs.declared.record.Id.TheVariants.{Standard, Extended}
use Rattle.records.specs.declared.record.NodeType.TheVariants.{Can, Lin}
use Rattle.records.specs.declared.record.NodeBody.{NodeBody}
use Rattle.records.specs.declared.record.Record.{Record}
use Rattle.records.specs.declared.record.Record.TheVariants.{Head, Node, Tx, Rx, Signal, Destination, Broken}
use Rattle.records.specs.Views.{on_node}
use Rattle.records.specs.Nodes.{type_of}
use Rattle.records.proofs.Variants.{NoNode, by_node}
use Rattle.plan.specs.Limits.{lin_id_range}
use Rattle.plan.specs.declared.progress.Counts.{Counts}
use Rattle.plan.specs.declared.progress.Progress.{Progress}
use Rattle.plan.specs.Progress.{counted, after}
use Rattle.plan.specs.Tests.{can_first, in_range, is_lin_id, frame_fits, fits_node}
use Rattle.plan.specs.Rows.{nodes_in, cans_in, types_in}
use Rattle.plan.proofs.TestLaws.{and_both, tx_ranges, rx_ranges}
use Rattle.facts.specs.Good.{Each, Along, NodeOf, NoCan, LinLast, LinRanges, OnLin, InLinRange}
use Rattle.facts.proofs.Passes.{Passes}

-- ---- the type of a node

can_type : (n : ℕ) → n ≡ 0 → type_of n ≡ Can
unfolding type_of pick
can_type n e = rw (eq-eqb n 0 e)

pub lin_type : (n : ℕ) → (n ≡ 0 → ⊥) → type_of n ≡ Lin
unfolding type_of pick
lin_type n d = rw (ne_eqb n 0 d)

-- which byte it has
type_can : (n : ℕ) → type_of n ≡ Can → n ≡ 0
type_can n e = go (ℕ_discrete n 0)
  where
    go : Dec (n ≡ 0) → n ≡ 0
    go (yes z) = z
    go (no d) = let f = lin_type n d in absurd (differ cc)

pub type_lin : (n : ℕ) → type_of n ≡ Lin → n ≡ 0 → ⊥
type_lin n e z = let f = can_type n z in differ cc

no_node : {A : Type 0} (r : Record) → NoNode r → (body : NodeBody) → r ≡ Node body → A
no_node r miss body e =
    let z : ◌≡◌ {A = ℕ} 0 1 = sym (miss.by 0 (λ b. 1)) ∙ ap (on_node {A = ℕ} 0 (λ b. 1)) e in
    absurd (omega arith)

-- what it does to the counts
can_hit : (c : Counts) (body : NodeBody) → body.of ≡ 0 → (counted c (Node body)).can ≡ c.can + 1
unfolding counted pick
can_hit c body e = rw (eq-eqb body.of 0 e)

can_miss : (c : Counts) (body : NodeBody) → (body.of ≡ 0 → ⊥) → (counted c (Node body)).can ≡ c.can
unfolding counted pick
can_miss c body d = rw (ne_eqb body.of 0 d)

-- any other record leaves them
no_more : (c : Counts) (r : Record) → NoNode r → ((counted c r).can ≡ c.can) × ((counted c r).nodes ≡ c.nodes)
unfolding counted
no_more c r miss = (miss.by _ _, miss.by _ _)

-- ---- where a node passes its test

-- there are at most as many CAN nodes as nodes
more : (c : Counts) (r : Record) → c.can ≤ c.nodes → (counted c r).can ≤ (counted c r).nodes
unfolding counted
more c r l =
    by_node (λ r. (counted c r).can ≤ (counted c r).nodes)
    (λ body. both (λ n. n ≤ c.nodes + 1) (eqb body.of 0) (c.can + 1) c.can (omega arith) (omega arith))
    (λ r no. omega (arith, l, no_more c r no)) r

-- a LIN node makes them fewer
fewer : (c : Counts) (r : Record) → c.can ≤ c.nodes → NodeOf Lin r → (counted c r).can < (counted c r).nodes
unfolding counted
fewer c r l (body, e, is) = rw e (omega (arith, l, can_miss c body (type_lin body.of is)))

-- and then none of those that pass is a CAN node
stays : (c : Counts) (r : Record) → can_first c r ≡ true → c.can < c.nodes → NoCan r × ((counted c r).can < (counted c r).nodes)
unfolding can_first counted
stays c r first l =
    by_node (λ r. can_first c r ≡ true → NoCan r × ((counted c r).can < (counted c r).nodes)) (λ body. node body (ℕ_discrete body.of 0))
    (λ r no first. (λ is. no_node r no is.0 is.1, omega (arith, l, no_more c r no))) r first
  where
    node : (body : NodeBody) → Dec (body.of ≡ 0) → can_first c (Node body) ≡ true
        → NoCan (Node body) × ((counted c (Node body)).can < (counted c (Node body)).nodes)
    node body (yes z) first = let e = eqb-true c.can c.nodes (rw (eq-eqb body.of 0 z) at first) in absurd (omega (arith, e, l))
    node body (no d) first = (
      λ is. (let same : body ≡ is.0 = cc in d (rw same (type_can is.0.of is.2))),
      omega (arith, l, can_miss c body d),
    )

-- all records pass it, from some counts on
unfoldable pub CansFirst : Counts → List Record → Type 0
CansFirst c [] = Unit {0}
CansFirst c (r ∷ rs) = (can_first c r ≡ true) × CansFirst (counted c r) rs

no_cans : (rs : List Record) (c : Counts) → CansFirst c rs → c.can < c.nodes → Each NoCan rs
unfolding CansFirst Each
no_cans [] c h l = tt
no_cans (r ∷ rs) c h l = let k = stays c r h.0 l in (k.0, no_cans rs _ h.1 k.1)

pub cans_first : (rs : List Record) (c : Counts) → CansFirst c rs → c.can ≤ c.nodes → Along LinLast rs
unfolding CansFirst Along
cans_first [] c h l = tt
cans_first (r ∷ rs) c h l = (λ is. no_cans rs _ h.1 (fewer c r l is), cans_first rs _ h.1 (more c r l))

pub passes_first : (rs : List Record) (p : Progress) (sizes sets : List ℕ) → Passes p sizes sets rs → CansFirst p.counts rs
unfolding Passes CansFirst after
passes_first [] p sizes sets h = tt
passes_first (r ∷ rs) p sizes sets h = (h.0.first, passes_first rs _ _ _ h.1)

-- ---- and where LIN nodes come last each node passes it

-- the nodes so far, and those to come
pub record LinSoFar (c : Counts) (rs : List Record) : Type 0 where
  pub most : c.can ≤ c.nodes
  pub none : c.can < c.nodes → Each NoCan rs

pub lin_next : (c : Counts) (r : Record) (rs : List Record) → LinLast r rs → LinSoFar c (r ∷ rs) → (can_first c r ≡ true) × LinSoFar (counted c r) rs
unfolding can_first counted Each
lin_next c r rs last h =
    by_node (λ r. LinLast r rs → LinSoFar c (r ∷ rs) → (can_first c r ≡ true) × LinSoFar (counted c r) rs)
    (λ body last h. node body last h (ℕ_discrete body.of 0) (dec_lt c.can c.nodes)) other r last h
  where
    node : (body : NodeBody) → LinLast (Node body) rs → LinSoFar c (Node body ∷ rs) → Dec (body.of ≡ 0) → Dec (c.can < c.nodes)
        → (can_first c (Node body) ≡ true) × LinSoFar (counted c (Node body)) rs
    node body last h (yes z) (yes l) = absurd ((h.none l).0 (body, refl, can_type body.of z))
    node body last h (yes z) (no l) = (
      rw (eq-eqb body.of 0 z, eq-eqb c.can c.nodes (omega (arith, h.most))),
      record {
        most = omega (arith, h.most, can_hit c body z);
        none = λ k. absurd (omega (arith, l, k, can_hit c body z));
      },
    )
    node body last h (no d) b = (
      rw (ne_eqb body.of 0 d),
      record { most = omega (arith, h.most, can_miss c body d); none = λ k. last (body, refl, lin_type body.of d) },
    )

    other : (r : Record) → NoNode r → LinLast r rs → LinSoFar c (r ∷ rs) → (can_first c r ≡ true) × LinSoFar (counted c r) rs
    other r miss last h =
        let same = no_more c r miss in
        (miss.by _ _, record { most = omega (arith, same, h.most); none = λ k. (h.none (omega (arith, same, k))).1 })

-- ---- the types by number

-- a record that is no node adds none
none_in : (r : Record) (rs : List Record) → NoNode r → (types_in (r ∷ rs) ≡ types_in rs) × (cans_in (r ∷ rs) ≡ cans_in rs) × (nodes_in (r ∷ rs) ≡ nodes_in rs)
unfolding types_in cans_in nodes_in
none_in r rs miss = (miss.by _ _, miss.by _ _, miss.by _ _)

pub types_count : (rs : List Record) → length (types_in rs) ≡ nodes_in rs
unfolding types_in nodes_in
types_count [] = refl
types_count (r ∷ rs) =
    by_node (λ r. length (types_in (r ∷ rs)) ≡ nodes_in (r ∷ rs)) (λ body. ap suc (types_count rs))
    (λ r no. let same = none_in r rs no in ap length same.0 ∙ types_count rs ∙ sym same.2) r

pub cans_most : (rs : List Record) → cans_in rs ≤ nodes_in rs
unfolding cans_in nodes_in
cans_most [] = omega arith
cans_most (r ∷ rs) =
    by_node (λ r. cans_in (r ∷ rs) ≤ nodes_in (r ∷ rs))
    (λ body.
    both (λ n. n ≤ suc (nodes_in rs)) (eqb body.of 0) (suc (cans_in rs)) (cans_in rs) (omega (arith, cans_most rs)) (omega (arith, cans_most rs)))
    (λ r no. let same = none_in r rs no in omega (arith, same.1, same.2, cans_most rs)) r

cans_hit : (body : NodeBody) (rs : List Record) → body.of ≡ 0 → cans_in (Node body ∷ rs) ≡ suc (cans_in rs)
unfolding cans_in pick
cans_hit body rs e = rw (eq-eqb body.of 0 e)

cans_miss : (body : NodeBody) (rs : List Record) → (body.of ≡ 0 → ⊥) → cans_in (Node body ∷ rs) ≡ cans_in rs
unfolding cans_in pick
cans_miss body rs d = rw (ne_eqb body.of 0 d)

no_cans_in : (rs : List Record) → Each NoCan rs → cans_in rs ≡ 0
unfolding Each cans_in
no_cans_in [] h = refl
no_cans_in (r ∷ rs) h =
    by_node (λ r. NoCan r → cans_in (r ∷ rs) ≡ 0)
    (λ body not. cans_miss body rs (λ z. not (body, refl, can_type body.of z)) ∙ no_cans_in rs h.1)
    (λ r no not. no.by _ _ ∙ no_cans_in rs h.1) r h.0

-- what the law says of one list of records
pub record TypesAre (rs : List Record) : Type 0 where
  pub can : (n : ℕ) → n < cans_in rs → get_or (types_in rs) n Can ≡ Can
  pub lin : (n : ℕ) → cans_in rs ≤ n → n < nodes_in rs → get_or (types_in rs) n Can ≡ Lin

types_more : (body : NodeBody) (rs : List Record) → LinLast (Node body) rs → TypesAre rs → Dec (body.of ≡ 0) → TypesAre (Node body ∷ rs)
unfolding types_in nodes_in
types_more body rs last h (yes z) = record { can = can; lin = lin }
  where
    can : (n : ℕ) → n < cans_in (Node body ∷ rs) → get_or (type_of body.of ∷ types_in rs) n Can ≡ Can
    can zero l = can_type body.of z
    can (suc n) l = h.can n (omega (arith, l, cans_hit body rs z))

    lin : (n : ℕ) → cans_in (Node body ∷ rs) ≤ n → n < suc (nodes_in rs) → get_or (type_of body.of ∷ types_in rs) n Can ≡ Lin
    lin zero l m = absurd (omega (arith, l, cans_hit body rs z))
    lin (suc n) l m = h.lin n (omega (arith, l, cans_hit body rs z)) (omega arith)
types_more body rs last h (no d) = record { can = λ n l. absurd (omega (arith, l, cans_miss body rs d, none)); lin = lin }
  where
    none : cans_in rs ≡ 0
    none = no_cans_in rs (last (body, refl, lin_type body.of d))

    lin : (n : ℕ) → cans_in (Node body ∷ rs) ≤ n → n < suc (nodes_in rs) → get_or (type_of body.of ∷ types_in rs) n Can ≡ Lin
    lin zero l m = lin_type body.of d
    lin (suc n) l m = h.lin n (omega (arith, none)) (omega arith)

pub types_are : (rs : List Record) → Along LinLast rs → TypesAre rs
unfolding Along types_in nodes_in cans_in
types_are [] h = record { can = λ n l. absurd (omega arith); lin = λ n l m. absurd (omega arith) }
types_are (r ∷ rs) h =
    by_node (λ r. LinLast r rs → TypesAre (r ∷ rs)) (λ body last. types_more body rs last (types_are rs h.1) (ℕ_discrete body.of 0))
    (λ r no last.
    let same = none_in r rs no in
    let k = types_are rs h.1 in
    record {
      can = λ n l. rw same.0 (k.can n (omega (arith, l, same.1)));
      lin = λ n l m. rw same.0 (k.lin n (omega (arith, l, same.1)) (omega (arith, m, same.2)));
    })
    r h.0

pub types_by_number :
    (rs : List Record) → Along LinLast rs → (n : ℕ) → n < nodes_in rs → get_or (types_in rs) n Can ≡ pick (ltb n (cans_in rs)) Can Lin
types_by_number rs h n l =
    let k = types_are rs h in
    cases (λ type. get_or (types_in rs) n Can ≡ type) (ltb n (cans_in rs)) Can Lin (λ e. k.can n (ltb-true n (cans_in rs) e))
    (λ e. k.lin n (ltb-false n (cans_in rs) e) l)

-- ---- the ranges on a LIN node are those of a frame whose node is not below the CAN nodes

lin_id : (id : Id) (size : ℕ) → is_lin_id id ≡ true → 1 ≤ size → size ≤ 8 → LinRanges id size
unfolding is_lin_id
lin_id (Standard n) size e some most = record { number = n; standard = refl; below = ltb-true n lin_id_range e; some = some; most = most }
lin_id (Extended n) size e some most = absurd (false≢true e)

id_lin : (id : Id) (size : ℕ) → LinRanges id size → is_lin_id id ≡ true
unfolding is_lin_id
id_lin id size k = rw k.standard (lt-ltb k.number lin_id_range k.below)

module _ (rs : List Record) (last : Along LinLast rs) where
  pub frame_lin : (node : ℕ) (id : Id) (size : ℕ) → size ≤ 8 → frame_fits (cans_in rs) node id size ≡ true → OnLin (types_in rs) node id size
  unfolding frame_fits
  frame_lin node id size small e is = go (dec_lt node (cans_in rs))
    where
      go : Dec (node < cans_in rs) → LinRanges id size
      go (yes l) = let f = (types_are rs last).can node l in absurd (differ cc)
      go (no l) =
          let k = and_both (is_lin_id id) (ltb 0 size) (rw (le-ltb node (cans_in rs) (omega arith)) at e) in
          lin_id id size k.0 (ltb-true 0 size k.1) small

  pub frame_fits_on_lin : (node : ℕ) (id : Id) (size : ℕ) → node < nodes_in rs → OnLin (types_in rs) node id size → frame_fits (cans_in rs) node id size ≡ true
  unfolding frame_fits
  frame_fits_on_lin node id size inside on = go (dec_lt node (cans_in rs))
    where
      go : Dec (node < cans_in rs) → frame_fits (cans_in rs) node id size ≡ true
      go (yes l) = rw (lt-ltb node (cans_in rs) l)
      go (no l) =
          let k = on ((types_are rs last).lin node (omega arith) inside) in
          rw (le-ltb node (cans_in rs) (omega arith), id_lin id size k, lt-ltb 0 size k.some)

  module _ (c : Counts) (all : c.can ≡ cans_in rs) where
    pub fits_lin : (r : Record) → in_range (nodes_in rs) r ≡ true → fits_node c r ≡ true → InLinRange (types_in rs) r
    unfolding fits_node in_range
    fits_lin (Tx x) i e = frame_lin x.node x.id x.size (tx_ranges (nodes_in rs) x i).size (rw all at e)
    fits_lin (Rx x) i e = frame_lin x.node x.id x.size (rx_ranges (nodes_in rs) x i).size (rw all at e)
    fits_lin (Head order) i e = tt
    fits_lin (Node body) i e = tt
    fits_lin (Signal body) i e = tt
    fits_lin (Destination body) i e = tt
    fits_lin (Broken fault) i e = tt

    pub lin_fits : (r : Record) → in_range (nodes_in rs) r ≡ true → InLinRange (types_in rs) r → fits_node c r ≡ true
    unfolding fits_node in_range
    lin_fits (Tx x) i on = rw all (frame_fits_on_lin x.node x.id x.size (tx_ranges (nodes_in rs) x i).node on)
    lin_fits (Rx x) i on = rw all (frame_fits_on_lin x.node x.id x.size (rx_ranges (nodes_in rs) x i).node on)
    lin_fits (Head order) i on = refl
    lin_fits (Node body) i on = refl
    lin_fits (Signal body) i on = refl
    lin_fits (Destination body) i on = refl
    lin_fits (Broken fault) i on = refl
