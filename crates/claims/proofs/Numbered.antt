-- The types of the nodes, the Tx frames and the rows stand at the places that the records of their kind before them count to.
use mathlib.Core.Path.{◌≡◌, refl, sym, ap, ◌∙◌}
use mathlib.Core.Logic.{◌≢◌}
use mathlib.Core.List.{List, [], ◌∷◌, ◌++◌}
use Prim.Native.Nat.{ℕ, suc, ◌+◌}
use native.Mathlib.Nat.{add-zero, zero-add}
use native.Mathlib.Omega.{arith}
use native.Mathlib.Decide.{ℕ_discrete}
use lib.ListN.{length, get_or}
use Rattle.base.specs.Pick.{pick}
use Rattle.records.specs.declared.record.NodeType.{NodeType}
use Rattle.records.specs.declared.record.TxFrame.{TxFrame}
use Rattle.records.specs.declared.record.RxFrame.{RxFrame}
use Rattle.records.specs.declared.record.Record.{Record}
use Rattle.records.specs.declared.record.Record.TheVariants.{Head, Node, Tx, Rx, Signal, Destination, Broken}
use Rattle.records.specs.Kinds.{stage_of}
use Rattle.records.specs.Nodes.{type_of}
use Rattle.plan.specs.Rows.{Row, row_of, rows_from, tx_frames, nodes_in, types_in, order_in}
use Rattle.facts.specs.Good.{Each, count_of}
use Rattle.records.proofs.Variants.{by_node, by_tx, by_rx}
use Rattle.claims.specs.Claims.{Whole}
use Rattle.claims.specs.Statements.{TypesBySplits, FramesBySplits, NodesCounted, HeadOrder, OneTypes, OneFrames}
use Rattle.claims.proofs.OfKind.{no_stage, named}
use Rattle.claims.proofs.Splits.{instead, Each-append, each_here, same_lists, count_hit, count_miss, split_at}

-- one element for each record of a kind
record Collects {A : Type 0} (kind : ℕ) (F : ℕ → List Record → List A) : Type 0 where
  empty : (n : ℕ) → F n [] ≡ []
  skip : (n : ℕ) (r : Record) (rs : List Record) → Whole r → stage_of r ≢ kind → F n (r ∷ rs) ≡ F n rs
  hit : (n : ℕ) (r : Record) (rs : List Record) → Whole r → stage_of r ≡ kind → (a : A) × (F n (r ∷ rs) ≡ a ∷ F (suc n) rs)

module _ {A : Type 0} (kind : ℕ) (F : ℕ → List Record → List A) (c : Collects kind F) where
  collects_many : (n : ℕ) (rs : List Record) → Each Whole rs → length (F n rs) ≡ count_of kind rs
  unfolding count_of Each
  collects_many n [] w = ap length (c.empty n)
  collects_many n (r ∷ rs) w = go (ℕ_discrete (stage_of r) kind) (λ m. collects_many m rs w.1)
    where
      go : Dec (stage_of r ≡ kind) → ((m : ℕ) → length (F m rs) ≡ count_of kind rs) → length (F n (r ∷ rs)) ≡ count_of kind (r ∷ rs)
      go (yes e) h = ap length (c.hit n r rs w.0 e).1 ∙ ap suc (h (suc n)) ∙ sym (count_hit kind r rs e)
      go (no d) h = ap length (c.skip n r rs w.0 d) ∙ h n ∙ sym (count_miss kind r rs d)

  collects_at :
      (n : ℕ) (front rest : List Record) (d : A) → Each Whole front
      → get_or (F n (front ++ rest)) (count_of kind front) d ≡ get_or (F (n + count_of kind front) rest) 0 d
  unfolding count_of Each
  collects_at n [] rest d w = rw (add-zero n)
  collects_at n (r ∷ front) rest d w = go (ℕ_discrete (stage_of r) kind) (λ m. collects_at m front rest d w.1)
    where
      go : Dec (stage_of r ≡ kind) → ((m : ℕ) → get_or (F m (front ++ rest)) (count_of kind front) d ≡ get_or (F (m + count_of kind front) rest) 0 d)
          → get_or (F n (r ∷ front ++ rest)) (count_of kind (r ∷ front)) d ≡ get_or (F (n + count_of kind (r ∷ front)) rest) 0 d
      go (yes e) h =
          let s : suc n + count_of kind front ≡ n + suc (count_of kind front) = omega arith in
          rw (count_hit kind r front e, (c.hit n r (front ++ rest) w.0 e).1, ← s) (h (suc n))
      go (no x) h = rw (count_miss kind r front x, c.skip n r (front ++ rest) w.0 x) (h n)

-- and no second list has, where each such record says what its element is
record Elements {A B : Type 0} (kind : ℕ) (make : B → Record) (value : B → A) (rs : List Record) (xs : List A) : Type 0 where
  many : length xs ≡ count_of kind rs
  each : (front rest : List Record) (b : B) → rs ≡ front ++ make b ∷ rest → (d : A) → get_or xs (count_of kind front) d ≡ value b

one_list :
    {A B : Type 0} (kind : ℕ) (make : B → Record) (value : B → A) → ((r : Record) → Whole r → stage_of r ≡ kind → (b : B) × (r ≡ make b))
    → (rs : List Record) → Each Whole rs → (xs ys : List A) → Elements kind make value rs xs → Elements kind make value rs ys → xs ≡ ys
one_list kind make value is rs w xs ys a b =
    same_lists xs ys (a.many ∙ sym b.many)
    (λ d i l.
    let at = split_at kind i rs (omega (arith, a.many)) in
    let x = is at.here (each_here Whole at.front at.here at.rest (rw at.split at w)) at.is in
    let e : rs ≡ at.front ++ make x.0 ∷ at.rest = at.split ∙ instead at.front at.rest x.1 in
    rw (← at.many) (a.each at.front at.rest x.0 e d ∙ sym (b.each at.front at.rest x.0 e d)))

-- ---- types

types_collect : Collects {A = NodeType} 2 (λ n rs. types_in rs)
unfolding types_in stage_of
types_collect = record { empty = λ n. refl; skip = λ n. skip; hit = λ n. hit }
  where
    skip : (r : Record) (rs : List Record) → Whole r → stage_of r ≢ 2 → types_in (r ∷ rs) ≡ types_in rs
    skip r rs w d = by_node (λ r. stage_of r ≢ 2 → types_in (r ∷ rs) ≡ types_in rs) (λ body d. absurd (d refl)) (λ r no d. no.by _ _) r d

    hit : (r : Record) (rs : List Record) → Whole r → stage_of r ≡ 2 → (x : NodeType) × (types_in (r ∷ rs) ≡ x ∷ types_in rs)
    hit r rs w e = let x = (named r w).node e in (type_of x.0.of, ap (λ (y : Record). types_in (y ∷ rs)) x.1)

pub types_by_splits : TypesBySplits
unfolding types_in
types_by_splits rs w =
    record {
      many = collects_many 2 _ types_collect 0 rs w;
      each = λ front rest body e d. rw e (collects_at 2 _ types_collect 0 front (Node body ∷ rest) d (Each-append Whole front _ (rw e at w)).0);
    }

pub one_types : OneTypes
one_types rs w xs ys a b =
    one_list 2 Node (λ body. type_of body.of) (λ r whole. (named r whole).node) rs w xs ys (record { many = a.many; each = a.each })
    (record { many = b.many; each = b.each })

-- ---- Tx frames

tx_collects : Collects {A = TxFrame} 3 (λ n rs. tx_frames rs)
unfolding tx_frames stage_of
tx_collects = record { empty = λ n. refl; skip = λ n. skip; hit = λ n. hit }
  where
    skip : (r : Record) (rs : List Record) → Whole r → stage_of r ≢ 3 → tx_frames (r ∷ rs) ≡ tx_frames rs
    skip r rs w d = by_tx (λ r. stage_of r ≢ 3 → tx_frames (r ∷ rs) ≡ tx_frames rs) (λ x d. absurd (d refl)) (λ r no d. no.by _ _) r d

    hit : (r : Record) (rs : List Record) → Whole r → stage_of r ≡ 3 → (x : TxFrame) × (tx_frames (r ∷ rs) ≡ x ∷ tx_frames rs)
    hit r rs w e = let x = (named r w).tx e in (x.0, ap (λ (y : Record). tx_frames (y ∷ rs)) x.1)

pub frames_by_splits : FramesBySplits
unfolding tx_frames
frames_by_splits rs w =
    record {
      many = collects_many 3 _ tx_collects 0 rs w;
      each = λ front rest x e d. rw e (collects_at 3 _ tx_collects 0 front (Tx x ∷ rest) d (Each-append Whole front _ (rw e at w)).0);
    }

pub one_frames : OneFrames
one_frames rs w xs ys a b =
    one_list 3 Tx (λ x. x) (λ r whole. (named r whole).tx) rs w xs ys (record { many = a.many; each = a.each }) (record { many = b.many; each = b.each })

-- ---- rows

rows_collect : Collects {A = Row} 4 rows_from
unfolding rows_from stage_of
rows_collect = record { empty = λ n. refl; skip = skip; hit = hit }
  where
    skip : (n : ℕ) (r : Record) (rs : List Record) → Whole r → stage_of r ≢ 4 → rows_from n (r ∷ rs) ≡ rows_from n rs
    skip n r rs w d = by_rx (λ r. stage_of r ≢ 4 → rows_from n (r ∷ rs) ≡ rows_from n rs) (λ x d. absurd (d refl)) (λ r no d. no.by _ _) r d

    hit : (n : ℕ) (r : Record) (rs : List Record) → Whole r → stage_of r ≡ 4 → (x : Row) × (rows_from n (r ∷ rs) ≡ x ∷ rows_from (suc n) rs)
    hit n r rs w e = let x = (named r w).rx e in (row_of n x.0 rs, ap (λ (y : Record). rows_from n (y ∷ rs)) x.1)

pub rows_many : (rs : List Record) → Each Whole rs → length (rows_from 0 rs) ≡ count_of 4 rs
rows_many = collects_many 4 rows_from rows_collect 0

pub get_or-rows_from :
    (front since : List Record) (x : RxFrame) (d : Row) → Each Whole front
    → get_or (rows_from 0 (front ++ Rx x ∷ since)) (count_of 4 front) d ≡ row_of (count_of 4 front) x since
unfolding rows_from
get_or-rows_from front since x d w =
    collects_at 4 rows_from rows_collect 0 front (Rx x ∷ since) d w ∙ ap (λ (n : ℕ). row_of n x since) (zero-add (count_of 4 front))

-- ---- nodes and order

pub nodes_counted : NodesCounted
unfolding nodes_in count_of stage_of pick Each
nodes_counted [] w = refl
nodes_counted (Node body ∷ rs) w = omega (arith, nodes_counted rs w.1)
nodes_counted (Head order ∷ rs) w = omega (arith, nodes_counted rs w.1)
nodes_counted (Tx x ∷ rs) w = omega (arith, nodes_counted rs w.1)
nodes_counted (Rx x ∷ rs) w = omega (arith, nodes_counted rs w.1)
nodes_counted (Signal body ∷ rs) w = omega (arith, nodes_counted rs w.1)
nodes_counted (Destination body ∷ rs) w = omega (arith, nodes_counted rs w.1)
nodes_counted (Broken fault ∷ rs) w = rw (no_stage fault w.0) (omega (arith, nodes_counted rs w.1))

pub head_order : HeadOrder
unfolding order_in
head_order rs rest order e = rw e
