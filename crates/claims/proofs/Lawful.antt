-- The records of a good plan leave nothing open.
use mathlib.Core.Path.{◌≡◌, refl, sym, ap, ◌∙◌}
use mathlib.Core.Logic.{◌⊎◌, inl, inr, ⊎_elim}
use mathlib.Core.Bool.{true, true≢false, false≢true}
use mathlib.Core.List.{List, [], ◌∷◌, ◌++◌}
use Prim.Native.Nat.{ℕ, ◌≤◌, ◌<◌}
use native.Mathlib.Omega.{arith}
use lib.ListN.{length}
use borrow.Author.Tests.{leb-true}
use Rattle.records.specs.declared.record.RxFrame.{RxFrame}
use Rattle.records.specs.declared.record.Record.{Record}
use Rattle.records.specs.declared.record.Record.TheVariants.{Head, Node, Tx, Rx, Signal, Destination, Broken}
use Rattle.records.specs.Kinds.{stage_of}
use Rattle.plan.specs.Tests.{is_whole, may_stand}
use Rattle.facts.specs.Good.{Each, Along, Placed, InPlace, stage_at, Followed}
use Rattle.plan.proofs.TestLaws.{no_fault}
use Rattle.claims.specs.Claims.{Whole, Own, Indicated, Framed, Lawful}
use Rattle.claims.proofs.OfKind.{named, on_own}
use Rattle.claims.proofs.Splits.{behind, instead}

pub in_place_whole : (stage : ℕ) (rs : List Record) → InPlace stage rs → Each Whole rs
unfolding InPlace Each is_whole
in_place_whole stage [] h = tt
in_place_whole stage (r ∷ rs) h = ((λ kind e. true≢false (sym h.0.whole ∙ ap is_whole e)), in_place_whole (stage_of r) rs h.1)

InPlace-past : (stage : ℕ) (front : List Record) (r : Record) (rest : List Record) → InPlace stage (front ++ r ∷ rest) → InPlace (stage_of r) rest
unfolding InPlace
InPlace-past stage [] r rest h = h.1
InPlace-past stage (y ∷ front) r rest h = InPlace-past (stage_of y) front r rest h.1

along_past : (P : Record → List Record → Type 0) (front : List Record) (r : Record) (rest : List Record) → Along P (front ++ r ∷ rest) → P r rest
unfolding Along
along_past P [] r rest h = h.0
along_past P (y ∷ front) r rest h = along_past P front r rest h.1

-- a signal and a destination by their kinds
pub Indicated-by : (since : List Record) → Each Whole since → stage_at 0 since ≡ 5 → stage_at 1 since ≡ 6 → Indicated since
unfolding Each stage_of
Indicated-by [] w a b = absurd (omega arith)
Indicated-by (r ∷ []) w a b = absurd (omega arith)
Indicated-by (r ∷ r' ∷ rs) w a b =
    let s = (named r w.0).signal a in
    let d = (named r' w.1.0).destination b in
    (s.0, d.0, rs, λ i. s.1 i ∷ d.1 i ∷ rs)

-- a signal or a destination stands after its Rx frame, with nothing between them but what is the frame's own
own_after : (stage : ℕ) (r : Record) → Placed stage r → Own r → 4 ≤ stage
unfolding may_stand
own_after stage r h o =
    on_own (λ (y : Record). may_stand stage y ≡ true → 4 ≤ stage) (λ g. leb-true 4 stage) (λ t e. omega (arith, leb-true 5 stage e)) r o
    h.stands

frame_or_own : (stage : ℕ) (r : Record) → Placed stage r → 4 ≤ stage_of r → ((x : RxFrame) × (r ≡ Rx x)) ⊎ Own r
unfolding stage_of
frame_or_own stage (Head order) h l = absurd (omega arith)
frame_or_own stage (Node body) h l = absurd (omega arith)
frame_or_own stage (Tx x) h l = absurd (omega arith)
frame_or_own stage (Rx x) h l = inl (x, refl)
frame_or_own stage (Signal body) h l = inr (inl (body, refl))
frame_or_own stage (Destination body) h l = inr (inr (body, refl))
frame_or_own stage (Broken fault) h l = absurd (no_fault fault h.known h.whole)

Framed-or_own :
    (stage : ℕ) (front : List Record) (r : Record) (rest : List Record) → InPlace stage (front ++ r ∷ rest) → Own r
    → Framed front ⊎ ((4 ≤ stage) × Each Own front)
unfolding InPlace Each
Framed-or_own stage [] r rest h o = inr (own_after stage r h.0 o, tt)
Framed-or_own stage (y ∷ front) r rest h o = go (Framed-or_own (stage_of y) front r rest h.1 o)
  where
    first : ((x : RxFrame) × (y ≡ Rx x)) ⊎ Own y → Each Own front → Framed (y ∷ front) ⊎ ((4 ≤ stage) × Each Own (y ∷ front))
    first (inl (x, e)) a = inl ([], x, front, instead [] front e, a)
    first (inr k) a = inr (own_after stage y h.0 k, (k, a))

    go : Framed front ⊎ ((4 ≤ stage_of y) × Each Own front) → Framed (y ∷ front) ⊎ ((4 ≤ stage) × Each Own (y ∷ front))
    go (inl (upto, x, own, e, a)) = inl (y ∷ upto, x, own, behind y e, a)
    go (inr (l, a)) = first (frame_or_own stage y h.0 l) a

pub lawful : (rs : List Record) → InPlace 0 rs → Along Followed rs → Lawful rs
unfolding InPlace stage_of may_stand Each
lawful rs place follows =
    record {
      whole = in_place_whole 0 rs place;
      framed = λ front rest r e o. ⊎_elim (λ k. k) (λ k. absurd (omega (arith, k.0))) (Framed-or_own 0 front r rest (rw e at place) o);
      regular = λ front since x e.
          let stands : InPlace 4 since = InPlace-past 0 front (Rx x) since (rw e at place) in
          record {
            signalled = λ t rest f. let p : InPlace 4 (Destination t ∷ rest) = rw f at stands in false≢true p.0.stands;
            indicated = λ on.
                let k = along_past Followed front (Rx x) since (rw e at follows) x refl on in
                Indicated-by since (in_place_whole 4 since stands) k.0 k.1;
          };
    }

-- "One head first"
pub head_first : (rs : List Record) → 0 < length rs → InPlace 0 rs → (order : ℕ) × (rest : List Record) × (rs ≡ Head order ∷ rest)
unfolding InPlace may_stand
head_first [] l h = absurd (omega arith)
head_first (Head order ∷ rs) l h = (order, rs, refl)
head_first (Node body ∷ rs) l h = absurd (false≢true h.0.stands)
head_first (Tx x ∷ rs) l h = absurd (false≢true h.0.stands)
head_first (Rx x ∷ rs) l h = absurd (false≢true h.0.stands)
head_first (Signal body ∷ rs) l h = absurd (false≢true h.0.stands)
head_first (Destination body ∷ rs) l h = absurd (false≢true h.0.stands)
head_first (Broken fault ∷ rs) l h = absurd (no_fault fault h.0.known h.0.whole)
