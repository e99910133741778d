-- No second list of rows has the properties.
use mathlib.Core.Path.{◌≡◌, refl, sym, ap, ◌∙◌}
use mathlib.Core.Logic.{◌⊎◌, inl, inr}
use mathlib.Core.List.{List, [], ◌∷◌, ◌++◌}
use Prim.Native.Nat.{ℕ, ◌<◌}
use native.Mathlib.Omega.{arith}
use lib.ListN.{length, get_or}
use Rattle.records.specs.declared.record.RxFrame.{RxFrame}
use Rattle.records.specs.declared.record.Record.{Record}
use Rattle.records.specs.declared.record.Record.TheVariants.{Rx, Signal, Destination}
use Rattle.plan.specs.Rows.{Row}
use Rattle.facts.specs.Good.{Each, count_of}
use Rattle.claims.specs.Claims.{Whole, Own, Beyond, RowOf, RowsOf, Indicated, Regular, Lawful}
use Rattle.claims.specs.Statements.{OneRows}
use Rattle.claims.proofs.OfKind.{named, own?}
use Rattle.claims.proofs.Splits.{behind, instead, each_here, same_lists, SplitAt, split_at}
use Rattle.claims.proofs.One.{one_claims}

-- ---- what of the records after a frame is its own

pub record Parted (since : List Record) : Type 0 where
  pub own : List Record
  pub rest : List Record
  pub split : since ≡ own ++ rest
  pub all : Each Own own
  pub beyond : Beyond rest

pub parted : (since : List Record) → Parted since
unfolding Each
parted [] = record { own = []; rest = []; split = refl; all = tt; beyond = λ r rs e o. absurd (nil-cons r rs e) }
  where
    nil-cons : (r : Record) (rs : List Record) → [] ≡ r ∷ rs → ⊥
    nil-cons r rs e = let l : 0 ≡ length (r ∷ rs) = ap length e in omega arith
parted (r ∷ rs) = go (own? r) (parted rs)
  where
    go : Own r ⊎ (Own r → ⊥) → Parted rs → Parted (r ∷ rs)
    go (inl o) k = record { own = r ∷ k.own; rest = k.rest; split = behind r k.split; all = (o, k.all); beyond = k.beyond }
    go (inr n) k = record { own = []; rest = r ∷ rs; split = refl; all = tt; beyond = λ r' rs' e o. let same : r ≡ r' = cc in n (rw same o) }

-- ---- what holds of the records after a frame holds of its own

Regular-own : (x : RxFrame) (own rest : List Record) → Beyond rest → Regular x (own ++ rest) → Regular x own
Regular-own x own rest b h =
    record {
      signalled = λ t after e. h.signalled t (after ++ rest) (ap (λ (xs : List Record). xs ++ rest) e);
      indicated = λ on. go own (h.indicated on);
    }
  where
    go : (own : List Record) → Indicated (own ++ rest) → Indicated own
    go [] (y, t, after, e) = absurd (b (Signal y) (Destination t ∷ after) e (inl (y, refl)))
    go (r ∷ []) (y, t, after, e) =
        let f : rest ≡ Destination t ∷ after = cc in
        absurd (b (Destination t) after f (inr (t, refl)))
    go (r ∷ r' ∷ rs) (y, t, after, e) =
        let f : r ≡ Signal y = cc in
        let g : r' ≡ Destination t = cc in
        (y, t, rs, λ i. f i ∷ g i ∷ rs)

-- ---- the k-th Rx frame, with its own records

pub record FrameAt (k : ℕ) (rs : List Record) : Type 0 where
  pub front : List Record
  pub x : RxFrame
  pub since : List Record
  pub split : rs ≡ front ++ Rx x ∷ since
  pub many : count_of 4 front ≡ k
  pub part : Parted since

pub frame_at : (rs : List Record) → Each Whole rs → (k : ℕ) → k < count_of 4 rs → FrameAt k rs
frame_at rs w k l = go (split_at 4 k rs l)
  where
    frame_here : (at : SplitAt 4 k rs) → (x : RxFrame) × (at.here ≡ Rx x) → FrameAt k rs
    frame_here at (x, e) =
        record {
          front = at.front;
          x = x;
          since = at.rest;
          split = at.split ∙ instead at.front at.rest e;
          many = at.many;
          part = parted at.rest;
        }

    go : SplitAt 4 k rs → FrameAt k rs
    go at = frame_here at ((named at.here (each_here Whole at.front at.here at.rest (rw at.split at w))).rx at.is)

-- its own records leave none of its claims open
pub Regular-at : (rs : List Record) → Lawful rs → (k : ℕ) (f : FrameAt k rs) → Regular f.x f.part.own
Regular-at rs h k f =
    Regular-own f.x f.part.own f.part.rest f.part.beyond (rw f.part.split at (h.regular f.front f.since f.x f.split))

pub RowOf-from_frame_at :
    (rs : List Record) (rows : List Row) → RowsOf rs rows → (k : ℕ) (f : FrameAt k rs) (d : Row) → RowOf k f.x f.since (get_or rows k d)
RowOf-from_frame_at rs rows h k f d = rw f.many at (h.each f.front f.since f.x f.split d)

-- ---- one list of rows

row_same : (x y : Row) → x.number ≡ y.number → x.frame ≡ y.frame → x.claims ≡ y.claims → x ≡ y
row_same x y a b c i = record { number = a i; frame = b i; claims = c i }

pub one_rows : OneRows
one_rows rs h xs ys a b = same_lists xs ys (a.many ∙ sym b.many) (λ d i l. go d i (frame_at rs h.whole i (omega (arith, a.many))))
  where
    go : (d : Row) (i : ℕ) → FrameAt i rs → get_or xs i d ≡ get_or ys i d
    go d i f =
        let m = RowOf-from_frame_at rs xs a i f d in
        let n = RowOf-from_frame_at rs ys b i f d in
        let k = f.part in
        row_same (get_or xs i d) (get_or ys i d) (m.number ∙ sym n.number) (m.frame ∙ sym n.frame)
        (one_claims i f.x k.own k.all (Regular-at rs h i f) _ _ (m.claims k.own k.rest k.split k.all k.beyond)
        (n.claims k.own k.rest k.split k.all k.beyond))
