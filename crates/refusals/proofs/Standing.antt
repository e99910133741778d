-- What stands before: where the last record is an Rx frame or belongs to one, that frame; where it is a signal or a destination, that signal.
use mathlib.Core.Path.{◌≡◌, refl, ap, ◌∙◌}
use mathlib.Core.Bool.{true}
use mathlib.Core.List.{List, [], ◌∷◌, ◌++◌, append-nil, append_assoc}
use Prim.Native.Nat.{◌≤◌, ◌<◌}
use native.Mathlib.Omega.{arith}
use lib.Dec.{leb, ltb}
use borrow.Author.Tests.{eqb-true, leb-true}
use Rattle.records.specs.declared.record.Record.{Record}
use Rattle.records.specs.declared.record.Record.TheVariants.{Rx, Signal}
use Rattle.records.specs.Kinds.{stage_of}
use Rattle.plan.specs.declared.progress.RowSoFar.{RowSoFar}
use Rattle.plan.specs.declared.progress.Progress.{Progress}
use Rattle.plan.specs.Progress.{row_after, after}
use Rattle.plan.specs.Tests.{may_stand}
use Rattle.plan.proofs.TestLaws.{and_both}
use Rattle.facts.specs.Good.{Each}
use Rattle.facts.specs.Statements.{State, stepped, state_after, AllGo}
use Rattle.claims.specs.Claims.{IsDestination}
use Rattle.refusals.specs.Before.{NoRx, RxBefore, SignalBefore}
use Rattle.refusals.proofs.Passing.{Whole, head, node, tx_frame, rx_frame, signal, destination, whole, went}

Each-more : (P : Record → Type 0) (rs : List Record) (r : Record) → Each P rs → P r → Each P (rs ++ r ∷ [])
unfolding Each
Each-more P [] r h p = (p, tt)
Each-more P (x ∷ rs) r h p = (h.0, Each-more P rs r h.1 p)

-- ---- one record more

module _ (before : List Record) (r : Record) where
  more : (front since : List Record) (x : Record) → before ≡ front ++ x ∷ since → before ++ r ∷ [] ≡ front ++ x ∷ (since ++ r ∷ [])
  more front since x e = ap (λ (rs : List Record). rs ++ r ∷ []) e ∙ append_assoc front (x ∷ since) (r ∷ [])

  rx_more : RxBefore before → NoRx r → RxBefore (before ++ r ∷ [])
  rx_more h d =
      record {
        front = h.front;
        frame = h.frame;
        since = h.since ++ r ∷ [];
        split = more h.front h.since (Rx h.frame) h.split;
        last = Each-more NoRx h.since r h.last d;
      }

  signal_more : SignalBefore before → IsDestination r → SignalBefore (before ++ r ∷ [])
  signal_more h d =
      record {
        front = h.front;
        body = h.body;
        destinations = h.destinations ++ r ∷ [];
        split = more h.front h.destinations (Signal h.body) h.split;
        only = Each-more IsDestination h.destinations r h.only d;
      }

-- ---- all records

pub record Stand (before : List Record) (p : Progress) : Type 0 where
  pub rx : 4 ≤ p.stage → RxBefore before
  pub signal : 5 ≤ p.stage → SignalBefore before
  -- before the first Rx frame
  pub floor : p.stage < 4 → p.row.floor ≡ 0
  pub awaits : p.stage < 4 → p.row.awaits ≡ 0

-- a record that stands before the first Rx frame
early : (before : List Record) (p : Progress) (r : Record) → Stand before p → p.stage < 4 → stage_of r < 4 → row_after p.number p.row r ≡ p.row
    → Stand (before ++ r ∷ []) (after p r)
unfolding after
early before p r h l k e =
    record {
      rx = λ m. absurd (omega arith);
      signal = λ m. absurd (omega arith);
      floor = λ m. ap (λ (row : RowSoFar). row.floor) e ∙ h.floor l;
      awaits = λ m. ap (λ (row : RowSoFar). row.awaits) e ∙ h.awaits l;
    }

step :
    (before : List Record) (p : Progress) (r : Record) → Whole r → may_stand p.stage r ≡ true → Stand before p
    → Stand (before ++ r ∷ []) (after p r)
unfolding after row_after stage_of may_stand Each
step before p r (head order) e h = let l = eqb-true p.stage 0 e in early before p r h (omega arith) (omega arith) refl
step before p r (node body) e h =
    let l = leb-true p.stage 2 (and_both (ltb 0 p.stage) (leb p.stage 2) e).1 in
    early before p r h (omega arith) (omega arith) refl
step before p r (tx_frame x) e h =
    let l = leb-true p.stage 3 (and_both (ltb 0 p.stage) (leb p.stage 3) e).1 in
    early before p r h (omega arith) (omega arith) refl
step before p r (rx_frame x) e h =
    record {
      rx = λ k. record { front = before; frame = x; since = []; split = refl; last = tt };
      signal = λ k. absurd (omega arith);
      floor = λ k. absurd (omega arith);
      awaits = λ k. absurd (omega arith);
    }
step before p r (signal g) e h =
    record {
      rx = λ k. rx_more before r (h.rx (leb-true 4 p.stage e)) (λ x i. omega (arith, ap stage_of i));
      signal = λ k. record { front = before; body = g; destinations = []; split = refl; only = tt };
      floor = λ k. absurd (omega arith);
      awaits = λ k. absurd (omega arith);
    }
step before p r (destination t) e h =
    let l = leb-true 5 p.stage e in
    record {
      rx = λ k. rx_more before r (h.rx (omega arith)) (λ x i. omega (arith, ap stage_of i));
      signal = λ k. signal_more before r (h.signal l) (t, refl);
      floor = λ k. absurd (omega arith);
      awaits = λ k. absurd (omega arith);
    }

pub stand : (rs before : List Record) (s : State) → AllGo s rs → Stand before s.progress → Stand (before ++ rs) (state_after s rs).progress
unfolding AllGo state_after
stand [] before s g h = rw (append-nil before) h
stand (r ∷ rs) before s g h =
    let a = went s r g.0 in
    rw (append_assoc before (r ∷ []) rs) at
    (stand rs (before ++ r ∷ []) (stepped s r) g.1 (step before s.progress r (whole r a.known a.whole) a.stands h))
