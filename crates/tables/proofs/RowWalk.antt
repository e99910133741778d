-- An induction over an opening's Rx frames: what each of them adds to, and no other record changes, holds of the opened area.
use mathlib.Core.Path.{◌≡◌, refl, sym, ap, ◌∙◌}
use mathlib.Core.List.{List, [], ◌∷◌}
use Prim.Native.Nat.{ℕ, suc, ◌+◌, ◌<◌, ◌≤◌}
use native.Mathlib.Omega.{arith}
use lib.ListN.{length, drop, length-drop}
use lib.Seq.{drop-cons}
use Rattle.base.specs.Numbers.{byte_at, low_at}
use Rattle.records.specs.declared.record.RxFrame.{RxFrame}
use Rattle.records.specs.declared.record.Record.{Record}
use Rattle.records.specs.declared.record.Record.TheVariants.{Rx}
use Rattle.records.specs.Records.{record_at, size_of, records_at, records}
use Rattle.plan.specs.Check.{sets_of}
use Rattle.plan.specs.Rows.{row_of, rows_from, rows_of, no_row}
use Rattle.facts.specs.Good.{GoodPlan}
use Rattle.area.specs.Layout.{node_count_byte, rx_count_bytes, plan_start, LongEnough}
use Rattle.area.proofs.Frame.{Same, same_two}
use Rattle.opening.specs.Opened.{blank, next_rx, with_rx, with_record, with_records, opened}
use Rattle.opening.proofs.BlankLaws.{blank-length, blank-zero}
use Rattle.opening.proofs.Counted.{counts}
use Rattle.tables.specs.Reads.{row_at}
use Rattle.tables.proofs.Verbatim.{records_head, Sound, Sound-good, Sound-rest}
use Rattle.tables.proofs.RxSide.{rx_length, RxSide, leaves_last, Kind, frame, other, kind}

-- Rx frame number k, met at a place of the plan when the area is a
pub record Meets (plan : List ℕ) (k at : ℕ) (x : RxFrame) (a : List ℕ) : Type 0 where
  pub here : at < length plan
  pub reads : record_at plan at ≡ Rx x
  pub exists : k < length (rows_of plan)
  pub row : row_at plan k ≡ row_of k x (records_at plan (at + size_of (Rx x)))
  pub sound : Sound (Rx x ∷ records_at plan (at + size_of (Rx x)))
  pub next : next_rx a ≡ k
  pub size : LongEnough a

-- the records from a place on are left, of which the first Rx frame has number k
record Left (plan : List ℕ) (rs : List Record) (at k : ℕ) (a : List ℕ) : Type 0 where
  reads : records_at plan at ≡ rs
  sound : Sound rs
  rows : rows_from k rs ≡ drop k (rows_of plan)
  most : k ≤ length (rows_of plan)
  count : low_at a rx_count_bytes ≡ k
  size : LongEnough a

-- ---- one record less

module _ (plan : List ℕ) (rs : List Record) (at k : ℕ) (a : List ℕ) where
  Left-other :
      (r : Record) (b : List ℕ) → rows_from k (r ∷ rs) ≡ rows_from k rs → Same RxSide a b → Left plan (r ∷ rs) at k a
      → Left plan rs (at + size_of r) k b
  Left-other r b none s l =
      record {
        reads = (records_head plan at r rs l.reads).2;
        sound = Sound-rest r rs l.sound;
        rows = sym none ∙ l.rows;
        most = l.most;
        count = same_two s rx_count_bytes (omega arith) (omega arith) ∙ l.count;
        size = omega (arith, s.len, l.size);
      }

  module _ (x : RxFrame) (few : length (rows_of plan) ≤ 256) (l : Left plan (Rx x ∷ rs) at k a) where
    more_rows : k < length (rows_of plan)
    unfolding rows_from
    more_rows = omega (arith, length-drop k (rows_of plan), ap length l.rows)

    here_rows : row_of k x rs ∷ rows_from (suc k) rs ≡ row_at plan k ∷ drop (suc k) (rows_of plan)
    unfolding rows_from
    here_rows = l.rows ∙ drop-cons (rows_of plan) k no_row more_rows

    meets : Meets plan k at x a
    meets =
        let e = here_rows in
        let h = records_head plan at (Rx x) rs l.reads in
        record {
          here = h.0;
          reads = h.1;
          exists = more_rows;
          row = rw h.2 (cc);
          sound = rw h.2 l.sound;
          next = rw l.count (omega (arith, more_rows));
          size = l.size;
        }

    left_frame : Left plan rs (at + size_of (Rx x)) (suc k) (with_rx at x a)
    unfolding with_records with_record rows_from
    left_frame =
        let e = here_rows in
        let c = (counts at (Rx x ∷ []) a (omega (arith, l.size))).rx 0 (omega (arith, l.count, more_rows)) in
        record {
          reads = (records_head plan at (Rx x) rs l.reads).2;
          sound = Sound-rest (Rx x) rs l.sound;
          rows = cc;
          most = more_rows;
          count = c ∙ omega (arith, l.count);
          size = rw (rx_length at x a) l.size;
        }

-- the counts and the tables of a blank area
pub blank_two : (plan a : List ℕ) → LongEnough a → (j : ℕ) → node_count_byte ≤ j → j + 1 < plan_start → low_at (blank plan a) j ≡ 0
blank_two plan a room j l h =
    let byte : (i : ℕ) → node_count_byte ≤ i → i < plan_start → byte_at (blank plan a) i ≡ 0 =
    λ i lo hi. blank-zero plan a room i hi (omega arith) (omega arith) (omega arith) (omega arith) in
    omega (arith, byte j l (omega arith), byte (j + 1) (omega arith) (omega arith))

-- ---- all of them

-- what holds after a record, with the number that the next Rx frame gets
record After (plan : List ℕ) (Q : ℕ → List ℕ → Type 0) (rs : List Record) (at : ℕ) (a : List ℕ) : Type 0 where
  number : ℕ
  left : Left plan rs at number a
  holds : Q number a

module _
    (plan : List ℕ) (good : GoodPlan plan) (Q : ℕ → List ℕ → Type 0)
    (kept : (k : ℕ) (a b : List ℕ) → k ≤ length (rows_of plan) → Same RxSide a b → Q k a → Q k b)
    (more : (k at : ℕ) (x : RxFrame) (a : List ℕ) → Meets plan k at x a → Q k a → Q (suc k) (with_rx at x a))
  where
    step :
        (r : Record) (rs : List Record) (at k : ℕ) (a : List ℕ) → Left plan (r ∷ rs) at k a → Q k a → Kind at r
        → After plan Q rs (at + size_of r) (with_record at r a)
    unfolding with_record
    step r rs at k a l q (frame x e) =
        let m : Left plan (Rx x ∷ rs) at k a = rw e at l in
        let few = good.counts.rx in
        rw e (record { number = suc k; left = left_frame plan rs at k a x few m; holds = more k at x a (meets plan rs at k a x few m) q })
    step r rs at k a l q (other none s) =
        record { number = k; left = Left-other plan rs at k a r _ (none k rs) (s a) l; holds = kept k a _ l.most (s a) q }

    walk : (rs : List Record) (at k : ℕ) (a : List ℕ) → Left plan rs at k a → Q k a → Q (length (rows_of plan)) (with_records at rs a)
    unfolding with_records rows_from
    walk [] at k a l q = let e : k ≡ length (rows_of plan) = omega (arith, length-drop k (rows_of plan), ap length l.rows, l.most) in rw e at q
    walk (r ∷ rs) at k a l q = let s = step r rs at k a l q (kind at r) in walk rs _ s.number _ s.left s.holds

    pub opened_walk : (a : List ℕ) → LongEnough a → Q 0 (blank plan a) → Q (length (rows_of plan)) (opened plan a)
    unfolding opened rows_of records
    opened_walk a room q =
        let l : Left plan (records_at plan 0) 0 0 (blank plan a) =
        record {
          reads = refl;
          sound = Sound-good plan good;
          rows = refl;
          most = omega arith;
          count = blank_two plan a room rx_count_bytes (omega arith) (omega arith);
          size = omega (arith, blank-length plan a);
        } in
        kept _ _ _ (omega arith) (leaves_last (sets_of plan) _) (walk (records_at plan 0) 0 0 (blank plan a) l q)
