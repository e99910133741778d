-- A report's byte is 2 exactly where one expiry was left until those in a row are a multiple of the long count; of a request it is 0.
use mathlib.Core.Path.{◌≡◌, refl, ◌∙◌}
use mathlib.Core.Bool.{Bool, true, false}
use mathlib.Core.List.{List}
use Prim.Native.Nat.{ℕ, ◌≤◌, ◌<◌}
use native.Mathlib.Omega.{arith}
use lib.Dec.{eqb, leb}
use lib.ListN.{length, get_or, take}
use lib.Seq.{length-take-le}
use borrow.Author.Tests.{ne_eqb, leb-true}
use Rattle.std.specs.Prelude.{Ok, Err}
use Rattle.base.specs.Pick.{pick}
use Rattle.base.specs.Numbers.{byte_at}
use Rattle.base.proofs.Picks.{both, by_eqb, picks, passes}
use Rattle.plan.specs.Rows.{rows_of}
use Rattle.facts.specs.Good.{GoodPlan}
use Rattle.answers.specs.declared.Refusal.TheVariants.{ShortReport}
use Rattle.area.specs.Layout.{long, counter, tx_count, rx_count}
use Rattle.area.specs.Claims.{expired}
use Rattle.ticking.specs.Tick.{tx_ticks, expired_report, expiry_report, rx_ticks, rx_report, reported, tick_answer, ticked_report}
use Rattle.ticking.proofs.TickLaws.{length-reported, byte_reported}
use Rattle.tables.specs.Reads.{row_at, Reads}
use Rattle.model.specs.Calls.{tick, ticked}
use Rattle.model.proofs.Handlings.{one_given, not_refused}
use Rattle.history.specs.Calls.{answer_in, after_in}
use Rattle.history.specs.LongTimeouts.{Tells, LongTimeouts}
use Rattle.history.proofs.Ticks.{report_leaves, after_rows}
use Rattle.history.proofs.Longs.{turned_long, long_turns}
use Rattle.history.proofs.Left.{Left, last_left, too_few}
use Rattle.history.proofs.Remaining.{remaining}

-- ---- the report's byte

module _ (size n v : ℕ) (w : Left size n v) where
  nothing : Tells size n 0
  nothing = record { exactly = (λ e. absurd (omega arith), λ x. absurd (x.0 refl)); few = λ l e. omega arith; small = omega arith }

  two : v ≡ 1 → Tells size n 2
  two e =
      let x = (last_left size n v w).0 e in
      record { exactly = (λ f. (λ z. omega arith, x.0, x.1), λ y. refl); few = λ l f. too_few size n l x.1; small = omega arith }

  one : (v ≡ 1 → ⊥) → Tells size n 1
  one d =
      record {
        exactly = (λ e. absurd (omega arith), λ x. absurd (d ((last_left size n v w).1 (x.1, x.2))));
        few = λ l e. omega arith;
        small = omega arith;
      }

  tells : (handled last lin : Bool) → Tells size n (pick handled (pick last (pick lin 0 (pick (eqb v 1) 2 1)) 0) 0)
  tells handled last lin =
      let P = Tells size n in
      both P handled _ _ (both P last _ _ (both P lin _ _ nothing (by_eqb P v 1 2 1 two one)) nothing) nothing

-- ---- a tick

-- another row's expiry leaves it
another : (r size q v : ℕ) → q < r → turned_long r size v (expired q) ≡ v
unfolding turned_long
another r size q v h = passes _ _ _ (ne_eqb q r (λ e. omega arith))

module _ (plan : List ℕ) (good : GoodPlan plan) (a : List ℕ) (reads : Reads plan a) (report : List ℕ) (r : ℕ) (l : r < length (rows_of plan)) where
  abbrev tx : List ℕ
  tx = tx_ticks (counter a) (tx_count a) a

  counter_stays : rx_count a ≤ length report → byte_at (rx_ticks (counter a) r tx) (long r) ≡ byte_at a (long r)
  counter_stays room =
      let xs = reported (counter a) (rx_count a) tx report in
      let few : r ≤ length xs = omega (arith, reads.header.rx, length-reported (counter a) (rx_count a) tx report) in
      after_rows good (long_turns plan good r l) a report reads room r (omega (arith, reads.header.rx))
      ∙ report_leaves _ 0 (take r xs) (λ q v i m. another r _ q v (omega (arith, length-take-le r xs few))) _

  row_tells : (n : ℕ) → Left (row_at plan r).frame.long n (byte_at a (long r)) → rx_count a ≤ length report
      → Tells (row_at plan r).frame.long n (byte_at (reported (counter a) (rx_count a) tx report) r)
  unfolding rx_report expiry_report expired_report
  row_tells n w room =
      rw (byte_reported (counter a) (rx_count a) tx report r (omega (arith, reads.header.rx)) room, counter_stays room) (tells _ n _ w _ _ _)

  given_tells : (n : ℕ) → Left (row_at plan r).frame.long n (byte_at a (long r)) → (given : List ℕ) → answer_in a (tick report) ≡ ticked (Ok tt) given
      → Tells (row_at plan r).frame.long n (get_or given r 0)
  unfolding answer_in ticked_report
  given_tells n w given e = go (leb (rx_count a) (length report)) refl
    where
      answer : tick_answer a report ≡ pick (leb (rx_count a) (length report)) (Ok tt) (Err ShortReport)
      answer = unfold tick_answer in picks _ _ _ reads.header.mark

      go : (t : Bool) → leb (rx_count a) (length report) ≡ t → Tells (row_at plan r).frame.long n (get_or given r 0)
      go true m =
          let done : tick_answer a report ≡ Ok tt = answer ∙ picks _ _ _ m in
          let same : given ≡ reported (counter a) (rx_count a) tx report = one_given {v = reported (counter a) (rx_count a) tx report} e (rw done) in
          rw same (row_tells n w (leb-true _ _ m))
      go false m =
          let short : tick_answer a report ≡ Err ShortReport = answer ∙ passes _ _ _ m in
          absurd (not_refused {v = report} {why = ShortReport} e (rw short))

pub long_timeouts : LongTimeouts
long_timeouts a calls plan is report given e r l =
    let k = remaining a calls plan is in given_tells plan k.good (after_in a calls) k.reads report r l _ (k.holds r l) given e
