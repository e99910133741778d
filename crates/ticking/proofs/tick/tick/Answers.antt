-- `ticking::tick::tick` meets its contract: by the mark, and by the report's length.
use mathlib.Core.Path.{refl}
use borrow.Author.Tests.{lt-leb, le-leb}
use Rattle.std.proofs.lemmas.Result.{err_from_is_err_and}
use Rattle.base.specs.Pick.{pick}
use Rattle.ticking.specs.Tick.{tick_answer, ticked_area, ticked_report}
use Rattle.ticking.proofs.tick.tick.Goals as goal

pub returns-in_err-check_open : goal.returns-in_err-check_open
unfolding tick_answer ticked_area ticked_report pick
returns-in_err-check_open c =
    let p = err_from_is_err_and c.from_residual.result c.from_residual.ensures.1 in
    let why = c.in_err-check_open.ensures in
    record { answer = rw (p.1, p.2, why.0, why.1); bytes = rw p.1; report = rw p.1 }

pub returns-then-report-rx_count : goal.returns-then-report-rx_count
unfolding tick_answer ticked_area ticked_report pick
returns-then-report-rx_count c =
    record {
      answer = simp (c.in_ok-check_open.ensures.0, lt-leb _ _ (rw c.rx_count.ensures.0 at c.if-report-rx_count.true));
      bytes = refl;
      report = refl;
    }

pub run-requires : goal.run-requires
run-requires c = (c.in_ok-check_open.ensures.1, rw c.rx_count.ensures.0 at c.if-report-rx_count.false)

pub returns : goal.returns
unfolding tick_answer ticked_area ticked_report pick
returns c =
    record {
      answer = simp (c.in_ok-check_open.ensures.0, le-leb _ _ (rw c.rx_count.ensures.0 at c.if-report-rx_count.false));
      bytes = c.run.ensures.bytes;
      report = c.run.ensures.report;
    }
