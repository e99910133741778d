-- `by_sixteens::sixteen` meets its contract: lowering first and expiring after is one timer after the other, and where none is marked none expires.
use mathlib.Core.Path.{sym, ◌∙◌}
use native.Mathlib.Omega.{arith}
use borrow.Author.Rules.{rules}
use Rattle.ticking.specs.Sixteen.{step_of}
use Rattle.ticking.proofs.Positions.{bytes_positions}
use Rattle.ticking.proofs.Sixteens.{none_at, none_marked}
use Rattle.ticking.proofs.BothKinds.{sixteen, sixteen_told, none_told}
use Rattle.ticking.proofs.by_sixteens.sixteen.Goals as goal

pub returns-then-any : goal.returns-then-any
returns-then-any g c =
    let v = c.args in
    let low = rw c.in_table-first.ensures.0 at c.lower_timers-marks.ensures in
    let positions = bytes_positions v.area.now (λ i. search rules) in
    record {
      bytes = c.expire.ensures.bytes ∙ sixteen v.k v.from _ _ _ _ (omega arith) c.requires.0 positions _ low.marks low.bytes;
      report = c.expire.ensures.report ∙ rw c.clear.ensures (sixteen_told v.k v.from _ _ _ _ (omega arith) c.requires.0 positions _ low.marks low.bytes v.report.now);
    }

pub returns-else-any : goal.returns-else-any
returns-else-any g c =
    let v = c.args in
    let low = rw c.in_table-first.ensures.0 at c.lower_timers-marks.ensures in
    let marks = c.lower_timers-marks.result in
    let positions = bytes_positions v.area.now (λ i. search rules) in
    let none = none_at 16 marks (sym c.any.ensures ∙ c.if-any.false) in
    record {
      bytes = sym (none_marked (step_of _) marks v.from 16 _ none) ∙ sixteen v.k v.from _ _ _ _ (omega arith) c.requires.0 positions _ low.marks low.bytes;
      report = c.clear.ensures ∙ sym (none_told _ marks v.from 16 c.lower_timers-marks.new.area _ none)
          ∙ sixteen_told v.k v.from _ _ _ _ (omega arith) c.requires.0 positions _ low.marks low.bytes v.report.now;
    }
