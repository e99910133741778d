-- `bench::fill` meets its contract: an event's line stands behind the others, and the text from the next one on is left.
use Prim.Native.Nat.{ℕ, ◌-◌}
use mathlib.Core.Path.{ap, ◌∙◌}
use mathlib.Core.List.{List, ◌++◌}
use native.Mathlib.Omega.{arith}
use borrow.Rule.Slice.PartMut.{same_len_mid}
use lib.ListN.{length, take, length-take, length-drop}
use Rattle.events.proofs.EventLaws.{event_before}
use Rattle.output.specs.Output.{event_text, text_from}
use Rattle.output.proofs.OutputLaws.{shown_more, turn, onward, next_inside, past}
use Rattle.bench.proofs.fill.Goals as goal

pub loop-event-preserved : goal.loop-event-preserved
loop-event-preserved c =
    let loop = c.loop-event in
    let args = c.args in
    let input = args.input.now in
    let event = c.in-Some.event in
    let before = event_before input loop.at event c.in-Some.ensures.event in
    let on = onward event input loop.at before in
    let stays = next_inside event input loop.at c.in-Some.ensures.within in
    let k = length loop.out - loop.used in
    let line = c.show-used.new.line in
    let size = c.show-used.result in
    let done = c.show-used.ensures in
    let kept = c.show-used.auto in
    let out = same_len_mid {X = ℕ} loop.used k loop.out line kept.line in
    let next = c.behind-at.ensures in (
      ap (λ (t : List ℕ). t ++ text_from input c.behind-at.result args.rx c.show-used.new.area)
          (shown_more loop.out line (event_text event input loop.at args.rx loop.area) k loop.used size done.text.0 (omega arith)
          (simp (length-take, length-drop) (omega arith)))
          ∙ turn input loop.at args.rx loop.area event c.behind-at.result c.show-used.new.area (take loop.used loop.out)
          (text_from input args.from args.rx args.area.now) c.in-Some.ensures.event next done.bytes loop.invariant.0,
      omega arith,
      omega arith,
      omega arith,
      omega arith,
      out ∙ loop.invariant.5,
      kept.area ∙ loop.invariant.6,
    )

pub loop-event-smaller : goal.loop-event-smaller
loop-event-smaller c =
    let input = c.args.input.now in
    let at = c.loop-event.at in
    let before = event_before input at c.in-Some.event c.in-Some.ensures.event in
    let on = onward c.in-Some.event input at before in
    omega (arith, before, on, c.behind-at.ensures)

pub returns-clause-next : goal.returns-clause-next
returns-clause-next c =
    let ended = past c.args.input.now c.loop-event.at c.in_default.ensures.event in
    (omega arith, omega arith, λ some. omega arith)
