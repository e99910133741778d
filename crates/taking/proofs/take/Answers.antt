-- `taking::take` meets its contract: the tests pick the case, and what leaves is read after the queue gave it up.
use mathlib.Core.Path.{sym, ◌∙◌}
use native.Mathlib.Omega.{arith}
use native.Mathlib.Nat.{pos_of_ne-zero}
use borrow.Author.Tests.{ltb-true, ltb-false}
use Rattle.std.proofs.lemmas.Result.{err_from_is_err_and}
use Rattle.area.specs.Layout.{node_count}
use Rattle.area.specs.Queue.{oldest}
use Rattle.taking.proofs.Entries.{frame_small, request_small, entry_dequeued}
use Rattle.taking.proofs.Outcomes.{not_open, no_node, nothing, leaves}
use Rattle.taking.proofs.take.Goals as goal

pub returns-in_err-check_open : goal.returns-in_err-check_open
returns-in_err-check_open c =
    let p = err_from_is_err_and c.from_residual.result c.from_residual.ensures.1 in
    let why = c.in_err-check_open.ensures in
    let all = not_open c.args.area.now c.args.node why.1 in record { answer = rw (p.1, p.2, why.0) all.0; bytes = all.1 }

pub returns-in_err-check_node : goal.returns-in_err-check_node
returns-in_err-check_node c =
    let v = c.args in
    let p = err_from_is_err_and c.from_residual-in_err-check_node.result c.from_residual-in_err-check_node.ensures.1 in
    let why = c.in_err-check_node.ensures in
    let all = no_node v.area.now v.node c.in_ok-check_open.ensures.0 (ltb-false v.node (node_count v.area.now) why.1) in
    record { answer = rw (p.1, p.2, why.0) all.0; bytes = all.1 }

pub returns-then-ends-eq0 : goal.returns-then-ends-eq0
returns-then-ends-eq0 c =
    let v = c.args in
    let all = nothing v.area.now v.node c.in_ok-check_open.ensures.0
    (ltb-true v.node (node_count v.area.now) c.in_ok-check_node.ensures.0)
    (rw c.ends_at-ends.ensures.0 at c.if-ends-eq0.true) in record { answer = all.0; bytes = all.1 }

pub dequeue-requires : goal.dequeue-requires
unfolding oldest
dequeue-requires c =
    let ends = c.ends_at-ends.ensures in
    let first = c.oldest_of-number.ensures in (
      c.in_ok-check_node.ensures.1,
      c.in_ok-check_open.ensures.1,
      ends.0,
      rw ends.0 at first.0,
      first.1,
      pos_of_ne-zero c.if-ends-eq0.false,
      ends.2,
    )

pub frame_of-requires : goal.frame_of-requires
frame_of-requires c = (frame_small _ _ (sym c.entry_of.ensures ∙ c.in-Frame.is), omega (arith, c.in_ok-check_open.ensures.1))

pub request_of-requires : goal.request_of-requires
unfolding oldest
request_of-requires c = (request_small _ _ c.oldest_of-number.ensures.1 (sym c.entry_of.ensures ∙ c.in-Request.is), omega (arith, c.in_ok-check_open.ensures.1))

pub returns-in-Frame : goal.returns-in-Frame
unfolding oldest
returns-in-Frame c =
    let v = c.args in
    let a = v.area.now in
    let ends = c.ends_at-ends.ensures.0 in
    let small = c.in_ok-check_node.ensures.1 in
    let is = sym c.entry_of.ensures ∙ c.in-Frame.is in
    let answered = (rw (c.dequeue.ensures, ← is) at c.frame_of.ensures) ∙ entry_dequeued a v.node small _ _ c.oldest_of-number.ensures.1 in
    let all = leaves a v.node c.in_ok-check_open.ensures.0 (ltb-true v.node (node_count a) c.in_ok-check_node.ensures.0) _ _ _ _ ends
    (rw ends at c.oldest_of-number.ensures.0) answered c.if-ends-eq0.false c.dequeue.ensures in record { answer = all.0; bytes = all.1 }

pub returns-in-Request : goal.returns-in-Request
unfolding oldest
returns-in-Request c =
    let v = c.args in
    let a = v.area.now in
    let ends = c.ends_at-ends.ensures.0 in
    let small = c.in_ok-check_node.ensures.1 in
    let is = sym c.entry_of.ensures ∙ c.in-Request.is in
    let answered = (rw (c.dequeue.ensures, ← is) at c.request_of.ensures) ∙ entry_dequeued a v.node small _ _ c.oldest_of-number.ensures.1 in
    let all = leaves a v.node c.in_ok-check_open.ensures.0 (ltb-true v.node (node_count a) c.in_ok-check_node.ensures.0) _ _ _ _ ends
    (rw ends at c.oldest_of-number.ensures.0) answered c.if-ends-eq0.false c.dequeue.ensures in record { answer = all.0; bytes = all.1 }
