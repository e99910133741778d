-- `polling::silence::no_response` meets its contract: each answer by what decided it.
use mathlib.Core.Path.{sym, ◌∙◌}
use borrow.Author.Tests.{ltb-true, ltb-false}
use Rattle.std.proofs.lemmas.Result.{err_from_is_err_and}
use Rattle.area.specs.Layout.{node_count}
use Rattle.polling.proofs.Outcomes.{silent_not_open, silent_no_node, silent_wrong_call, times_out}
use Rattle.polling.proofs.silence.no_response.Goals as goal

pub returns-in_err-check_open : goal.returns-in_err-check_open
returns-in_err-check_open c =
    let v = c.args in
    let p = err_from_is_err_and c.from_residual.result c.from_residual.ensures.1 in
    let why = c.in_err-check_open.ensures in
    let all = silent_not_open v.area.now v.node v.id why.1 in record { answer = rw (p.1, p.2, why.0) all.0; bytes = all.1 }

pub returns-in_err-check_node : goal.returns-in_err-check_node
returns-in_err-check_node c =
    let v = c.args in
    let p = err_from_is_err_and c.from_residual-in_err-check_node.result c.from_residual-in_err-check_node.ensures.1 in
    let why = c.in_err-check_node.ensures in
    let all = silent_no_node v.area.now v.node v.id c.in_ok-check_open.ensures.0 (ltb-false v.node (node_count v.area.now) why.1) in
    record { answer = rw (p.1, p.2, why.0) all.0; bytes = all.1 }

pub polled_row-found-requires : goal.polled_row-found-requires
polled_row-found-requires c =
    (c.in_ok-check_node.ensures.1, c.in_ok-check_open.ensures.1)

pub returns-in_default : goal.returns-in_default
returns-in_default c =
    let v = c.args in
    let all = silent_wrong_call v.area.now v.node v.id c.in_ok-check_open.ensures.0
    (ltb-true v.node (node_count v.area.now) c.in_ok-check_node.ensures.0) _
    (sym c.polled_row-found.ensures ∙ c.in_default.is) in record { answer = all.0; bytes = all.1 }

pub expire-requires : goal.expire-requires
expire-requires c =
    (c.row_in_range.ensures.1, c.in_ok-check_open.ensures.1)

pub returns : goal.returns
returns c =
    let v = c.args in
    let out = c.expire.ensures in
    let all = times_out v.area.now v.node v.id c.in_ok-check_open.ensures.0
    (ltb-true v.node (node_count v.area.now) c.in_ok-check_node.ensures.0) _
    (sym c.polled_row-found.ensures ∙ c.in-At.is) _ c.row_in_range.ensures.0 out.bytes out.timeout in record { answer = all.0; bytes = all.1 }
