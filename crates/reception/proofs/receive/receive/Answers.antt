-- `receive::receive` meets its contract: each answer by what decided it.
use mathlib.Core.Path.{refl, sym, ap, ◌∙◌}
use lib.ListN.{length}
use borrow.Author.Tests.{ltb-true, ltb-false, lt-ltb, le-ltb}
use Rattle.std.specs.Prelude.{Ok}
use Rattle.std.proofs.lemmas.Result.{err_from_is_err_and}
use Rattle.base.specs.Pick.{pick}
use Rattle.records.specs.Kinds.{rx_at}
use Rattle.records.specs.Nodes.{is_lin}
use Rattle.area.specs.Layout.{node_count, rx_frame}
use Rattle.answers.specs.declared.Received.TheVariants.{NoRow}
use Rattle.reception.specs.declared.lookup.Found.TheVariants.{At, Nothing}
use Rattle.reception.specs.Lookup.{place_in}
use Rattle.reception.specs.Reception.{restarted, restarted_by, accepted_area, accepted_by, found_answer, found_area}
use Rattle.reception.proofs.Outcomes.{not_open, no_node, refused_on_lin, long_payload, goes_on}
use Rattle.reception.proofs.receive.receive.Goals as goal

pub returns-in_err-check_open : goal.returns-in_err-check_open
returns-in_err-check_open c =
    let v = c.args in
    let p = err_from_is_err_and c.from_residual.result c.from_residual.ensures.1 in
    let why = c.in_err-check_open.ensures in
    let all = not_open v.area.now v.node v.id v.payload.now why.1 in record { answer = rw (p.1, p.2, why.0) all.0; bytes = all.1 }

pub returns-in_err-check_node : goal.returns-in_err-check_node
returns-in_err-check_node c =
    let v = c.args in
    let p = err_from_is_err_and c.from_residual-in_err-check_node.result c.from_residual-in_err-check_node.ensures.1 in
    let why = c.in_err-check_node.ensures in
    let all = no_node v.area.now v.node v.id v.payload.now c.in_ok-check_open.ensures.0 (ltb-false v.node (node_count v.area.now) why.1) in
    record { answer = rw (p.1, p.2, why.0) all.0; bytes = all.1 }

pub returns-in-Lin : goal.returns-in-Lin
unfolding is_lin
returns-in-Lin c =
    let v = c.args in
    let all = refused_on_lin v.area.now v.node v.id v.payload.now c.in_ok-check_open.ensures.0
    (ltb-true v.node (node_count v.area.now) c.in_ok-check_node.ensures.0)
    (ap is_lin (sym c.node_type.ensures ∙ c.in-Lin.is)) in record { answer = all.0; bytes = all.1 }

pub returns-then-payload-gt8 : goal.returns-then-payload-gt8
unfolding is_lin
returns-then-payload-gt8 c =
    let v = c.args in
    let all = long_payload v.area.now v.node v.id v.payload.now c.in_ok-check_open.ensures.0
    (ltb-true v.node (node_count v.area.now) c.in_ok-check_node.ensures.0)
    (ap is_lin (sym c.node_type.ensures ∙ c.in_default.is)) c.if-payload-gt8.true in record { answer = all.0; bytes = all.1 }

pub returns-in_default-found : goal.returns-in_default-found
unfolding found_answer found_area place_in is_lin
returns-in_default-found c =
    let v = c.args in
    let all = goes_on v.area.now v.node v.id v.payload.now c.in_ok-check_open.ensures.0
    (ltb-true v.node (node_count v.area.now) c.in_ok-check_node.ensures.0)
    (ap is_lin (sym c.node_type.ensures ∙ c.in_default.is)) (Nothing c.in_default-found.field-0) _ _
    c.if-payload-gt8.false (sym c.in_default-found.is ∙ c.look_up-found.ensures.0) (ap (λ n. Ok (NoRow n)) (c.place.ensures ∙ ap place_in c.in_default-found.is)) refl in record { answer = all.0; bytes = all.1 }

pub returns-then-payload-rx_size : goal.returns-then-payload-rx_size
unfolding found_answer found_area rx_frame rx_at pick is_lin
returns-then-payload-rx_size c =
    let v = c.args in
    let place = c.rx_fields_place-at.ensures.0 in
    let t = lt-ltb (length v.payload.now) (rx_frame v.area.now c.in-At.r.0).size (rw place at (rw c.rx_size.ensures at c.if-payload-rx_size.true)) in
    let all = goes_on v.area.now v.node v.id v.payload.now c.in_ok-check_open.ensures.0
    (ltb-true v.node (node_count v.area.now) c.in_ok-check_node.ensures.0)
    (ap is_lin (sym c.node_type.ensures ∙ c.in_default.is)) (At c.in-At.r) _ _ c.if-payload-gt8.false
    (sym c.in-At.is ∙ c.look_up-found.ensures.0) (rw t) (rw t) in record { answer = all.0; bytes = all.1 }

pub returns : goal.returns
unfolding found_answer found_area accepted_area accepted_by restarted restarted_by rx_frame rx_at pick is_lin
returns c =
    let v = c.args in
    let place = c.rx_fields_place-at.ensures.0 in
    let t = le-ltb (length v.payload.now) (rx_frame v.area.now c.in-At.r.0).size (rw place at (rw c.rx_size.ensures at c.if-payload-rx_size.false)) in
    let all = goes_on v.area.now v.node v.id v.payload.now c.in_ok-check_open.ensures.0
    (ltb-true v.node (node_count v.area.now) c.in_ok-check_node.ensures.0)
    (ap is_lin (sym c.node_type.ensures ∙ c.in_default.is)) (At c.in-At.r) _ _ c.if-payload-gt8.false
    (sym c.in-At.is ∙ c.look_up-found.ensures.0) (rw t) (rw t c.accept.ensures) in record { answer = all.0; bytes = all.1 }
