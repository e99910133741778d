-- `polling::row::polled_row` meets its contract: by the type of the node.
use mathlib.Core.Path.{◌≡◌, sym, ◌∙◌}
use Rattle.base.specs.Pick.{pick}
use Rattle.records.specs.declared.record.NodeType.TheVariants.{Can, Lin}
use Rattle.records.specs.Nodes.{is_lin}
use Rattle.area.specs.Layout.{type_on}
use Rattle.polling.specs.Polling.{polled}
use Rattle.polling.proofs.row.polled_row.Goals as goal

pub returns-in-Lin : goal.returns-in-Lin
unfolding polled is_lin pick
returns-in-Lin c =
    let v = c.args in
    let lin : type_on v.area.now v.node ≡ Lin = sym c.node_type.ensures ∙ c.in-Lin.is in
    rw lin c.look_up.ensures.0

pub returns-in-Can : goal.returns-in-Can
unfolding polled is_lin pick
returns-in-Can c =
    let v = c.args in
    let can : type_on v.area.now v.node ≡ Can = sym c.node_type.ensures ∙ c.in-Can.is in
    rw can
