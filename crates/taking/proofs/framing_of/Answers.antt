-- `taking::framing_of` meets its contract: by the type of the node.
use mathlib.Core.Path.{◌≡◌, sym, ◌∙◌}
use Rattle.base.specs.Pick.{pick}
use Rattle.records.specs.Nodes.{is_lin}
use Rattle.records.specs.declared.record.NodeType.TheVariants.{Can, Lin}
use Rattle.area.specs.Layout.{type_on}
use Rattle.taking.specs.Taken.{framing_of}
use Rattle.taking.proofs.framing_of.Goals as goal

pub returns-in-Can : goal.returns-in-Can
unfolding framing_of is_lin pick
returns-in-Can c =
    let v = c.args in
    let can : type_on v.area.now v.n ≡ Can = sym c.node_type.ensures ∙ c.in-Can.is in
    rw can

pub returns-in-Lin : goal.returns-in-Lin
unfolding framing_of is_lin pick
returns-in-Lin c =
    let v = c.args in
    let lin : type_on v.area.now v.n ≡ Lin = sym c.node_type.ensures ∙ c.in-Lin.is in
    rw (lin, c.checksum.ensures, c.part.ensures, c.protected-protected.ensures, c.plain.ensures, c.tx_id-id.ensures)
