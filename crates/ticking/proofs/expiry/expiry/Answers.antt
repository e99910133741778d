-- `ticking::expiry::expiry` meets its contract: by the type of the frame's node.
use mathlib.Core.Path.{ap, ◌∙◌}
use Rattle.std.specs.Prelude.{Some}
use Rattle.ticking.specs.Tick.{report_number}
use Rattle.ticking.proofs.ExpiryLaws.{timeout_reported, asks, times_out}
use Rattle.ticking.proofs.expiry.expiry.Goals as goal

pub returns-in-Lin : goal.returns-in-Lin
unfolding report_number
returns-in-Lin c =
    let v = c.args in
    let all = asks v.area.now v.r.0 _ _ c.home_node-node.ensures.0 c.node_type.ensures c.in-Lin.is
    c.request.ensures in record { report = all.0; bytes = all.1 }

pub returns-in-Can : goal.returns-in-Can
returns-in-Can c =
    let v = c.args in
    let out = c.expire.ensures in
    let all = times_out v.area.now v.r.0 _ _ c.home_node-node.ensures.0 c.node_type.ensures c.in-Can.is
    (ap (λ t. report_number (Some t)) out.timeout ∙ timeout_reported v.area.now v.r.0) out.bytes in record { report = all.0; bytes = all.1 }
