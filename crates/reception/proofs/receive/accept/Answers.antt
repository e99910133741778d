-- `receive::accept` meets its contract: the row starts again, the failure bit is written, and then the walk.
use mathlib.Core.Path.{◌∙◌}
use Rattle.reception.proofs.WalkLaws.{walked_accepted}
use Rattle.reception.proofs.receive.accept.Goals as goal

pub returns : goal.returns
returns g c =
    let v = c.args in
    let place = c.requires.1 in
    (rw place at c.walk_own.ensures)
    ∙ walked_accepted _ v.area.now v.r.0 v.payload.now _ _ _ c.order.ensures c.requires.0 c.restart.ensures
    (rw place at c.write_failure_in.ensures.bytes) (rw place at c.write_failure_in.ensures.narrow)
