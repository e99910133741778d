-- `lookup::look_up` meets its contract: what the search answers is what it found among that node's rows.
use Rattle.reception.specs.Lookup.{found_of}
use Rattle.reception.proofs.Search.{says}
use Rattle.reception.proofs.lookup.look_up.Goals as goal

pub returns-in-Ok : goal.returns-in-Ok
unfolding found_of
returns-in-Ok c =
    let v = c.args in
    let found = rw c.in-Ok.is at c.look.ensures in
    says v.area.now v.node v.id _ _ _ c.row_count-n.ensures.0 c.first_row-first.ensures.0 c.key.ensures.0 _ found

pub returns-in-Err : goal.returns-in-Err
unfolding found_of
returns-in-Err c =
    let v = c.args in
    let found = rw c.in-Err.is at c.look.ensures in
    says v.area.now v.node v.id _ _ _ c.row_count-n.ensures.0 c.first_row-first.ensures.0 c.key.ensures.0 _ found
