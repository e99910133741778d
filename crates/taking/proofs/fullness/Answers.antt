-- `taking::fullness` meets its contract: the tests pick the case.
use Rattle.std.proofs.lemmas.Result.{err_from_is_err_and}
use Rattle.taking.proofs.Outcomes.{full_not_open, no_frame, owned}
use Rattle.taking.proofs.fullness.Goals as goal

pub returns-in_err-check_open : goal.returns-in_err-check_open
returns-in_err-check_open c =
    let p = err_from_is_err_and c.from_residual.result c.from_residual.ensures.1 in
    let why = c.in_err-check_open.ensures in rw (p.1, p.2, why.0) (full_not_open c.args.area.now c.args.tx why.1)

pub returns-then-tx_count-tx : goal.returns-then-tx_count-tx
returns-then-tx_count-tx c =
    no_frame c.args.area.now c.args.tx c.in_ok-check_open.ensures.0 (rw c.tx_count.ensures.0 at c.if-tx_count-tx.true)

pub returns : goal.returns
returns c =
    rw c.owned_bits.ensures
    (owned c.args.area.now c.args.tx c.in_ok-check_open.ensures.0 (rw c.tx_count.ensures.0 at c.if-tx_count-tx.false))
