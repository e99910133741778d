-- `opening::record::with_payload` meets its contract: eight stores.
use Rattle.std.proofs.Common.{arith, length-set}
use Rattle.opening.specs.Opened.{with_payload}
use Rattle.opening.proofs.record.with_payload.Goals as goal

pub bounds-area-at-2 : goal.bounds-area-at-2
bounds-area-at-2 c = simp length-set (omega arith)

pub bounds-area-at-3 : goal.bounds-area-at-3
bounds-area-at-3 c = simp length-set (omega arith)

pub bounds-area-at-4 : goal.bounds-area-at-4
bounds-area-at-4 c = simp length-set (omega arith)

pub bounds-area-at-5 : goal.bounds-area-at-5
bounds-area-at-5 c = simp length-set (omega arith)

pub bounds-area-at-6 : goal.bounds-area-at-6
bounds-area-at-6 c = simp length-set (omega arith)

pub bounds-area-at-7 : goal.bounds-area-at-7
bounds-area-at-7 c = simp length-set (omega arith)

pub bounds-area-at-8 : goal.bounds-area-at-8
bounds-area-at-8 c = simp length-set (omega arith)

pub returns : goal.returns
unfolding with_payload
returns c = cc
