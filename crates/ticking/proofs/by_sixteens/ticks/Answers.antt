-- `by_sixteens::ticks` meets its contract. The invariant of the first loop: the timers before `from`, a multiple of sixteen, are handled, and their
-- bytes stand in the report; of the second: so are the first `i`, if it was so at its begin.
use mathlib.Core.Path.{refl}
use native.Mathlib.Nat.{le_antisymm}
use native.Mathlib.Omega.{arith}
use Rattle.ticking.proofs.BothKinds.{ticks_none, reported_none, ticks_one, reported_one, ticks_sixteen, reported_sixteen}
use Rattle.ticking.proofs.by_sixteens.ticks.Goals as goal

pub loop-from-init : goal.loop-from-init
loop-from-init g c = (ticks_none _ _ _, reported_none _ _ _ _, omega arith, refl, refl, refl)

pub loop-from-preserved : goal.loop-from-preserved
loop-from-preserved g c = (rw ticks_sixteen cc, rw reported_sixteen cc, omega arith, omega arith, cc, cc)

pub loop-i-preserved : goal.loop-i-preserved
loop-i-preserved g c = let l = c.loop-i in (
  λ a s e f. let so = l.invariant.0 a s e f in let x = so.0 in let y = so.1 in (rw ticks_one cc, rw reported_one cc),
  omega arith,
  cc,
  cc,
)

pub returns : goal.returns
returns g c = let l = c.loop-i in
    let i = c.loop-from.invariant in
    let e = le_antisymm i.2 c.loop-from-test.false in
    let all = rw (le_antisymm l.invariant.1 c.loop-i-test.false) at (l.invariant.0 _ _ (rw e at i.0) (rw e at i.1)) in
    record { bytes = all.0; report = all.1 }
