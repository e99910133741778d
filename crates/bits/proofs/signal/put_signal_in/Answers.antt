-- `bits::signal::put_signal_in` meets its contract: in either order the bytes that it makes up are those of the copy.
use borrow.Author.Rules.{rules}
use native.Mathlib.Omega.{arith}
use lib.ListN.{length}
use Rattle.bits.proofs.SignalLaws.{mask_room, put_gives}
use Rattle.bits.proofs.signal.put_signal_in.Goals as goal

pub put_bytes-requires : goal.put_bytes-requires
put_bytes-requires c = let v = c.args in
    let pre = rw c.in-Big.is at c.requires in (
      omega (arith, pre.1),
      omega (arith, c.ranges.q.fits),
      rw (c.big_bytes-in-Big.ensures, pre.0) (mask_room 0 v.signal.size v.q (length v.kept.now) pre.1),
    )

pub returns-in-Big : goal.returns-in-Big
returns-in-Big c =
    let v = c.args in
    let pre = rw c.in-Big.is at c.requires in
    let put = c.put_bytes.ensures in
    let all = put_gives 0 v.signal.size v.q v.kept.now _ _ v.signal.bits _ _ _ pre.0 c.big_bytes.ensures c.big_bytes-in-Big.ensures
    pre.1 (λ k. search rules) put.bytes put.answer in rw c.in-Big.is (record { payload = all.0; answer = all.1 })

pub put_bytes-requires-in-Little : goal.put_bytes-requires-in-Little
put_bytes-requires-in-Little c = let v = c.args in
    let pre = rw c.in-Little.is at c.requires in (
      omega (arith, pre.1),
      omega (arith, c.ranges.q.fits),
      rw (c.little_bytes-in-Little.ensures, pre.0) (mask_room 1 v.signal.size v.q (length v.kept.now) pre.1),
    )

pub returns-in-Little : goal.returns-in-Little
returns-in-Little c =
    let v = c.args in
    let pre = rw c.in-Little.is at c.requires in
    let put = c.put_bytes-in-Little.ensures in
    let all = put_gives 1 v.signal.size v.q v.kept.now _ _ v.signal.bits _ _ _ pre.0 c.little_bytes.ensures c.little_bytes-in-Little.ensures
    pre.1 (λ k. search rules) put.bytes put.answer in rw c.in-Little.is (record { payload = all.0; answer = all.1 })
