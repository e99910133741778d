-- `bits::signal::put_bytes` meets its contract. The loop's invariant: to store the bytes that are left gives what storing all eight gave; where the
-- mask has no digit left they are the kept ones.
use mathlib.Core.Path.{◌≡◌, refl, sym, ◌∙◌}
use Prim.Native.Nat.{suc, ◌+◌, ◌-◌, ◌<◌, ◌%◌}
use borrow.Author.Rules.{rules}
use native.Mathlib.Omega.{arith}
use lib.ListN.{length, length-set}
use Rattle.bits.specs.Word.{bytes_stored}
use Rattle.bits.proofs.Stored.{KeptElsewhere, some_left, less_left, kept_on, stored_end}
use Rattle.bits.proofs.MadeUp.{made_up-lt, made_up_kept}
use Rattle.bits.proofs.PayloadLaws.{Bytes-set}
use Rattle.bits.proofs.signal.put_bytes.Goals as goal

pub loop-m-init : goal.loop-m-init
loop-m-init c = let v = c.args in
    let eight : v.at + 8 - v.at ≡ 8 = omega arith in
    let made = c.made_up-made.ensures in (
      omega arith,
      omega arith,
      refl,
      (λ k. search rules),
      rw eight c.ranges.mask.fits,
      c.requires.2,
      rw (eight, made) (made_up-lt _ _ _),
      rw (eight, made, c.low_first-old.ensures) (made_up_kept _ _ _),
      rw eight refl,
    )

pub loop-m-preserved : goal.loop-m-preserved
unfolding bytes_stored
loop-m-preserved c = let v = c.args in
    let l = c.loop-m in
    let here : l.i < length l.kept = some_left l.m (length l.kept) l.i c.loop-m-test.true l.invariant.5 in
    let more : l.i < v.at + 8 = some_left l.m (v.at + 8) l.i c.loop-m-test.true l.invariant.4 in
    let left = v.at + 8 - (l.i + 1) in
    let next : v.at + 8 - l.i ≡ suc left = omega arith in (
      omega arith,
      omega arith,
      length-set l.kept l.i _ ∙ l.invariant.2,
      Bytes-set l.kept l.i (l.n % 256) (omega arith) l.invariant.3,
      less_left l.m (v.at + 8) l.i more l.invariant.4,
      rw length-set (less_left l.m (length l.kept) l.i here l.invariant.5),
      less_left l.n (v.at + 8) l.i more l.invariant.6,
      kept_on left l.kept l.i l.n l.m l.invariant.3 (rw next at l.invariant.7),
      rw next at l.invariant.8,
    )

pub returns : goal.returns
returns c = let v = c.args in
    let l = c.loop-m in
    let made = c.made_up-made.ensures in
    let old = c.low_first-old.ensures in
    let none : KeptElsewhere (v.at + 8 - l.i) l.kept l.i l.n 0 = rw c.loop-m-test.false at l.invariant.7 in record { bytes = sym (stored_end (v.at + 8 - l.i) l.kept l.i l.n l.invariant.3 l.invariant.6 none) ∙ l.invariant.8 ∙ rw (made, old); answer = rw (made, old) }
