-- `bits::payload::copy_signal_in` meets its contract. The loop's invariant: after k bits the kept payload is `copied` of k, and the answer
-- `differs` of k; a piece adds the copy of its bits.
use mathlib.Core.Path.{◌≡◌, refl, ◌∙◌}
use Prim.Native.Nat.{◌+◌, ◌-◌, ◌*◌, ◌%◌, ◌≤◌}
use native.Mathlib.Omega.{arith}
use borrow.Author.Rules.{rules}
use lib.ListN.{length}
use Rattle.std.proofs.Math.Bool.{or_comm}
use Rattle.base.proofs.Ranges.{at_most_fewer, at_most_above}
use Rattle.bits.specs.Order.{order_number}
use Rattle.bits.specs.Signal.{signal_at}
use Rattle.bits.specs.Word.{fitting, Bits}
use Rattle.bits.specs.Payload.{copied, differs}
use Rattle.bits.proofs.SignalLaws.{copied_parts, differs_parts}
use Rattle.bits.proofs.WordLaws.{piece_bits}
use Rattle.bits.proofs.Fitting.{fitting-le, fitting_is}
use Rattle.bits.proofs.PayloadLaws.{Bytes}
use Rattle.bits.proofs.payload.copy_signal_in.Goals as goal

pub loop-k-init : goal.loop-k-init
unfolding copied differs
loop-k-init c = search rules

pub put_signal_in-changed-requires : goal.put_signal_in-changed-requires
unfolding signal_at
put_signal_in-changed-requires c = let v = c.args in
    let l = c.loop-k in
    let fits : v.q + l.k + c.at_most-n.result ≤ 8 * length l.kept =
    omega (arith, c.at_most-n.ensures.0, at_most_fewer (56 - (v.q + l.k) % 8) (v.size - l.k)) in
    let piece = c.take_signal_in-piece in
    let stored = rw piece.ensures at (fitting-le (v.q + l.k) piece.result.size) in
    rw piece.ensures (refl, omega (arith, stored, fits))

pub overflow_add-k : goal.overflow_add-k
overflow_add-k c = let v = c.args in
    let l = c.loop-k in
    let fewer = at_most_fewer (56 - (v.q + l.k) % 8) (v.size - l.k) in
    let size = c.at_most-n.ensures.0 in
    search rules

pub loop-k-smaller : goal.loop-k-smaller
loop-k-smaller c = let v = c.args in
    let l = c.loop-k in
    let some = at_most_above (56 - (v.q + l.k) % 8) (v.size - l.k) 0 (omega arith) (omega arith) in
    let size = c.at_most-n.ensures.0 in
    omega arith

pub loop-k-preserved : goal.loop-k-preserved
unfolding signal_at
loop-k-preserved c =
    let v = c.args in
    let l = c.loop-k in
    let most = c.at_most-n in
    let n = most.result in
    let fewer : n ≤ v.size - l.k = omega (arith, most.ensures.0, at_most_fewer (56 - (v.q + l.k) % 8) (v.size - l.k)) in
    let b : Bytes v.source.now = λ k. (c.type_inv.source k).fits in
    let piece = c.take_signal_in-piece in
    let has : Bits (order_number v.order) piece.result.bits v.source.now (v.p + l.k) piece.result.size =
    rw (piece.ensures, c.low_first-bytes.ensures)
    (piece_bits (order_number v.order) v.source.now (v.p + l.k) n b (omega (arith, most.ensures.1))) in
    let whole : fitting (v.q + l.k) piece.result.size ≡ n =
    rw piece.ensures (fitting_is (v.q + l.k) n (omega (arith, most.ensures.1))) in
    let put = c.put_signal_in-changed in
    let kept = rw whole at (put.ensures.payload v.source.now (v.p + l.k) has) in
    let answer = rw whole at (put.ensures.answer v.source.now (v.p + l.k) has) in (
      omega arith,
      search rules,
      kept ∙ rw (copied_parts (order_number v.order) v.source.now v.p v.kept.now v.q l.k n, ← l.invariant.2),
      rw (
        differs_parts (order_number v.order) v.source.now v.p v.kept.now v.q l.k n (omega arith),
        ← l.invariant.2,
        ← l.invariant.3,
        ← answer,
      ) (or_comm l.changed put.result),
    )
