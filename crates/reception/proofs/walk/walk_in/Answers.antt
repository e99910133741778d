-- `walk::walk_in` meets its contract. The loop's invariant: the rest of the walk gives what the whole gives, the area has kept the plan, and the signal's
-- bits are the payload's. The measure is what is left of the part that holds the plan.
use mathlib.Core.Path.{refl, sym, ◌∙◌}
use native.Mathlib.Omega.{arith}
use Rattle.base.specs.Pick.{pick}
use Rattle.base.specs.Numbers.{at_most}
use Rattle.bits.specs.Order.{order_number}
use Rattle.bits.specs.Signal.{signal_at}
use Rattle.bits.proofs.WordLaws.{ones_none, signal_bits}
use Rattle.area.specs.Layout.{stored}
use Rattle.area.specs.Claims.{accepted}
use Rattle.area.proofs.StoredLaws.{stored-length}
use Rattle.area.proofs.Kept.{Kept-refl, Kept-then, Kept-done, stored_kept}
use Rattle.area.proofs.ClaimLaws.{Narrow-copy}
use Rattle.reception.proofs.WalkLaws.{walk_end, walk_signal, walk_destination, walk_stop}
use Rattle.reception.proofs.walk.walk_in.Goals as goal

pub loop-at-init : goal.loop-at-init
unfolding at_most pick
loop-at-init c = (Kept-refl _, omega arith, omega arith, refl, sym (ones_none _), λ k h l. absurd (omega arith))

pub overflow_add-at : goal.overflow_add-at
overflow_add-at c = omega (arith, c.loop-at.invariant.2)

pub plan_byte-kind-requires : goal.plan_byte-kind-requires
plan_byte-kind-requires c = (omega (arith, c.loop-at-test.true), omega (arith, c.loop-at.invariant.0.len))

pub overflow_add-at-then-kind-eq-DESTINATION_KIND : goal.overflow_add-at-then-kind-eq-DESTINATION_KIND
overflow_add-at-then-kind-eq-DESTINATION_KIND c = omega (arith, c.loop-at-test.true)

pub plan_byte-requires : goal.plan_byte-requires
plan_byte-requires c = (omega (arith, c.loop-at-test.true), omega (arith, c.loop-at.invariant.0.len))

pub overflow_add-at-then-kind-eq-DESTINATION_KIND-2 : goal.overflow_add-at-then-kind-eq-DESTINATION_KIND-2
overflow_add-at-then-kind-eq-DESTINATION_KIND-2 c = omega (arith, c.loop-at-test.true)

pub plan_byte-requires-then-kind-eq-DESTINATION_KIND : goal.plan_byte-requires-then-kind-eq-DESTINATION_KIND
plan_byte-requires-then-kind-eq-DESTINATION_KIND c =
    (omega (arith, c.loop-at-test.true), omega (arith, c.loop-at.invariant.0.len))

pub copy_claim_in-requires : goal.copy_claim_in-requires
copy_claim_in-requires c =
    let l = c.loop-at in
    (l.invariant.4, c.wide.ensures.1, c.wide-q.ensures.1, omega (arith, l.invariant.0.len, c.requires.2))

pub overflow_add-at-then-kind-eq-DESTINATION_KIND-3 : goal.overflow_add-at-then-kind-eq-DESTINATION_KIND-3
overflow_add-at-then-kind-eq-DESTINATION_KIND-3 c =
    omega (arith, c.loop-at-test.true)

pub loop-at-smaller-then-kind-eq-DESTINATION_KIND : goal.loop-at-smaller-then-kind-eq-DESTINATION_KIND
loop-at-smaller-then-kind-eq-DESTINATION_KIND c =
    omega (arith, c.loop-at-test.true)

pub loop-at-preserved-then-kind-eq-DESTINATION_KIND : goal.loop-at-preserved-then-kind-eq-DESTINATION_KIND
loop-at-preserved-then-kind-eq-DESTINATION_KIND c =
    let v = c.args in
    let l = c.loop-at in
    let p = l.signal.position in
    let s = l.signal.size in
    let same = stored_kept l.invariant.0 in
    let size = stored-length v.area.now c.requires.2 in
    let kind = sym (rw same at c.plan_byte-kind.ensures) ∙ c.if-kind-eq-DESTINATION_KIND.true in
    let t = c.wide in
    let q = c.wide-q in
    let low = t.ensures.0 ∙ (rw same at c.plan_byte.ensures) in
    let place = q.ensures.0 ∙ (rw same at c.plan_byte-then-kind-eq-DESTINATION_KIND.ensures) in
    let put = c.copy_claim_in.ensures v.payload.now l.invariant.5 in
    let narrow = Narrow-copy 0 t.result q.result q.ensures.1 p s (omega (arith, l.invariant.1)) in
    let kept = Kept-done (order_number c.args.order) (accepted 0 v.payload.now) l.area _ narrow in (
      rw put (Kept-then l.invariant.0 kept),
      l.invariant.1,
      omega (arith, c.loop-at-test.true),
      rw (put, place)
          (sym (walk_destination (order_number c.args.order) v.payload.now p s (stored v.area.now) l.at l.area t.result t.ensures.1 low
          (omega (arith, size, c.loop-at-test.true)) kind) ∙ l.invariant.3),
      l.invariant.4,
      l.invariant.5,
    )

pub shape_of-area-then-kind-ne-SIGNAL_KIND : goal.shape_of-area-then-kind-ne-SIGNAL_KIND
shape_of-area-then-kind-ne-SIGNAL_KIND c = c.loop-at.invariant.0.len

pub returns-then-kind-ne-SIGNAL_KIND : goal.returns-then-kind-ne-SIGNAL_KIND
returns-then-kind-ne-SIGNAL_KIND c =
    let v = c.args in
    let l = c.loop-at in
    let read = rw (stored_kept l.invariant.0) at c.plan_byte-kind.ensures in
    sym (walk_stop (order_number c.args.order) v.payload.now l.signal.position l.signal.size (stored v.area.now) l.at l.area
    (λ e. c.if-kind-ne-SIGNAL_KIND.true (read ∙ e)) (λ e. c.if-kind-eq-DESTINATION_KIND.false (read ∙ e))) ∙ l.invariant.3

pub overflow_add-at-else-kind-eq-DESTINATION_KIND : goal.overflow_add-at-else-kind-eq-DESTINATION_KIND
overflow_add-at-else-kind-eq-DESTINATION_KIND c = omega (arith, c.loop-at-test.true)

pub plan_byte-requires-else-kind-eq-DESTINATION_KIND : goal.plan_byte-requires-else-kind-eq-DESTINATION_KIND
plan_byte-requires-else-kind-eq-DESTINATION_KIND c =
    (omega (arith, c.loop-at-test.true), omega (arith, c.loop-at.invariant.0.len))

pub overflow_add-at-else-kind-eq-DESTINATION_KIND-2 : goal.overflow_add-at-else-kind-eq-DESTINATION_KIND-2
overflow_add-at-else-kind-eq-DESTINATION_KIND-2 c = omega (arith, c.loop-at-test.true)

pub plan_byte-requires-else-kind-eq-DESTINATION_KIND-2 : goal.plan_byte-requires-else-kind-eq-DESTINATION_KIND-2
plan_byte-requires-else-kind-eq-DESTINATION_KIND-2 c =
    (omega (arith, c.loop-at-test.true), omega (arith, c.loop-at.invariant.0.len))

pub overflow_add-at-else-kind-eq-DESTINATION_KIND-3 : goal.overflow_add-at-else-kind-eq-DESTINATION_KIND-3
overflow_add-at-else-kind-eq-DESTINATION_KIND-3 c = omega (arith, c.loop-at-test.true)

pub loop-at-smaller : goal.loop-at-smaller
loop-at-smaller c = omega (arith, c.loop-at-test.true)

pub loop-at-preserved : goal.loop-at-preserved
unfolding signal_at
loop-at-preserved c =
    let v = c.args in
    let l = c.loop-at in
    let same = stored_kept l.invariant.0 in
    let size = stored-length v.area.now c.requires.2 in
    let kind = sym (rw same at c.plan_byte-kind.ensures) ∙ c.if-kind-ne-SIGNAL_KIND.false in
    let position = c.wide-p.ensures.0 ∙ (rw same at c.plan_byte-else-kind-eq-DESTINATION_KIND.ensures) in
    let width = c.wide-s.ensures.0 ∙ (rw same at c.plan_byte-else-kind-eq-DESTINATION_KIND-2.ensures) in
    let bits =
    signal_bits (order_number c.args.order) v.payload.now c.wide-p.result c.wide-s.result (λ k. (c.type_inv.payload k).fits) c.requires.0 in
    rw c.take_signal_in-signal.ensures (
      l.invariant.0,
      c.wide-s.ensures.1,
      omega (arith, c.loop-at-test.true),
      rw (position, width)
          (sym (walk_signal (order_number c.args.order) v.payload.now l.signal.position l.signal.size (stored v.area.now) l.at l.area
          (omega (arith, size, c.loop-at-test.true)) kind) ∙ l.invariant.3),
      refl,
      rw (← c.bytes_of-bytes.ensures) at bits,
    )

pub shape_of-area : goal.shape_of-area
shape_of-area c = c.loop-at.invariant.0.len

pub returns : goal.returns
returns c =
    let v = c.args in
    let l = c.loop-at in
    let size = stored-length v.area.now c.requires.2 in
    sym (walk_end (order_number c.args.order) v.payload.now l.signal.position l.signal.size (stored v.area.now) l.at l.area
    (omega (arith, size, c.loop-at-test.false))) ∙ l.invariant.3
