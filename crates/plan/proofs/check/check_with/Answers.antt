-- Each turn reads a record, judges it, and either goes on where the rest decides, or refuses as the whole plan does.
use Rattle.std.proofs.Common.{arith, refl, sym, ◌∙◌, ◌≡◌}
use Rattle.plan.proofs.CheckLaws.{judged_other}
use Rattle.records.specs.Reading.{follower_of}
use Rattle.records.specs.declared.record.Follower.TheVariants as follower
use Rattle.std.specs.Prelude.{Ok, Err}
use Rattle.plan.proofs.Turn.{Here, Turned, begins, refuses, ends, falls, signal_turned, signal_goes, signal_refuses, destination_turned, destination_goes, other_goes, other_refuses}
use Rattle.plan.proofs.check.check_with.Goals as goal

pub loop-at-init : goal.loop-at-init
loop-at-init c = rw (c.begin-p.ensures, c.requires) (begins _)

pub loop-at-preserved-in-Ok : goal.loop-at-preserved-in-Ok
loop-at-preserved-in-Ok c = let here : Here c.args.plan.now c.loop-at.at c.loop-at.p c.loop-at.sizes c.loop-at.sets =
    record { short = omega arith; inside = c.loop-at-test.true; stood = c.loop-at.invariant } in
    signal_goes (signal_turned here c.in-Signal.ensures refl c.in-Ok.ensures) refl

pub returns-in-Err : goal.returns-in-Err
returns-in-Err c = let here : Here c.args.plan.now c.loop-at.at c.loop-at.p c.loop-at.sizes c.loop-at.sets =
    record { short = omega arith; inside = c.loop-at-test.true; stood = c.loop-at.invariant } in
    let all = signal_refuses (signal_turned here c.in-Signal.ensures refl c.in-Err.ensures) refl in
    record { verdict = all.0; sets = all.1 }

pub loop-at-preserved-in-Ok-next : goal.loop-at-preserved-in-Ok-next
loop-at-preserved-in-Ok-next c = let here : Here c.args.plan.now c.loop-at.at c.loop-at.p c.loop-at.sizes c.loop-at.sets =
    record { short = omega arith; inside = c.loop-at-test.true; stood = c.loop-at.invariant } in
    destination_goes (destination_turned here c.in-Destination.ensures refl c.in-Ok-next.ensures.next) refl c.in-Ok-next.ensures.sets

pub returns-in-Err-next : goal.returns-in-Err-next
returns-in-Err-next c = let here : Here c.args.plan.now c.loop-at.at c.loop-at.p c.loop-at.sizes c.loop-at.sets =
    record { short = omega arith; inside = c.loop-at-test.true; stood = c.loop-at.invariant } in
    let all = refuses (destination_turned here c.in-Destination.ensures refl c.in-Err-next.ensures.next) refl c.in-Err-next.ensures.sets in
    record { verdict = all.0; sets = all.1 }

pub loop-at-smaller : goal.loop-at-smaller
loop-at-smaller c = let here : Here c.args.plan.now c.loop-at.at c.loop-at.p c.loop-at.sizes c.loop-at.sets =
    record { short = omega arith; inside = c.loop-at-test.true; stood = c.loop-at.invariant } in
    let other : follower_of c.read_record-read.result.found ≡ follower.Other = rw c.read_record-read.ensures (sym c.in-Other.ensures) in
    let turn : Turned c.args.plan.now c.loop-at.at c.loop-at.p c.loop-at.sizes c.loop-at.sets c.read_record-read.result (Ok c.in-Ok-next-2.q) =
    record { here = here; found = c.read_record-read.ensures; done = c.in-Ok-next-2.ensures.next ∙ judged_other _ _ _ _ other } in
    falls turn

pub loop-at-preserved : goal.loop-at-preserved
loop-at-preserved c = let here : Here c.args.plan.now c.loop-at.at c.loop-at.p c.loop-at.sizes c.loop-at.sets =
    record { short = omega arith; inside = c.loop-at-test.true; stood = c.loop-at.invariant } in
    let other : follower_of c.read_record-read.result.found ≡ follower.Other = rw c.read_record-read.ensures (sym c.in-Other.ensures) in
    let turn : Turned c.args.plan.now c.loop-at.at c.loop-at.p c.loop-at.sizes c.loop-at.sets c.read_record-read.result (Ok c.in-Ok-next-2.q) =
    record { here = here; found = c.read_record-read.ensures; done = c.in-Ok-next-2.ensures.next ∙ judged_other _ _ _ _ other } in
    other_goes turn other refl c.in-Ok-next-2.ensures.sizes.0 c.in-Ok-next-2.ensures.sizes.1

pub returns-in-Err-next-2 : goal.returns-in-Err-next-2
returns-in-Err-next-2 c = let here : Here c.args.plan.now c.loop-at.at c.loop-at.p c.loop-at.sizes c.loop-at.sets =
    record { short = omega arith; inside = c.loop-at-test.true; stood = c.loop-at.invariant } in
    let other : follower_of c.read_record-read.result.found ≡ follower.Other = rw c.read_record-read.ensures (sym c.in-Other.ensures) in
    let turn : Turned c.args.plan.now c.loop-at.at c.loop-at.p c.loop-at.sizes c.loop-at.sets c.read_record-read.result (Err c.in-Err-next-2.bad) =
    record { here = here; found = c.read_record-read.ensures; done = c.in-Err-next-2.ensures.next ∙ judged_other _ _ _ _ other } in
    let all = other_refuses turn other refl in
    record { verdict = all.0; sets = all.1 }

pub returns : goal.returns
returns c = let all = ends _ _ _ _ _ c.loop-at.invariant c.loop-at-test.false in
    record { verdict = c.end.ensures ∙ all.0; sets = all.1 }
