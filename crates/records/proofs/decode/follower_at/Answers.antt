-- The kind byte and the bytes that are left decide as they do for the record there.
use Rattle.std.proofs.Common.{ap, arith}
use Rattle.base.specs.Pick.{pick}
use Rattle.records.proofs.Followers.{follower_cut, follower_destination, follower_other, follower_signal}
use Rattle.records.specs.Kinds.{form_of, length_of}
use Rattle.records.proofs.decode.follower_at.Goals as goal

pub returns-then-left-lt-DESTINATION_BYTES : goal.returns-then-left-lt-DESTINATION_BYTES
unfolding form_of length_of pick
returns-then-left-lt-DESTINATION_BYTES c = let bytes = ap length_of c.if-kind-eq6.true in
    follower_cut _ _ (omega arith) (omega (arith, bytes)) (omega (arith, bytes))

pub returns-then-kind-eq6 : goal.returns-then-kind-eq6
returns-then-kind-eq6 c = follower_destination _ _ (omega arith) c.if-kind-eq6.true (omega arith) c.destination_at.ensures

pub returns-then-left-lt-SIGNAL_BYTES : goal.returns-then-left-lt-SIGNAL_BYTES
unfolding form_of length_of pick
returns-then-left-lt-SIGNAL_BYTES c = let bytes = ap length_of c.if-kind-eq5.true in
    follower_cut _ _ (omega arith) (omega (arith, bytes)) (omega (arith, bytes))

pub returns-then-kind-eq5 : goal.returns-then-kind-eq5
returns-then-kind-eq5 c = follower_signal _ _ (omega arith) c.if-kind-eq5.true (omega arith) c.signal_at.ensures

pub returns : goal.returns
returns c = follower_other _ _ c.if-kind-eq5.false c.if-kind-eq6.false
