-- `area::claims::copy_claim_in` meets its contract: the flags are read before the signal is put, which answers whether a bit changed.
use mathlib.Core.Path.{◌≡◌}
use Prim.Native.Nat.{◌%◌}
use native.Mathlib.Nat.{mod-eq_of_lt}
use native.Mathlib.Omega.{arith}
use Rattle.bits.proofs.Fitting.{fitting_room}
use Rattle.area.specs.Layout.{spot}
use Rattle.area.specs.Claims.{done, done_by, sent_by}
use Rattle.area.proofs.claims.copy_claim_in.Goals as goal

pub put_signal_in-changed-requires : goal.put_signal_in-changed-requires
put_signal_in-changed-requires c =
    let v = c.args in
    (c.requires.0, omega (arith, fitting_room (spot v.t.0 v.q) v.signal.size, c.requires.1, c.requires.2, c.requires.3))

pub returns : goal.returns
unfolding done done_by sent_by
returns c source has =
    let m : c.args.t.0 % 256 ≡ c.args.t.0 = mod-eq_of_lt c.requires.1 in
    let payload = c.put_signal_in-changed.ensures.payload source c.args.signal.position has in
    let changed = c.put_signal_in-changed.ensures.answer source c.args.signal.position has in
    rw (m, ← payload, ← changed, ← c.tx_flags.ensures) c.send_if.ensures
