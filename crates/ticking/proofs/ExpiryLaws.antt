-- What the code of an expiry does, and what the definition says of it: the failure bit is written where it stands, and leaves the long count and
-- the long counter, which a timer's own step leaves too.
use mathlib.Core.Path.{◌≡◌, refl, ap, ◌∙◌}
use mathlib.Core.Bool.{true, false}
use mathlib.Core.List.{List}
use Prim.Native.Nat.{ℕ, ◌+◌, ◌<◌}
use native.Mathlib.Omega.{arith}
use lib.Dec.{eqb}
use lib.ListN.{set}
use lib.Seq.{get_or-set_other}
use Rattle.std.specs.Prelude.{Some}
use Rattle.base.specs.Pick.{pick}
use Rattle.base.specs.Numbers.{byte_at}
use Rattle.base.proofs.Picks.{into}
use Rattle.bits.specs.Order.{order_told}
use Rattle.clock.specs.Timer.{lowered}
use Rattle.records.specs.declared.record.NodeType.{NodeType}
use Rattle.records.specs.declared.record.NodeType.TheVariants.{Can, Lin}
use Rattle.records.specs.Kinds.{rx_at}
use Rattle.records.specs.Nodes.{is_lin}
use Rattle.area.specs.Layout.{long_start, requests_start, long, order, type_on, rx_fields_place, home_node, rx_there, rx_frame, claims}
use Rattle.area.specs.Queue.{requested}
use Rattle.area.specs.Claims.{expired, all_done, failure_written}
use Rattle.area.proofs.Kept.{rx_frame_kept}
use Rattle.area.proofs.ClaimLaws.{failure_written_told}
use Rattle.area.proofs.Copies.{expired_claims, failure_off, Kept-failure}
use Rattle.answers.specs.declared.Timeout.TheVariants.{Short, Long}
use Rattle.ticking.specs.Tick.{long_lowered, expired_area, timed_out, report_number, expired_report, rx_on_lin, rx_expiry, expiry_report}

-- the failure bit is all that an expiry writes by the claims
pub failed : (a : List ℕ) (r : ℕ) → all_done (order a) (expired r) (claims a r) a ≡ failure_written (order a) 1 a (rx_fields_place a r)
unfolding claims
failed a r = expired_claims (order a) r a (rx_fields_place a r)

pub expired_is :
    (a : List ℕ) (r at o : ℕ) → o ≡ order_told (order a) → r < 256 → at ≡ rx_fields_place a r → (rx_there a at).position < 256
    → set (failure_written o 1 a at) (long r) (lowered (rx_there a at).long (byte_at a (long r))) ≡ expired_area a r
unfolding expired_area long_lowered
expired_is a r at o told h e narrow =
    let off = (failure_off {P = λ j. j ≡ long r} (λ j low high p. omega arith) (order a) 1 a at narrow).at (long r) refl in
    let frame = rx_frame_kept (Kept-failure (order a) 1 a at narrow) r h in
    let same : (rx_frame a r).long ≡ (rx_there a at).long = unfold rx_frame rx_at in rw e in
    rw (told, failure_written_told, failed a r, ← e, off, frame, same)

-- the byte of a timeout
pub timeout_reported : (a : List ℕ) (r : ℕ) → report_number (Some (timed_out a r)) ≡ expired_report a r
unfolding timed_out report_number expired_report
timeout_reported a r = into (λ t. report_number (Some t)) (eqb (byte_at a (long r)) 1) Long Short

-- a timer's own step leaves the long counters
pub report_set : (a : List ℕ) (r p v : ℕ) → p < long_start → expired_report (set a p v) r ≡ expired_report a r
unfolding expired_report
report_set a r p v h = rw (get_or-set_other a p (long r) v 0 (λ e. omega arith))

-- the type of the node decides: n is the frame's
module _ (a : List ℕ) (r n : ℕ) (type : NodeType) (node : n ≡ home_node a (requests_start + r)) (told : type ≡ type_on a n) where
  rx_on_lin_is : rx_on_lin a r ≡ is_lin type
  unfolding rx_on_lin
  rx_on_lin_is = rw (told, node)

  pub asks : {b : List ℕ} → type ≡ Lin → b ≡ requested a r → (0 ≡ expiry_report a r) × (b ≡ rx_expiry a r)
  unfolding expiry_report rx_expiry is_lin pick
  asks is e = let on : rx_on_lin a r ≡ true = rx_on_lin_is ∙ ap is_lin is in (rw on, rw on e)

  pub times_out : {x : ℕ} {b : List ℕ} → type ≡ Can → x ≡ expired_report a r → b ≡ expired_area a r → (x ≡ expiry_report a r) × (b ≡ rx_expiry a r)
  unfolding expiry_report rx_expiry is_lin pick
  times_out is d e = let off : rx_on_lin a r ≡ false = rx_on_lin_is ∙ ap is_lin is in (rw off d, rw off e)
