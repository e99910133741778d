-- One turn of the walk along an Rx frame's signals and destinations; and what the whole of it is.
use mathlib.Core.Path.{◌≡◌, sym, ap, ◌∙◌}
use mathlib.Core.Logic.{◌≢◌}
use mathlib.Core.Bool.{Bool, true, false}
use mathlib.Core.List.{List}
use mathlib.Core.Option.{none}
use Prim.Native.Nat.{ℕ, ◌+◌, ◌%◌, ◌≤◌, ◌<◌}
use native.Mathlib.Omega.{arith}
use lib.ListN.{length}
use Rattle.base.specs.Numbers.{byte_at, two_at}
use Rattle.bits.specs.Order.{order_told}
use Rattle.records.specs.Kinds.{rx_fields}
use Rattle.records.specs.Records.{records_at}
use Rattle.plan.specs.Rows.{copy, Claim, claims_from}
use Rattle.area.specs.Layout.{counter_byte, row_bound, rx_timer, long, order, rx_fields_place, stored, rx_there, claims}
use Rattle.area.specs.Claims.{accepted, done, all_done, failure_written}
use Rattle.area.proofs.Frame.{Same, Same-refl, Same-set}
use Rattle.area.proofs.Kept.{Kept, Kept-refl, Kept-low, Kept-then, stored_kept, order_kept}
use Rattle.area.proofs.ClaimLaws.{claim_of, all_done-numbered, all_done_told, failure_written_told}
use Rattle.area.proofs.Copies.{copies_destination, copies_signal, copies_stop, copies_end, copies_rx, accepted_claims, Kept-failure, done_low}
use Rattle.reception.specs.Reception.{restarted, restarted_by, accepted_by}
use Rattle.reception.specs.Walk.{walked}

-- ---- the record at a place

module _ (o : ℕ) (source : List ℕ) (p s : ℕ) (bytes : List ℕ) (k : ℕ) (a : List ℕ) where
  pub walk_end : length bytes < k + 4 → walked o source p s bytes k a ≡ a
  unfolding walked all_done
  walk_end h = rw (copies_end 0 p s bytes k h)

  pub walk_stop : byte_at bytes k ≢ 5 → byte_at bytes k ≢ 6 → walked o source p s bytes k a ≡ a
  unfolding walked all_done
  walk_stop n5 n6 = rw (copies_stop 0 p s bytes k n5 n6)

  pub walk_signal :
      k + 3 ≤ length bytes → byte_at bytes k ≡ 5
      → walked o source p s bytes k a ≡ walked o source (byte_at bytes (k + 1)) (byte_at bytes (k + 2)) bytes (k + 3) a
  unfolding walked
  walk_signal h e = rw (copies_signal 0 p s bytes k h e)

  -- t is the low byte of the destination's Tx number
  pub walk_destination :
      (t : ℕ) → t < 256 → t ≡ byte_at bytes (k + 2) → k + 4 ≤ length bytes → byte_at bytes k ≡ 6
      → walked o source p s bytes k a
      ≡ walked o source p s bytes (k + 4) (done o (accepted 0 source) a (claim_of 0 t (byte_at bytes (k + 3)) (copy p s)))
  unfolding walked all_done
  walk_destination t small low h e =
      let next : k + 1 + 1 ≡ k + 2 = omega arith in
      let same : two_at bytes (k + 1) % 256 ≡ t % 256 = rw next (omega arith) in
      ap (λ (cs : List Claim). all_done o (accepted 0 source) cs a) (copies_destination 0 p s bytes k h e)
      ∙ ap (all_done o (accepted 0 source) (claims_from 0 none p s (records_at bytes (k + 4))))
      (done_low o (accepted 0 source) a 0 (two_at bytes (k + 1)) t (byte_at bytes (k + 3)) (copy p s) same)

-- ---- the whole walk

pub Kept-restarted : (a : List ℕ) (r : ℕ) → r < row_bound → Kept a (restarted a r)
unfolding restarted
Kept-restarted a r h =
    Kept-low (long (r % 256)) _ (omega arith) (omega arith) (Kept-low (rx_timer r) _ (omega arith) (omega arith) (Kept-refl a))

pub counter_restarted : (a : List ℕ) (r : ℕ) → Same (λ j. j ≡ counter_byte) a (restarted a r)
unfolding restarted
counter_restarted a r = Same-set _ _ (λ p. omega arith) (Same-set _ _ (λ p. omega arith) (Same-refl a))

-- on an area that keeps the plan, once the failure bit is written, the walk from the end of the Rx frame's fields on does all that the claims say
pub walked-claims :
    (a : List ℕ) (r : ℕ) (payload b c : List ℕ) → Kept a b → c ≡ failure_written (order a) 0 b (rx_fields_place a r)
    → (rx_there b (rx_fields_place a r)).position < 256
    → walked (order a) payload 0 0 (stored c) (rx_fields_place a r + rx_fields) c ≡ all_done (order a) (accepted r payload) (claims a r) b
unfolding walked claims
walked-claims a r payload b c kept f narrow =
    let at = rx_fields_place a r in
    let same : stored c ≡ stored b = rw f (stored_kept (Kept-failure (order a) 0 b at narrow)) in
    rw same
    (copies_rx (order a) (accepted 0 payload) 0 r 0 0 (records_at (stored b) (at + rx_fields)) c
    ∙ sym (all_done-numbered (order a) r (accepted 0 payload) _ c)
    ∙ ap (all_done (order a) (accepted r payload) (claims_from r none 0 0 (records_at (stored b) (at + rx_fields)))) f
    ∙ sym (accepted_claims (order a) r a at b payload (stored_kept kept)))

Kept-again : (timer : Bool) (a : List ℕ) (r : ℕ) → r < row_bound → Kept a (restarted_by timer a r)
unfolding restarted restarted_by
Kept-again true a r h = Kept-restarted a r h
Kept-again false a r h = Kept-low (long (r % 256)) _ (omega arith) (omega arith) (Kept-refl a)

-- the walk goes in the order that a byte tells
pub walked_by_told :
    (byte : ℕ) (source : List ℕ) (p s : ℕ) (bytes : List ℕ) (k : ℕ) (a : List ℕ) → walked (order_told byte) source p s bytes k a ≡ walked byte source p s bytes k a
unfolding walked
walked_by_told byte source p s bytes k a = all_done_told byte _ _ a

-- and so in that which the head's byte tells
pub walked_told :
    (o : ℕ) (a payload : List ℕ) (from : ℕ) → o ≡ order_told (order a)
    → walked o payload 0 0 (stored a) from a ≡ walked (order a) payload 0 0 (stored a) from a
unfolding walked
walked_told o a payload from told = rw (told, all_done_told)

-- once the row has started again: what an acceptance does
pub walked_accepted :
    (timer : Bool) (a : List ℕ) (r : ℕ) (payload b c : List ℕ) (o : ℕ) → o ≡ order_told (order b) → r < row_bound
    → b ≡ restarted_by timer a r → c ≡ failure_written o 0 b (rx_fields_place a r) → (rx_there b (rx_fields_place a r)).position < 256
    → walked (order c) payload 0 0 (stored c) (rx_fields_place a r + rx_fields) c ≡ accepted_by timer a r payload
unfolding accepted_by
walked_accepted timer a r payload b c o told h e f narrow =
    let place = rx_fields_place a r in
    let kept : Kept a b = rw e (Kept-again timer a r h) in
    let same : order b ≡ order a = order_kept kept in
    let written : c ≡ failure_written (order a) 0 b place = f ∙ rw (told, same) (failure_written_told (order a) 0 b place) in
    let moved : Kept b c = rw written (Kept-failure (order a) 0 b place narrow) in
    let after : order c ≡ order a = order_kept (Kept-then kept moved) in
    rw (after, ← e) (walked-claims a r payload b c kept written narrow)
