-- A store into the table of timers and what an expiry does, in either order: an expiry reads no timer, and writes none but its own. On any area.
use mathlib.Core.Path.{◌≡◌, refl, sym, ap, ◌∙◌}
use mathlib.Core.Logic.{◌≢◌}
use mathlib.Core.List.{List, [], ◌∷◌}
use Prim.Native.Nat.{ℕ, ◌+◌, ◌/◌, ◌%◌, ◌<◌, ◌≤◌}
use native.Mathlib.Omega.{arith}
use lib.ListN.{set}
use lib.Seq.{get_or-set_other, set_comm}
use Rattle.base.specs.Numbers.{byte_at}
use Rattle.base.proofs.Picks.{into}
use Rattle.bits.specs.Payload.{set_bit}
use Rattle.plan.specs.Rows.{Source, copy, failure, Claim}
use Rattle.area.specs.Layout.{tx_timers_start, long_start, payloads_start, requests_start, queue, long, waits, tx_reload, tx_timer, spot}
use Rattle.area.specs.Layout.{order, home_node, claims}
use Rattle.area.specs.Queue.{ends_of, slot, behind, set_ends, queued, scheduled, requested}
use Rattle.area.specs.Claims.{expired, done_by, sent_by, done, all_done}
use Rattle.area.proofs.Frame.{slot_low}
use Rattle.area.proofs.Kept.{Kept, Kept-refl, Kept-low, order_kept, type_on_kept, home_node_kept, rx_frame_kept, claims_kept}
use Rattle.ticking.specs.Tick.{long_lowered, expired_area, rx_on_lin, rx_expiry, expiry_report}
use Rattle.ticking.proofs.ExpiryLaws.{report_set}

module _ (p v : ℕ) (l : tx_timers_start ≤ p) (m : p < long_start) where
  other : (a : List ℕ) (j : ℕ) → j ≢ p → byte_at (set a p v) j ≡ byte_at a j
  other a j d = get_or-set_other a p j v 0 d

  pub Kept-timer : (a : List ℕ) → Kept a (set a p v)
  Kept-timer a = Kept-low p v (omega arith) (omega arith) (Kept-refl a)

  -- ---- scheduling

  two_apart :
      (i : ℕ) → p ≢ i → p ≢ i + 1 → (a : List ℕ) (x y : ℕ) → set (set (set a p v) i x) (i + 1) y ≡ set (set (set a i x) (i + 1) y) p v
  two_apart i d e a x y = rw (set_comm a p i v x d) (set_comm (set a i x) p (i + 1) v y e)

  ends_apart : (a : List ℕ) (n : ℕ) → n < 16 → ends_of (set a p v) n ≡ ends_of a n
  unfolding ends_of
  ends_apart a n h =
      rw (
        other a (queue n) (λ e. omega arith),
        other a (queue n + 1) (λ e. omega arith),
        other a (queue n + 2) (λ e. omega arith),
        other a (queue n + 2 + 1) (λ e. omega arith),
        other a (queue n + 4) (λ e. omega arith),
        other a (queue n + 4 + 1) (λ e. omega arith),
        other a (queue n + 6) (λ e. omega arith),
        other a (queue n + 6 + 1) (λ e. omega arith),
      )

  queued_apart : (a : List ℕ) (n t : ℕ) → n < 16 → queued (set a p v) n t ≡ set (queued a n t) p v
  unfolding queued set_ends
  queued_apart a n t h =
      let at = behind (ends_of a n) (ends_of a n).waiting in
      let low = slot_low (ends_of a n) at in
      rw (
        ends_apart a n h,
        two_apart (slot (ends_of a n) at) (λ e. omega arith) (λ e. omega arith),
        two_apart (queue n + 4) (λ e. omega arith) (λ e. omega arith),
        two_apart (queue n + 6) (λ e. omega arith) (λ e. omega arith),
      )

  -- where the store and the reload of the frame's timer may change places, the store and the scheduling may
  scheduled_either :
      (a : List ℕ) (t : ℕ) → t < 256
      → ((b : List ℕ) → set (set b p v) (tx_timer t) (byte_at a (tx_reload t)) ≡ set (set b (tx_timer t) (byte_at a (tx_reload t))) p v)
      → scheduled (set a p v) t ≡ set (scheduled a t) p v
  unfolding scheduled
  scheduled_either a t h swap =
      let n = home_node a t in
      rw (
        other a (waits t) (λ e. omega arith),
        other a (tx_reload t) (λ e. omega arith),
        home_node_kept (Kept-timer a) t (omega arith),
        queued_apart a n t (omega arith),
        set_comm (queued a n t) p (waits t) v 1 (λ e. omega arith),
        swap (set (queued a n t) (waits t) 1),
      ) (sym (into (λ (x : List ℕ). set x p v) _ _ _))

  pub scheduled_apart : (a : List ℕ) (t : ℕ) → t < 256 → p ≢ tx_timer t → scheduled (set a p v) t ≡ set (scheduled a t) p v
  scheduled_apart a t h d = scheduled_either a t h (λ b. set_comm b p (tx_timer t) v (byte_at a (tx_reload t)) d)

  -- ---- the expiry of an Rx timer

  set_bit_apart : (o q w : ℕ) (a : List ℕ) → payloads_start ≤ q / 8 → set_bit o (set a p v) q w ≡ set (set_bit o a q w) p v
  unfolding set_bit
  set_bit_apart o q w a h = rw (other a (q / 8) (λ e. omega arith)) (set_comm a p (q / 8) v _ (λ e. omega arith))

  done_apart : (o r : ℕ) (c : Claim) (a : List ℕ) → done o (expired r) (set a p v) c ≡ set (done o (expired r) a c) p v
  unfolding done done_by sent_by
  done_apart o r c a = go c.from
    where
      to : List ℕ → Source → List ℕ
      to x s =
          sent_by o (expired r) x (done_by o (expired r) x (spot (c.tx % 256) c.at) s) (c.tx % 256) (spot (c.tx % 256) c.at) s

      go : (s : Source) → to (set a p v) s ≡ set (to a s) p v
      go (copy q s) = refl
      go failure = set_bit_apart o (spot (c.tx % 256) c.at) 1 a (omega arith)

  all_done_apart : (o r : ℕ) (cs : List Claim) (a : List ℕ) → all_done o (expired r) cs (set a p v) ≡ set (all_done o (expired r) cs a) p v
  unfolding all_done
  all_done_apart o r [] a = refl
  all_done_apart o r (c ∷ cs) a = ap (all_done o (expired r) cs) (done_apart o r c a) ∙ all_done_apart o r cs _

  expired_apart : (a : List ℕ) (r : ℕ) → r < 256 → expired_area (set a p v) r ≡ set (expired_area a r) p v
  unfolding expired_area long_lowered
  expired_apart a r h =
      let b = all_done (order a) (expired r) (claims a r) a in
      rw (
        order_kept (Kept-timer a),
        claims_kept (Kept-timer a) r h,
        all_done_apart (order a) r (claims a r) a,
        rx_frame_kept (Kept-timer b) r h,
        other b (long r) (λ e. omega arith),
      ) (set_comm b p (long r) v _ (λ e. omega arith))

  requested_apart : (a : List ℕ) (r : ℕ) → r < 256 → requested (set a p v) r ≡ set (requested a r) p v
  unfolding requested
  requested_apart a r h =
      let n = home_node a (requests_start + r) in
      rw (
        other a (waits (requests_start + r)) (λ e. omega arith),
        home_node_kept (Kept-timer a) (requests_start + r) (omega arith),
        queued_apart a n (requests_start + r) (omega arith),
        set_comm (queued a n (requests_start + r)) p (waits (requests_start + r)) v 1 (λ e. omega arith),
      ) (sym (into (λ (x : List ℕ). set x p v) _ _ _))

  lin_apart : (a : List ℕ) (r : ℕ) → r < 256 → rx_on_lin (set a p v) r ≡ rx_on_lin a r
  unfolding rx_on_lin
  lin_apart a r h = rw (home_node_kept (Kept-timer a) (requests_start + r) (omega arith), type_on_kept (Kept-timer a) (home_node a (requests_start + r)))

  pub expiry_apart : (a : List ℕ) (r : ℕ) → r < 256 → rx_expiry (set a p v) r ≡ set (rx_expiry a r) p v
  unfolding rx_expiry
  expiry_apart a r h =
      rw (lin_apart a r h, requested_apart a r h, expired_apart a r h) (sym (into (λ (x : List ℕ). set x p v) _ _ _))

  pub report_apart : (a : List ℕ) (r : ℕ) → r < 256 → expiry_report (set a p v) r ≡ expiry_report a r
  unfolding expiry_report
  report_apart a r h = rw (lin_apart a r h, report_set a r p v (omega arith))

-- scheduling a frame and then giving its timer the reload value, which it has already if it did not wait
pub scheduled_stored :
    (a : List ℕ) (t : ℕ) → t < 256
    → set (scheduled a t) (tx_timer t) (byte_at a (tx_reload t)) ≡ scheduled (set a (tx_timer t) (byte_at a (tx_reload t))) t
scheduled_stored a t h = sym (scheduled_either (tx_timer t) (byte_at a (tx_reload t)) (omega arith) (omega arith) a t h (λ b. refl))
