-- What an event does to one claim, by what the claim is; and that neither the event's Rx number nor the claim's counts.
use mathlib.Core.Path.{◌≡◌, refl, ap, ◌∙◌}
use mathlib.Core.List.{List, [], ◌∷◌}
use Prim.Native.Nat.{ℕ, ◌+◌, ◌%◌, ◌<◌, ◌≤◌}
use native.Mathlib.Omega.{arith}
use Rattle.bits.specs.Order.{order_told}
use Rattle.bits.specs.Payload.{set_bit}
use Rattle.bits.specs.Word.{fitting}
use Rattle.bits.proofs.Fitting.{fitting_is}
use Rattle.bits.proofs.OrderLaws.{set_bit_told, copied_told, differs_told}
use Rattle.plan.specs.Rows.{Source, copy, failure, width_of, Claim}
use Rattle.area.specs.Layout.{spot}
use Rattle.area.specs.Claims.{RxEvent, accepted, expired, done_by, sent_by, done, all_done, failure_written}
use Rattle.area.proofs.Frame.{Narrow}

abbrev pub claim_of : ℕ → ℕ → ℕ → Source → Claim
claim_of n tx q s = record { rx = n; tx = tx; at = q; from = s }

-- ---- the failure bit, and a copy at an expiry

module _ (o r : ℕ) (a : List ℕ) (n tx q : ℕ) where
  pub done_cleared : (pl : List ℕ) → done o (accepted r pl) a (claim_of n tx q failure) ≡ set_bit o a (spot (tx % 256) q) 0
  unfolding done done_by sent_by
  done_cleared pl = refl

  pub done_failed : done o (expired r) a (claim_of n tx q failure) ≡ set_bit o a (spot (tx % 256) q) 1
  unfolding done done_by sent_by
  done_failed = refl

  pub done_stays : (p s : ℕ) → done o (expired r) a (claim_of n tx q (copy p s)) ≡ a
  unfolding done done_by sent_by
  done_stays p s = refl

-- ---- whose event it is, and whose claim

pub done_rx : (o : ℕ) (e : RxEvent) (a : List ℕ) (n m tx q : ℕ) (s : Source) → done o e a (claim_of n tx q s) ≡ done o e a (claim_of m tx q s)
unfolding done
done_rx o e a n m tx q s = refl

-- the event, as one of Rx frame n
abbrev pub numbered : ℕ → RxEvent → RxEvent
numbered n (accepted r pl) = accepted n pl
numbered n (expired r) = expired n

module _ (o n : ℕ) where
  pub done-numbered : (e : RxEvent) (a : List ℕ) (c : Claim) → done o (numbered n e) a c ≡ done o e a c
  unfolding done done_by sent_by
  done-numbered e a c = go e c.from
    where
      to : RxEvent → Source → List ℕ
      to e s = sent_by o e a (done_by o e a (spot (c.tx % 256) c.at) s) (c.tx % 256) (spot (c.tx % 256) c.at) s

      go : (e : RxEvent) (s : Source) → to (numbered n e) s ≡ to e s
      go (accepted r pl) (copy p s) = refl
      go (accepted r pl) failure = refl
      go (expired r) (copy p s) = refl
      go (expired r) failure = refl

  pub all_done-numbered : (e : RxEvent) (cs : List Claim) (a : List ℕ) → all_done o (numbered n e) cs a ≡ all_done o e cs a
  unfolding all_done
  all_done-numbered e [] a = refl
  all_done-numbered e (c ∷ cs) a = all_done-numbered e cs _ ∙ ap (all_done o e cs) (done-numbered e a c)

-- ---- the order is that which the head's byte tells

module _ (byte : ℕ) where
  pub done_told : (e : RxEvent) (a : List ℕ) (c : Claim) → done (order_told byte) e a c ≡ done byte e a c
  unfolding done done_by sent_by
  done_told e a c = go e c.from
    where
      t : ℕ
      t = c.tx % 256

      to : ℕ → RxEvent → Source → List ℕ
      to o e s = sent_by o e a (done_by o e a (spot t c.at) s) t (spot t c.at) s

      go : (e : RxEvent) (s : Source) → to (order_told byte) e s ≡ to byte e s
      go (accepted r pl) (copy p s) = rw (
        copied_told byte pl p (fitting (spot t c.at) s) a (spot t c.at),
        differs_told byte pl p (fitting (spot t c.at) s) a (spot t c.at),
      )
      go (accepted r pl) failure = set_bit_told byte a (spot t c.at) 0
      go (expired r) (copy p s) = refl
      go (expired r) failure = set_bit_told byte a (spot t c.at) 1

  pub all_done_told : (e : RxEvent) (cs : List Claim) (a : List ℕ) → all_done (order_told byte) e cs a ≡ all_done byte e cs a
  unfolding all_done
  all_done_told e [] a = refl
  all_done_told e (c ∷ cs) a = all_done_told e cs _ ∙ ap (all_done byte e cs) (done_told e a c)

  pub failure_written_told : (v : ℕ) (a : List ℕ) (at : ℕ) → failure_written (order_told byte) v a at ≡ failure_written byte v a at
  unfolding failure_written
  failure_written_told v a at = rw (set_bit_told byte a _ v)

-- ---- a signal that fits its Tx frame's payload is copied whole: payloads begin at a byte

pub fitting-spot : (t q s : ℕ) → q + s ≤ 64 → fitting (spot t q) s ≡ s
fitting-spot t q s h = fitting_is (spot t q) s (omega arith)

-- ---- the claims that a plan of bytes states are narrow

module _ (n tx q : ℕ) (h : q < 256) where
  pub Narrow-copy : (p s : ℕ) → s ≤ 256 → Narrow (claim_of n tx q (copy p s))
  unfolding width_of
  Narrow-copy p s l = record { at = h; width = l }

  pub narrow_failure : Narrow (claim_of n tx q failure)
  unfolding width_of
  narrow_failure = record { at = h; width = omega arith }
