-- What an accepted payload does claim by claim, in an area and in the state that it shows.
use mathlib.Core.Path.{◌≡◌, refl, ap}
use mathlib.Core.Bool.{Bool}
use mathlib.Core.List.{List, [], ◌∷◌}
use Prim.Native.Nat.{ℕ, ◌+◌, ◌/◌, ◌%◌, ◌≤◌, ◌<◌}
use native.Mathlib.Omega.{arith}
use lib.Dec.{eqb}
use lib.ListN.{length}
use Rattle.records.specs.Records.{records}
use Rattle.plan.specs.Rows.{Source, copy, failure, width_of, Claim, tx_of, rows_of, order_in}
use Rattle.facts.specs.Good.{Each}
use Rattle.area.specs.Layout.{spot, order, tx_frame}
use Rattle.area.specs.Claims.{accepted, sent_if, done_by, sent_by, done, all_done}
use Rattle.area.proofs.ClaimLaws.{fitting-spot}
use Rattle.reception.specs.Reception.{restarted, accepted_area}
use Rattle.polling.specs.Polling.{long_again}
use Rattle.polling.specs.Polling as lin
use Rattle.tables.specs.Reads.{row_at}
use Rattle.model.specs.Plan.{said, tx_in, row_in}
use Rattle.model.specs.State.{State, with_long}
use Rattle.model.specs.Reception.{put_by, put}
use Rattle.model.specs.Reception as model
use Rattle.model.specs.Response as response
use Rattle.model.proofs.Lawful.{Lawful}
use Rattle.refines.proofs.Held.{Held}
use Rattle.refines.proofs.Writes.{write_rx, write_long}
use Rattle.refines.proofs.Bits.{Held-set_bit, Held-copied, same_differs}
use Rattle.refines.proofs.Sched.{held-scheduled}
use Rattle.refines.proofs.Follows.{chosen}

module _ {plan : List ℕ} (lawful : Lawful (said plan)) where
  -- ---- "the Tx frame is scheduled if flag 1 is set, or flag 2 is set and any destination bit differed from the kept one"

  Held-sent_if : {a : List ℕ} {s : State} → Held plan a s → (t : ℕ) → t < length (tx_of plan) → (flags : ℕ) (x y : Bool) → x ≡ y
      → Held plan (sent_if flags x a t) (model.sent_if (said plan) flags y s t)
  unfolding sent_if model.sent_if
  Held-sent_if h t l flags x y e =
      let sent = held-scheduled lawful h t l in
      chosen (Held plan) (eqb (flags % 2) 1) _ refl (λ f. sent)
      (λ f. chosen (Held plan) (eqb (flags / 2 % 2) 1) _ refl (λ g. chosen (Held plan) x y e (λ c. sent) (λ c. h)) (λ g. h))

  -- ---- one claim

  module _ (o r : ℕ) (e : o ≡ order_in (records plan)) (payload : List ℕ) (c : Claim) (l : c.tx < length (tx_of plan)) where
    Held-put_by : {a : List ℕ} {s : State} → Held plan a s → (t : ℕ) → t ≡ c.tx → (z : Source) → c.at + width_of z ≤ 64
        → Held plan
        (sent_by o (accepted r payload) a (done_by o (accepted r payload) a (spot t c.at) z) t (spot t c.at) z)
        (put_by (said plan) s payload c z)
    unfolding sent_by done_by put_by width_of
    Held-put_by {a} {s} h t i (copy p k) m =
        let f : (tx_frame a c.tx).flags ≡ (tx_in (said plan) c.tx).flags = ap (λ x. x.flags) (h.reads.tx c.tx l).frame in
        let order = order_in (records plan) in
        rw (i, e, f, fitting-spot c.tx c.at k m)
        (Held-sent_if (Held-copied h c.tx l order payload p k c.at m) c.tx l _ _ _ (same_differs h c.tx l order payload p k c.at m))
    Held-put_by h t i failure m = rw (i, e) (Held-set_bit h c.tx l (order_in (records plan)) c.at 0 (omega arith) (omega arith))

    Held-put : {a : List ℕ} {s : State} → Held plan a s → c.at + width_of c.from ≤ 64
        → Held plan (done o (accepted r payload) a c) (put_by (said plan) s payload c c.from)
    unfolding done
    Held-put h m = Held-put_by h (c.tx % 256) (omega (arith, l, h.good.counts.tx)) c.from m

  -- ---- "signals are copied in plan order, each to its destinations in order"

  Held-puts : {a : List ℕ} {s : State} (o r : ℕ) → o ≡ order_in (records plan) → (payload : List ℕ) (cs : List Claim)
      → Held plan a s → Each (λ c. c.tx < length (tx_of plan)) cs → Each (λ c. c.at + width_of c.from ≤ 64) cs
      → Held plan (all_done o (accepted r payload) cs a) (put (said plan) s payload cs)
  unfolding all_done put Each
  Held-puts o r e payload [] h f g = h
  Held-puts {a = a} o r e payload (c ∷ cs) h f g =
      Held-puts {a = done o (accepted r payload) a c} o r e payload cs (Held-put o r e payload c f.0 h g.0) f.1 g.1

  -- ---- the row starts again, and then the claims

  Held-restarted : {a : List ℕ} {s : State} → Held plan a s → (r : ℕ) → r < length (rows_of plan)
      → Held plan (restarted a r) (model.restarted (said plan) s r)
  unfolding restarted model.restarted
  Held-restarted {a} {s} h r l =
      let small : r % 256 ≡ r = omega (arith, h.good.counts.rx) in
      rw (small, (h.reads.rx r l).reload, (h.reads.rx r l).frame) (write_long (write_rx h r _ l) r _ l)

  -- of a response the long counter alone starts again

  Held-again : {a : List ℕ} {s : State} → Held plan a s → (r : ℕ) → r < length (rows_of plan)
      → Held plan (long_again a r) (with_long s r (row_in (said plan) r).frame.long)
  unfolding long_again
  Held-again h r l = rw (h.reads.rx r l).frame (write_long h r _ l)

  pub Held-response : {a : List ℕ} {s : State} → Held plan a s → (r : ℕ) → r < length (rows_of plan) → (payload : List ℕ)
      → Held plan (lin.accepted_area a r payload) (response.accepted (said plan) s r payload)
  unfolding lin.accepted_area response.accepted
  Held-response {a} {s} h r l payload =
      rw (h.reads.rx r l).claims
      (Held-puts (order a) r h.reads.header.order payload (row_at plan r).claims (Held-again h r l) (lawful.frame r l) (lawful.bits r l))

  pub Held-accepted : {a : List ℕ} {s : State} → Held plan a s → (r : ℕ) → r < length (rows_of plan) → (payload : List ℕ)
      → Held plan (accepted_area a r payload) (model.accepted (said plan) s r payload)
  unfolding accepted_area model.accepted
  Held-accepted {a} {s} h r l payload =
      rw (h.reads.rx r l).claims
      (Held-puts (order a) r h.reads.header.order payload (row_at plan r).claims (Held-restarted h r l) (lawful.frame r l) (lawful.bits r l))
