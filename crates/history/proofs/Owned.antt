-- What an event does to one bit of a payload, by the claims of its Rx frame alone: the claims of the plan are those of its rows, and an event
-- acts on those of its own row, so that the bit's owner decides.
use mathlib.Core.Path.{◌≡◌, refl, ap, ◌∙◌}
use mathlib.Core.List.{List, [], ◌∷◌, ◌++◌}
use Prim.Native.Nat.{ℕ, zero, suc, ◌+◌, ◌<◌}
use native.Mathlib.Omega.{arith}
use lib.ListN.{length, get_or}
use borrow.Author.Tests.{eq-eqb, ne_eqb}
use Rattle.base.specs.Pick.{pick}
use Rattle.bits.specs.Payload.{bit_at}
use Rattle.records.specs.Records.{records}
use Rattle.plan.specs.Rows.{Claim, Row, rows_of, all_claims, claims_of, no_row, order_in}
use Rattle.facts.specs.Good.{Each, GoodPlan}
use Rattle.area.specs.Layout.{LongEnough, spot, order, claims}
use Rattle.area.specs.Claims.{RxEvent, accepted, expired, done, all_done}
use Rattle.ticking.specs.Tick.{expired_area}
use Rattle.tables.specs.Reads.{row_at, Reads}
use Rattle.history.specs.Fresh.{Owner, owner}
use Rattle.facts.proofs.ByNumber.{claims_small}
use Rattle.history.proofs.Aside.{aside_long}
use Rattle.history.proofs.Again.{Again, aside_again}
use Rattle.history.proofs.Rows.{Of, Numbered, rows_numbered}
use Rattle.history.proofs.Replay.{rx_of, turned}
use Rattle.history.proofs.Bits.{Payload, payload_aside, payload_bit, done_if, all_if, by_owner}
use Rattle.history.proofs.Turns.{Turns}

module _ (o : ℕ) (e : RxEvent) where
  if_append : (xs ys : List Claim) (a : List ℕ) → all_if o e (xs ++ ys) a ≡ all_if o e ys (all_if o e xs a)
  unfolding all_if
  if_append [] ys a = refl
  if_append (c ∷ xs) ys a = if_append xs ys (done_if o e a c)

  -- another row's claims, and its own
  if_other : (n : ℕ) → (n ≡ rx_of e → ⊥) → (cs : List Claim) (a : List ℕ) → Each (Of n) cs → all_if o e cs a ≡ a
  unfolding all_if Each done_if pick
  if_other n d [] a h = refl
  if_other n d (c ∷ cs) a h =
      let z : done_if o e a c ≡ a = rw (h.0, ne_eqb n (rx_of e) d) in
      rw z (if_other n d cs a h.1)

  if_own : (n : ℕ) → n ≡ rx_of e → (cs : List Claim) (a : List ℕ) → Each (Of n) cs → all_if o e cs a ≡ all_done o e cs a
  unfolding all_if all_done Each done_if pick
  if_own n d [] a h = refl
  if_own n d (c ∷ cs) a h =
      let z : done_if o e a c ≡ done o e a c = rw (h.0, eq-eqb n (rx_of e) d) in
      rw z (if_own n d cs (done o e a c) h.1)

  -- the rows after its own
  beyond : (n : ℕ) → rx_of e < n → (rs : List Row) (a : List ℕ) → Numbered n rs → all_if o e (all_claims rs) a ≡ a
  unfolding all_claims Numbered
  beyond n l [] a h = unfold all_if in refl
  beyond n l (r ∷ rs) a h =
      if_append r.claims (all_claims rs) a
      ∙ ap (all_if o e (all_claims rs)) (if_other n (λ d. omega arith) r.claims a h.0)
      ∙ beyond (suc n) (omega arith) rs a h.1

  own_row :
      (n : ℕ) (rs : List Row) → Numbered n rs → (d : Row) (k : ℕ) → k < length rs → n + k ≡ rx_of e → (a : List ℕ)
      → all_if o e (all_claims rs) a ≡ all_done o e (get_or rs k d).claims a
  unfolding all_claims Numbered
  own_row n [] h d k l is a = absurd (omega arith)
  own_row n (r ∷ rs) h d zero l is a =
      if_append r.claims (all_claims rs) a ∙ beyond (suc n) (omega arith) rs _ h.1 ∙ if_own n (omega arith) r.claims a h.0
  own_row n (r ∷ rs) h d (suc k) l is a =
      if_append r.claims (all_claims rs) a
      ∙ ap (all_if o e (all_claims rs)) (if_other n (λ z. omega arith) r.claims a h.0)
      ∙ own_row (suc n) rs h.1 d k (omega arith) (omega arith) a

-- an event of row r turns each bit by its owner
row_turns :
    (plan : List ℕ) → GoodPlan plan → (o t b : ℕ) → t < 256 → b < 64 → (e : RxEvent) (r : ℕ) → r < length (rows_of plan) → r ≡ rx_of e
    → (a : List ℕ) → LongEnough a
    → bit_at o (all_done o e (row_at plan r).claims a) (spot t b) ≡ turned o (owner plan t b) (bit_at o a (spot t b)) e
unfolding owner claims_of
row_turns plan good o t b frame small e r l is a long =
    rw (← own_row o e 0 (rows_of plan) (rows_numbered plan) no_row r l (omega arith) a)
    (by_owner o t b frame small e (claims_of plan) a good.once (claims_small plan good) long)

-- ---- a bit goes by the events

module _ (plan : List ℕ) (good : GoodPlan plan) (t b : ℕ) (frame : t < 256) (small : b < 64) where
  abbrev o : ℕ
  o = order_in (records plan)

  abbrev w : Owner
  w = owner plan t b

  abbrev now : List ℕ → ℕ
  now a = bit_at o a (spot t b)

  accepts : (a c : List ℕ) → Reads plan a → (r : ℕ) (payload : List ℕ) → r < length (rows_of plan) → Again a r c
      → now (all_done (order a) (accepted r payload) (claims a r) c) ≡ turned o w (now a) (accepted r payload)
  accepts a c reads r payload h x =
      let s = aside_again payload_aside (omega (arith, good.counts.rx)) (λ p. omega (arith, good.counts.rx)) x in
      let long : LongEnough c = omega (arith, s.len, reads.header.size) in
      rw (reads.header.order, (reads.rx r h).claims) (row_turns plan good o t b frame small (accepted r payload) r h refl c long)
      ∙ ap (λ (v : ℕ). turned o w v (accepted r payload)) (payload_bit o t b frame small s)

  expires : (a : List ℕ) → Reads plan a → (r : ℕ) → r < length (rows_of plan) → now (expired_area a r) ≡ turned o w (now a) (expired r)
  unfolding expired_area
  expires a reads r h =
      payload_bit o t b frame small (aside_long payload_aside _ r (λ p. omega (arith, good.counts.rx)))
      ∙ rw (reads.header.order, (reads.rx r h).claims) (row_turns plan good o t b frame small (expired r) r h refl a reads.header.size)

  pub bit_turns : Turns plan Payload (λ a. bit_at (order_in (records plan)) a (spot t b)) (turned (order_in (records plan)) (owner plan t b))
  bit_turns =
      record { aside = payload_aside; uncounted = λ p. omega arith; same = λ x y s. payload_bit o t b frame small s; accepts = accepts; expires = expires }
