-- What an event does to one bit of a payload, claim by claim: among claims of which no two hold one bit, the bit's owner decides.
use mathlib.Core.Path.{◌≡◌, refl, sym, ap, ◌∙◌}
use mathlib.Core.Logic.{◌≢◌}
use mathlib.Core.Bool.{Bool, true, false, true≢false, false≢true}
use mathlib.Core.List.{List, [], ◌∷◌}
use Prim.Native.Nat.{ℕ, ◌+◌, ◌-◌, ◌<◌, ◌≤◌}
use native.Mathlib.Nat.{mod-eq_of_lt}
use native.Mathlib.Omega.{arith}
use lib.Dec.{eqb}
use lib.ListN.{length}
use borrow.Author.Tests.{eqb-true, leb-true, ltb-true, eq-eqb, le-leb, lt-ltb}
use Rattle.base.specs.Pick.{pick}
use Rattle.base.proofs.Picks.{both, cases, by_eqb}
use Rattle.bits.specs.Payload.{bit_at}
use Rattle.bits.proofs.PayloadLaws.{bit_at-set_bit_same, bit_at-set_bit_other}
use Rattle.bits.proofs.CopyLaws.{copied_bit, copied_other}
use Rattle.plan.specs.Rows.{Source, copy, failure, width_of, Claim}
use Rattle.facts.specs.Good.{Each, Holds, Free, Once}
use Rattle.facts.specs.Statements.{Small}
use Rattle.area.specs.Layout.{payloads_start, tx_masks_start, LongEnough, spot}
use Rattle.area.specs.Claims.{RxEvent, accepted, expired, done_by, sent_by, done}
use Rattle.area.proofs.Frame.{Same, same_bit, Same-done}
use Rattle.area.proofs.ClaimLaws.{fitting-spot}
use Rattle.history.specs.Fresh.{Owner, nobody, signal, indicator, holds, owner_from, owner_in}
use Rattle.history.specs.Statements.{OwnedBy}
use Rattle.history.proofs.Aside.{Aside, aside_sent_if}
use Rattle.history.proofs.Replay.{rx_of, turned, turned_other}

-- ---- the claim that holds a bit

split : (x y : Bool) → pick x y false ≡ true → (x ≡ true) × (y ≡ true)
unfolding pick
split true y e = (refl, e)
split false y e = absurd (false≢true e)

pub Holds-is : (c : Claim) (t b : ℕ) → holds c t b ≡ true → Holds c t b
unfolding holds
Holds-is c t b h =
    let x = split _ _ h in
    let y = split _ _ x.1 in
    record { frame = eqb-true _ _ x.0; low = leb-true _ _ y.0; high = ltb-true _ _ y.1 }

pub is_holds : (c : Claim) (t b : ℕ) → Holds c t b → holds c t b ≡ true
unfolding holds pick
is_holds c t b h = rw (eq-eqb _ _ h.frame, le-leb _ _ h.low, lt-ltb _ _ h.high)

free_nobody : (cs : List Claim) (t b : ℕ) → Free cs t b → owner_in cs t b ≡ nobody
unfolding owner_in Each
free_nobody [] t b h = refl
free_nobody (c ∷ cs) t b h =
    cases (λ (w : Owner). w ≡ nobody) (holds c t b) _ _ (λ e. absurd (h.0 (Holds-is c t b e))) (λ e. free_nobody cs t b h.1)

-- ---- the payloads' places, which no queue and no timer has

abbrev pub Payload : ℕ → Type 0
Payload j = (payloads_start ≤ j) × (j < tx_masks_start)

pub payload_aside : Aside Payload
payload_aside =
    record {
      ends = λ n h j l m p. omega arith;
      ring = λ j l m p. omega arith;
      timers = λ j l m p. omega arith;
      waits = λ j l m p. omega arith;
    }

-- an event of another frame leaves an owner's bit
foreign : (o : ℕ) (s : Source) (r k v : ℕ) (e : RxEvent) → (r ≡ rx_of e → ⊥) → turned o (owner_from s r k) v e ≡ v
unfolding owner_from OwnedBy
foreign o (copy p s) r k v e d = turned_other o (signal r (p + k)) v e (λ x. d (sym x))
foreign o failure r k v e d = turned_other o (indicator r) v e (λ x. d (sym x))

-- what an event does to a claim, if the claim is its frame's
unfoldable pub done_if : ℕ → RxEvent → List ℕ → Claim → List ℕ
done_if o e a c = pick (eqb c.rx (rx_of e)) (done o e a c) a

length-done : (o : ℕ) (e : RxEvent) (a : List ℕ) (c : Claim) → length (done o e a c) ≡ length a
length-done o e a c =
    (Same-done {P = λ j. ⊥} (λ n h j l m p. p) (λ j l m p. p) o e a c (record { bits = λ k l p. p; wait = λ p. p; timer = λ p. p })).len

pub length-done_if : (o : ℕ) (e : RxEvent) (a : List ℕ) (c : Claim) → length (done_if o e a c) ≡ length a
unfolding done_if
length-done_if o e a c = both (λ (x : List ℕ). length x ≡ length a) _ _ _ (length-done o e a c) refl

-- all of them
unfoldable pub all_if : ℕ → RxEvent → List Claim → List ℕ → List ℕ
all_if o e [] a = a
all_if o e (c ∷ cs) a = all_if o e cs (done_if o e a c)

-- ---- bit b of Tx frame t

module _ (o t b : ℕ) (frame : t < 256) (small : b < 64) where
  abbrev now : List ℕ → ℕ
  now a = bit_at o a (spot t b)

  pub payload_bit : {x y : List ℕ} → Same Payload x y → bit_at o y (spot t b) ≡ bit_at o x (spot t b)
  payload_bit s = same_bit o s (spot t b) (omega arith)

  unsent : (e : RxEvent) (a c : List ℕ) (x place : ℕ) (s : Source) → x < 256 → now (sent_by o e a c x place s) ≡ now c
  unfolding sent_by
  unsent (accepted r payload) a c x place (copy p k) h = payload_bit (aside_sent_if payload_aside _ _ c x h)
  unsent (accepted r payload) a c x place failure h = refl
  unsent (expired r) a c x place (copy p k) h = refl
  unsent (expired r) a c x place failure h = refl

  inside :
      (e : RxEvent) (a : List ℕ) (q : ℕ) (s : Source) → q + width_of s ≤ 64 → q ≤ b → b < q + width_of s → LongEnough a
      → now (done_by o e a (spot t q) s) ≡ turned o (owner_from s (rx_of e) (b - q)) (now a) e
  unfolding done_by turned owner_from width_of pick
  inside (accepted r payload) a q (copy p k) room low high long =
      let e : spot t b ≡ spot t q + (b - q) = omega arith in
      rw (eq-eqb r r refl, fitting-spot t q k room, e) (copied_bit o payload p a (spot t q) k (b - q) (omega arith) (omega arith))
  inside (accepted r payload) a q failure room low high long =
      let e : spot t b ≡ spot t q = omega arith in
      rw (eq-eqb r r refl, e) (bit_at-set_bit_same o a (spot t q) 0 (omega arith) (omega arith))
  inside (expired r) a q (copy p k) room low high long = refl
  inside (expired r) a q failure room low high long =
      let e : spot t b ≡ spot t q = omega arith in
      rw (eq-eqb r r refl, e) (bit_at-set_bit_same o a (spot t q) 1 (omega arith) (omega arith))

  outside :
      (e : RxEvent) (a : List ℕ) (x q : ℕ) (s : Source) → x < 256 → q + width_of s ≤ 64 → ((j : ℕ) → j < width_of s → spot t b ≢ spot x q + j)
      → LongEnough a → now (done_by o e a (spot x q) s) ≡ now a
  unfolding done_by width_of
  outside (accepted r payload) a x q (copy p k) h room d long =
      rw (fitting-spot x q k room) (copied_other o payload p a (spot x q) k (spot t b) (omega arith) d)
  outside (accepted r payload) a x q failure h room d long =
      bit_at-set_bit_other o a (spot x q) 0 (spot t b) (omega arith) (omega arith) (λ e. d 0 (omega arith) (omega arith))
  outside (expired r) a x q (copy p k) h room d long = refl
  outside (expired r) a x q failure h room d long =
      bit_at-set_bit_other o a (spot x q) 1 (spot t b) (omega arith) (omega arith) (λ e. d 0 (omega arith) (omega arith))

  -- ---- one claim

  module _ (e : RxEvent) (a : List ℕ) (c : Claim) (s : Small c) (long : LongEnough a) where
    held : Holds c t b → now (done_if o e a c) ≡ turned o (owner_from c.from c.rx (b - c.at)) (now a) e
    unfolding done_if done
    held h =
        by_eqb (λ (x : List ℕ). now x ≡ turned o (owner_from c.from c.rx (b - c.at)) (now a) e) c.rx (rx_of e) _ _
        (λ is. unsent e a _ _ _ c.from (omega arith)
        ∙ rw (mod-eq_of_lt s.frame, h.frame, is) (inside e a c.at c.from s.bits h.low h.high long))
        (λ d. sym (foreign o c.from c.rx _ _ e d))

    missed : (Holds c t b → ⊥) → now (done_if o e a c) ≡ now a
    unfolding done_if done
    missed h =
        both (λ (x : List ℕ). now x ≡ now a) _ _ _
        (unsent e a _ _ _ c.from (omega arith)
        ∙ rw (mod-eq_of_lt s.frame) (outside e a c.tx c.at c.from s.frame s.bits
        (λ j l is. let same : c.tx ≡ t = omega (arith, s.bits) in h (record { frame = same; low = omega arith; high = omega arith })) long))
        refl

  -- ---- all of them

  pub by_owner :
      (e : RxEvent) (cs : List Claim) (a : List ℕ) → Once cs → Each Small cs → LongEnough a
      → bit_at o (all_if o e cs a) (spot t b) ≡ turned o (owner_in cs t b) (bit_at o a (spot t b)) e
  unfolding all_if turned owner_in Once Each
  by_owner e [] a once s long = refl
  by_owner e (c ∷ cs) a once s long =
      let rest = by_owner e cs (done_if o e a c) once.1 s.1 (omega (arith, length-done_if o e a c)) in
      cases (λ (w : Owner). now (all_if o e cs (done_if o e a c)) ≡ turned o w (now a) e) (holds c t b) _ _
      (λ h.
      let free : owner_in cs t b ≡ nobody = free_nobody cs t b (once.0 t b (Holds-is c t b h)) in
      (rw free at rest) ∙ held e a c s.0 long (Holds-is c t b h))
      (λ h. rest ∙ ap (λ (v : ℕ). turned o (owner_in cs t b) v e) (missed e a c s.0 long (λ k. true≢false (sym (is_holds c t b k) ∙ h))))
