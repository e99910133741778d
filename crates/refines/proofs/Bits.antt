-- A write of payload bits in an area is that write in the state that it shows.
use mathlib.Core.Path.{◌≡◌, refl, sym, ◌∙◌}
use mathlib.Core.Logic.{◌≢◌}
use mathlib.Core.List.{List, []}
use Prim.Native.Nat.{ℕ, zero, suc, ◌+◌, ◌*◌, ◌/◌, ◌≤◌, ◌<◌}
use native.Mathlib.Omega.{arith}
use native.Mathlib.Decide.{ℕ_discrete}
use native.Mathlib.Nat.{add_assoc}
use lib.ListN.{length, get_or, set, length-set}
use lib.Seq.{get_or-set_same, get_or-set_other, set-set, set-get_or}
use Rattle.base.specs.Numbers.{byte_at}
use Rattle.bits.specs.Digit.{set_digit}
use Rattle.bits.specs.Payload.{digit_of, bit_at, set_bit, copied, differs}
use Rattle.bits.proofs.PayloadLaws.{bit_at-lt, length-set_bit, Bytes-set_bit}
use Rattle.plan.specs.Rows.{tx_of}
use Rattle.area.specs.Layout.{counter_byte, payloads_start, payload, spot}
use Rattle.area.proofs.Frame.{Same, Same-refl, Same-set_bit, Same-fewer}
use Rattle.model.specs.State.{State, kept_of, with_kept}
use Rattle.model.specs.Words.{Payload}
use Rattle.refines.proofs.Held.{Held, Held-rests, long_area}

-- a bit of a payload is the same digit of its byte, there and in the area
digit_spot : (o t b : ℕ) → digit_of o (spot t b) ≡ digit_of o b
unfolding digit_of
digit_spot zero t b = omega arith
digit_spot (suc o) t b = omega arith

abbrev Outside : ℕ → ℕ → Type 0
Outside t j = payload t ≤ j → payload t + 8 ≤ j

module _ {plan a : List ℕ} {s : State} (h : Held plan a s) (t : ℕ) (l : t < length (tx_of plan)) where
  few : t < 256
  few = omega (arith, h.good.counts.tx)

  -- another payload of frame t
  write_kept : (b new : List ℕ) → Same (Outside t) a b → ((i : ℕ) → i < 8 → byte_at b (payload t + i) ≡ get_or new i 0) → Payload new
      → Held plan b (with_kept s t new)
  write_kept b new same here bytes =
      let w = h.shape in
      Held-rests h (with_kept s t new)
      (Same-fewer (λ j p x. omega (arith, few, p.payloads (omega arith))) same)
      (Same-fewer (λ j p x. omega (arith, few, p.high (omega arith))) same)
      (record {
        kept = length-set s.kept t new ∙ w.kept;
        payload = λ u m. shaped u m (ℕ_discrete u t);
        tx_timers = w.tx_timers;
        rx_timers = w.rx_timers;
        longs = w.longs;
        queues = w.queues;
      })
      refl
      (same.at counter_byte (λ x. omega arith) ∙ h.shows.number)
      (λ u i m k. at u i m k (ℕ_discrete u t))
      (λ u m. same.at _ (λ x. omega (arith, h.good.counts.tx)) ∙ h.shows.tx_timers u m)
      (λ u m. same.at _ (λ x. omega (arith, h.good.counts.rx)) ∙ h.shows.rx_timers u m)
      (λ u m. same.at _ (λ x. omega (arith, h.good.counts.rx)) ∙ h.shows.longs u m)
    where
      there : kept_of (with_kept s t new) t ≡ new
      there = get_or-set_same s.kept t new [] (omega (arith, h.shape.kept))

      other : (u : ℕ) → u ≢ t → kept_of (with_kept s t new) u ≡ kept_of s u
      other u d = get_or-set_other s.kept t u new [] d

      shaped : (u : ℕ) → u < length (tx_of plan) → Dec (u ≡ t) → Payload (kept_of (with_kept s t new) u)
      shaped u m (yes e) = rw (e, there) bytes
      shaped u m (no d) = rw (other u d) (h.shape.payload u m)

      at : (u i : ℕ) → u < length (tx_of plan) → i < 8 → Dec (u ≡ t) → byte_at b (payload u + i) ≡ get_or (kept_of (with_kept s t new) u) i 0
      at u i m k (yes e) = rw (e, there) (here i k)
      at u i m k (no d) = rw (other u d) (same.at _ (λ x. omega arith) ∙ h.shows.kept u i m k)

  -- ---- one bit

  pub shown_bit : (o b : ℕ) → b < 64 → bit_at o a (spot t b) ≡ bit_at o (kept_of s t) b
  unfolding bit_at
  shown_bit o b m =
      let e : spot t b / 8 ≡ payload t + b / 8 = omega arith in
      rw (e, digit_spot o t b, h.shows.kept t (b / 8) l (omega arith))

  pub Held-set_bit : (o b v : ℕ) → b < 64 → v < 2 → Held plan (set_bit o a (spot t b) v) (with_kept s t (set_bit o (kept_of s t) b v))
  unfolding set_bit
  Held-set_bit o b v m w =
      write_kept _ _ (Same-set_bit {P = Outside t} o (spot t b) v (λ p. omega (arith, p (omega arith))) (Same-refl a))
      (λ i k. here i k (ℕ_discrete i (b / 8)))
      (record {
        eight = length-set_bit o (kept_of s t) b v ∙ old.eight;
        bytes = Bytes-set_bit o (kept_of s t) b v (omega (arith, old.eight)) w old.bytes;
      })
    where
      old : Payload (kept_of s t)
      old = h.shape.payload t l

      e : spot t b / 8 ≡ payload t + b / 8
      e = omega arith

      new : ℕ
      new = set_digit (get_or (kept_of s t) (b / 8) 0) (digit_of o b) v

      is_new : set_digit (byte_at a (spot t b / 8)) (digit_of o (spot t b)) v ≡ set_digit (get_or (kept_of s t) (b / 8) 0) (digit_of o b) v
      is_new = rw (e, digit_spot o t b, h.shows.kept t (b / 8) l (omega arith))

      here : (i : ℕ) → i < 8 → Dec (i ≡ b / 8)
          → byte_at (set a (spot t b / 8) (set_digit (byte_at a (spot t b / 8)) (digit_of o (spot t b)) v)) (payload t + i)
          ≡ get_or (set (kept_of s t) (b / 8) (set_digit (get_or (kept_of s t) (b / 8) 0) (digit_of o b) v)) i 0
      here i k (yes f) =
          rw (is_new, e, f)
          (get_or-set_same a (payload t + b / 8) _ 0 (omega (arith, long_area h, few))
          ∙ sym (get_or-set_same (kept_of s t) (b / 8) _ 0 (omega (arith, old.eight))))
      here i k (no d) =
          get_or-set_other a (spot t b / 8) (payload t + i) _ 0 (λ x. d (omega (arith, e))) ∙ h.shows.kept t i l k
          ∙ sym (get_or-set_other (kept_of s t) (b / 8) i _ 0 d)

-- one bit of a signal more
Held-more :
    {plan b : List ℕ} (s : State) (t : ℕ) → t < length (tx_of plan) → (K : List ℕ) → length s.kept ≡ length (tx_of plan)
    → (o q k v : ℕ) → q + suc k ≤ 64 → v < 2 → Held plan b (with_kept s t K)
    → Held plan (set_bit o b (spot t q + k) v) (with_kept s t (set_bit o K (q + k) v))
Held-more {plan} {b} s t l K size o q k v m w h =
    let there : kept_of (with_kept s t K) t ≡ K = get_or-set_same s.kept t K [] (omega arith) in
    let z = Held-set_bit h t l o (q + k) v (omega arith) w in
    rw (add_assoc (8 * payloads_start + 64 * t) q k) (rw (set-set s.kept t, there) at z)

module _ {plan a : List ℕ} {s : State} (h : Held plan a s) (t : ℕ) (l : t < length (tx_of plan)) where
  -- ---- a signal

  pub Held-copied : (o : ℕ) (source : List ℕ) (p k q : ℕ) → q + k ≤ 64
      → Held plan (copied o source p k a (spot t q)) (with_kept s t (copied o source p k (kept_of s t) q))
  unfolding copied
  Held-copied o source p zero q m = rw (set-get_or s.kept t []) h
  Held-copied o source p (suc k) q m =
      Held-more s t l (copied o source p k (kept_of s t) q) h.shape.kept o q k _ m (bit_at-lt o source (p + k))
      (Held-copied o source p k q (omega arith))

  pub same_differs : (o : ℕ) (source : List ℕ) (p k q : ℕ) → q + k ≤ 64
      → differs o source p k a (spot t q) ≡ differs o source p k (kept_of s t) q
  unfolding differs
  same_differs o source p zero q m = refl
  same_differs o source p (suc k) q m =
      let e : bit_at o a (spot t q + k) ≡ bit_at o (kept_of s t) (q + k) =
      rw (add_assoc (8 * payloads_start + 64 * t) q k) (shown_bit h t l o (q + k) (omega arith)) in
      rw (e, same_differs o source p k q (omega arith))
