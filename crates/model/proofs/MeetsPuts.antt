-- The model meets the rules of one destination and of a failure bit, and of all of them in order.
use mathlib.Core.Path.{◌≡◌, refl, sym, ap, ◌∙◌}
use mathlib.Core.Logic.{◌≢◌}
use mathlib.Core.List.{List, [], ◌∷◌}
use Prim.Native.Nat.{ℕ, ◌+◌, ◌≤◌, ◌<◌}
use native.Mathlib.Omega.{arith}
use native.Mathlib.Decide.{ℕ_discrete}
use lib.ListN.{length, get_or, length-set}
use lib.Seq.{get_or-set_same, get_or-set_other}
use Rattle.bits.specs.Payload.{bit_at, set_bit, copied, differs}
use Rattle.bits.proofs.PayloadLaws.{length-set_bit, bit_at-set_bit_same, bit_at-set_bit_other, Bytes-set_bit}
use Rattle.bits.proofs.CopyLaws.{length-copied, Bytes-copied, copied_bit, copied_other, differs_exactly}
use Rattle.plan.specs.Rows.{Source, copy, failure, width_of, Claim}
use Rattle.facts.specs.Good.{Each}
use Rattle.model.specs.Plan.{Plan}
use Rattle.model.specs.State.{State, kept_of, with_kept}
use Rattle.model.specs.Reception.{put_by, put}
use Rattle.model.specs.Words.{Payload, Shape}
use Rattle.model.specs.ReceptionRules.{Wanted, Differs, Copies, Schedules, Aside, Puts, InOrder}
use Rattle.model.proofs.Lawful.{Lawful}
use Rattle.model.proofs.Failures.{not_failure}
use Rattle.model.proofs.MeetsSending.{Sched, sends}

module _ (p : Plan) (lawful : Lawful p) where
  module _ (payload : List ℕ) (s : State) (shape : Shape p s) (c : Claim) (l : c.tx < length p.tx) where
    abbrev old : List ℕ
    old = kept_of s c.tx

    eight : length old ≡ 8
    eight = (shape.payload c.tx l).eight

    -- the payloads with another one at c
    there : (new : List ℕ) → kept_of (with_kept s c.tx new) c.tx ≡ new
    there new = get_or-set_same s.kept c.tx new [] (omega (arith, shape.kept))

    other : (new : List ℕ) (t : ℕ) → t ≢ c.tx → kept_of (with_kept s c.tx new) t ≡ kept_of s t
    other new t d = get_or-set_other s.kept c.tx t new [] d

    written : (new : List ℕ) → Payload new → Shape p (with_kept s c.tx new)
    written new k =
        record {
          kept = length-set s.kept c.tx new ∙ shape.kept;
          payload = λ t m. go t m (ℕ_discrete t c.tx);
          tx_timers = shape.tx_timers;
          rx_timers = shape.rx_timers;
          longs = shape.longs;
          queues = shape.queues;
        }
      where
        go : (t : ℕ) → t < length p.tx → Dec (t ≡ c.tx) → Payload (kept_of (with_kept s c.tx new) t)
        go t m (yes e) = rw (e, there new) k
        go t m (no d) = rw (other new t d) (shape.payload t m)

    -- a signal's destination
    module _ (from size : ℕ) (m : c.at + size ≤ 64) where
      abbrev new : List ℕ
      new = copied p.order payload from size old c.at

      bytes : Payload new
      bytes =
          record {
            eight = length-copied p.order payload from old c.at size ∙ eight;
            bytes = Bytes-copied p.order payload from old c.at size (omega (arith, eight)) (shape.payload c.tx l).bytes;
          }

      abbrev D : Type 0
      D = Differs p payload c from size s

      sched : Sched p lawful (Wanted p payload c from size s) c.tx (with_kept s c.tx new) (put_by p s payload c (copy from size))
      unfolding put_by
      sched =
          let law = differs_exactly p.order payload from old c.at size in
          sends p lawful D (differs p.order payload from size old c.at)
          (λ e. let w = law.0 e in record { bit = w.0; below = w.1; differs = w.2 }) (λ w. law.1 (w.bit, w.below, w.differs))
          c.tx (with_kept s c.tx new) l shape.queues shape.tx_timers

      -- a payload's change is none of the queues'
      copy_aside : Aside s (put_by p s payload c (copy from size))
      copy_aside = let a = sched.aside in record { number = a.number; rx_timers = a.rx_timers; longs = a.longs }

      copy_sends : Schedules p (Wanted p payload c from size s) c.tx s (put_by p s payload c (copy from size))
      copy_sends =
          let a = sched.schedules in
          record { joins = a.joins; reloads = a.reloads; waiting = a.waiting; unwanted = a.unwanted; others = a.others; timers = a.timers }

      copy_shape : Shape p (put_by p s payload c (copy from size))
      copy_shape =
          let w = written new bytes in
          record {
            kept = ap length sched.kept ∙ w.kept;
            payload = λ t k. rw sched.kept (w.payload t k);
            tx_timers = sched.timers ∙ shape.tx_timers;
            rx_timers = ap length sched.aside.rx_timers ∙ shape.rx_timers;
            longs = ap length sched.aside.longs ∙ shape.longs;
            queues = sched.queues ∙ shape.queues;
          }

      copies : Copies p payload c from size s (put_by p s payload c (copy from size))
      copies =
          let e = ap (λ z. get_or z c.tx []) sched.kept ∙ there new in
          record {
            bits = λ k i. rw e (copied_bit p.order payload from old c.at size k (omega (arith, eight)) i);
            rest = λ b i d. rw e (copied_other p.order payload from old c.at size b (omega (arith, eight)) d);
            frames = λ t d. ap (λ z. get_or z t []) sched.kept ∙ other new t d;
          }

    -- a failure bit
    module _ (m : c.at < 64) where
      abbrev cleared : List ℕ
      cleared = set_bit p.order old c.at 0

      bare : Payload cleared
      bare =
          record {
            eight = length-set_bit p.order old c.at 0 ∙ eight;
            bytes = Bytes-set_bit p.order old c.at 0 (omega (arith, eight)) (omega arith) (shape.payload c.tx l).bytes;
          }

      zero_bit : bit_at p.order (kept_of (with_kept s c.tx cleared) c.tx) c.at ≡ 0
      zero_bit = rw (there cleared) (bit_at-set_bit_same p.order old c.at 0 (omega (arith, eight)) (omega arith))

      other_bit : (b : ℕ) → b ≢ c.at → bit_at p.order (kept_of (with_kept s c.tx cleared) c.tx) b ≡ bit_at p.order old b
      other_bit b d = rw (there cleared) (bit_at-set_bit_other p.order old c.at 0 b (omega (arith, eight)) (omega arith) d)

    Puts-copy : (f g : ℕ) → c.from ≡ copy f g → c.at + g ≤ 64 → Puts p payload c s (put_by p s payload c (copy f g))
    unfolding width_of
    Puts-copy f g e m =
        record {
          shape = copy_shape f g m;
          aside = copy_aside f g m;
          copies = λ from size d. back from size (sym d ∙ e) m (λ i. copies from size i);
          sends = λ from size d. again from size (sym d ∙ e) m (λ i. copy_sends from size i);
          clears = λ d. absurd (not_failure f g e d);
          bits = λ d. absurd (not_failure f g e d);
          frames = λ d. absurd (not_failure f g e d);
          quiet = λ d. absurd (not_failure f g e d);
        }
      where
        back : (from size : ℕ) → copy from size ≡ copy f g → c.at + g ≤ 64
            → (c.at + size ≤ 64 → Copies p payload c from size s (put_by p s payload c (copy from size)))
            → Copies p payload c from size s (put_by p s payload c (copy f g))
        back from size d m k = rw (← d) (k (let q : size ≡ g = ap width_of d in omega arith))

        again : (from size : ℕ) → copy from size ≡ copy f g → c.at + g ≤ 64
            → (c.at + size ≤ 64 → Schedules p (Wanted p payload c from size s) c.tx s (put_by p s payload c (copy from size)))
            → Schedules p (Wanted p payload c from size s) c.tx s (put_by p s payload c (copy f g))
        again from size d m k = rw (← d) (k (let q : size ≡ g = ap width_of d in omega arith))

    Puts-failure : c.from ≡ failure → c.at < 64 → Puts p payload c s (put_by p s payload c failure)
    unfolding put_by
    Puts-failure e i =
        record {
          shape = written (cleared i) (bare i);
          aside = record { number = refl; rx_timers = refl; longs = refl };
          copies = λ from size d. absurd (not_failure from size d e);
          sends = λ from size d. absurd (not_failure from size d e);
          clears = λ d. zero_bit i;
          bits = λ d b k. other_bit i b k;
          frames = λ d t k. other (cleared i) t k;
          quiet = λ d. (refl, refl);
        }

    puts : (z : Source) → c.from ≡ z → c.at + width_of z ≤ 64 → Puts p payload c s (put_by p s payload c z)
    unfolding width_of
    puts (copy f g) e m = Puts-copy f g e m
    puts failure e m = Puts-failure e (omega arith)

  -- ---- all of them

  pub in_order : (payload : List ℕ) (cs : List Claim) (s : State) → Shape p s → Each (λ c. c.tx < length p.tx) cs
      → Each (λ c. c.at + width_of c.from ≤ 64) cs → InOrder p payload cs s (put p s payload cs)
  unfolding InOrder put Each
  in_order payload [] s h f g = refl
  in_order payload (c ∷ cs) s h f g =
      let x = puts payload s h c f.0 c.from refl g.0 in
      (_, x, in_order payload cs _ x.shape f.1 g.1)
