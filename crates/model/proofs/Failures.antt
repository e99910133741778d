-- An expiry's failure bits: what the model's setting of them leaves.
use mathlib.Core.Path.{◌≡◌, refl, sym, ap, ◌∙◌}
use mathlib.Core.Logic.{◌≢◌, ◌⊎◌, inl, inr, ⊎_elim, ◌↔◌}
use mathlib.Core.List.{List, [], ◌∷◌}
use Prim.Native.Nat.{ℕ, ◌+◌, ◌*◌, ◌≤◌, ◌<◌}
use native.Mathlib.Omega.{arith}
use native.Mathlib.Decide.{ℕ_discrete}
use lib.ListN.{length, length-set}
use lib.Seq.{get_or-set_same, get_or-set_other}
use Rattle.bits.specs.Payload.{bit_at, set_bit}
use Rattle.bits.proofs.PayloadLaws.{length-set_bit, bit_at-set_bit_same, bit_at-set_bit_other, Bytes-set_bit}
use Rattle.plan.specs.Rows.{Source, copy, failure, width_of, Claim}
use Rattle.facts.specs.Good.{Each}
use Rattle.model.specs.Plan.{Plan, row_in}
use Rattle.model.specs.State.{State, kept_of, with_kept}
use Rattle.model.specs.Tick.{failed_by, failed}
use Rattle.model.specs.Words.{In, Payload}
use Rattle.model.specs.TickRules.{Indicates}
use Rattle.model.proofs.Lawful.{Lawful}

kind : Source → ℕ
kind (copy p s) = 0
kind failure = 1

pub not_failure : (p s : ℕ) {z : Source} → z ≡ copy p s → z ≡ failure → ⊥
unfolding kind
not_failure p s e f = let k : ◌≡◌ {A = ℕ} 0 1 = ap kind (sym e ∙ f) in omega arith

-- ---- payloads with some bits set

pub record Kept (p : Plan) (x : State) : Type 0 where
  pub kept : length x.kept ≡ length p.tx
  pub payload : (t : ℕ) → t < length p.tx → Payload (kept_of x t)

-- z is x but that the bits which P names are 1
pub record Sets (p : Plan) (P : ℕ → ℕ → Type 0) (x z : State) : Type 0 where
  pub shape : Kept p z
  pub number : z.number ≡ x.number
  pub tx_timers : z.tx_timers ≡ x.tx_timers
  pub rx_timers : z.rx_timers ≡ x.rx_timers
  pub longs : z.longs ≡ x.longs
  pub queues : z.queues ≡ x.queues
  pub bits : (t b : ℕ) → t < length p.tx → b < 64
      → (bit_at p.order (kept_of z t) b ≡ 1) ↔ ((bit_at p.order (kept_of x t) b ≡ 1) ⊎ P t b)

module _ (p : Plan) where
  pub Sets-none : {P : ℕ → ℕ → Type 0} {x : State} → Kept p x → ((t b : ℕ) → P t b → ⊥) → Sets p P x x
  Sets-none k f =
      record {
        shape = k;
        number = refl;
        tx_timers = refl;
        rx_timers = refl;
        longs = refl;
        queues = refl;
        bits = λ t b l m. (inl, λ w. ⊎_elim (λ e. e) (λ q. absurd (f t b q)) w);
      }

  -- the same bits, named otherwise
  Sets-as : {P Q : ℕ → ℕ → Type 0} {x z : State} → Sets p P x z → ((t b : ℕ) → P t b → Q t b) → ((t b : ℕ) → Q t b → P t b) → Sets p Q x z
  Sets-as a f g =
      record {
        shape = a.shape;
        number = a.number;
        tx_timers = a.tx_timers;
        rx_timers = a.rx_timers;
        longs = a.longs;
        queues = a.queues;
        bits =
            λ t b l m.
            let u = a.bits t b l m in
            ((λ e. ⊎_elim inl (λ q. inr (f t b q)) (u.0 e)), (λ w. u.1 (⊎_elim inl (λ q. inr (g t b q)) w)));
      }

  Sets-then : {P Q R : ℕ → ℕ → Type 0} {x y z : State} → Sets p P x y → Sets p Q y z
      → ((t b : ℕ) → R t b → P t b ⊎ Q t b) → ((t b : ℕ) → P t b ⊎ Q t b → R t b) → Sets p R x z
  Sets-then a c f g =
      record {
        shape = c.shape;
        number = c.number ∙ a.number;
        tx_timers = c.tx_timers ∙ a.tx_timers;
        rx_timers = c.rx_timers ∙ a.rx_timers;
        longs = c.longs ∙ a.longs;
        queues = c.queues ∙ a.queues;
        bits =
            λ t b l m.
            let u = a.bits t b l m in
            let v = c.bits t b l m in (
              (λ e. ⊎_elim (λ e. ⊎_elim (λ e. inl e) (λ q. inr (g t b (inl q))) (u.0 e)) (λ q. inr (g t b (inr q))) (v.0 e)),
              (λ w. ⊎_elim (λ e. v.1 (inl (u.1 (inl e)))) (λ r. ⊎_elim (λ q. v.1 (inl (u.1 (inr q)))) (λ q. v.1 (inr q)) (f t b r)) w),
            );
      }

  -- one bit
  module _ (x : State) (k : Kept p x) (c : Claim) (l : c.tx < length p.tx) (m : c.at < 64) where
    abbrev old : List ℕ
    old = kept_of x c.tx

    abbrev new : List ℕ
    new = set_bit p.order old c.at 1

    room : c.at < 8 * length old
    room = omega (arith, (k.payload c.tx l).eight)

    there : kept_of (with_kept x c.tx new) c.tx ≡ new
    there = get_or-set_same x.kept c.tx new [] (omega (arith, k.kept))

    other : (t : ℕ) → t ≢ c.tx → kept_of (with_kept x c.tx new) t ≡ kept_of x t
    other t d = get_or-set_other x.kept c.tx t new [] d

    sets_bit : Sets p (λ t b. (c.tx ≡ t) × (c.at ≡ b)) x (with_kept x c.tx new)
    sets_bit =
        record {
          shape =
              record {
                kept = length-set x.kept c.tx new ∙ k.kept;
                payload = λ t h. shaped t h (ℕ_discrete t c.tx);
              };
          number = refl;
          tx_timers = refl;
          rx_timers = refl;
          longs = refl;
          queues = refl;
          bits = λ t b h i. bits t b (ℕ_discrete t c.tx) (ℕ_discrete b c.at);
        }
      where
        shaped : (t : ℕ) → t < length p.tx → Dec (t ≡ c.tx) → Payload (kept_of (with_kept x c.tx new) t)
        shaped t h (yes e) =
            rw (e, there)
            (record {
              eight = length-set_bit p.order old c.at 1 ∙ (k.payload c.tx l).eight;
              bytes = Bytes-set_bit p.order old c.at 1 room (omega arith) (k.payload c.tx l).bytes;
            })
        shaped t h (no d) = rw (other t d) (k.payload t h)

        bits : (t b : ℕ) → Dec (t ≡ c.tx) → Dec (b ≡ c.at)
            → (bit_at p.order (kept_of (with_kept x c.tx new) t) b ≡ 1) ↔ ((bit_at p.order (kept_of x t) b ≡ 1) ⊎ ((c.tx ≡ t) × (c.at ≡ b)))
        bits t b (no d) w = rw (other t d) (inl, λ v. ⊎_elim (λ e. e) (λ q. absurd (d (sym q.0))) v)
        bits t b (yes e) (no d) =
            rw (e, there, bit_at-set_bit_other p.order old c.at 1 b room (omega arith) d) (inl, λ v. ⊎_elim (λ e. e) (λ q. absurd (d (sym q.1))) v)
        bits t b (yes e) (yes f) =
            rw (e, f, there, bit_at-set_bit_same p.order old c.at 1 room (omega arith)) ((λ g. inr (refl, refl)), (λ v. refl))

  -- ---- an expiry's claims

  abbrev Names : List Claim → ℕ → ℕ → Type 0
  Names cs t b = (c : Claim) × In c cs × (c.from ≡ failure) × (c.tx ≡ t) × (c.at ≡ b)

  step : (x : State) → Kept p x → (c : Claim) → c.tx < length p.tx → c.at + width_of c.from ≤ 64
      → Sets p (λ t b. (c.from ≡ failure) × (c.tx ≡ t) × (c.at ≡ b)) x (failed_by p x c c.from)
  unfolding failed_by width_of
  step x k c l m = go c.from refl m
    where
      go : (z : Source) → c.from ≡ z → c.at + width_of z ≤ 64 → Sets p (λ t b. (c.from ≡ failure) × (c.tx ≡ t) × (c.at ≡ b)) x (failed_by p x c z)
      go (copy q s) e i = Sets-none k (λ t b w. not_failure q s e w.0)
      go failure e i =
          let Old : ℕ → ℕ → Type 0 = λ t b. ⊥ in
          Sets-then (Sets-none {P = Old} k (λ t b w. w)) (sets_bit x k c l (omega arith))
          (λ t b w. inr (w.1, w.2)) (λ t b w. ⊎_elim (λ v. absurd v) (λ v. (e, v.0, v.1)) w)

  Sets-failed : (cs : List Claim) (x : State) → Kept p x → Each (λ c. c.tx < length p.tx) cs → Each (λ c. c.at + width_of c.from ≤ 64) cs
      → Sets p (Names cs) x (failed p x cs)
  unfolding failed Each In
  Sets-failed [] x k f g = Sets-none k (λ t b w. w.1)
  Sets-failed (c ∷ cs) x k f g =
      let a = step x k c f.0 g.0 in
      Sets-then a (Sets-failed cs _ a.shape f.1 g.1)
      (λ t b w. ⊎_elim (λ e. inl (rw e at w.2, rw e at w.3, rw e at w.4)) (λ i. inr (w.0, i, w.2, w.3, w.4)) w.1)
      (λ t b w. ⊎_elim (λ v. (c, inl refl, v.0, v.1, v.2)) (λ v. (v.0, inr v.1, v.2, v.3, v.4)) w)

  -- those of Rx frame r
  pub Sets-indicated : Lawful p → (r : ℕ) → r < length p.rows → (x : State) → Kept p x → Sets p (Indicates p r) x (failed p x (row_in p r).claims)
  Sets-indicated lawful r l x k =
      let a = Sets-failed (row_in p r).claims x k (lawful.frame r l) (lawful.bits r l) in
      Sets-as a (λ t b w. record { claim = w.0; there = w.1; indicator = w.2; tx = w.3; at = w.4 })
      (λ t b w. (w.claim, w.there, w.indicator, w.tx, w.at))
