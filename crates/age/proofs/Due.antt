-- How many ticks there are until a timer expires: it is lowered at the ticks that the prescaler divides, and expires where it holds 1.
use mathlib.Core.Path.{◌≡◌, refl, ap, ◌∙◌}
use Prim.Native.Nat.{ℕ, zero, suc, ◌+◌, ◌-◌, ◌*◌, ◌/◌, ◌%◌, ◌≤◌, ◌<◌}
use native.Mathlib.Nat.{mul-le-mul_right, mul-mod_left, div-add-mod', mod-lt}
use native.Mathlib.Omega.{arith}
use native.Mathlib.Decide.{ℕ_discrete, dec_lt}
use Rattle.clock.specs.Counter.{Prescaler, one, two, ten, twenty}
use Rattle.model.specs.TickRules.{Falls}

pub prescaler_range : {p : ℕ} → Prescaler p → (0 < p) × (p < 256)
prescaler_range one = omega arith
prescaler_range two = omega arith
prescaler_range ten = omega arith
prescaler_range twenty = omega arith

-- the tick at which it expires is the last of so many
pub record Due (p number timer ticks : ℕ) : Type 0 where
  -- handlings after the next one, and ticks before that
  pub rest : ℕ
  pub gap : ℕ
  pub near : gap < p
  pub times : ℕ
  pub divides : number + gap ≡ times * p
  pub holds : timer ≡ suc rest
  pub all : ticks ≡ rest * p + suc gap

module _ (p : ℕ) (above : 0 < p) where
  -- ---- a timer that takes its reload value

  pub due_loaded : (number v : ℕ) → 0 < v → (ticks : ℕ) × Due p number v ticks × (ticks ≤ v * p)
  due_loaded number zero h = absurd (omega arith)
  due_loaded number (suc rest) h = go (ℕ_discrete (number % p) 0)
    where
      whole : number / p * p + number % p ≡ number
      whole = div-add-mod' number p

      below : number % p < p
      below = mod-lt number above

      go : Dec (number % p ≡ 0) → (ticks : ℕ) × Due p number (suc rest) ticks × (ticks ≤ suc rest * p)
      go (yes e) = (
        rest * p + 1,
        record { rest = rest; gap = 0; near = above; times = number / p; divides = omega (arith, whole); holds = refl; all = refl },
        omega (arith, above),
      )
      go (no d) = (
        rest * p + suc (p - number % p),
        record {
          rest = rest;
          gap = p - number % p;
          near = omega (arith, below);
          times = suc (number / p);
          divides = omega (arith, whole, below);
          holds = refl;
          all = refl;
        },
        omega (arith, below),
      )

  -- and not before as many handlings as it holds
  pub due_least : (number timer ticks : ℕ) → Due p number timer ticks → timer * p < ticks + p
  due_least number timer ticks d = rw d.holds (omega (arith, d.all))

  -- ---- a tick

  -- one that handles it has no tick before the next handling
  no_gap : (number gap times : ℕ) → gap < p → number + gap ≡ times * p → number % p ≡ 0 → gap ≡ 0
  no_gap number gap times l e z = go (dec_lt (number / p) times)
    where
      whole : number / p * p + number % p ≡ number
      whole = div-add-mod' number p

      go : Dec (number / p < times) → gap ≡ 0
      go (yes m) = let more : suc (number / p) * p ≤ times * p = mul-le-mul_right p m in absurd (omega (arith, whole))
      go (no d) = let less : times * p ≤ number / p * p = mul-le-mul_right p (omega arith) in omega (arith, whole)

  divided : (number times : ℕ) → number ≡ times * p → number % p ≡ 0
  divided number times e = ap (λ (x : ℕ). x % p) e ∙ mul-mod_left times p

  -- the last of them
  pub due_last : (number timer : ℕ) → Due p number timer 1 → (number % p ≡ 0) × (timer ≡ 1)
  due_last number timer d = go d.rest d.holds d.all
    where
      go : (rest : ℕ) → timer ≡ suc rest → 1 ≡ rest * p + suc d.gap → (number % p ≡ 0) × (timer ≡ 1)
      go zero h e = (divided number d.times (omega (arith, d.divides)), h)
      go (suc rest) h e = absurd (omega (arith, above))

  -- one before it does not find it so
  pub due_later : (number timer ticks : ℕ) → Due p number timer (suc (suc ticks)) → number % p ≡ 0 → timer ≡ 1 → ⊥
  due_later number timer ticks d z e = go d.rest d.holds d.all
    where
      go : (rest : ℕ) → timer ≡ suc rest → suc (suc ticks) ≡ rest * p + suc d.gap → ⊥
      go zero h f = omega (arith, no_gap number d.gap d.times d.near d.divides z)
      go (suc rest) h f = omega arith

  -- and leaves one less
  pub Due-falls : (number timer ticks reload new : ℕ) → Due p number timer (suc (suc ticks)) → Falls (number % p ≡ 0) reload timer new
      → Due p (suc number) new (suc ticks)
  Due-falls number timer ticks reload new d f = go (ℕ_discrete (number % p) 0)
    where
      lowered : number % p ≡ 0 → d.gap ≡ 0 → (rest : ℕ) → timer ≡ suc rest → suc (suc ticks) ≡ rest * p + suc d.gap → Due p (suc number) new (suc ticks)
      lowered z g zero h e = absurd (omega arith)
      lowered z g (suc rest) h e =
          record {
            rest = rest;
            gap = p - 1;
            near = omega (arith, above);
            times = suc d.times;
            divides = omega (arith, d.divides, above);
            holds = omega (arith, f.falls z (omega arith));
            all = omega (arith, above);
          }

      go : Dec (number % p ≡ 0) → Due p (suc number) new (suc ticks)
      go (yes z) = lowered z (no_gap number d.gap d.times d.near d.divides z) d.rest d.holds d.all
      go (no n) =
          let some : 0 < d.gap = gapped (ℕ_discrete d.gap 0) in
          record {
            rest = d.rest;
            gap = d.gap - 1;
            near = omega (arith, d.near);
            times = d.times;
            divides = omega (arith, d.divides);
            holds = f.unhandled n ∙ d.holds;
            all = omega (arith, d.all);
          }
        where
          gapped : Dec (d.gap ≡ 0) → 0 < d.gap
          gapped (yes e) = absurd (n (divided number d.times (omega (arith, d.divides))))
          gapped (no e) = omega arith
