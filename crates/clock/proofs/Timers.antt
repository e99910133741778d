-- The timer over its handlings, and over the ticks.
use Rattle.std.proofs.Common.{◌≡◌, ℕ, zero, suc, ◌+◌, ◌-◌, ◌%◌, ◌<◌, Bool, true, false, eqb, ◌↔◌, sym, refl, ap, ◌∙◌, arith, eq-eqb, ne_eqb, eqb-true}
use mathlib.Core.Bool.{false≢true}
use Rattle.base.specs.Pick.{pick}
use Rattle.base.proofs.Picks.{passes, both, into}
use Rattle.clock.specs.declared.timer.Timer.{Timer}
use Rattle.clock.specs.Counter.{counter_after, Prescaler}
use Rattle.clock.specs.Timer.{lowered, stepped, expires}
use Rattle.clock.specs.Ticks.{handled_times, ticked_timer, expires_at, timer_from, dividing}
use Rattle.clock.proofs.Counters.{handled_divides}

-- The reload value never changes by a handling.
pub reload_handled : (n : ℕ) (t : Timer) → (handled_times n t).reload ≡ t.reload
unfolding handled_times stepped
reload_handled zero t = refl
reload_handled (suc n) t = reload_handled n t

-- A lowered count is a byte where the reload value and the count are.
pub lowered_byte : (reload count : ℕ) → reload < 256 → count < 256 → lowered reload count < 256
unfolding lowered
lowered_byte reload count r c = both (λ n. n < 256) _ _ _ (omega arith) (both (λ n. n < 256) _ _ _ r (omega arith))

-- a timer that holds 0, at one handling and at many
stays : (t : Timer) → t.count ≡ 0 → stepped t ≡ t
unfolding stepped lowered pick
stays t z = rw z

still : (n : ℕ) (t : Timer) → t.count ≡ 0 → handled_times n t ≡ t
unfolding handled_times
still zero t z = refl
still (suc n) t z = ap stepped (still n t z) ∙ stays t z

-- A timer that holds 0 is left so by any number of handlings, and expires at none.
pub stopped : (n : ℕ) (t : Timer) → t.count ≡ 0 → (handled_times n t ≡ t) × (expires (handled_times n t) ≡ false)
unfolding expires
stopped n t z = (still n t z, rw (still n t z, z))

-- each handling but the last takes one off the count
falls : (reload count : ℕ) → 1 < count → lowered reload count ≡ count - 1
unfolding lowered
falls reload count h = passes _ _ _ (ne_eqb count 0 (λ e. omega arith)) ∙ passes _ _ _ (ne_eqb count 1 (λ e. omega arith))

count_handled : (k : ℕ) (t : Timer) → k < t.count → (handled_times k t).count ≡ t.count - k
unfolding handled_times stepped
count_handled zero t h = omega arith
count_handled (suc k) t h =
    let e : (handled_times k t).count ≡ t.count - k = count_handled k t (omega arith) in
    falls _ (handled_times k t).count (omega arith) ∙ omega arith

-- A timer loaded with v above 0 expires at its v-th handling and not before: of its first v handlings, the one after k is an expiry
-- exactly if k + 1 is v.
pub expires_handling : (k : ℕ) (t : Timer) → k < t.count → (expires (handled_times k t) ≡ true) ↔ (suc k ≡ t.count)
unfolding expires
expires_handling k t h =
    let e = count_handled k t h in
    (λ x. let y = eqb-true (handled_times k t).count 1 x in omega arith, λ x. eq-eqb (handled_times k t).count 1 (omega arith))

-- After v handlings it holds its reload value.
pub reloaded : (v : ℕ) (t : Timer) → t.count ≡ v → 0 < v → (handled_times v t).count ≡ t.reload
unfolding handled_times stepped lowered pick
reloaded zero t e h = omega arith
reloaded (suc v) t e h =
    let one : (handled_times v t).count ≡ 1 = count_handled v t (omega arith) ∙ omega arith in
    rw one (reload_handled v t)

-- Over the k ticks from number n on, a timer is handled once for each of their numbers that its prescaler divides.
pub timer_from_is : {p : ℕ} → Prescaler p → (n k : ℕ) (t : Timer) → timer_from p n k t ≡ handled_times (dividing p n k) t
unfolding timer_from dividing handled_times ticked_timer
timer_from_is d n zero t = refl
timer_from_is d n (suc k) t =
    rw (handled_divides d (n + k), timer_from_is d n k t) (sym (into (λ (m : ℕ). handled_times m t) _ _ _))

-- a claim and a count that are taken only under one test
under_test : (t x : Bool) (a b v : ℕ) → (x ≡ true) ↔ (a ≡ v) → (pick t x false ≡ true) ↔ ((t ≡ true) × (pick t a b ≡ v))
unfolding pick
under_test true x a b v s = (λ y. (refl, s.0 y), λ y. s.1 y.1)
under_test false x a b v s = (λ y. absurd (false≢true y), λ y. absurd (false≢true y.0))

-- A timer loaded with v between ticks n - 1 and n, and not reloaded before tick n + k, expires at that tick exactly if the prescaler divides
-- n + k, and this is the v-th number from n on that it divides.
pub expires_tick : {p : ℕ} → Prescaler p → (n k : ℕ) (t : Timer) → dividing p n k < t.count
    → (expires_at (counter_after (n + k)) p (timer_from p n k t) ≡ true) ↔ (((n + k) % p ≡ 0) × (dividing p n (suc k) ≡ t.count))
unfolding expires_at dividing
expires_tick {p} d n k t h =
    let s = under_test (eqb ((n + k) % p) 0) _ _ (dividing p n k) _ (expires_handling (dividing p n k) t h) in
    rw (handled_divides d (n + k), timer_from_is d n k t) (λ y. (eqb-true _ _ (s.0 y).0, (s.0 y).1), λ y. s.1 (eq-eqb _ _ y.0, y.1))
