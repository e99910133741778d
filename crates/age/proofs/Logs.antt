-- What a log's last events are when more is told.
use mathlib.Core.Path.{◌≡◌, refl, sym, ap, ◌∙◌}
use mathlib.Core.Logic.{◌⊎◌, inl, inr}
use mathlib.Core.Bool.{Bool, true, false}
use mathlib.Core.List.{List, [], ◌∷◌, ◌++◌}
use mathlib.Core.Option.{Option, none, some}
use Prim.Native.Nat.{ℕ, suc, ◌-◌, ◌≤◌, ◌<◌}
use native.Mathlib.Omega.{arith}
use native.Mathlib.Decide.{ℕ_discrete}
use lib.Dec.{eqb}
use lib.ListN.{get_or}
use borrow.Author.Tests.{eq-eqb, ne_eqb}
use Rattle.base.proofs.Apart.{differ}
use Rattle.base.specs.Pick.{pick}
use Rattle.base.proofs.Picks.{picks, passes, both, by_eqb}
use Rattle.area.specs.Claims.{RxEvent, accepted, expired}
use Rattle.history.specs.Past.{told_report}
use Rattle.history.specs.Fresh.{or_else, accepted_of, last_accepted, failed_by, last_failed}

-- ---- the last of two lists is that of the second, or else of the first

else_assoc {ℓ} : {A : Type ℓ} (x y z : Option A) → or_else (or_else x y) z ≡ or_else x (or_else y z)
unfolding or_else
else_assoc (some x) y z = refl
else_assoc none y z = refl

else_none {ℓ} : {A : Type ℓ} (x : Option A) → or_else x none ≡ x
unfolding or_else
else_none (some x) = refl
else_none none = refl

pub accepted_more : (r : ℕ) (xs ys : List RxEvent) → last_accepted r (xs ++ ys) ≡ or_else (last_accepted r ys) (last_accepted r xs)
unfolding last_accepted
accepted_more r [] ys = sym (else_none (last_accepted r ys))
accepted_more r (e ∷ xs) ys = rw (accepted_more r xs ys) (else_assoc (last_accepted r ys) (last_accepted r xs) (accepted_of r e))

pub failed_more : (r : ℕ) (xs ys : List RxEvent) → last_failed r (xs ++ ys) ≡ or_else (last_failed r ys) (last_failed r xs)
unfolding last_failed
failed_more r [] ys = sym (else_none (last_failed r ys))
failed_more r (e ∷ xs) ys = rw (failed_more r xs ys) (else_assoc (last_failed r ys) (last_failed r xs) (failed_by r e))

-- ---- an acceptance

module _ (r : ℕ) (log : List RxEvent) (q : ℕ) (payload : List ℕ) where
  pub accepted_own : r ≡ q → last_accepted r (log ++ accepted q payload ∷ []) ≡ some payload
  unfolding last_accepted accepted_of or_else
  accepted_own e = rw (accepted_more r log (accepted q payload ∷ []), picks _ (some payload) none (eq-eqb r q e))

  pub accepted_other : (r ≡ q → ⊥) → last_accepted r (log ++ accepted q payload ∷ []) ≡ last_accepted r log
  unfolding last_accepted accepted_of or_else
  accepted_other d = rw (accepted_more r log (accepted q payload ∷ []), passes _ (some payload) none (ne_eqb r q d))

  pub failed_own : r ≡ q → last_failed r (log ++ accepted q payload ∷ []) ≡ some 0
  unfolding last_failed failed_by or_else
  failed_own e = rw (failed_more r log (accepted q payload ∷ []), picks {A = Option ℕ} _ (some 0) none (eq-eqb r q e))

  pub failed_other : (r ≡ q → ⊥) → last_failed r (log ++ accepted q payload ∷ []) ≡ last_failed r log
  unfolding last_failed failed_by or_else
  failed_other d = rw (failed_more r log (accepted q payload ∷ []), passes {A = Option ℕ} _ (some 0) none (ne_eqb r q d))

-- ---- a source that has not failed since was accepted

none_else : {A : Type 0} (x y : Option A) → or_else x y ≡ none → (x ≡ none) × (y ≡ none)
unfolding or_else
none_else (some x) y e = absurd (differ cc)
none_else none y e = (refl, e)

zero-some : (t : Bool) (payload : List ℕ) → pick {A = Option ℕ} t (some 0) none ≡ some 0 → pick t (some payload) none ≡ none → ⊥
unfolding pick
zero-some true payload e f = differ cc
zero-some false payload e f = differ cc

zero_expired : (t : Bool) → pick {A = Option ℕ} t (some 1) none ≡ some 0 → ⊥
unfolding pick
zero_expired true e = differ cc
zero_expired false e = differ cc

event_zero : (r : ℕ) (e : RxEvent) → failed_by r e ≡ some 0 → accepted_of r e ≡ none → ⊥
unfolding failed_by accepted_of
event_zero r (accepted q payload) f g = zero-some (eqb r q) payload f g
event_zero r (expired q) f g = zero_expired (eqb r q) f

pub zero_accepted : (r : ℕ) (log : List RxEvent) → last_failed r log ≡ some 0 → last_accepted r log ≡ none → ⊥
unfolding last_failed last_accepted or_else
zero_accepted r [] f g = differ cc
zero_accepted r (e ∷ log) f g =
    let (before, here) = none_else (last_accepted r log) (accepted_of r e) g in
    go (last_failed r log) f (λ earlier. zero_accepted r log earlier before) here
  where
    go : (y : Option ℕ) → or_else y (failed_by r e) ≡ some 0 → (y ≡ some 0 → ⊥) → accepted_of r e ≡ none → ⊥
    go (some v) f earlier here = earlier f
    go none f earlier here = event_zero r e f here

-- ---- a report, and "no response"

expired_other : (r k : ℕ) (log : List RxEvent) → (r ≡ k → ⊥) → last_failed r (expired k ∷ log) ≡ last_failed r log
unfolding last_failed failed_by
expired_other r k log d = rw (passes {A = Option ℕ} _ (some 1) none (ne_eqb r k d)) (else_none (last_failed r log))

expired_own : (r k : ℕ) (log : List RxEvent) → r ≡ k → last_failed r log ≡ none → last_failed r (expired k ∷ log) ≡ some 1
unfolding last_failed failed_by or_else
expired_own r k log e f = rw (f, picks {A = Option ℕ} _ (some 1) none (eq-eqb r k e))

-- one that is told by itself
module _ (r : ℕ) (log : List RxEvent) (q : ℕ) where
  pub expired_accepts : last_accepted r (log ++ expired q ∷ []) ≡ last_accepted r log
  unfolding last_accepted accepted_of or_else
  expired_accepts = accepted_more r log (expired q ∷ [])

  pub expired_anothers : (r ≡ q → ⊥) → last_failed r (log ++ expired q ∷ []) ≡ last_failed r log
  unfolding last_failed or_else
  expired_anothers d = failed_more r log (expired q ∷ []) ∙ ap (λ y. or_else y (last_failed r log)) (expired_other r q [] d)

pub report_accepts : (r k : ℕ) (xs : List ℕ) → last_accepted r (told_report k xs) ≡ none
unfolding told_report last_accepted accepted_of
report_accepts r k [] = refl
report_accepts r k (x ∷ xs) =
    both (λ (log : List RxEvent). last_accepted r log ≡ none) (eqb x 0) _ _ (report_accepts r (suc k) xs)
    (else_none (last_accepted r (told_report (suc k) xs)) ∙ report_accepts r (suc k) xs)

-- the rows after r
report_beyond : (r k : ℕ) (xs : List ℕ) → r < k → last_failed r (told_report k xs) ≡ none
unfolding told_report
report_beyond r k [] l = unfold last_failed in refl
report_beyond r k (x ∷ xs) l =
    let more = report_beyond r (suc k) xs (omega arith) in
    both (λ (log : List RxEvent). last_failed r log ≡ none) (eqb x 0) _ _ more (expired_other r k _ (λ e. omega arith) ∙ more)

-- a byte that is 0 tells nothing of its row, and any other an expiry
abbrev pub Told : ℕ → List RxEvent → ℕ → Type 0
Told r log byte = ((last_failed r log ≡ none) × (byte ≡ 0)) ⊎ ((last_failed r log ≡ some 1) × (byte ≡ 0 → ⊥))

pub report_tells : (r k : ℕ) (xs : List ℕ) → k ≤ r → Told r (told_report k xs) (get_or xs (r - k) 0)
unfolding told_report
report_tells r k [] l = inl (unfold last_failed in refl, refl)
report_tells r k (x ∷ xs) l = go (ℕ_discrete r k) (λ m. report_tells r (suc k) xs m)
  where
    go : Dec (r ≡ k) → (k < r → Told r (told_report (suc k) xs) (get_or xs (r - suc k) 0))
        → Told r (pick (eqb x 0) (told_report (suc k) xs) (expired k ∷ told_report (suc k) xs)) (get_or (x ∷ xs) (r - k) 0)
    go (yes e) more =
        let here : r - k ≡ 0 = omega arith in
        let beyond = report_beyond r (suc k) xs (omega arith) in
        rw here
        (by_eqb (λ (log : List RxEvent). Told r log x) x 0 _ _ (λ z. inl (beyond, z)) (λ d. inr (expired_own r k _ e beyond, d)))
    go (no d) more =
        let there : r - k ≡ suc (r - suc k) = omega arith in
        rw there
        (both (λ (log : List RxEvent). Told r log (get_or xs (r - suc k) 0)) (eqb x 0) _ _ (more (omega arith))
        (rw (expired_other r k (told_report (suc k) xs) d) (more (omega arith))))

-- so what it was stays, or it has failed
pub failed_stays : (r : ℕ) (log more : List RxEvent) → last_failed r more ≡ none → last_failed r (log ++ more) ≡ last_failed r log
unfolding or_else
failed_stays r log more f = failed_more r log more ∙ ap (λ y. or_else y (last_failed r log)) f

pub failed_now : (r : ℕ) (log more : List RxEvent) (v : ℕ) → last_failed r more ≡ some v → last_failed r (log ++ more) ≡ some v
unfolding or_else
failed_now r log more v f = failed_more r log more ∙ ap (λ y. or_else y (last_failed r log)) f
