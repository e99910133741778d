-- Laws of the words that the rules use.
use mathlib.Core.Path.{◌≡◌, refl, sym, ◌∙◌}
use mathlib.Core.Logic.{◌⊎◌, inl, inr, ⊎_elim}
use mathlib.Core.List.{List, [], ◌∷◌}
use Prim.Native.Nat.{ℕ, zero, suc, ◌<◌}
use native.Mathlib.Omega.{arith}
use native.Mathlib.Decide.{ℕ_discrete}
use Rattle.facts.specs.Good.{Each}
use Rattle.model.specs.State.{State}
use Rattle.model.specs.Words.{In, Ascending, Those}
use Rattle.model.specs.TickRules.{Falls}

-- a state is what its fields are
pub state_same :
    (x y : State) → x.number ≡ y.number → x.kept ≡ y.kept → x.tx_timers ≡ y.tx_timers → x.rx_timers ≡ y.rx_timers → x.longs ≡ y.longs
    → x.queues ≡ y.queues → x ≡ y
state_same x y a b c d e f i =
    record { number = a i; kept = b i; tx_timers = c i; rx_timers = d i; longs = e i; queues = f i }

-- ---- two rising lists of the same numbers are one

above : (x : ℕ) (ys : List ℕ) → Each (λ y. x < y) ys → (z : ℕ) → In z ys → x < z
unfolding Each In
above x [] l z i = absurd i
above x (y ∷ ys) l z (inl e) = rw e l.0
above x (y ∷ ys) l z (inr i) = above x ys l.1 z i

pub rising_same : (xs ys : List ℕ) → Ascending xs → Ascending ys → ((z : ℕ) → In z xs → In z ys) → ((z : ℕ) → In z ys → In z xs) → xs ≡ ys
unfolding Ascending In
rising_same [] [] r s f g = refl
rising_same [] (y ∷ ys) r s f g = absurd (g y (inl refl))
rising_same (x ∷ xs) [] r s f g = absurd (f x (inl refl))
rising_same (x ∷ xs) (y ∷ ys) r s f g = heads (f x (inl refl)) (g y (inl refl)) (λ e. rising_same xs ys r.1 s.1 (to e) (fro e))
  where
    to : x ≡ y → (z : ℕ) → In z xs → In z ys
    to e z i = ⊎_elim (λ k. absurd (omega (arith, above x xs r.0 z i))) (λ k. k) (f z (inr i))

    fro : x ≡ y → (z : ℕ) → In z ys → In z xs
    fro e z i = ⊎_elim (λ k. absurd (omega (arith, above y ys s.0 z i))) (λ k. k) (g z (inr i))

    heads : (x ≡ y) ⊎ In x ys → (y ≡ x) ⊎ In y xs → (x ≡ y → xs ≡ ys) → x ∷ xs ≡ y ∷ ys
    heads (inl e) k t = rw (e, t e)
    heads (inr i) (inl e) t = rw (sym e, t (sym e))
    heads (inr i) (inr j) t = absurd (omega (arith, above y ys s.0 x i, above x xs r.0 y j))

pub those_same : {P : ℕ → Type 0} {xs ys : List ℕ} → Those P xs → Those P ys → xs ≡ ys
those_same {P} {xs} {ys} a b =
    rising_same xs ys a.order b.order (λ z i. (b.exactly z).1 ((a.exactly z).0 i)) (λ z i. (a.exactly z).1 ((b.exactly z).0 i))

-- ---- a timer

pub falls_same : {H : Type 0} {reload old x y : ℕ} → Dec H → Falls H reload old x → Falls H reload old y → x ≡ y
falls_same {H} {reload} {old} {x} {y} (no n) a b = a.unhandled n ∙ sym (b.unhandled n)
falls_same {H} {reload} {old} {x} {y} (yes h) a b = go (ℕ_discrete old 0) (ℕ_discrete old 1)
  where
    go : Dec (old ≡ 0) → Dec (old ≡ 1) → x ≡ y
    go (yes e) d = a.stopped h e ∙ sym (b.stopped h e)
    go (no n) (yes e) = a.expires h e ∙ sym (b.expires h e)
    go (no n) (no m) = omega (arith, a.falls h (omega arith), b.falls h (omega arith))

-- ---- decisions

pub dec_either : {A B : Type 0} → Dec A → Dec B → Dec (A ⊎ B)
dec_either (yes a) d = yes (inl a)
dec_either (no n) (yes b) = yes (inr b)
dec_either (no n) (no m) = no (λ w. ⊎_elim n m w)

pub dec_both : {A B : Type 0} → Dec A → Dec B → Dec (A × B)
dec_both (no n) d = no (λ w. n w.0)
dec_both (yes a) (no m) = no (λ w. m w.1)
dec_both (yes a) (yes b) = yes (a, b)

-- a bounded search
pub first_or_none :
    (P : ℕ → Type 0) → ((r : ℕ) → Dec (P r)) → (k : ℕ) → ((r : ℕ) × P r) ⊎ ((r : ℕ) → r < k → P r → ⊥)
first_or_none P d zero = inr (λ r l x. absurd (omega arith))
first_or_none P d (suc k) = go (d k) (first_or_none P d k)
  where
    go : Dec (P k) → ((r : ℕ) × P r) ⊎ ((r : ℕ) → r < k → P r → ⊥) → ((r : ℕ) × P r) ⊎ ((r : ℕ) → r < suc k → P r → ⊥)
    go (yes x) w = inl (k, x)
    go (no n) (inl w) = inl w
    go (no n) (inr f) = inr (λ r l x. at r l x (ℕ_discrete r k))
      where
        at : (r : ℕ) → r < suc k → P r → Dec (r ≡ k) → ⊥
        at r l x (yes e) = n (rw e at x)
        at r l x (no m) = f r (omega arith) x

-- ---- a bit that is 1 exactly where something holds

pub bit_same : {P : Type 0} (x y : ℕ) → x < 2 → y < 2 → ((x ≡ 1) → P) → (P → (x ≡ 1)) → ((y ≡ 1) → P) → (P → (y ≡ 1)) → x ≡ y
bit_same x y l m a b c d = go (ℕ_discrete x 1) (ℕ_discrete y 1)
  where
    go : Dec (x ≡ 1) → Dec (y ≡ 1) → x ≡ y
    go (yes e) f = e ∙ sym (d (a e))
    go (no n) (yes f) = absurd (n (b (c f)))
    go (no n) (no k) = omega arith
