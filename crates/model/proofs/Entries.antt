-- What waits in a queue: frames and requests, told apart; and the model's test of waiting.
use mathlib.Core.Path.{◌≡◌, refl, sym, ap, ◌∙◌}
use mathlib.Core.Logic.{inl, inr, ⊎_elim}
use mathlib.Core.Bool.{Bool, true, false, not, false≢true, true≢false}
use mathlib.Core.List.{List, [], ◌∷◌, map}
use Prim.Native.Nat.{ℕ}
use borrow.Author.Tests.{eq-eqb, eqb-true}
use Rattle.base.proofs.Apart.{differ}
use Rattle.bits.proofs.CopyLaws.{either, or_right}
use Rattle.records.specs.declared.record.Entry.{Entry}
use Rattle.records.specs.declared.record.Entry.TheVariants.{Frame, Request}
use Rattle.records.specs.Nodes.{frame, request, same_entry}
use Rattle.model.specs.Scheduling.{is_in}
use Rattle.model.specs.Words.{In}

-- ---- one entry

unfoldable number_in : Entry → ℕ
number_in (Frame t) = t.0
number_in (Request r) = r.0

pub frame_one : {t u : ℕ} → frame t ≡ frame u → t ≡ u
unfolding number_in
frame_one e = ap number_in e

pub request_one : {q r : ℕ} → request q ≡ request r → q ≡ r
unfolding number_in
request_one e = ap number_in e

pub request_no_frame : {r t : ℕ} → request r ≡ frame t → ⊥
request_no_frame e = differ cc

entry_same : (x : Entry) → same_entry x x ≡ true
unfolding same_entry
entry_same (Frame t) = eq-eqb t.0 t.0 refl
entry_same (Request r) = eq-eqb r.0 r.0 refl

entry_one : (x y : Entry) → same_entry x y ≡ true → x ≡ y
unfolding same_entry
entry_one (Frame t) (Frame u) e = ap frame (eqb-true t.0 u.0 e)
entry_one (Frame t) (Request r) e = absurd (false≢true e)
entry_one (Request r) (Frame t) e = absurd (false≢true e)
entry_one (Request q) (Request r) e = ap request (eqb-true q.0 r.0 e)

-- ---- standing in a queue, and the model's test of it

pub in_is_in : (x : Entry) (ys : List Entry) → In x ys → is_in x ys ≡ true
unfolding In is_in
in_is_in x [] i = absurd i
in_is_in x (y ∷ ys) (inl e) = rw (← e, entry_same x)
in_is_in x (y ∷ ys) (inr i) = or_right (same_entry x y) (is_in x ys) (in_is_in x ys i)

pub is_in_in : (x : Entry) (ys : List Entry) → is_in x ys ≡ true → In x ys
unfolding In is_in
is_in_in x [] e = absurd (false≢true e)
is_in_in x (y ∷ ys) e = ⊎_elim (λ f. inl (entry_one x y f)) (λ f. inr (is_in_in x ys f)) (either (same_entry x y) (is_in x ys) e)

pub absent : (x : Entry) (ys : List Entry) → (In x ys → ⊥) → not (is_in x ys) ≡ true
absent x ys n = go (is_in x ys) refl
  where
    go : (b : Bool) → is_in x ys ≡ b → not (is_in x ys) ≡ true
    go true e = absurd (n (is_in_in x ys e))
    go false e = rw e

pub dec_in : (x : Entry) (ys : List Entry) → Dec (In x ys)
dec_in x ys = go (is_in x ys) refl
  where
    go : (b : Bool) → is_in x ys ≡ b → Dec (In x ys)
    go true e = yes (is_in_in x ys e)
    go false e = no (λ i. true≢false (sym (in_is_in x ys i) ∙ e))

-- ---- the entries of some numbers

pub in_map : {A B : Type 0} (f : A → B) (y : B) (xs : List A) → In y (map f xs) → (x : A) × In x xs × (y ≡ f x)
unfolding In
in_map f y [] i = absurd i
in_map f y (x ∷ xs) (inl e) = (x, inl refl, e)
in_map f y (x ∷ xs) (inr i) = let w = in_map f y xs i in (w.0, inr w.1, w.2)

pub map_in : {A B : Type 0} (f : A → B) (x : A) (xs : List A) → In x xs → In (f x) (map f xs)
unfolding In
map_in f x [] i = absurd i
map_in f x (y ∷ xs) (inl e) = inl (ap f e)
map_in f x (y ∷ xs) (inr i) = inr (map_in f x xs i)
