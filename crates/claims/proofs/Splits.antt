-- Laws of lists split where an element stands, and of counts.
use mathlib.Core.Path.{◌≡◌, refl, ap, ◌∙◌}
use mathlib.Core.Logic.{◌≢◌}
use mathlib.Core.List.{List, [], ◌∷◌, ◌++◌}
use Prim.Native.Nat.{ℕ, zero, suc, ◌+◌, ◌<◌}
use native.Mathlib.Omega.{arith}
use native.Mathlib.Decide.{ℕ_discrete}
use lib.ListN.{length, get_or}
use lib.Seq.{ext_get_or}
use borrow.Author.Tests.{eq-eqb, ne_eqb}
use Rattle.base.specs.Pick.{pick}
use Rattle.records.specs.declared.record.Record.{Record}
use Rattle.records.specs.Kinds.{stage_of}
use Rattle.facts.specs.Good.{Each, count_of}

-- ---- lists that differ in a place

pub behind : {A : Type 0} (x : A) {xs ys : List A} → xs ≡ ys → x ∷ xs ≡ x ∷ ys
behind x e i = x ∷ e i

pub instead : {A : Type 0} (front rest : List A) {x y : A} → x ≡ y → front ++ x ∷ rest ≡ front ++ y ∷ rest
instead front rest e i = front ++ e i ∷ rest

-- two lists with the same elements are one
pub same_lists : {A : Type 0} (xs ys : List A) → length xs ≡ length ys → ((d : A) (i : ℕ) → i < length xs → get_or xs i d ≡ get_or ys i d) → xs ≡ ys
same_lists [] [] e h = refl
same_lists [] (y ∷ ys) e h = absurd (omega arith)
same_lists (x ∷ xs) ys e h = ext_get_or x (x ∷ xs) ys e (h x)

-- ---- of each element

pub Each-append : (P : Record → Type 0) (xs ys : List Record) → Each P (xs ++ ys) → Each P xs × Each P ys
unfolding Each
Each-append P [] ys h = (tt, h)
Each-append P (x ∷ xs) ys h = let k = Each-append P xs ys h.1 in ((h.0, k.0), k.1)

pub Each-join : (P : Record → Type 0) (xs ys : List Record) → Each P xs → Each P ys → Each P (xs ++ ys)
unfolding Each
Each-join P [] ys h k = k
Each-join P (x ∷ xs) ys h k = (h.0, Each-join P xs ys h.1 k)

pub each_here : (P : Record → Type 0) (front : List Record) (r : Record) (rest : List Record) → Each P (front ++ r ∷ rest) → P r
unfolding Each
each_here P front r rest h = (Each-append P front (r ∷ rest) h).1.0

-- ---- counts

pub count_hit : (kind : ℕ) (r : Record) (rs : List Record) → stage_of r ≡ kind → count_of kind (r ∷ rs) ≡ suc (count_of kind rs)
unfolding count_of pick
count_hit kind r rs e = rw (eq-eqb (stage_of r) kind e) (omega arith)

pub count_miss : (kind : ℕ) (r : Record) (rs : List Record) → stage_of r ≢ kind → count_of kind (r ∷ rs) ≡ count_of kind rs
unfolding count_of pick
count_miss kind r rs n = rw (ne_eqb (stage_of r) kind n) (omega arith)

pub count_append : (kind : ℕ) (xs ys : List Record) → count_of kind (xs ++ ys) ≡ count_of kind xs + count_of kind ys
unfolding count_of
count_append kind [] ys = omega arith
count_append kind (x ∷ xs) ys = omega (arith, count_append kind xs ys)

-- one that stands there is one more than those before it
pub count_below :
    (kind : ℕ) (front rest rs : List Record) (r : Record) → stage_of r ≡ kind → rs ≡ front ++ r ∷ rest → count_of kind front < count_of kind rs
count_below kind front rest rs r k e =
    let m : count_of kind rs ≡ count_of kind front + count_of kind (r ∷ rest) = ap (count_of kind) e ∙ count_append kind front (r ∷ rest) in
    omega (arith, count_hit kind r rest k)

-- ---- the records split at the k-th of a kind

pub record SplitAt (kind k : ℕ) (rs : List Record) : Type 0 where
  pub front : List Record
  pub here : Record
  pub rest : List Record
  pub split : rs ≡ front ++ here ∷ rest
  pub is : stage_of here ≡ kind
  pub many : count_of kind front ≡ k

pub split_at : (kind k : ℕ) (rs : List Record) → k < count_of kind rs → SplitAt kind k rs
unfolding count_of
split_at kind k [] l = absurd (omega arith)
split_at kind k (r ∷ rs) l = go (ℕ_discrete (stage_of r) kind) k l (λ m. split_at kind m rs)
  where
    more : (m k : ℕ) → ((front : List Record) → count_of kind front ≡ m → count_of kind (r ∷ front) ≡ k) → SplitAt kind m rs → SplitAt kind k (r ∷ rs)
    more m k f a =
        record { front = r ∷ a.front; here = a.here; rest = a.rest; split = behind r a.split; is = a.is; many = f a.front a.many }

    go : Dec (stage_of r ≡ kind) → (k : ℕ) → k < count_of kind (r ∷ rs) → ((m : ℕ) → m < count_of kind rs → SplitAt kind m rs) → SplitAt kind k (r ∷ rs)
    go (yes e) zero l rec = record { front = []; here = r; rest = rs; split = refl; is = e; many = refl }
    go (yes e) (suc k) l rec = more k (suc k) (λ front m. count_hit kind r front e ∙ ap suc m) (rec k (omega (arith, count_hit kind r rs e)))
    go (no n) k l rec = more k k (λ front m. count_miss kind r front n ∙ m) (rec k (omega (arith, count_miss kind r rs n)))
