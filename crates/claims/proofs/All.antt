-- The bits of a claim, and all claims row by row.
use mathlib.Core.Path.{◌≡◌, refl, sym, ap, ◌∙◌}
use mathlib.Core.Logic.{◌⊎◌, inl, inr}
use mathlib.Core.List.{List, [], ◌∷◌, ◌++◌, append_assoc, append-nil}
use Prim.Native.Nat.{ℕ, zero, suc, ◌+◌, ◌<◌}
use native.Mathlib.Omega.{arith}
use lib.ListN.{length, get_or, length-append}
use lib.Seq.{get_or-append_seam}
use Rattle.plan.specs.Rows.{width_of, Claim, Row, all_claims}
use Rattle.claims.specs.Owners.{Has}
use Rattle.claims.specs.Statements.{ClaimBits, AllClaims}
use Rattle.claims.proofs.Splits.{behind, instead}

pub claim_bits : ClaimBits
unfolding width_of
claim_bits c t b =
    record {
      copied = λ p s e. (
        (λ h. (h.frame, h.low, rw e at h.high)),
        (λ h. record { frame = h.0; low = h.1; high = rw e h.2 }),
      );
      failed = λ e. (
        (λ h. let high : b < c.at + 1 = rw e at h.high in (h.frame, omega (arith, h.low))),
        (λ h. record { frame = h.0; low = omega (arith, h.1); high = rw e (omega (arith, h.1)) }),
      );
    }

-- ---- what a list has

pub Has-at : {A : Type 0} (xs : List A) (k : ℕ) (d : A) → k < length xs → Has xs (get_or xs k d)
Has-at [] k d l = absurd (omega arith)
Has-at (x ∷ xs) zero d l = ([], xs, refl)
Has-at (x ∷ xs) (suc k) d l = let h = Has-at xs k d (omega arith) in (x ∷ h.0, h.1, behind x h.2)

pub at_has : {A : Type 0} (xs : List A) (x : A) → Has xs x → (k : ℕ) × (k < length xs) × ((d : A) → get_or xs k d ≡ x)
at_has xs x (front, rest, e) =
    (length front, rw (e, length-append front (x ∷ rest)) (omega arith), (λ d. rw e (get_or-append_seam front x rest d)))

Has-left : {A : Type 0} (xs ys : List A) (x : A) → Has xs x → Has (xs ++ ys) x
Has-left {A} xs ys x (front, rest, e) = (front, rest ++ ys, ap (λ (zs : List A). zs ++ ys) e ∙ append_assoc front (x ∷ rest) ys)

Has-right : {A : Type 0} (xs ys : List A) (x : A) → Has ys x → Has (xs ++ ys) x
Has-right {A} xs ys x (front, rest, e) = (xs ++ front, rest, ap (λ (zs : List A). xs ++ zs) e ∙ sym (append_assoc xs front (x ∷ rest)))

has_nothing : {A : Type 0} (x : A) → Has [] x → ⊥
has_nothing x (front, rest, e) = let l : 0 ≡ length (front ++ x ∷ rest) = ap length e in omega (arith, length-append front (x ∷ rest))

Has-first : {A : Type 0} (xs : List A) (y x : A) → y ≡ x → Has (y ∷ xs) x
Has-first xs y x e = ([], xs, instead [] xs e)

Has-later : {A : Type 0} (xs : List A) (y x : A) → Has xs x → Has (y ∷ xs) x
Has-later xs y x (front, rest, e) = (y ∷ front, rest, behind y e)

has_cons : {A : Type 0} (xs : List A) (y x : A) → Has (y ∷ xs) x → (y ≡ x) ⊎ Has xs x
has_cons xs y x ([], rest, e) = inl cc
has_cons xs y x (z ∷ front, rest, e) = inr (front, rest, cc)

Has-either : {A : Type 0} (xs ys : List A) (x : A) → Has (xs ++ ys) x → Has xs x ⊎ Has ys x
Has-either [] ys x h = inr h
Has-either (y ∷ xs) ys x h = go (has_cons (xs ++ ys) y x h) (Has-either xs ys x)
  where
    left : Has xs x ⊎ Has ys x → Has (y ∷ xs) x ⊎ Has ys x
    left (inl k) = inl (Has-later xs y x k)
    left (inr k) = inr k

    go : (y ≡ x) ⊎ Has (xs ++ ys) x → (Has (xs ++ ys) x → Has xs x ⊎ Has ys x) → Has (y ∷ xs) x ⊎ Has ys x
    go (inl e) rec = inl (Has-first xs y x e)
    go (inr k) rec = left (rec k)

-- ---- all claims

all_to : (rows : List Row) (c : Claim) → Has (all_claims rows) c → (row : Row) × Has rows row × Has row.claims c
unfolding all_claims
all_to [] c h = absurd (has_nothing c h)
all_to (r ∷ rows) c h = go (Has-either r.claims (all_claims rows) c h) (all_to rows c)
  where
    go : Has r.claims c ⊎ Has (all_claims rows) c → (Has (all_claims rows) c → (row : Row) × Has rows row × Has row.claims c)
        → (row : Row) × Has (r ∷ rows) row × Has row.claims c
    go (inl k) rec = (r, Has-first rows r r refl, k)
    go (inr k) rec = let a = rec k in (a.0, Has-later rows r a.0 a.1, a.2)

all_from : (rows : List Row) (c : Claim) (row : Row) → Has rows row → Has row.claims c → Has (all_claims rows) c
unfolding all_claims
all_from [] c row h k = absurd (has_nothing row h)
all_from (r ∷ rows) c row h k = go (has_cons rows r row h) (λ a. all_from rows c row a k)
  where
    go : (r ≡ row) ⊎ Has rows row → (Has rows row → Has (all_claims rows) c) → Has (r.claims ++ all_claims rows) c
    go (inl e) rec = Has-left r.claims (all_claims rows) c (rw e k)
    go (inr a) rec = Has-right r.claims (all_claims rows) c (rec a)

all_last : (rows : List Row) (row : Row) → all_claims (rows ++ row ∷ []) ≡ all_claims rows ++ row.claims
unfolding all_claims
all_last [] row = append-nil row.claims
all_last (r ∷ rows) row =
    ap (λ (cs : List Claim). r.claims ++ cs) (all_last rows row) ∙ sym (append_assoc r.claims (all_claims rows) row.claims)

pub all_claims_hold : AllClaims
unfolding all_claims
all_claims_hold = record { exactly = λ rows c. (all_to rows c, (λ (row, h, k). all_from rows c row h k)); first = refl; last = all_last }
