-- No bit has two owners, by the places of the claims.
use mathlib.Core.Path.{◌≡◌, refl, ap}
use mathlib.Core.List.{List, [], ◌∷◌}
use Prim.Native.Nat.{ℕ, zero, suc, ◌<◌}
use native.Mathlib.Omega.{arith}
use lib.ListN.{length, get_or}
use Rattle.plan.specs.Rows.{Claim, claims_of}
use Rattle.facts.specs.Good.{Holds, Once}
use Rattle.facts.specs.Statements.{OneOwner}
use Rattle.facts.proofs.Lists.{each_at}

once_at :
    (cs : List Claim) (d : Claim) (i j t b : ℕ) → Once cs → i < length cs → j < length cs → Holds (get_or cs i d) t b → Holds (get_or cs j d) t b
    → i ≡ j
unfolding Once
once_at [] d i j t b h l m x y = absurd (omega arith)
once_at (c ∷ cs) d zero zero t b h l m x y = refl
once_at (c ∷ cs) d zero (suc j) t b h l m x y = absurd (each_at (λ c. Holds c t b → ⊥) cs d j (omega arith) (h.0 t b x) y)
once_at (c ∷ cs) d (suc i) zero t b h l m x y = absurd (each_at (λ c. Holds c t b → ⊥) cs d i (omega arith) (h.0 t b y) x)
once_at (c ∷ cs) d (suc i) (suc j) t b h l m x y = ap suc (once_at cs d i j t b h.1 (omega arith) (omega arith) x y)

pub one_owner : OneOwner
one_owner plan h d i j t b l m x y = once_at (claims_of plan) d i j t b h.once l m x y
