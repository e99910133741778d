-- "Fullness of a Tx frame answers how many of its bits have an owner, 0 to 64."
use Rattle.std.specs.Prelude.{ℕ, zero, suc, ◌+◌, Bool, false, ◌||◌, List, [], ◌∷◌, eqb, ltb, leb, length, Result, Ok, Err}
use Rattle.base.specs.Pick.{pick}
use Rattle.plan.specs.Rows.{width_of, Claim, all_claims}
use Rattle.answers.specs.declared.Refusal.{Refusal}
use Rattle.answers.specs.declared.Refusal.TheVariants.{NoFrame}
use Rattle.model.specs.Plan.{Plan}

unfoldable pub is_held : List Claim → ℕ → ℕ → Bool
is_held [] t b = false
is_held (c ∷ cs) t b = pick (eqb c.tx t) (pick (leb c.at b) (ltb b (c.at + width_of c.from)) false) false || is_held cs t b

unfoldable pub owned_below : List Claim → ℕ → ℕ → ℕ
owned_below cs t zero = 0
owned_below cs t (suc b) = owned_below cs t b + pick (is_held cs t b) 1 0

unfoldable pub fullness_of : Plan → ℕ → Result ℕ Refusal
fullness_of p t = pick (ltb t (length p.tx)) (Ok (owned_below (all_claims p.rows) t 64)) (Err NoFrame)
