-- What the model's search finds: the row that a node and an ID name, or nothing.
use mathlib.Core.Path.{◌≡◌, refl, ap, ◌∙◌}
use mathlib.Core.Logic.{◌⊎◌, inl, inr, ⊎_elim}
use mathlib.Core.List.{List, [], ◌∷◌}
use Prim.Native.Nat.{ℕ, zero, suc, ◌+◌, ◌<◌}
use native.Mathlib.Omega.{arith}
use native.Mathlib.Decide.{ℕ_discrete}
use lib.ListN.{length, get_or}
use borrow.Author.Tests.{eq-eqb, ne_eqb}
use Rattle.base.proofs.Picks.{picks, passes}
use Rattle.records.specs.declared.record.Id.{Id}
use Rattle.plan.specs.Rows.{Row, no_row}
use Rattle.model.specs.Plan.{Plan}
use Rattle.model.specs.Reception.{at, nothing, find}
use Rattle.model.specs.Words.{Names}
use Rattle.model.proofs.Ids.{is_same, dec_same, not_same}
use Rattle.model.proofs.Lawful.{Lawful}

-- what the search among some rows finds
Finds : ℕ → Id → ℕ → List Row → Type 0
Finds n i r rows =
    ((find n i r rows ≡ nothing) × ((k : ℕ) → k < length rows → (get_or rows k no_row).frame.node ≡ n → (get_or rows k no_row).frame.id ≡ i → ⊥))
    ⊎ ((k : ℕ) × (find n i r rows ≡ at (r + k)) × (k < length rows) × ((get_or rows k no_row).frame.node ≡ n) × ((get_or rows k no_row).frame.id ≡ i))

finds : (n : ℕ) (i : Id) (r : ℕ) (rows : List Row) → Finds n i r rows
unfolding find Finds
finds n i r [] = inl (refl, λ k l. absurd (omega arith))
finds n i r (x ∷ xs) = go (ℕ_discrete x.frame.node n) (dec_same x.frame.id i) (finds n i (suc r) xs)
  where
    skip : (x.frame.node ≡ n → x.frame.id ≡ i → ⊥) → find n i r (x ∷ xs) ≡ find n i (suc r) xs → Finds n i (suc r) xs → Finds n i r (x ∷ xs)
    skip d e (inl (f, g)) = inl (e ∙ f, none)
      where
        none : (k : ℕ) → k < length (x ∷ xs) → (get_or (x ∷ xs) k no_row).frame.node ≡ n → (get_or (x ∷ xs) k no_row).frame.id ≡ i → ⊥
        none zero l a b = d a b
        none (suc k) l a b = g k (omega arith) a b
    skip d e (inr (k, f, l, a, b)) = inr (suc k, e ∙ f ∙ ap at (omega arith), omega arith, a, b)

    go : Dec (x.frame.node ≡ n) → Dec (x.frame.id ≡ i) → Finds n i (suc r) xs → Finds n i r (x ∷ xs)
    go (yes a) (yes b) w =
        inr (0, picks _ _ _ (eq-eqb _ n a) ∙ picks _ _ _ (is_same _ i b) ∙ ap at (omega arith), omega arith, a, b)
    go (yes a) (no b) w = skip (λ e f. b f) (picks _ _ _ (eq-eqb _ n a) ∙ passes _ _ _ (not_same _ i b)) w
    go (no a) v w = skip (λ e f. a e) (passes _ _ _ (ne_eqb _ n a)) w

module _ (p : Plan) (lawful : Lawful p) where
  pub found : (n : ℕ) (i : Id) (r : ℕ) → Names p n i r → find n i 0 p.rows ≡ at r
  unfolding Finds
  found n i r x =
      ⊎_elim (λ w. absurd (w.1 r x.exists x.node x.id))
      (λ w. w.1 ∙ ap at (omega (arith, lawful.one n i w.0 r (record { exists = w.2; node = w.3; id = w.4 }) x)))
      (finds n i 0 p.rows)

  pub missed : (n : ℕ) (i : Id) → ((r : ℕ) → Names p n i r → ⊥) → find n i 0 p.rows ≡ nothing
  unfolding Finds
  missed n i f = ⊎_elim (λ w. w.0) (λ w. absurd (f w.0 (record { exists = w.2; node = w.3; id = w.4 }))) (finds n i 0 p.rows)
