-- The numbers that wait in an area's queue, as frames and requests.
use mathlib.Core.Path.{◌≡◌, refl, ap, ◌∙◌}
use mathlib.Core.Logic.{inl, inr}
use mathlib.Core.List.{List, [], ◌∷◌, ◌++◌}
use Prim.Native.Nat.{ℕ}
use Rattle.records.specs.declared.record.Entry.{Entry}
use Rattle.area.specs.Queue.{entry_of, number_of}
use Rattle.sending.proofs.Entries.{number_entry}
use Rattle.model.specs.Opening.{mapped}
use Rattle.model.specs.Words.{In}

pub In-mapped : (k : ℕ) (xs : List ℕ) → In k xs → In (entry_of k) (mapped entry_of xs)
unfolding In mapped
In-mapped k [] w = absurd w
In-mapped k (x ∷ xs) (inl e) = inl (ap entry_of e)
In-mapped k (x ∷ xs) (inr w) = inr (In-mapped k xs w)

pub mapped_in : (e : Entry) (xs : List ℕ) → In e (mapped entry_of xs) → In (number_of e) xs
unfolding In mapped
mapped_in e [] w = absurd w
mapped_in e (x ∷ xs) (inl f) = inl (ap number_of f ∙ number_entry x)
mapped_in e (x ∷ xs) (inr w) = inr (mapped_in e xs w)

pub mapped_last : (xs : List ℕ) (k : ℕ) → mapped entry_of (xs ++ (k ∷ [])) ≡ mapped entry_of xs ++ (entry_of k ∷ [])
unfolding mapped
mapped_last [] k = refl
mapped_last (x ∷ xs) k = ap (λ (l : List Entry). entry_of x ∷ l) (mapped_last xs k)
