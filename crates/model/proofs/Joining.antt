-- Who joins the queues while some numbers have their turns: of each node those that pass a test, in number order.
use mathlib.Core.Path.{◌≡◌, refl, sym, ap, ◌∙◌}
use mathlib.Core.Logic.{◌≢◌, ⊎_elim}
use mathlib.Core.Bool.{Bool, true, false, true≢false}
use mathlib.Core.List.{List, [], ◌∷◌, ◌++◌, map, map-append, append-nil, append_assoc}
use Prim.Native.Nat.{ℕ, suc, ◌<◌}
use native.Mathlib.Omega.{arith}
use native.Mathlib.Decide.{ℕ_discrete}
use lib.ListN.{length, get_or, set}
use lib.Seq.{get_or-set_same, get_or-set_other}
use Rattle.base.proofs.Picks.{picks, passes}
use Rattle.records.specs.declared.record.Entry.{Entry}
use Rattle.model.specs.Scheduling.{is_in}
use Rattle.model.specs.Words.{In}
use Rattle.model.proofs.Entries.{in_is_in, is_in_in, in_map}
use Rattle.model.proofs.Upto.{upto, upto_in, In-left, In-either}

-- numbers stand in a queue as f says; before is what waited on a node at first, and the test says of a node and a number whether it joins
module _ (f : ℕ → Entry) (nodes : ℕ) (before : ℕ → List Entry) (test : ℕ → ℕ → Bool) where
  -- the queues after n turns
  abbrev pub Joined : ℕ → List (List Entry) → Type 0
  Joined n queues = (m : ℕ) → m < nodes → get_or queues m [] ≡ before m ++ map f (upto (test m) n)

  module _ (n : ℕ) (queues : List (List Entry)) (d : Joined n queues) where
    skipped : (m : ℕ) → test m n ≡ false → map f (upto (test m) (suc n)) ≡ map f (upto (test m) n)
    unfolding upto
    skipped m e = rw (passes (test m n) (n ∷ []) [] e, append-nil (upto (test m) n))

    last : (m : ℕ) → test m n ≡ true → map f (upto (test m) (suc n)) ≡ map f (upto (test m) n) ++ (f n ∷ [])
    unfolding upto
    last m e = rw (picks (test m n) (n ∷ []) [] e, map-append f (upto (test m) n) (n ∷ []))

    -- none joins
    pub stays : ((m : ℕ) → m < nodes → test m n ≡ false) → Joined (suc n) queues
    stays e m l = d m l ∙ ap (λ z. before m ++ z) (sym (skipped m (e m l)))

    -- n joins at its node
    pub joins : (home : ℕ) → length queues ≡ nodes → (home < nodes → test home n ≡ true) → ((m : ℕ) → m ≢ home → test m n ≡ false)
        → Joined (suc n) (set queues home (get_or queues home [] ++ (f n ∷ [])))
    joins home k e o m l = at (ℕ_discrete m home)
      where
        at : Dec (m ≡ home) → get_or (set queues home (get_or queues home [] ++ (f n ∷ []))) m [] ≡ before m ++ map f (upto (test m) (suc n))
        at (yes j) =
            rw j
            (get_or-set_same queues home _ [] (omega arith)
            ∙ ap (λ z. z ++ (f n ∷ [])) (d home (omega arith))
            ∙ append_assoc (before home) _ _
            ∙ ap (λ z. before home ++ z) (sym (last home (e (omega arith)))))
        at (no j) = get_or-set_other queues home m _ [] j ∙ d m l ∙ ap (λ z. before m ++ z) (sym (skipped m (o m j)))

    -- n waits at its turn exactly where it did at first
    pub waits : ((t u : ℕ) → f t ≡ f u → t ≡ u) → (m : ℕ) → m < nodes → is_in (f n) (get_or queues m []) ≡ is_in (f n) (before m)
    waits one m l = rw (d m l) (go (is_in (f n) (before m)) (is_in (f n) (before m ++ map f (upto (test m) n))) refl refl)
      where
        below : (t : ℕ) → In t (upto (test m) n) → n ≡ t → ⊥
        below t k e = omega (arith, (upto_in (test m) n t k).0)

        split : In (f n) (before m ++ map f (upto (test m) n)) → In (f n) (before m)
        split i =
            ⊎_elim (λ j. j) (λ j. let (t, k, e) = in_map f (f n) (upto (test m) n) j in absurd (below t k (one n t e)))
            (In-either (f n) (before m) _ i)

        go : (a b : Bool) → is_in (f n) (before m) ≡ a → is_in (f n) (before m ++ map f (upto (test m) n)) ≡ b
            → is_in (f n) (before m ++ map f (upto (test m) n)) ≡ is_in (f n) (before m)
        go true b e g = in_is_in (f n) _ (In-left (f n) (before m) _ (is_in_in (f n) _ e)) ∙ sym e
        go false false e g = g ∙ sym e
        go false true e g = absurd (true≢false (sym (in_is_in (f n) _ (split (is_in_in (f n) _ g))) ∙ e))
