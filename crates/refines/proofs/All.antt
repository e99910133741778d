-- Over any openings and calls, an area answers as the model does.
use mathlib.Core.Path.{◌≡◌, refl, ap, ◌∙◌}
use mathlib.Core.List.{List, [], ◌∷◌, ◌++◌}
use Prim.Native.Nat.{ℕ}
use lib.ListN.{length}
use Rattle.std.specs.Prelude.{Ok, Err}
use Rattle.base.proofs.Apart.{differ}
use Rattle.base.specs.Numbers.{Bytes}
use Rattle.plan.specs.Check.{check_plan}
use Rattle.facts.specs.Good.{Each}
use Rattle.answers.specs.declared.Refusal.{Refusal}
use Rattle.opening.specs.Opened.{opened_answer}
use Rattle.model.specs.Calls.{World, closed, Step, opening, call, Reply, opened, answered, the_model, reply_of, world_after, replies, after}
use Rattle.model.specs.Rules.{OfBytes}
use Rattle.history.specs.Calls.{reply_in, stepped, replies_in, after_in}
use Rattle.refines.specs.Shows.{AsTheModel}
use Rattle.refines.proofs.Lengths.{opened_sized, call_sized}
use Rattle.refines.proofs.Worlds.{unmarked, Agrees, stands, call_agrees, opening_answer, opening_agrees}

-- ---- the length of an area

stepped_size : (a : List ℕ) (c : Step) → length (stepped a c) ≡ length a
unfolding stepped
stepped_size a (opening plan) = opened_sized _ plan a
stepped_size a (call c) = call_sized a c

pub size : (a : List ℕ) (cs : List Step) → length (after_in a cs) ≡ length a
unfolding after_in
size a [] = refl
size a (c ∷ cs) = size (stepped a c) cs ∙ stepped_size a c

-- ---- step by step

step : (room : ℕ) (a : List ℕ) → length a ≡ room → (w : World) → Agrees a w → (c : Step) → OfBytes c
    → (reply_in a c ≡ reply_of (the_model room) w c) × Agrees (stepped a c) (world_after (the_model room) w c)
unfolding reply_in stepped reply_of world_after the_model OfBytes
step room a e w k (opening plan) b = rw (← e) (ap opened (opening_answer (length a) (check_plan plan)), opening_agrees a plan b w (λ why number f. k))
step room a e w k (call c) b = let x = call_agrees a w k c in (ap answered x.0, x.1)

joined : {x y : Reply} {xs ys : List Reply} → x ≡ y → xs ≡ ys → x ∷ xs ≡ y ∷ ys
joined e f = rw (e, f)

steps : (room : ℕ) (a : List ℕ) → length a ≡ room → (w : World) → Agrees a w → (cs : List Step) → Each OfBytes cs
    → (replies_in a cs ≡ replies (the_model room) w cs) × Agrees (after_in a cs) (after (the_model room) w cs)
unfolding replies_in after_in replies after Each
steps room a e w k [] b = (refl, k)
steps room a e w k (c ∷ cs) b =
    let x = step room a e w k c b.0 in
    let y = steps room (stepped a c) (stepped_size a c ∙ e) _ x.1 cs b.1 in
    (joined x.0 y.0, y.1)

-- ---- one list of steps after the other

replies_append : (a : List ℕ) (cs ds : List Step) → replies_in a (cs ++ ds) ≡ replies_in a cs ++ replies_in (after_in a cs) ds
unfolding replies_in after_in
replies_append a [] ds = refl
replies_append a (c ∷ cs) ds = ap (λ xs. reply_in a c ∷ xs) (replies_append (stepped a c) cs ds)

pub after_append : (a : List ℕ) (cs ds : List Step) → after_in a (cs ++ ds) ≡ after_in (after_in a cs) ds
unfolding after_in
after_append a [] ds = refl
after_append a (c ∷ cs) ds = after_append (stepped a c) cs ds

-- ---- from an opening on, whatever stands in the area

module _ (room : ℕ) (a : List ℕ) (e : length a ≡ room) (plan : List ℕ) where
  answers : (w : World) → reply_in a (opening plan) ≡ reply_of (the_model room) w (opening plan)
  unfolding reply_in reply_of the_model
  answers w = rw (← e) (ap opened (opening_answer (length a) (check_plan plan)))

  not_refused : {n t r : ℕ} → reply_in a (opening plan) ≡ opened (Ok (record { nodes = n; tx = t; rx = r })) → (why : Refusal) (number : ℕ)
      → opened_answer (check_plan plan) (length a) ≡ Err (record { why = why; record_number = number }) → ⊥
  unfolding reply_in
  not_refused f why number g = differ cc

  opens : {n t r : ℕ} → reply_in a (opening plan) ≡ opened (Ok (record { nodes = n; tx = t; rx = r })) → Bytes plan
      → Agrees (stepped a (opening plan)) (world_after (the_model room) closed (opening plan))
  unfolding stepped world_after the_model
  opens f b = rw (← e) (opening_agrees a plan b closed (λ why number g. absurd (not_refused f why number g)))

  pub since : {n t r : ℕ} → reply_in a (opening plan) ≡ opened (Ok (record { nodes = n; tx = t; rx = r })) → Bytes plan → (cs : List Step) → Each OfBytes cs
      → (replies_in a (opening plan ∷ cs) ≡ replies (the_model room) closed (opening plan ∷ cs))
      × Agrees (after_in a (opening plan ∷ cs)) (after (the_model room) closed (opening plan ∷ cs))
  unfolding replies_in after_in replies after
  since f b cs bs =
      let y = steps room (stepped a (opening plan)) (stepped_size a (opening plan) ∙ e) _ (opens f b) cs bs in
      (joined (answers closed) y.0, y.1)

pub as_the_model : AsTheModel
unfolding Agrees
as_the_model =
    record {
      unopened =
          λ a n cs b.
          let x = steps (length a) a refl closed (unmarked a n) cs b in
          record { replies = x.0; stands = stands _ _ x.1 };
      since =
          λ a before plan n t r f b cs bs.
          let x = since (length a) (after_in a before) (size a before) plan f b cs bs in
          record {
            replies = replies_append a before (opening plan ∷ cs) ∙ ap (λ xs. replies_in a before ++ xs) x.0;
            stands = rw (after_append a before (opening plan ∷ cs)) (stands _ _ x.1);
          };
      openings = λ a before plan w. answers (length a) (after_in a before) (size a before) plan w;
      size = size;
    }
