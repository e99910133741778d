-- The mark of what can wait says whether it stands in its node's queue.
use mathlib.Core.Path.{◌≡◌, refl, sym, ap, ◌∙◌}
use mathlib.Core.Logic.{◌≢◌, inl, inr}
use mathlib.Core.Bool.{Bool, true, false}
use mathlib.Core.List.{List, [], ◌∷◌}
use Prim.Native.Nat.{ℕ, zero, suc, ◌<◌}
use native.Mathlib.Omega.{arith}
use lib.ListN.{length, get_or}
use Rattle.base.specs.Numbers.{byte_at}
use Rattle.records.specs.Records.{records}
use Rattle.plan.specs.Rows.{nodes_in}
use Rattle.area.specs.Layout.{waits}
use Rattle.area.specs.Queue.{entry_of, queue_of}
use Rattle.sending.proofs.Waiters.{CanWait}
use Rattle.model.specs.State.{State, queue_on}
use Rattle.model.specs.Scheduling.{is_in}
use Rattle.model.specs.Words.{In}
use Rattle.model.proofs.Entries.{in_is_in, is_in_in}
use Rattle.sending.proofs.Entries.{number_entry}
use Rattle.refines.proofs.Entries.{In-mapped, mapped_in}
use Rattle.refines.proofs.Held.{Held, below}

-- ---- standing in a list, by place

pub In-at : (xs : List ℕ) (i x : ℕ) → i < length xs → get_or xs i 0 ≡ x → In x xs
unfolding In
In-at [] i x l e = absurd (omega arith)
In-at (y ∷ ys) zero x l e = inl (sym e)
In-at (y ∷ ys) (suc i) x l e = inr (In-at ys i x (omega arith) e)

pub at_in : (xs : List ℕ) (x : ℕ) → In x xs → (i : ℕ) × (i < length xs) × (get_or xs i 0 ≡ x)
unfolding In
at_in [] x w = absurd w
at_in (y ∷ ys) x (inl e) = (0, omega arith, sym e)
at_in (y ∷ ys) x (inr w) = let v = at_in ys x w in (suc v.0, omega (arith, v.1), v.2)

module _ {plan a : List ℕ} {s : State} (h : Held plan a s) (n k : ℕ) (node : n < nodes_in (records plan)) (can : CanWait plan n k) where
  pub marked_in : byte_at a (waits k) ≢ 0 → is_in (entry_of k) (queue_on s n) ≡ true
  marked_in d =
      let w = h.ready.queues.stands n k can d in
      in_is_in (entry_of k) (queue_on s n)
      (rw (h.shows.queues n node) at (In-mapped k (queue_of a n) (In-at (queue_of a n) w.place k w.within w.there)))

  pub unmarked_out : byte_at a (waits k) ≡ 0 → is_in (entry_of k) (queue_on s n) ≡ false
  unmarked_out e = go (is_in (entry_of k) (queue_on s n)) refl
    where
      go : (b : Bool) → is_in (entry_of k) (queue_on s n) ≡ b → is_in (entry_of k) (queue_on s n) ≡ false
      go false f = f
      go true f =
          let there : In (entry_of k) (queue_on s n) = is_in_in (entry_of k) (queue_on s n) f in
          let number = mapped_in (entry_of k) (queue_of a n) (rw (← (h.shows.queues n node)) at there) in
          let w = at_in (queue_of a n) k (rw (number_entry k) at number) in
          absurd ((h.ready.queues.queue n (below h n node)).marked w.0 w.1 (ap (λ u. byte_at a (waits u)) w.2 ∙ e))
