-- What a take and a fullness come to, by what decides them: one law for each answer.
use mathlib.Core.Path.{◌≡◌}
use mathlib.Core.Bool.{true, false}
use mathlib.Core.List.{List}
use Prim.Native.Nat.{ℕ, ◌-◌, ◌≤◌, ◌<◌}
use borrow.Author.Tests.{lt-ltb, le-ltb, eq-eqb, ne_eqb}
use Rattle.std.specs.Prelude.{Option, Some, None, Result, Ok, Err}
use Rattle.base.specs.Pick.{pick}
use Rattle.area.specs.Layout.{marked, node_count, tx_count, owned_bits}
use Rattle.area.specs.Queue.{ends_of, entry_of, oldest, dequeued}
use Rattle.area.specs.declared.queue.Ends.{Ends}
use Rattle.answers.specs.declared.Refusal.{Refusal}
use Rattle.answers.specs.declared.Refusal.TheVariants.{NotOpen, NoNode, NoFrame}
use Rattle.answers.specs.declared.Taken.{Taken}
use Rattle.taking.specs.Taken.{entry_answer, oldest_answer, oldest_area, taken_answer, taken_area, fullness_answer}

module _ (a : List ℕ) (n : ℕ) where
  abbrev pub Comes : Result (Option Taken) Refusal → List ℕ → Type 0
  Comes x b = (x ≡ taken_answer a n) × (b ≡ taken_area a n)

  pub not_open : marked a ≡ false → Comes (Err NotOpen) a
  unfolding taken_answer taken_area pick
  not_open e = (rw e, rw e)

  module _ (opened : marked a ≡ true) where
    pub no_node : node_count a ≤ n → Comes (Err NoNode) a
    unfolding taken_answer taken_area pick
    no_node h = let t = le-ltb n (node_count a) h in (rw (opened, t), rw (opened, t))

    module _ (known : n < node_count a) where
      pub nothing : (ends_of a n).waiting ≡ 0 → Comes (Ok None) a
      unfolding taken_answer taken_area oldest_answer oldest_area pick
      nothing e =
          let t = lt-ltb n (node_count a) known in
          let u = eq-eqb (ends_of a n).waiting 0 e in
          (rw (opened, t, u), rw (opened, t, u))

      -- e are the ends of the queue, and k is the number of the oldest
      pub leaves :
          (e : Ends) (k : ℕ) (x : Taken) (b : List ℕ) → e ≡ ends_of a n → k ≡ oldest a n → x ≡ entry_answer a n (entry_of k) (e.waiting - 1)
          → (e.waiting ≡ 0 → ⊥) → b ≡ dequeued a n → Comes (Ok (Some x)) b
      unfolding taken_answer taken_area oldest_answer oldest_area pick
      leaves e k x b ends first answered d left =
          let t = lt-ltb n (node_count a) known in
          let u = ne_eqb (ends_of a n).waiting 0 (rw ends at d) in
          (rw (opened, t, u, ← first, ← ends, answered), rw (opened, t, u) left)

module _ (a : List ℕ) (t : ℕ) where
  pub full_not_open : marked a ≡ false → Err NotOpen ≡ fullness_answer a t
  unfolding fullness_answer pick
  full_not_open e = rw e

  module _ (opened : marked a ≡ true) where
    pub no_frame : tx_count a ≤ t → Err NoFrame ≡ fullness_answer a t
    unfolding fullness_answer pick
    no_frame h = rw (opened, le-ltb t (tx_count a) h)

    pub owned : t < tx_count a → Ok (owned_bits a t) ≡ fullness_answer a t
    unfolding fullness_answer pick
    owned h = rw (opened, lt-ltb t (tx_count a) h)
