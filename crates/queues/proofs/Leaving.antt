-- What waits leaves in its turn: over some calls, none of them an opening, each take on its node brings it one nearer, and nothing else moves it.
use mathlib.Core.Path.{◌≡◌, ap, ◌∙◌}
use mathlib.Core.List.{List, [], ◌∷◌, map}
use mathlib.Core.Option.{some}
use Prim.Native.Nat.{ℕ, zero, suc, ◌-◌, ◌≤◌, ◌<◌}
use native.Mathlib.Nat.{sub-zero}
use native.Mathlib.Omega.{arith}
use lib.ListN.{length, length-append, get_or-append}
use Rattle.std.specs.Prelude.{Option, Result}
use Rattle.records.specs.declared.record.Entry.{Entry}
use Rattle.answers.specs.declared.Refusal.{Refusal}
use Rattle.answers.specs.declared.Taken.{Taken}
use Rattle.sending.proofs.Longer.{Longer}
use Rattle.model.specs.Plan.{said}
use Rattle.model.specs.Calls.{Call, call}
use Rattle.history.specs.Calls.{area_after, stepped, after_in}
use Rattle.refines.specs.Shows.{waiting_on}
use Rattle.queues.specs.Turns.{leaving, take_on, takes_on, leaving_at, Ahead}
use Rattle.queues.proofs.Opened.{IsOpen, open_after}
use Rattle.queues.proofs.Taking.{nobody, oldest, Turn, adds, takes, turn}

module _ (n : ℕ) (e : Entry) where
  -- ---- places in a queue

  -- those that come stand behind it
  Ahead-grows : {a b : List ℕ} (k : ℕ) → Ahead a n k e → Longer (waiting_on a n) (waiting_on b n) → Ahead b n k e
  Ahead-grows {a} k h g =
      record {
        waits = rw (g.then, length-append) (omega (arith, h.waits));
        there = rw (g.then, get_or-append (waiting_on a n) g.new e k h.waits) h.there;
      }

  -- the oldest has left
  Ahead-left : {a b : List ℕ} (k : ℕ) (x : Entry) → waiting_on a n ≡ x ∷ waiting_on b n → Ahead a n (suc k) e → Ahead b n k e
  Ahead-left k x q h =
      let w = rw q at h.waits in
      record { waits = omega arith; there = rw q at h.there }

  -- ---- one call, and those that follow it

  pub record Leaves (a : List ℕ) (k : ℕ) (calls : List Call) : Type 0 where
    pub leaves : k < length (takes_on n a calls) → leaving_at k n a calls ≡ some e
    pub until : length (takes_on n a calls) ≤ k → Ahead (after_in a (map call calls)) n (k - length (takes_on n a calls)) e

  module _ {a : List ℕ} (c : Call) (cs : List Call) where
    passed : take_on n a c ≡ [] → (k : ℕ) → Leaves (area_after a c) k cs → Leaves a k (c ∷ cs)
    unfolding takes_on after_in stepped
    passed t k h = record { leaves = rw t h.leaves; until = rw t h.until }

    first : (x : Result (Option Taken) Refusal) → take_on n a c ≡ x ∷ [] → leaving x ≡ some e → Leaves a 0 (c ∷ cs)
    unfolding takes_on
    first x t f = record { leaves = rw t (λ l. f); until = rw t (λ l. absurd (omega arith)) }

    later : (x : Result (Option Taken) Refusal) → take_on n a c ≡ x ∷ [] → (k : ℕ) → Leaves (area_after a c) k cs → Leaves a (suc k) (c ∷ cs)
    unfolding takes_on after_in stepped
    later x t k h =
        let m = length (takes_on n (area_after a c) cs) in
        let same : suc k - suc m ≡ k - m = omega arith in
        record { leaves = rw t (λ l. h.leaves (omega arith)); until = rw t (λ l. rw same (h.until (omega arith))) }

  module _ {plan : List ℕ} (l : n < (said plan).nodes) where
    pub in_turn : (calls : List Call) (a : List ℕ) → IsOpen plan a → (k : ℕ) → Ahead a n k e → Leaves a k calls
    unfolding takes_on after_in
    in_turn [] a o k h = record { leaves = λ m. absurd (omega arith); until = λ m. rw sub-zero h }
    in_turn (c ∷ cs) a o k h = go (turn o n l c) k h (in_turn cs (area_after a c) (open_after o c))
      where
        go : Turn n a c → (k : ℕ) → Ahead a n k e → ((k : ℕ) → Ahead (area_after a c) n k e → Leaves (area_after a c) k cs) → Leaves a k (c ∷ cs)
        go (adds t g) k h rest = passed c cs t k (rest k (Ahead-grows k h g))
        go (takes t is (nobody x q r)) k h rest = absurd (let w = rw q at h.waits in omega arith)
        go (takes t is (oldest f others tells q r)) zero h rest = first c cs _ t (tells.leaves ∙ ap some (rw q at h.there))
        go (takes t is (oldest f others tells q r)) (suc k) h rest = later c cs _ t k (rest k (Ahead-left k f (q ∙ rw (is, r)) h))
