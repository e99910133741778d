-- A number and what has it: each frame and each request has a number of its own.
use mathlib.Core.Path.{◌≡◌, refl, sym, ap, ◌∙◌}
use Prim.Native.Nat.{ℕ, ◌+◌, ◌-◌, ◌<◌}
use native.Mathlib.Omega.{arith}
use lib.Dec.{ltb}
use borrow.Author.Tests.{ltb-false, lt-ltb, le-ltb}
use Rattle.base.proofs.Picks.{picks, passes, cases}
use Rattle.records.specs.Nodes.{frame, request}
use Rattle.area.specs.Layout.{requests_start}
use Rattle.area.specs.Queue.{entry_of, number_of}

pub entry_frame : (t : ℕ) → t < requests_start → entry_of t ≡ frame t
unfolding entry_of
entry_frame t h = picks _ _ _ (lt-ltb t requests_start h)

pub entry_request : (r : ℕ) → entry_of (requests_start + r) ≡ request r
unfolding entry_of
entry_request r =
    let same : requests_start + r - requests_start ≡ r = omega arith in
    passes _ _ _ (le-ltb (requests_start + r) requests_start (omega arith)) ∙ ap request same

pub number_entry : (k : ℕ) → number_of (entry_of k) ≡ k
unfolding entry_of number_of
number_entry k =
    cases (λ x. number_of x ≡ k) (ltb k requests_start) _ _ (λ e. refl) (λ e. let l = ltb-false k requests_start e in omega arith)

-- so two numbers of one entry are one
pub entry_one : {j k : ℕ} → entry_of j ≡ entry_of k → j ≡ k
entry_one {j} {k} e = sym (number_entry j) ∙ ap number_of e ∙ number_entry k
