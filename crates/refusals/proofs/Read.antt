-- What the check has read is what the records say: their counts, their number and the stage of the last one.
use mathlib.Core.Path.{◌≡◌, refl, sym, ◌∙◌}
use mathlib.Core.List.{List, [], ◌∷◌, ◌++◌}
use Prim.Native.Nat.{◌+◌}
use native.Mathlib.Omega.{arith}
use native.Mathlib.Nat.{add-zero}
use lib.Dec.{eqb}
use lib.ListN.{length}
use Rattle.base.specs.Pick.{pick}
use Rattle.records.specs.declared.record.Record.{Record}
use Rattle.records.specs.Kinds.{stage_of}
use Rattle.plan.specs.declared.progress.Counts.{Counts}
use Rattle.plan.specs.Progress.{counted, after}
use Rattle.plan.specs.Rows.{cans_in}
use Rattle.facts.specs.Good.{Each, count_of}
use Rattle.facts.specs.Statements.{State, stepped, state_after}
use Rattle.facts.proofs.Totals.{one_more}
use Rattle.refusals.proofs.Passing.{Whole, head, node, tx_frame, rx_frame, signal, destination, counts_in, stage_in}

pub record Adds (c d : Counts) (rs : List Record) : Type 0 where
  pub nodes : d.nodes ≡ c.nodes + count_of 2 rs
  pub can : d.can ≡ c.can + cans_in rs
  pub tx : d.tx ≡ c.tx + count_of 3 rs
  pub rx : d.rx ≡ c.rx + count_of 4 rs
  pub signals : d.signals ≡ c.signals + count_of 5 rs
  pub destinations : d.destinations ≡ c.destinations + count_of 6 rs

one : (c : Counts) (r : Record) → Whole r → (rs : List Record) (d : Counts) → Adds (counted c r) d rs → Adds c d (r ∷ rs)
unfolding counted cans_in stage_of count_of pick
one c r (head order) rs d a = omega arith
one c r (node body) rs d a = let more = one_more (eqb body.of 0) c.can (cans_in rs) in omega arith
one c r (tx_frame x) rs d a = omega arith
one c r (rx_frame x) rs d a = omega arith
one c r (signal g) rs d a = omega arith
one c r (destination t) rs d a = omega arith

pub adds : (rs : List Record) (s : State) → Each Whole rs → Adds (counts_in s) (counts_in (state_after s rs)) rs
unfolding state_after Each count_of cans_in after
adds [] s w = omega arith
adds (r ∷ rs) s w = one (counts_in s) r w.0 rs _ (adds rs (stepped s r) w.1)

pub number : (rs : List Record) (s : State) → (state_after s rs).progress.number ≡ s.progress.number + length rs
unfolding state_after after
number [] s = sym (add-zero _)
number (r ∷ rs) s = number rs (stepped s r) ∙ omega arith

-- ---- the last record

pub last_stage : (front : List Record) (y : Record) (s : State) → stage_in (state_after s (front ++ y ∷ [])) ≡ stage_of y
unfolding state_after after
last_stage [] y s = refl
last_stage (x ∷ front) y s = last_stage front y (stepped s x)
