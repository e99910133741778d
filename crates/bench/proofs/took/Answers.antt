-- `bench::took` meets its contract: the payload that it shows is short, and is the one that the take left.
use Prim.Native.Nat.{ℕ, ◌≤◌}
use mathlib.Core.List.{List}
use native.Mathlib.Omega.{arith}
use lib.Dec.{leb}
use lib.ListN.{length, length-take}
use Rattle.std.specs.Prelude.{Option, Some, None, Result, Ok, Err}
use Rattle.base.proofs.Picks.{both}
use Rattle.area.specs.Layout.{area_length}
use Rattle.answers.specs.declared.Refusal.{Refusal}
use Rattle.answers.specs.declared.Taken.{Taken}
use Rattle.answers.specs.declared.Taken.TheVariants.{Frame, Request}
use Rattle.taking.specs.Taken.{kept_part, taken_payload}
use Rattle.output.specs.Output.{taken_text}
use Rattle.bench.proofs.took.Goals as goal

short : (a : List ℕ) (t : Result (Option Taken) Refusal) → length (taken_payload a t) ≤ 256
unfolding taken_payload kept_part
short a (Ok None) = omega arith
short a (Err why) = omega arith
short a (Ok (Some (Request request))) = omega arith
short a (Ok (Some (Frame frame))) =
    both (λ (p : List ℕ). length p ≤ 256) (leb area_length (length a)) _ _
    (simp length-take (omega arith)) (omega arith)

pub take_line-requires : goal.take_line-requires
take_line-requires c = (omega arith, rw c.payload.ensures (short _ _))

pub returns : goal.returns
unfolding taken_text
returns c =
    let call = c.take-answer.ensures in
    record { text = rw (← call.bytes, ← call.answer, ← c.payload.ensures) c.take_line.ensures; bytes = call.bytes }
