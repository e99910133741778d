-- `interface::structs::refusal_number` meets its contract: the numbers are at most 16.
use Prim.Native.Nat.{◌≤◌}
use native.Mathlib.Omega.{arith}
use Rattle.answers.specs.Answers.{refusal_number}
use Rattle.interface.proofs.Numbers.{numbered}
use Rattle.interface.proofs.structs.refusal_number.Goals as goal

pub returns : goal.returns
returns c = let small : refusal_number c.args.why ≤ 16 = (numbered c.args.why).high in
    rw c.number.ensures (omega arith)
