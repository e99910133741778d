-- `bench::ticked` meets its contract: it lends the tick as much of a fresh report as it shows.
use Prim.Native.Nat.{ℕ, ◌+◌, ◌-◌, ◌≤◌}
use mathlib.Core.Path.{◌≡◌, sym, ap, ◌∙◌}
use mathlib.Core.List.{List}
use native.Mathlib.Omega.{arith}
use lib.ListN.{length, take, drop, replicate, length-replicate, replicate-append-replicate}
use lib.Seq.{take_at}
use Rattle.output.specs.Output.{fresh, ticked_text}
use Rattle.bench.proofs.ticked.Goals as goal

lent : (rx : ℕ) → rx ≤ 256 → take rx (fresh 256) ≡ fresh rx
lent rx h =
    let whole : 256 ≡ rx + (256 - rx) = omega arith in
    ap (λ (n : ℕ). take rx (replicate {A = ℕ} n 0)) whole ∙ ap (λ (l : List ℕ). take rx l) (sym (replicate-append-replicate {A = ℕ} rx (256 - rx) 0))
    ∙ take_at (fresh rx) (fresh (256 - rx)) rx (length-replicate {A = ℕ} rx 0)

pub returns : goal.returns
unfolding ticked_text
returns c = let call = c.tick-answer in
    let rx = c.args.rx in
    let zeros = lent rx c.requires.0 in
    let size : length call.new.report ≡ rx = call.auto.report ∙ ap (λ (l : List ℕ). length l) zeros ∙ length-replicate {A = ℕ} rx 0 in
    let shown = take_at call.new.report (drop rx (fresh 256)) rx size in
    let answer = rw zeros at call.ensures.answer in
    let report = rw zeros at call.ensures.report in
    record { text = rw (← answer, ← report) (rw shown at c.tick_line.ensures); bytes = rw answer at call.ensures.bytes }
