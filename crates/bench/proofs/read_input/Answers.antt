-- `bench::read_input` meets its contract. The loop's invariant: the reader gave the bytes that the buffer has so far.
use Prim.Native.Nat.{ℕ, ◌+◌, ◌-◌, ◌≤◌}
use mathlib.Core.Path.{◌≡◌, sym, ap, ◌∙◌}
use mathlib.Core.List.{List, ◌++◌}
use native.Mathlib.Omega.{arith}
use borrow.Rule.Slice.PartMut.{put_mid, same_len_mid}
use lib.ListN.{length, take, length-take, length-drop}
use lib.Seq.{length-take-le}
use Rattle.std.proofs.Math.Seq.{take-append-add}
use Rattle.std.proofs.lemmas.List.{take-append-le}
use Rattle.std.proofs.KnownBytes.{Consumes-trans}
use Rattle.bench.proofs.read_input.Goals as goal

-- the bytes that stood there, and the first of those that were put behind them
more : (done k n : ℕ) (old put : List ℕ) → done ≤ length old → n ≤ length put
    → take done old ++ take n put ≡ take (done + n) (put_mid done k old put)
more done k n old put h l =
    let front : length (take done old) ≡ done = length-take-le done old h in
    sym (
    ap (λ (m : ℕ). take (m + n) (put_mid done k old put)) (sym front)
    ∙ take-append-add (take done old) _ n
    ∙ ap (λ (t : List ℕ). take done old ++ t) (take-append-le n put _ l)
    )

pub loop-done-preserved : goal.loop-done-preserved
loop-done-preserved g c =
    let loop = c.loop-done in
    let k = length loop.buf - loop.done in
    let put = c.read.new.buf in
    let within : c.in-Ok.n ≤ length put = c.in-Ok.ensures.bound.0 in
    let same : length (put_mid loop.done k loop.buf put) ≡ length loop.buf = same_len_mid {X = ℕ} loop.done k loop.buf put c.read.auto.buf in (
      omega (arith, simp (length-take, length-drop) at c.read.auto.buf),
      same ∙ loop.invariant.1,
      rw (← more loop.done k c.in-Ok.n loop.buf put loop.invariant.0 within)
          (Consumes-trans _ _ _ _ _ loop.invariant.2 c.in-Ok.ensures.bytes.0),
    )
