-- `bench::serve` meets its contract: what it reads is all that there is, or is too long already.
use Prim.Native.Nat.{ℕ}
use mathlib.Core.Path.{◌≡◌, sym, ◌∙◌}
use mathlib.Core.Bool.{true}
use native.Mathlib.Omega.{arith}
use lib.ListN.{length-replicate}
use Rattle.std.specs.Prelude.{Result, Ok, Err, OnOk, is_ok}
use Rattle.std.proofs.lemmas.List.{length-take-le}
use Rattle.std.proofs.lemmas.Bool.{false≢true}
use Rattle.bench.proofs.Longest.{whole_input}
use Rattle.bench.proofs.serve.Goals as goal

holds : {A E P : Type 0} (r : Result A E) → is_ok r ≡ true → OnOk r P → P
holds (Ok x) ok p = p
holds (Err e) ok p = absurd (false≢true ok)

pub returns-then-is_ok : goal.returns-then-is_ok
returns-then-is_ok g c = λ ok.
    let read = c.read_input-size in
    let size = read.result.0 in
    let ended = holds read.result.1 (sym c.is_ok.ensures.value ∙ c.if-is_ok.true) read.ensures.end in
    whole_input _ _ _ _ _ read.ensures.bytes
    (λ short. ended (omega (arith, short, length-take-le size read.new.buf read.ensures.inside, read.auto.buf, length-replicate {A = ℕ} 65537 0)))
    (c.run-written.ensures.bytes ok)
