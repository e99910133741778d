-- `bench::run` meets its contract. The loop's invariant: some text, as long as what was handed on, and then the text from here on is the whole
-- output.
use Prim.Native.Nat.{ℕ, ◌+◌}
use mathlib.Core.Path.{◌≡◌, sym, ap, ◌∙◌}
use mathlib.Core.List.{List, ◌++◌, append_assoc, append-nil}
use native.Mathlib.Omega.{arith}
use lib.ListN.{length, take, length-append}
use lib.Seq.{length-take-le}
use Rattle.output.proofs.OutputLaws.{text_past}
use Rattle.std.proofs.KnownBytes.{Appends-trans}
use Rattle.std.proofs.lemmas.Bool.{false≢true}
use Rattle.bench.proofs.run.Goals as goal

pub loop-at-preserved-then-ok : goal.loop-at-preserved-then-ok
loop-at-preserved-then-ok g c =
    let fill = c.fill-step in
    let loop = c.loop-at in
    let moved = fill.ensures.next.2 c.loop-at-test.true in
    let size = fill.result.size in
    let now = take size fill.new.out in
    let shown = loop.invariant.0.0 in
    let kept : length fill.new.out ≡ 65536 = omega arith in
    let count = length-take-le size fill.new.out (omega arith) in
    let longer : length shown + length now ≡ loop.total + c.hand_on-shown-in-loop-at.result.size = omega (arith, count) in (
      (
        shown ++ now,
        (
          append_assoc shown now _ ∙ ap (λ (t : List ℕ). shown ++ t) fill.ensures.text ∙ loop.invariant.0.1.0,
          length-append shown now ∙ longer,
          λ ok. Appends-trans _ _ _ _ _ (loop.invariant.0.1.2 c.if-ok.true) (c.hand_on-shown-in-loop-at.ensures.bytes ok),
        ),
      ),
      omega arith,
      omega arith,
      kept,
      omega arith,
      omega arith,
    )

pub loop-at-preserved : goal.loop-at-preserved
loop-at-preserved g c =
    let fill = c.fill-step in
    let loop = c.loop-at in
    let moved = fill.ensures.next.2 c.loop-at-test.true in
    let size = fill.result.size in
    let now = take size fill.new.out in
    let shown = loop.invariant.0.0 in
    let kept : length fill.new.out ≡ 65536 = omega arith in
    let count = length-take-le size fill.new.out (omega arith) in
    let longer : length shown + length now ≡ loop.total + c.hand_on-shown-in-loop-at.result.size = omega (arith, count) in (
      (
        shown ++ now,
        (
          append_assoc shown now _ ∙ ap (λ (t : List ℕ). shown ++ t) fill.ensures.text ∙ loop.invariant.0.1.0,
          length-append shown now ∙ longer,
          λ ok. absurd (false≢true (sym c.if-ok.false ∙ ok)),
        ),
      ),
      omega arith,
      omega arith,
      kept,
      omega arith,
      omega arith,
    )

pub returns-clause-size : goal.returns-clause-size
returns-clause-size g c =
    let loop = c.loop-at in
    let shown = loop.invariant.0.0 in
    let none = text_past _ _ _ _ c.loop-at-test.false in
    sym loop.invariant.0.1.1 ∙ ap length (sym (append-nil shown) ∙ ap (λ (t : List ℕ). shown ++ t) (sym none) ∙ loop.invariant.0.1.0)

pub returns-clause-bytes : goal.returns-clause-bytes
returns-clause-bytes g c = λ ok.
    let loop = c.loop-at in
    let shown = loop.invariant.0.0 in
    let none = text_past _ _ _ _ c.loop-at-test.false in
    let whole = sym (append-nil shown) ∙ ap (λ (t : List ℕ). shown ++ t) (sym none) ∙ loop.invariant.0.1.0 in
    rw (← whole) (loop.invariant.0.1.2 ok)
