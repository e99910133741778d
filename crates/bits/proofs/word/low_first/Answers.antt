-- `bits::word::low_first` meets its contract: each of the eight bytes, whatever way it is read, has its weight in the sum.
use native.Mathlib.Omega.{arith}
use Rattle.std.proofs.Common.{◌≡◌, ◌∙◌, take, drop}
use Rattle.std.proofs.lemmas.List.{take_rest}
use Rattle.bits.proofs.WordLaws.{eight_each, eight_sum}
use Rattle.bits.proofs.word.low_first.Goals as goal

pub returns-in-Some : goal.returns-in-Some
returns-in-Some c =
    let v = c.args in
    let all : c.in-Some.eight.now ≡ take 8 (drop v.at v.bytes.now) = rw take_rest at c.in-Some.ensures.cases.same in
    let each = eight_each v.bytes.now c.in-Some.eight.now v.at all in
    c.from_le_bytes.ensures
    ∙ rw (eight_sum v.bytes.now v.at)
    (omega (arith, each.0, each.1, each.2, each.3, each.4, each.5, each.6, each.7))
