-- The number that C has for an ID gives back the ID, whichever its format: so it is for every ID in an area of bytes.
use mathlib.Core.Path.{◌≡◌, ap, ◌∙◌}
use mathlib.Core.List.{List}
use Prim.Native.Nat.{ℕ, ◌+◌, ◌-◌, ◌%◌, ◌<◌}
use native.Mathlib.Omega.{arith}
use borrow.Author.Tests.{lt-ltb, le-ltb}
use Rattle.base.proofs.Picks.{picks, passes, both}
use Rattle.bits.proofs.PayloadLaws.{Bytes}
use Rattle.records.specs.declared.record.Id.{Id}
use Rattle.records.specs.declared.record.Id.TheVariants.{Standard, Extended}
use Rattle.records.specs.Ids.{plain_id, format_bit}
use Rattle.area.specs.Layout.{plan_start, id_before}
use Rattle.interface.specs.Structs.{id_in, word_of}

-- an ID whose number leaves bit 31 free
abbrev pub Fits : Id → Type 0
Fits id = plain_id id < format_bit

pub word_back : (id : Id) → Fits id → id_in (word_of id) ≡ id
unfolding id_in word_of plain_id
word_back (Standard n) h =
    let same : n % format_bit ≡ n = omega arith in
    rw same (picks _ _ _ (lt-ltb n format_bit h))
word_back (Extended n) h =
    let same : n % format_bit ≡ n = omega arith in
    let rest : format_bit + n - format_bit ≡ n = omega arith in
    rw same (passes _ _ _ (le-ltb (format_bit + n) format_bit (omega arith)) ∙ ap Extended rest)

-- two bytes of the area, or four of which 29 bits count
pub id_fits : (a : List ℕ) (k at : ℕ) → Bytes a → Fits (id_before a k at)
unfolding id_before plain_id
id_fits a k at b =
    let place = plan_start + at - 2 in
    both Fits _ _ _ (omega (arith, b place, b (place + 1))) (omega arith)
