-- `interface::structs::payload_struct` meets its contract: the struct is read as `taken_of` reads it.
use mathlib.Core.Path.{◌≡◌, refl, sym}
use lib.Dec.{eqb}
use borrow.Author.Tests.{eq-eqb, ne_eqb, le-leb, lt-leb}
use Rattle.std.specs.Prelude.{Option, Result}
use Rattle.base.proofs.Picks.{picks, passes, both}
use Rattle.answers.specs.declared.Refusal.{Refusal}
use Rattle.answers.specs.declared.Taken.{Taken}
use Rattle.interface.specs.Structs.{no_part, payload_struct}
use Rattle.interface.specs.Back.{taken_of}
use Rattle.interface.proofs.structs.payload_struct.Goals as goal

pub returns-then-length-ge-AREA_LENGTH : goal.returns-then-length-ge-AREA_LENGTH
unfolding payload_struct taken_of
returns-then-length-ge-AREA_LENGTH c =
    rw (c.payload-at.ensures, c.in_width-size.ensures.0, picks _ _ _ (eq-eqb _ _ c.if-taken-eq1.true))
    (sym (picks _ _ _ (le-leb _ _ c.if-length-ge-AREA_LENGTH.true)))

pub returns-else-length-ge-AREA_LENGTH : goal.returns-else-length-ge-AREA_LENGTH
unfolding payload_struct no_part taken_of
returns-else-length-ge-AREA_LENGTH c = rw (picks _ _ _ (eq-eqb _ _ c.if-taken-eq1.true)) (sym (passes _ _ _ (lt-leb _ _ c.if-length-ge-AREA_LENGTH.false)))

pub returns-else-taken-eq1 : goal.returns-else-taken-eq1
unfolding payload_struct no_part taken_of
returns-else-taken-eq1 c = let a = c.args in
    let Empty : Result (Option Taken) Refusal → Type 0 = λ t. no_part ≡ payload_struct a.length t in
    rw (passes _ _ _ (ne_eqb _ _ c.if-taken-eq1.false))
    (both Empty (eqb a.taken.kind 2) _ _ refl (both Empty (eqb a.taken.number 0) _ _ refl refl))
