-- The part of the area that a payload's struct says is the payload, and lies inside the area.
use mathlib.Core.Path.{◌≡◌, refl}
use mathlib.Core.List.{List}
use Prim.Native.Nat.{ℕ, ◌+◌, ◌≤◌}
use native.Mathlib.Omega.{arith}
use borrow.Author.Tests.{leb-true}
use lib.ListN.{length, take, drop}
use Rattle.std.specs.Prelude.{Option, Some, None, Result, Ok, Err}
use Rattle.base.proofs.Picks.{cases, into}
use Rattle.area.specs.Layout.{area_length, long_enough}
use Rattle.answers.specs.declared.Refusal.{Refusal}
use Rattle.answers.specs.declared.Taken.{Taken}
use Rattle.answers.specs.declared.Taken.TheVariants.{Frame, Request}
use Rattle.taking.specs.Taken.{kept_part, taken_payload}
use Rattle.interface.specs.declared.structs.GatewayPayload.{GatewayPayload}
use Rattle.interface.specs.Structs.{no_part, payload_struct}

abbrev part : List ℕ → GatewayPayload → List ℕ
part a p = take p.size (drop p.at a)

pub part_payload : (a : List ℕ) (t : Result (Option Taken) Refusal) → part a (payload_struct (length a) t) ≡ taken_payload a t
unfolding payload_struct no_part taken_payload kept_part
part_payload a (Ok (Some (Frame x))) = into (part a) (long_enough (length a)) _ _
part_payload a (Ok (Some (Request x))) = refl
part_payload a (Ok None) = refl
part_payload a (Err why) = refl

pub part_inside : (a : List ℕ) (t : Result (Option Taken) Refusal) → (payload_struct (length a) t).at + (payload_struct (length a) t).size ≤ length a
unfolding payload_struct no_part
part_inside a (Ok (Some (Frame x))) =
    cases (λ (p : GatewayPayload). p.at + p.size ≤ length a) (long_enough (length a)) _ _
    (λ e. omega (arith, leb-true area_length (length a) e)) (λ e. omega arith)
part_inside a (Ok (Some (Request x))) = omega arith
part_inside a (Ok None) = omega arith
part_inside a (Err why) = omega arith
