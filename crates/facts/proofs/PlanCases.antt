-- The verdicts of the small plans, computed.
use mathlib.Core.Path.{◌≡◌, refl}
use mathlib.Core.List.{List, [], ◌∷◌}
use Prim.Native.Nat.{ℕ, zero, suc}
use lib.ListN.{drop}
use Rattle.facts.specs.PlanCases.{PlanCase, plan_cases, VerdictsHold}
use Rattle.facts.specs.Statements.{PlanCasesHold}
use Rattle.base.specs.Pick.{pick}
use Rattle.base.specs.Numbers.{at_most}
use Rattle.bits.specs.Digit.{digit, set_digit}
use Rattle.bits.specs.Owners.{owned, clash}
use Rattle.records.specs.Ids.{behind_id, key_of}
use Rattle.records.specs.Kinds.{eight_at, tx_at, rx_at, tx_record, rx_record, form_of, length_of, fields_at, tx_kind, rx_kind, kind_of, stage_of_kind, stage_of}
use Rattle.records.specs.Records.{record_at, size_of, records_from, records_at, records}
use Rattle.plan.specs.Progress.{row_key, counted, row_after, after, start}
use Rattle.plan.specs.Tests.{followed, is_kind, is_whole, may_stand, can_first, has_room, is_prescaler, zero_past, id_in_range, tx_in_range}
use Rattle.plan.specs.Tests.{rx_in_range, in_range, is_lin_id, frame_fits, fits_node, rises, in_data, is_free, indicator_in_data, indicator_is_free}
use Rattle.plan.specs.Check.{need, placed, judged, sizes_after, sets_after, ended, verdict_of, check_on, check_plan}

pub plan_cases_hold : PlanCasesHold
unfolding pick at_most digit set_digit owned clash behind_id key_of form_of length_of eight_at tx_at rx_at tx_record rx_record fields_at record_at tx_kind rx_kind kind_of
    stage_of_kind stage_of size_of records_from records_at records row_key counted row_after after start followed is_kind is_whole may_stand can_first has_room is_prescaler
    zero_past id_in_range tx_in_range rx_in_range in_range is_lin_id frame_fits fits_node rises in_data is_free indicator_in_data indicator_is_free need placed judged
    sizes_after sets_after ended verdict_of check_on check_plan
plan_cases_hold =
    let long : VerdictsHold (drop 41 plan_cases) =
    (refl, (refl, (refl, (refl, (refl, (refl, (refl, (refl, (refl, (refl, (refl, (refl, (refl, (refl, (refl, (refl, (refl, (refl, tt)))))))))))))))))) in
    let lin : VerdictsHold (drop 25 plan_cases) =
    (refl, (refl, (refl, (refl, (refl, (refl, (refl, (refl, (refl, (refl, (refl, (refl, (refl, (refl, (refl, (refl, long)))))))))))))))) in
    let later : VerdictsHold (drop 12 plan_cases) =
    (refl, (refl, (refl, (refl, (refl, (refl, (refl, (refl, (refl, (refl, (refl, (refl, (refl, lin))))))))))))) in
    (refl, (refl, (refl, (refl, (refl, (refl, (refl, (refl, (refl, (refl, (refl, (refl, later))))))))))))

-- the n-th of them
abbrev pub Nth : ℕ → List PlanCase → Type 0
Nth n [] = Unit {0}
Nth zero (c ∷ cs) = check_plan c.plan ≡ c.verdict
Nth (suc n) (c ∷ cs) = Nth n cs

pub nth : (n : ℕ) (cs : List PlanCase) → VerdictsHold cs → Nth n cs
nth n [] h = tt
nth zero (c ∷ cs) h = h.0
nth (suc n) (c ∷ cs) h = nth n cs h.1
