-- The first bad record decides: the check goes past records that pass, and ends at one that does not.
use mathlib.Core.Path.{◌≡◌, refl, ◌∙◌}
use mathlib.Core.List.{List, [], ◌∷◌, ◌++◌}
use Rattle.records.specs.declared.record.Record.{Record}
use Rattle.plan.specs.Check.{verdict_of, check_on, check_plan}
use Rattle.facts.specs.Statements.{State, begun, stepped, state_after, AllGo, FirstBad}

pub check_past :
    (s : State) (before rs : List Record) → AllGo s before
    → check_on s.progress s.sizes s.sets (before ++ rs)
    ≡ check_on (state_after s before).progress (state_after s before).sizes (state_after s before).sets rs
unfolding AllGo state_after check_on verdict_of
check_past s [] rs h = refl
check_past s (r ∷ before) rs h = rw h.0 (check_past (stepped s r) before rs h.1)

pub first_bad : FirstBad
unfolding check_plan check_on verdict_of
first_bad plan before rest r reason number e h bad = rw e (check_past begun before (r ∷ rest) h ∙ rw bad)
