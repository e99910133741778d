-- What is proved of the refusal table: the check refuses exactly what it refuses, with its number and its record, and all else is good.
use Rattle.std.specs.Prelude.{◌≡◌, ◌↔◌, List, ℕ}
use Rattle.records.specs.Records.{records}
use Rattle.records.specs.Kinds.{node_stage, tx_stage, rx_stage}
use Rattle.plan.specs.declared.verdict.Reason.{Reason}
use Rattle.plan.specs.Refusals.{number_of}
use Rattle.plan.specs.Check.{good_with, refused_at, check_plan}
use Rattle.facts.specs.Good.{count_of}
use Rattle.refusals.specs.Table.{Refuses, Unrefused}

abbrev pub RefusedExactly : Type 0
RefusedExactly =
    (plan : List ℕ) (number named : ℕ)
    → Refuses plan number named ↔ ((reason : Reason) × (check_plan plan ≡ refused_at reason named) × (number_of reason ≡ number))

-- a plan is good exactly where nothing refuses it, and then the verdict has its counts
abbrev pub GoodExactly : Type 0
GoodExactly =
    (plan : List ℕ)
    → (check_plan plan ≡ good_with (count_of node_stage (records plan)) (count_of tx_stage (records plan)) (count_of rx_stage (records plan)))
    ↔ Unrefused plan

-- no plan has two refusals
abbrev pub OneRefusal : Type 0
OneRefusal =
    (plan : List ℕ) (number named number' named' : ℕ) → Refuses plan number named → Refuses plan number' named'
    → (number ≡ number') × (named ≡ named')
