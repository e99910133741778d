-- "Within a node 11-bit rows come before 29-bit ones, each in ascending order, and the place of Ticket 4 counts in that order." (document 02, Ticket 6), as a
-- caller sees it: by the numbers of the rows' IDs, and by no order of IDs.
use Rattle.std.specs.Prelude.{◌≡◌, ◌⊎◌, List, ℕ, ◌<◌, length, Ok}
use Rattle.std.proofs.Math.Option.{some}
use Rattle.records.specs.declared.record.Id.TheVariants.{Standard, Extended}
use Rattle.plan.specs.Rows.{rows_of}
use Rattle.answers.specs.declared.Received.TheVariants.{NoRow}
use Rattle.tables.specs.Reads.{row_at}
use Rattle.model.specs.Calls.{Step, reception, received}
use Rattle.model.specs.Words.{Those}
use Rattle.history.specs.Calls.{answer_in, after_in}
use Rattle.history.specs.Past.{past_of}

-- Rx frame r of a plan is one of node n, with an 11-bit ID, and with a 29-bit ID
pub record StandardRow (plan : List ℕ) (n number r : ℕ) : Type 0 where
  pub exists : r < length (rows_of plan)
  pub node : (row_at plan r).frame.node ≡ n
  pub id : (row_at plan r).frame.id ≡ Standard number

pub record ExtendedRow (plan : List ℕ) (n number r : ℕ) : Type 0 where
  pub exists : r < length (rows_of plan)
  pub node : (row_at plan r).frame.node ≡ n
  pub id : (row_at plan r).frame.id ≡ Extended number

-- so many numbers have a property
pub record Many (P : ℕ → Type 0) (count : ℕ) : Type 0 where
  pub numbers : List ℕ
  pub those : Those P numbers
  pub many : length numbers ≡ count

-- what the place of a stranger counts: before an 11-bit ID the 11-bit rows with a smaller number; before a 29-bit ID all 11-bit rows, and the 29-bit rows
-- with a smaller number
abbrev pub BeforeStandard : List ℕ → ℕ → ℕ → ℕ → Type 0
BeforeStandard plan n number r = (m : ℕ) × StandardRow plan n m r × (m < number)

abbrev pub BeforeExtended : List ℕ → ℕ → ℕ → ℕ → Type 0
BeforeExtended plan n number r = ((m : ℕ) × StandardRow plan n m r) ⊎ ((m : ℕ) × ExtendedRow plan n m r × (m < number))

-- of every reception that answers 1, after any openings and calls on any area
pub record PlacesByFormat : Type 0 where
  pub standard : (a : List ℕ) (calls : List Step) (plan : List ℕ) → (past_of calls a).plan ≡ some plan → (n number place : ℕ) (payload : List ℕ)
      → answer_in (after_in a calls) (reception n (Standard number) payload) ≡ received (Ok (NoRow place)) → Many (BeforeStandard plan n number) place
  pub extended : (a : List ℕ) (calls : List Step) (plan : List ℕ) → (past_of calls a).plan ≡ some plan → (n number place : ℕ) (payload : List ℕ)
      → answer_in (after_in a calls) (reception n (Extended number) payload) ≡ received (Ok (NoRow place)) → Many (BeforeExtended plan n number) place
