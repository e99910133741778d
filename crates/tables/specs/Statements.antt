-- What is proved of an opened area, and what every later call leaves.
use Rattle.std.specs.Prelude.{◌≡◌, List, ◌↔◌, ℕ, ◌+◌, ◌≤◌, ◌<◌, length}
use Rattle.records.specs.declared.record.Id.{Id}
use Rattle.records.specs.Ids.{Before}
use Rattle.records.specs.declared.record.RxNumber.{RxNumber}
use Rattle.plan.specs.Check.{good_with, check_plan}
use Rattle.plan.specs.Rows.{rows_of}
use Rattle.area.specs.Layout.{LongEnough}
use Rattle.opening.specs.Opened.{opened}
use Rattle.reception.specs.declared.lookup.Found.TheVariants.{At, Nothing}
use Rattle.reception.specs.Lookup.{looked_up}
use Rattle.tables.specs.Reads.{row_at, Reads, Begun}

-- an area that a good plan opened
abbrev pub OpenedReads : Type 0
OpenedReads =
    (plan a : List ℕ) (n t r : ℕ) → check_plan plan ≡ good_with n t r → LongEnough a → Reads plan (opened plan a) × Begun plan (opened plan a)

-- the row of a node and an ID
pub record Names (plan : List ℕ) (n : ℕ) (i : Id) (r : ℕ) : Type 0 where
  pub exists : r < length (rows_of plan)
  pub node : (row_at plan r).frame.node ≡ n
  pub id : (row_at plan r).frame.id ≡ i

-- a row of a node with a smaller ID
pub record Smaller (plan : List ℕ) (n : ℕ) (i : Id) (r : ℕ) : Type 0 where
  pub exists : r < length (rows_of plan)
  pub node : (row_at plan r).frame.node ≡ n
  pub id : Before (row_at plan r).frame.id i

-- "how many of that node's rows have a smaller ID" (document 02, Ticket 4): they are the rows from row `first` on, and as many as the place says
pub record Places (plan : List ℕ) (n : ℕ) (i : Id) (place : ℕ) : Type 0 where
  pub first : ℕ
  pub exactly : (r : ℕ) → Smaller plan n i r ↔ ((first ≤ r) × (r < first + place))

-- "Lookup searches that node's rows only": it finds the plan's Rx frame of that node and ID, no other node's; where there is none it finds nothing,
-- and says the place
pub record Finds (plan a : List ℕ) (n : ℕ) (id : Id) : Type 0 where
  pub found : (x : RxNumber) → looked_up a n id ≡ At x → Names plan n id x.0
  pub finds : (r : ℕ) → Names plan n id r → looked_up a n id ≡ At (record { 0 = r })
  pub nothing : ((r : ℕ) → Names plan n id r → ⊥) → (place : ℕ) × (looked_up a n id ≡ Nothing place)
  pub places : (place : ℕ) → looked_up a n id ≡ Nothing place → Places plan n id place

abbrev pub LookupFinds : Type 0
LookupFinds =
    (plan a : List ℕ) (n t r : ℕ) → check_plan plan ≡ good_with n t r → Reads plan a → (m : ℕ) (id : Id) → m < 16 → Finds plan a m id
