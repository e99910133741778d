-- "When somebody plugs in an unlisted instrument, we want its place in the plan sheet. A lookup that finds nothing should say how many of that node's
-- rows have a smaller ID. Answer 1 carries this number" (document 02, Ticket 4), as a caller sees it, in the plan's terms.
use Rattle.std.specs.Prelude.{◌≡◌, ◌⊎◌, ◌↔◌, List, [], ◌∷◌, ℕ, zero, suc, ◌≤◌, ◌<◌, length, get_or, Ok}
use Rattle.std.proofs.Math.Option.{some}
use Rattle.records.specs.declared.record.Id.{Id}
use Rattle.records.specs.Ids.{Before}
use Rattle.plan.specs.Rows.{Row, no_row, rows_of}
use Rattle.answers.specs.declared.Received.TheVariants.{NoRow}
use Rattle.tables.specs.Reads.{row_at}
use Rattle.model.specs.Plan.{said}
use Rattle.model.specs.Calls.{Step, reception, received}
use Rattle.model.specs.Words.{Those, Names, Smaller}
use Rattle.history.specs.Calls.{answer_in, after_in}
use Rattle.history.specs.Past.{past_of}

-- (node, ID) of row y is above that of row x
abbrev pub Above : Row → Row → Type 0
Above x y = (x.frame.node < y.frame.node) ⊎ ((x.frame.node ≡ y.frame.node) × Before x.frame.id y.frame.id)

-- the rows rise: each is above every one before it, or the plan is refused by 6
abbrev pub Rise : List Row → Type 0
Rise rows = (q r : ℕ) → q < r → r < length rows → Above (get_or rows q no_row) (get_or rows r no_row)

-- the rows with x put behind k of them
unfoldable pub inserted : ℕ → Row → List Row → List Row
inserted zero x rows = x ∷ rows
inserted (suc k) x [] = x ∷ []
inserted (suc k) x (y ∷ rows) = y ∷ inserted k x rows

-- where a row of node n with this ID belongs in a plan that has none
pub record Belongs (plan : List ℕ) (n : ℕ) (id : Id) (place : ℕ) : Type 0 where
  pub unlisted : (r : ℕ) → Names (said plan) n id r → ⊥
  -- so many of the plan's Rx frames of that node have a smaller ID
  pub rows : List ℕ
  pub those : Those (Smaller (said plan) n id) rows
  pub many : length rows ≡ place
  -- behind these, and behind the rows of smaller nodes
  pub behind : ℕ
  pub within : behind ≤ length (rows_of plan)
  pub exactly : (r : ℕ) → r < length (rows_of plan) → (r < behind) ↔ (((row_at plan r).frame.node < n) ⊎ Smaller (said plan) n id r)
  -- there a new row keeps the rows rising, and nowhere else
  pub rises : (x : Row) → x.frame.node ≡ n → x.frame.id ≡ id → (k : ℕ) → k ≤ length (rows_of plan)
      → Rise (inserted k x (rows_of plan)) ↔ (k ≡ behind)

-- of every reception that answers 1, after any openings and calls on any area
abbrev pub StrangersBelong : Type 0
StrangersBelong =
    (a : List ℕ) (calls : List Step) (plan : List ℕ) → (past_of calls a).plan ≡ some plan → (n : ℕ) (id : Id) (place : ℕ) (payload : List ℕ)
    → answer_in (after_in a calls) (reception n id payload) ≡ received (Ok (NoRow place)) → Belongs plan n id place
