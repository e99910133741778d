-- "a frame with n ahead of it leaves at the (n + 1)-th unrefused take on its node, whatever else but an opening is called between" (document 02,
-- Ticket 14), as a caller sees it: from the answers of the takes.
use Rattle.std.specs.Prelude.{◌≡◌, ◌≢◌, List, [], ◌∷◌, ◌++◌, map, ℕ, zero, suc, ◌-◌, ◌≤◌, ◌<◌, eqb, length, get_or, Option as StdOption, Some, None, Result, Ok, Err}
use Rattle.std.proofs.Math.Option.{Option, none, some}
use Rattle.base.specs.Pick.{pick}
use Rattle.base.specs.Numbers.{Bytes}
use Rattle.records.specs.declared.record.Entry.{Entry}
use Rattle.records.specs.Nodes.{frame, request}
use Rattle.answers.specs.declared.Refusal.{Refusal}
use Rattle.answers.specs.declared.Taken.{Taken}
use Rattle.answers.specs.declared.Taken.TheVariants.{Frame, Request}
use Rattle.taking.specs.Taken.{taken_answer}
use Rattle.model.specs.Plan.{said}
use Rattle.model.specs.Calls.{Call, reception, response, no_response, tick, take, fullness, Step, call}
use Rattle.history.specs.Calls.{area_after, after_in}
use Rattle.history.specs.Past.{past_of}
use Rattle.refines.specs.Shows.{waiting_on}

-- what leaves at a take, by its answer
unfoldable pub leaving : Result (StdOption Taken) Refusal → Option Entry
leaving (Ok (Some (Frame x))) = some (frame x.tx.0)
leaving (Ok (Some (Request x))) = some (request x.rx.0)
leaving (Ok None) = none
leaving (Err why) = none

-- "unrefused": "none" is an answer too
unfoldable pub unrefused : Result (StdOption Taken) Refusal → List (Result (StdOption Taken) Refusal)
unrefused (Ok (Some (Frame x))) = Ok (Some (Frame x)) ∷ []
unrefused (Ok (Some (Request x))) = Ok (Some (Request x)) ∷ []
unrefused (Ok None) = Ok None ∷ []
unrefused (Err why) = []

-- the answer of a call that is an unrefused take on node n
unfoldable pub take_on : ℕ → List ℕ → Call → List (Result (StdOption Taken) Refusal)
take_on n a (reception m id payload) = []
take_on n a (response m id payload sum) = []
take_on n a (no_response m id) = []
take_on n a (tick report) = []
take_on n a (take m) = pick (eqb m n) (unrefused (taken_answer a m)) []
take_on n a (fullness t) = []

-- the answers of the unrefused takes on node n, in their order, among some calls on an area
unfoldable pub takes_on : ℕ → List ℕ → List Call → List (Result (StdOption Taken) Refusal)
takes_on n a [] = []
takes_on n a (c ∷ cs) = take_on n a c ++ takes_on n (area_after a c) cs

-- what leaves at the one of them that has k before it
abbrev pub leaving_at : ℕ → ℕ → List ℕ → List Call → Option Entry
leaving_at k n a calls = leaving (get_or (takes_on n a calls) k (Ok None))

-- "a frame with n ahead of it": here k, on node n
pub record Ahead (a : List ℕ) (n k : ℕ) (e : Entry) : Type 0 where
  pub waits : k < length (waiting_on a n)
  pub there : get_or (waiting_on a n) k e ≡ e

pub record InTurn (a : List ℕ) (n k : ℕ) (e : Entry) (calls : List Call) : Type 0 where
  -- it leaves at the take that has k before it, and at none of these
  pub leaves : k < length (takes_on n a calls) → leaving_at k n a calls ≡ some e
  pub not_before : (j : ℕ) → j < k → leaving_at j n a calls ≢ some e
  -- until then it waits, and each of the takes leaves one fewer ahead of it
  pub until : length (takes_on n a calls) ≤ k → Ahead (after_in a (map call calls)) n (k - length (takes_on n a calls)) e

abbrev pub LeavesInTurn : Type 0
LeavesInTurn =
    (a : List ℕ) (before : List Step) (plan : List ℕ) → Bytes plan → (past_of before a).plan ≡ some plan → (n : ℕ) → n < (said plan).nodes
    → (k : ℕ) (e : Entry) → Ahead (after_in a before) n k e → (calls : List Call) → InTurn (after_in a before) n k e calls

-- ---- the same of a caller who knows nothing but answers: what would leave if all its takes were made at once leaves so, whatever comes between them

unfoldable pub at_once : ℕ → ℕ → List Call
at_once n zero = []
at_once n (suc k) = take n ∷ at_once n k

abbrev pub AsIfAtOnce : Type 0
AsIfAtOnce =
    (a : List ℕ) (before : List Step) (plan : List ℕ) → Bytes plan → (past_of before a).plan ≡ some plan → (n : ℕ) → n < (said plan).nodes
    → (k : ℕ) (e : Entry) → leaving_at k n (after_in a before) (at_once n (suc k)) ≡ some e
    → (calls : List Call) → k < length (takes_on n (after_in a before) calls) → leaving_at k n (after_in a before) calls ≡ some e
