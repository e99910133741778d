-- "The long counter must start again at every accepted reception, so that a long timeout means that many expiries in a row" (document 02, Ticket 1),
-- as a caller sees it: from the answers and the report bytes alone.
use Rattle.std.specs.Prelude.{◌≡◌, ◌≢◌, ◌↔◌, List, [], ◌∷◌, ℕ, suc, ◌*◌, ◌≤◌, ◌<◌, eqb, length, get_or, Result, Ok, Err}
use Rattle.std.proofs.Math.Option.{some}
use Rattle.base.specs.Pick.{pick}
use Rattle.records.specs.declared.record.Id.TheVariants.{Standard}
use Rattle.plan.specs.Rows.{rows_of}
use Rattle.area.specs.Claims.{RxEvent, accepted, expired}
use Rattle.answers.specs.declared.Refusal.{Refusal}
use Rattle.answers.specs.declared.Timeout.{Timeout}
use Rattle.answers.specs.declared.Timeout.TheVariants.{Long}
use Rattle.tables.specs.Reads.{row_at}
use Rattle.tables.specs.Statements.{Names}
use Rattle.model.specs.Calls.{Step, no_response, silent, tick, ticked}
use Rattle.history.specs.Calls.{answer_in, after_in}
use Rattle.history.specs.Past.{past_of}

-- how many expiries of Rx frame r have come in a row, n before these events: each expiry is one more, an acceptance begins anew
unfoldable pub in_a_row : ℕ → ℕ → List RxEvent → ℕ
in_a_row r n [] = n
in_a_row r n (accepted q payload ∷ log) = in_a_row r (pick (eqb q r) 0 n) log
in_a_row r n (expired q ∷ log) = in_a_row r (pick (eqb q r) (suc n) n) log

-- n is so many times the long count
abbrev pub Multiple : ℕ → ℕ → Type 0
Multiple n long = (k : ℕ) × (n ≡ k * long)

-- a report's byte of an Rx frame with this long count, before whose tick n of its expiries had come in a row
pub record Tells (long n byte : ℕ) : Type 0 where
  -- it is 2 exactly if the frame expired, its long count is above 0, and its expiries in a row, this one among them, are a multiple of that
  pub exactly : (byte ≡ 2) ↔ ((byte ≢ 0) × (0 < long) × Multiple (suc n) long)
  -- "Short gaps must not add up": fewer in a row than the long count never make a long timeout
  pub few : suc n < long → byte ≢ 2
  -- "0 nothing, 1 short, 2 long"
  pub small : byte ≤ 2

-- of every tick that is done, after any openings and calls on any area: since the last acceptance, or since the opening if there was none
abbrev pub LongTimeouts : Type 0
LongTimeouts =
    (a : List ℕ) (calls : List Step) (plan : List ℕ) → (past_of calls a).plan ≡ some plan → (report given : List ℕ)
    → answer_in (after_in a calls) (tick report) ≡ ticked (Ok tt) given → (r : ℕ) → r < length (rows_of plan)
    → Tells (row_at plan r).frame.long (in_a_row r 0 (past_of calls a).log) (get_or given r 0)

-- and "no response", which "answers 1 or 2 as the report would" (document 02, Ticket 2): 2 exactly if the long count is above 0 and the expiries in a
-- row, this one among them, are a multiple of it
pub record TellsSilence (long n : ℕ) (x : Result Timeout Refusal) : Type 0 where
  pub exactly : (x ≡ Ok Long) ↔ ((0 < long) × Multiple (suc n) long)
  pub few : suc n < long → x ≢ Ok Long

abbrev pub LongSilences : Type 0
LongSilences =
    (a : List ℕ) (calls : List Step) (plan : List ℕ) → (past_of calls a).plan ≡ some plan → (n id r : ℕ) (x : Result Timeout Refusal) → Names plan n (Standard id) r
    → answer_in (after_in a calls) (no_response n id) ≡ silent x → ((why : Refusal) → x ≢ Err why)
    → TellsSilence (row_at plan r).frame.long (in_a_row r 0 (past_of calls a).log) x
