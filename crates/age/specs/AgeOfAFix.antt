-- "How old can a fix be?" (document 02, Ticket 8): "For a CAN source with its indicator enabled and reload r above 0, prescaler p: if a take hands
-- back a kept payload whose failure bit is 0, and that source was accepted at least once since opening, then fewer than r times p unrefused ticks have
-- passed since the last acceptance, and the frame's bits from that source are those of that acceptance."
use Rattle.std.specs.Prelude.{◌≡◌, List, ℕ, ◌+◌, ◌*◌, ◌<◌, length, Some, Ok}
use Rattle.std.proofs.Math.Option.{some}
use Rattle.base.specs.Numbers.{Bytes}
use Rattle.bits.specs.Payload.{bit_at}
use Rattle.records.specs.declared.record.NodeType.TheVariants.{Can}
use Rattle.records.specs.Records.{records}
use Rattle.plan.specs.Rows.{rows_of, order_in}
use Rattle.answers.specs.declared.TakenFrame.{TakenFrame}
use Rattle.answers.specs.declared.Taken.TheVariants.{Frame}
use Rattle.tables.specs.Reads.{row_at, type_at}
use Rattle.model.specs.Calls.{Step, take, taken}
use Rattle.history.specs.Calls.{answer_in, after_in}
use Rattle.history.specs.Past.{past_of}
use Rattle.history.specs.Fresh.{signal, indicator, owner}
use Rattle.age.specs.Acceptance.{Acceptance, last_acceptance}

-- "a take hands back a kept payload": after any openings and calls on any area, of Tx frame t of the plan last opened, a list of bytes
pub record Handed (a : List ℕ) (calls : List Step) (plan : List ℕ) (t : ℕ) (payload : List ℕ) : Type 0 where
  pub bytes : Bytes plan
  pub opened : (past_of calls a).plan ≡ some plan
  pub node : ℕ
  pub frame : TakenFrame
  pub tx : frame.tx.0 ≡ t
  pub takes : answer_in (after_in a calls) (take node) ≡ taken (Ok (Some (Frame frame))) payload

-- "For a CAN source with its indicator enabled": Rx frame r, whose indicator owns the bit at its position in Tx frame t; "that source was accepted at
-- least once since opening". A LIN source has no timer that sets its bit, so of it the sentence does not speak
pub record Heard (a : List ℕ) (calls : List Step) (plan : List ℕ) (t r : ℕ) (last : Acceptance) : Type 0 where
  pub row : r < length (rows_of plan)
  pub can : type_at plan (row_at plan r).frame.node ≡ Can
  pub indicates : owner plan t (row_at plan r).frame.position ≡ indicator r
  pub accepted : last_acceptance (row_at plan r).frame calls a ≡ some last

-- the source's failure bit in the payload that is handed back
abbrev pub handed_failure : List ℕ → List ℕ → ℕ → ℕ
handed_failure plan payload r = bit_at (order_in (records plan)) payload (row_at plan r).frame.position

-- "r times p"
abbrev pub bound : List ℕ → ℕ → ℕ
bound plan r = (row_at plan r).frame.reload * (row_at plan r).frame.prescaler

-- "the frame's bits from that source are those of that acceptance"
abbrev pub BitsOf : List ℕ → ℕ → List ℕ → ℕ → Acceptance → Type 0
BitsOf plan t payload r last =
    (b k : ℕ) → owner plan t b ≡ signal r k → bit_at (order_in (records plan)) payload b ≡ bit_at (order_in (records plan)) last.payload k

pub record Recent (plan : List ℕ) (t : ℕ) (payload : List ℕ) (r : ℕ) (last : Acceptance) : Type 0 where
  -- "fewer than r times p unrefused ticks have passed since the last acceptance"
  pub few : last.ticks < bound plan r
  pub bits : BitsOf plan t payload r last

abbrev pub AgeOfAFix : Type 0
AgeOfAFix =
    (a : List ℕ) (calls : List Step) (plan : List ℕ) (t : ℕ) (payload : List ℕ) → Handed a calls plan t payload
    → (r : ℕ) (last : Acceptance) → Heard a calls plan t r last → 0 < (row_at plan r).frame.reload → handed_failure plan payload r ≡ 0
    → Recent plan t payload r last

-- ---- a source of any kind, on CAN or on LIN, with or without an indicator: its bits are those of its last acceptance

abbrev pub BitsOfAnySource : Type 0
BitsOfAnySource =
    (a : List ℕ) (calls : List Step) (plan : List ℕ) (t : ℕ) (payload : List ℕ) → Handed a calls plan t payload
    → (r : ℕ) (last : Acceptance) → r < length (rows_of plan) → last_acceptance (row_at plan r).frame calls a ≡ some last → BitsOf plan t payload r last

-- ---- a frame with several sources: each has its own bound, so that what stands together was accepted that close together

pub record Paired (plan : List ℕ) (t : ℕ) (payload : List ℕ) (q r : ℕ) (first second : Acceptance) : Type 0 where
  pub one : Recent plan t payload q first
  pub other : Recent plan t payload r second
  pub before : first.ticks < second.ticks + bound plan q
  pub after : second.ticks < first.ticks + bound plan r

abbrev pub SourcesTogether : Type 0
SourcesTogether =
    (a : List ℕ) (calls : List Step) (plan : List ℕ) (t : ℕ) (payload : List ℕ) → Handed a calls plan t payload
    → (q r : ℕ) (first second : Acceptance) → Heard a calls plan t q first → Heard a calls plan t r second → 0 < (row_at plan q).frame.reload
    → 0 < (row_at plan r).frame.reload → handed_failure plan payload q ≡ 0 → handed_failure plan payload r ≡ 0 → Paired plan t payload q r first second
