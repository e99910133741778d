-- "Show over any calls that a node's queue never holds more than the frames and requests which can be scheduled on it, and cut our room to that."
-- (document 02, Ticket 14)
use Rattle.std.specs.Prelude.{◌≡◌, ◌≢◌, List, map, ◌++◌, ℕ, ◌+◌, ◌≤◌, ◌<◌, length, Some, Ok}
use Rattle.std.proofs.Math.Option.{some}
use Rattle.base.specs.Numbers.{Bytes}
use Rattle.records.specs.declared.record.Entry.{Entry}
use Rattle.records.specs.Nodes.{frame, request}
use Rattle.area.specs.Queue.{ends_of, Apart}
use Rattle.answers.specs.declared.TakenFrame.{TakenFrame}
use Rattle.answers.specs.declared.TakenRequest.{TakenRequest}
use Rattle.answers.specs.declared.Taken.TheVariants.{Frame, Request}
use Rattle.taking.specs.Taken.{taken_answer}
use Rattle.model.specs.Plan.{Plan, said, tx_in, row_in}
use Rattle.model.specs.Words.{In, Those, LinNode}
use Rattle.model.specs.Calls.{Step}
use Rattle.history.specs.Calls.{after_in}
use Rattle.history.specs.Past.{past_of}
use Rattle.refines.specs.Shows.{waiting_on}

-- Tx frame t is one of node n
pub record FrameOn (p : Plan) (n t : ℕ) : Type 0 where
  pub exists : t < length p.tx
  pub node : (tx_in p t).node ≡ n

-- Rx frame r is one of LIN node n, so that it is asked for by a request
pub record AskedOn (p : Plan) (n r : ℕ) : Type 0 where
  pub exists : r < length p.rows
  pub node : (row_in p r).frame.node ≡ n
  pub lin : LinNode p n

-- "the frames and requests which can be scheduled on it": by their numbers, each once
pub record Schedulable (p : Plan) (n : ℕ) : Type 0 where
  pub frames : List ℕ
  pub of_frames : Those (FrameOn p n) frames
  pub requests : List ℕ
  pub of_requests : Those (AskedOn p n) requests

abbrev pub all : {p : Plan} {n : ℕ} → Schedulable p n → List Entry
all x = map frame x.frames ++ map request x.requests

-- how many they are
abbrev pub many : {p : Plan} {n : ℕ} → Schedulable p n → ℕ
many x = length x.frames + length x.requests

-- of node n in an area in which a plan is open
pub record Fits (plan a : List ℕ) (n : ℕ) : Type 0 where
  pub can : Schedulable (said plan) n
  -- only these wait, and "a node's queue never holds more"
  pub among : (e : Entry) → In e (waiting_on a n) → In e (all can)
  pub few : length (waiting_on a n) ≤ many can
  -- in the caller's terms: a take tells of fewer that still wait
  pub after_frame : (x : TakenFrame) → taken_answer a n ≡ Ok (Some (Frame x)) → x.waiting < many can
  pub after_request : (x : TakenRequest) → taken_answer a n ≡ Ok (Some (Request x)) → x.waiting < many can
  -- "cut our room to that": its ring has an entry for each of them and no more, its own, among the 512 that there are
  pub room : (ends_of a n).room ≡ many can
  pub within : (ends_of a n).start + (ends_of a n).room ≤ 512
  pub apart : (m : ℕ) → m < 16 → m ≢ n → Apart (ends_of a m) (ends_of a n)

abbrev pub QueueRoom : Type 0
QueueRoom =
    (a : List ℕ) (calls : List Step) (plan : List ℕ) → Bytes plan → (past_of calls a).plan ≡ some plan → (n : ℕ) → n < 16
    → Fits plan (after_in a calls) n
