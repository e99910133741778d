-- What a take answers, in an area that holds a plan.
use mathlib.Core.Path.{◌≡◌, refl, sym, ap, ◌∙◌}
use mathlib.Core.Logic.{◌≢◌}
use mathlib.Core.Bool.{false}
use mathlib.Core.List.{List, [], ◌∷◌}
use Prim.Native.Nat.{ℕ, suc, ◌+◌, ◌-◌, ◌<◌}
use native.Mathlib.Omega.{arith}
use borrow.Author.Tests.{eq-eqb, ne_eqb, lt-ltb}
use lib.Dec.{eqb}
use lib.ListN.{length}
use Rattle.std.specs.Prelude.{Option, Some, None, Result, Ok}
use Rattle.base.specs.Pick.{pick}
use Rattle.base.specs.Numbers.{byte_at}
use Rattle.base.proofs.Picks.{picks, passes, by_eqb}
use Rattle.base.proofs.Ranges.{at_most-le}
use Rattle.records.specs.declared.record.Id.{Id}
use Rattle.records.specs.Ids.{plain_id}
use Rattle.lin.specs.Identifier.{protected_of}
use Rattle.lin.specs.Checksum.{checksum_of}
use Rattle.records.specs.Records.{records}
use Rattle.records.specs.Nodes.{is_lin}
use Rattle.plan.specs.Rows.{rows_of, tx_of, nodes_in}
use Rattle.area.specs.Layout.{node_count_byte, requests_start, node_count, in_width}
use Rattle.area.specs.Queue.{ends_of, entry_of, oldest, dequeued, queue_of}
use Rattle.area.proofs.QueueLaws.{length-queue_of, queue_dequeued_other}
use Rattle.answers.specs.declared.Refusal.{Refusal}
use Rattle.answers.specs.declared.Framing.{Framing}
use Rattle.answers.specs.declared.Framing.TheVariants.{Can, Lin}
use Rattle.answers.specs.declared.Taken.{Taken}
use Rattle.answers.specs.declared.Taken.TheVariants as taken
use Rattle.taking.specs.Taken.{kept_part, framing_of, entry_answer, oldest_answer, oldest_area, taken_answer, taken_area}
use Rattle.tables.specs.Reads.{planned_tx, row_at, type_at, Reads}
use Rattle.sending.proofs.Waiters.{CanWait}
use Rattle.sending.proofs.Entries.{entry_frame, entry_request}
use Rattle.sending.proofs.Moves.{Ready}
use Rattle.sending.proofs.Takes.{leaves, oldest_can}

-- what goes with a frame of this ID and payload, by the type of node n
abbrev pub framing_in : List ℕ → ℕ → Id → List ℕ → Framing
framing_in plan n id payload = pick (is_lin (type_at plan n)) (Lin (protected_of (plain_id id)) (checksum_of (protected_of (plain_id id)) payload)) Can

-- a frame of node n with this payload, and a request, as they leave: what the plan says of them, and how many still wait
abbrev pub frame_taken : List ℕ → ℕ → ℕ → List ℕ → ℕ → Result (Option Taken) Refusal
frame_taken plan n t payload waiting =
    let x = planned_tx plan t in
    Ok (Some (taken.Frame (record { tx = record { 0 = t }; id = x.id; size = x.size; waiting = waiting; framing = framing_in plan n x.id payload })))

abbrev pub request_taken : List ℕ → ℕ → ℕ → Result (Option Taken) Refusal
request_taken plan r waiting =
    let x = (row_at plan r).frame in
    Ok (Some (taken.Request (record { rx = record { 0 = r }; id = x.id; size = x.size; waiting = waiting; protected = protected_of (plain_id x.id) })))

-- "none, or the oldest waiting frame, which then waits no more: its Tx number, ID, size, how many still wait on that node"; "A take answers a request
-- (Rx number, ID, size, waiting count ..) or a frame" (document 02, Ticket 2)
pub record Takes (plan a : List ℕ) (n : ℕ) : Type 0 where
  pub none : queue_of a n ≡ [] → (taken_answer a n ≡ Ok None) × (taken_area a n ≡ a)
  pub can : (k : ℕ) (rest : List ℕ) → queue_of a n ≡ k ∷ rest → CanWait plan n k
  pub frame : (t : ℕ) (rest : List ℕ) → queue_of a n ≡ t ∷ rest → t < length (tx_of plan)
      → taken_answer a n ≡ frame_taken plan n t (kept_part a t (planned_tx plan t).size) (length rest)
  pub request : (r : ℕ) (rest : List ℕ) → queue_of a n ≡ (requests_start + r) ∷ rest → r < length (rows_of plan)
      → taken_answer a n ≡ request_taken plan r (length rest)
  pub leaves : (k : ℕ) (rest : List ℕ) → queue_of a n ≡ k ∷ rest → queue_of (taken_area a n) n ≡ rest
  pub others : (m : ℕ) → m < 16 → m ≢ n → queue_of (taken_area a n) m ≡ queue_of a m

module _ {plan a : List ℕ} (reads : Reads plan a) (ready : Ready plan a) (n : ℕ) (h : n < nodes_in (records plan)) where
  known : n < node_count a
  known = omega (arith, reads.header.nodes)

  below : n < 16
  below = omega (arith, known, at_most-le 16 (byte_at a node_count_byte))

  answers : taken_answer a n ≡ oldest_answer a n
  unfolding taken_answer
  answers = picks _ _ _ reads.header.mark ∙ picks _ _ _ (lt-ltb n (node_count a) known)

  leaves_area : taken_area a n ≡ oldest_area a n
  unfolding taken_area
  leaves_area = picks _ _ _ reads.header.mark ∙ picks _ _ _ (lt-ltb n (node_count a) known)

  -- ---- nobody waits

  nothing : queue_of a n ≡ [] → (taken_answer a n ≡ Ok None) × (taken_area a n ≡ a)
  unfolding oldest_answer oldest_area
  nothing e =
      let z : (ends_of a n).waiting ≡ 0 = sym (length-queue_of a n) ∙ ap length e in
      (answers ∙ picks _ _ _ (eq-eqb _ _ z), leaves_area ∙ picks _ _ _ (eq-eqb _ _ z))

  -- the other nodes' queues stay, whoever waits here
  others : (m : ℕ) → m < 16 → m ≢ n → queue_of (taken_area a n) m ≡ queue_of a m
  unfolding oldest_area
  others m l d =
      rw leaves_area
      (by_eqb (λ x. queue_of x m ≡ queue_of a m) (ends_of a n).waiting 0 a (dequeued a n) (λ z. refl) (λ z. queue_dequeued_other a n below m l d))

  -- ---- number k is the oldest

  module _ (k : ℕ) (rest : List ℕ) (e : queue_of a n ≡ k ∷ rest) where
    count : (ends_of a n).waiting ≡ suc (length rest)
    count = sym (length-queue_of a n) ∙ ap length e

    some : 0 < (ends_of a n).waiting
    some = omega (arith, count)

    busy : eqb (ends_of a n).waiting 0 ≡ false
    busy = ne_eqb (ends_of a n).waiting 0 (λ z. omega (arith, some))

    first : oldest a n ≡ k
    first = let l = leaves ready n below some in cc

    can : CanWait plan n k
    can = rw first at (oldest_can ready n below some)

    answered : taken_answer a n ≡ Ok (Some (entry_answer a n (entry_of k) (length rest)))
    unfolding oldest_answer
    answered =
        let c : (ends_of a n).waiting - 1 ≡ length rest = omega (arith, count) in
        answers ∙ passes _ _ _ busy ∙ rw (first, c)

    area : taken_area a n ≡ dequeued a n
    unfolding oldest_area
    area = leaves_area ∙ passes _ _ _ busy

    left : queue_of (taken_area a n) n ≡ rest
    left = rw area (let l = leaves ready n below some in cc)

  framing : (id : Id) (payload : List ℕ) → framing_of a n id payload ≡ framing_in plan n id payload
  unfolding framing_of
  framing id payload = rw (reads.header.types n h)

  frame_leaves :
      (t : ℕ) (rest : List ℕ) → queue_of a n ≡ t ∷ rest → t < length (tx_of plan)
      → taken_answer a n ≡ frame_taken plan n t (kept_part a t (planned_tx plan t).size) (length rest)
  unfolding entry_answer
  frame_leaves t rest e exists =
      let x = planned_tx plan t in
      let whole : in_width x.size ≡ x.size = omega (arith, ready.holding.fit.size t exists) in
      let is = entry_frame t (omega (arith, ready.holding.fit.tx)) in
      answered t rest e ∙ rw (is, ready.holding.frame t exists, whole, framing x.id (kept_part a t x.size))

  request_leaves :
      (r : ℕ) (rest : List ℕ) → queue_of a n ≡ (requests_start + r) ∷ rest → r < length (rows_of plan) → taken_answer a n ≡ request_taken plan r (length rest)
  unfolding entry_answer
  request_leaves r rest e exists = answered (requests_start + r) rest e ∙ rw (entry_request r, ready.holding.row r exists)

  pub takes : Takes plan a n
  takes =
      record {
        none = nothing;
        can = can;
        frame = frame_leaves;
        request = request_leaves;
        leaves = left;
        others = others;
      }
