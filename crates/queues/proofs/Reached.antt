-- The pumps' case: the model's answers are the area's, and two takes at once tell what waits.
use mathlib.Core.Path.{◌≡◌, refl, ap, ◌∙◌}
use mathlib.Core.List.{List, [], ◌∷◌}
use mathlib.Core.Option.{some}
use Prim.Native.Nat.{ℕ, zero, suc, ◌<◌}
use native.Mathlib.Omega.{arith}
use lib.ListN.{length, get_or, drop, take as first_of}
use Rattle.std.specs.Prelude.{Option, Result, Ok}
use Rattle.base.specs.Numbers.{Bytes}
use Rattle.base.specs.Pick.{pick}
use Rattle.records.specs.Ids.{behind_id}
use Rattle.records.specs.Kinds.{form_of, length_of, eight_at, tx_at, rx_at, tx_record, rx_record, fields_at, tx_kind, rx_kind, kind_of}
use Rattle.records.specs.Records.{record_at, size_of, records_from, records_at, records}
use Rattle.records.specs.Nodes.{frame, request, type_of, is_lin}
use Rattle.plan.specs.Rows.{claims_from, row_of, rows_from, rows_of, tx_frames, tx_of, nodes_in, types_in}
use Rattle.facts.specs.Good.{Each}
use Rattle.facts.specs.PlanCases.{pumps}
use Rattle.answers.specs.declared.Refusal.{Refusal}
use Rattle.answers.specs.declared.Taken.{Taken}
use Rattle.tables.specs.Reads.{frames_on, rows_on, waiters_on}
use Rattle.model.specs.Plan.{said}
use Rattle.model.specs.Calls.{take, taken, World, closed, Gateway, the_model, Step, opening, call, opened, answered, reply_of, replies, world_after}
use Rattle.model.specs.Rules.{OfBytes}
use Rattle.model.specs.Polling.{poll_steps, poll_replies, a_request, lin_frame, nothing_waits}
use Rattle.model.proofs.Listing.{polling_answered}
use Rattle.history.specs.Calls.{open_answer, answer_in, reply_in, area_after, stepped, replies_in, after_in}
use Rattle.history.specs.Past.{opened_past, past_after, past_after_all, past_of}
use Rattle.refines.proofs.All.{as_the_model}
use Rattle.refines.proofs.Listing.{small, small_bytes}
use Rattle.queues.specs.Turns.{leaving, unrefused, take_on, takes_on, leaving_at, at_once}
use Rattle.queues.specs.Room.{Schedulable, many}
use Rattle.queues.specs.Reached.{before, Reached, BoundReached}
use Rattle.queues.proofs.Opened.{opened as was_opened}
use Rattle.queues.proofs.Turns.{told}
use Rattle.queues.proofs.Schedulable.{schedulable, many_are}
use Rattle.queues.proofs.Room.{few}

-- ---- the plan

pumps_bytes : Bytes pumps
pumps_bytes = small_bytes pumps (unfold small pick in refl)

node_one : (nodes_in (records pumps) ≡ 2) × (waiters_on pumps 1 ≡ 2)
unfolding pick form_of length_of eight_at tx_at rx_at behind_id tx_record rx_record fields_at record_at tx_kind rx_kind kind_of size_of records_from records_at records claims_from row_of rows_from rows_of tx_frames
    tx_of nodes_in types_in type_of is_lin frames_on rows_on
node_one = (refl, refl)

-- ---- the answers: the opening, four ticks, and two takes

replies_first : (g : Gateway) (w : World) (k : ℕ) (cs : List Step) → replies g w (first_of k cs) ≡ first_of k (replies g w cs)
unfolding replies
replies_first g w zero cs = refl
replies_first g w (suc k) [] = refl
replies_first g w (suc k) (c ∷ cs) = ap (λ xs. reply_of g w c ∷ xs) (replies_first g (world_after g w c) k cs)

taken_one : {x y : Result (Option Taken) Refusal} {p q : List ℕ} → answered (taken x p) ≡ answered (taken y q) → x ≡ y
taken_one e = cc

model_answers : replies (the_model 32768) closed (first_of 7 poll_steps) ≡ first_of 7 poll_replies
model_answers = replies_first (the_model 32768) closed 7 poll_steps ∙ ap (first_of 7) polling_answered

module _ (a : List ℕ) (size : length a ≡ 32768) where
  opens : reply_in a (opening pumps) ≡ opened (Ok (record { nodes = 2; tx = 2; rx = 1 }))
  unfolding replies after_in
  opens = (rw size at (as_the_model.openings a [] pumps closed)) ∙ ap (λ xs. get_or xs 0 nothing_waits) model_answers

  answers : replies_in a (first_of 7 poll_steps) ≡ first_of 7 poll_replies
  unfolding after_in replies_in Each OfBytes
  answers =
      let x = (as_the_model.since a [] pumps 2 2 1 opens pumps_bytes (drop 1 (first_of 7 poll_steps)) (tt, (tt, (tt, (tt, (tt, (tt, tt))))))).replies in
      (rw size at x) ∙ model_answers

  abbrev here : List ℕ
  here = after_in a before

  -- of the two takes
  takes : (reply_in here (call (take 1)) ≡ a_request 1) × (reply_in (area_after here (take 1)) (call (take 1)) ≡ lin_frame 0)
  unfolding replies_in after_in stepped
  takes = (ap (λ xs. get_or xs 5 nothing_waits) answers, ap (λ xs. get_or xs 6 nothing_waits) answers)

  slots : (leaving_at 0 1 here (at_once 1 2) ≡ some (request 0)) × (leaving_at 1 1 here (at_once 1 2) ≡ some (frame 1))
  unfolding reply_in answer_in at_once takes_on take_on unrefused leaving pick
  slots =
      let x = taken_one takes.0 in
      let y = taken_one takes.1 in
      (rw x, rw (x, y))

  was_open : (past_of before a).plan ≡ some pumps
  unfolding reply_in past_after_all past_after opened_past
  was_open = let o : open_answer pumps a ≡ Ok (record { nodes = 2; tx = 2; rx = 1 }) = let e = opens in cc in rw o

  reached : Reached a
  unfolding at_once
  reached =
      let node : 1 < nodes_in (records pumps) = omega (arith, node_one.0) in
      let o = was_opened a before pumps pumps_bytes was_open in
      let two : (can : Schedulable (said pumps) 1) → many can ≡ 2 = λ can. many_are pumps 1 can ∙ node_one.1 in
      let last = told 1 node 1 here o (frame 1) slots.1 in
      record {
        bytes = pumps_bytes;
        opened = was_open;
        node = node;
        two = two;
        full = omega (arith, few o 1 (omega arith) (schedulable pumps 1), two (schedulable pumps 1), last.waits);
        last = last;
        first_slot = slots.0;
        second_slot = slots.1;
      }

pub bound_reached : BoundReached
bound_reached = reached
