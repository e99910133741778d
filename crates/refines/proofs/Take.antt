-- A take on an area is the model's take: its answer, the payload handed back, and the state that it leaves.
use mathlib.Core.Path.{◌≡◌, refl, sym, ap, ◌∙◌}
use mathlib.Core.Bool.{Bool, true, false}
use mathlib.Core.List.{List, [], ◌∷◌}
use Prim.Native.Nat.{ℕ, ◌+◌, ◌%◌, ◌≤◌, ◌<◌}
use native.Mathlib.Omega.{arith}
use native.Mathlib.Decide.{ℕ_discrete}
use lib.Dec.{ltb}
use lib.ListN.{length, get_or, set, take, drop, length-drop}
use lib.Seq.{get_or-set_same, get_or-set_other, ext_get_or, length-take-le, get_or-take, get_or-drop}
use borrow.Author.Tests.{ltb-true, le-leb}
use Rattle.std.specs.Prelude.{Some, Ok, Err}
use Rattle.base.specs.Pick.{pick}
use Rattle.base.proofs.Picks.{picks, passes}
use Rattle.records.specs.declared.record.Entry.{Entry}
use Rattle.records.specs.Records.{records}
use Rattle.records.specs.Nodes.{frame, request}
use Rattle.plan.specs.Rows.{tx_of, rows_of, nodes_in}
use Rattle.area.specs.Layout.{counter_byte, area_length, payloads_start, requests_start, LongEnough, payload, node_count, in_width}
use Rattle.area.specs.Queue.{entry_of, queue_of}
use Rattle.answers.specs.declared.Refusal.TheVariants.{NoNode}
use Rattle.taking.specs.Taken.{taken_answer, taken_area, taken_payload, kept_part}
use Rattle.tables.specs.Reads.{planned_tx}
use Rattle.history.proofs.Aside.{Aside, aside_taken}
use Rattle.history.proofs.Steady.{steady_aside, Reads-steady, kept_steady}
use Rattle.sending.proofs.Waiters.{CanWait, of_frame, of_request}
use Rattle.sending.proofs.Entries.{entry_frame, entry_request}
use Rattle.sending.proofs.Handing.{Takes}
use Rattle.sending.proofs.Holding.{Holding-kept}
use Rattle.sending.proofs.Takes.{Queues-taken}
use Rattle.sending.proofs.Handing.{takes}
use Rattle.refines.proofs.Untaken.{untaken}
use Rattle.model.specs.Plan.{said}
use Rattle.model.specs.State.{State, kept_of, queue_on, with_queue}
use Rattle.model.specs.Opening.{mapped}
use Rattle.model.specs.Take as model
use Rattle.model.proofs.Begins.{mapped-length}
use Rattle.model.specs.Calls as calls
use Rattle.history.specs.Calls.{answer_in, area_after}
use Rattle.refines.specs.Shows.{waiting_on}
use Rattle.refines.proofs.Held.{Held, below, Shape-queue}
use Rattle.refines.proofs.Follows.{Follows}

-- no place of a payload is a queue's, a timer's or a wait's
payloads : Aside (λ j. payloads_start ≤ j)
payloads =
    record { ends = λ n h j l m p. omega arith; ring = λ j l m p. omega arith; timers = λ j l m p. omega arith; waits = λ j l m p. omega arith }

-- the kept payload of Tx frame t, byte by byte
kept_part_is : {plan a : List ℕ} {s : State} → Held plan a s → (t : ℕ) → t < length (tx_of plan)
    → kept_part a t (planned_tx plan t).size ≡ take (planned_tx plan t).size (kept_of s t)
unfolding kept_part
kept_part_is {plan} {a} {s} h t m =
    let small : (planned_tx plan t).size ≤ 8 = h.ready.holding.fit.size t m in
    let size : LongEnough a = h.reads.header.size in
    let i : t % 256 ≡ t = omega (arith, h.good.counts.tx) in
    let j : in_width (planned_tx plan t).size ≡ (planned_tx plan t).size = omega arith in
    let eight = (h.shape.payload t m).eight in
    let left : length (take (planned_tx plan t).size (drop (payload t) a)) ≡ (planned_tx plan t).size =
    length-take-le (planned_tx plan t).size (drop (payload t) a) (rw length-drop (omega (arith, h.good.counts.tx))) in
    let right : length (take (planned_tx plan t).size (kept_of s t)) ≡ (planned_tx plan t).size =
    length-take-le (planned_tx plan t).size (kept_of s t) (omega arith) in
    rw (picks _ _ _ (le-leb area_length (length a) size), i, j)
    (ext_get_or 0 _ _ (left ∙ sym right)
    (λ q k.
    get_or-take (planned_tx plan t).size (drop (payload t) a) q 0 (omega arith) ∙ get_or-drop (payload t) a q 0 ∙ h.shows.kept t q m (omega arith)
    ∙ sym (get_or-take (planned_tx plan t).size (kept_of s t) q 0 (omega arith))))

module _ {plan a : List ℕ} {s : State} (h : Held plan a s) (n : ℕ) (l : n < nodes_in (records plan)) where
  law : Takes plan a n
  law = takes h.reads h.ready n l

  Held-left : (k : ℕ) (rest : List ℕ) → queue_of a n ≡ k ∷ rest → Held plan (taken_area a n) (with_queue s n (mapped entry_of rest))
  Held-left k rest e =
      let steady = aside_taken steady_aside a n in
      let u = untaken a n in
      record {
        good = h.good;
        reads = Reads-steady steady h.reads;
        ready = record { holding = Holding-kept (kept_steady steady) h.ready.holding; queues = Queues-taken n h.ready };
        shape = Shape-queue h.shape n _;
        shows =
            record {
              number = u.at counter_byte (λ x. omega arith, omega arith) ∙ h.shows.number;
              kept = λ t i m k. (aside_taken payloads a n).at _ (omega arith) ∙ h.shows.kept t i m k;
              tx_timers = λ t m. u.at _ (λ x. omega arith, omega (arith, h.good.counts.tx)) ∙ h.shows.tx_timers t m;
              rx_timers = λ r m. u.at _ (λ x. omega arith, omega (arith, h.good.counts.rx)) ∙ h.shows.rx_timers r m;
              longs = λ r m. u.at _ (λ x. omega arith, omega (arith, h.good.counts.rx)) ∙ h.shows.longs r m;
              queues = λ m k. line m k (ℕ_discrete m n);
            };
      }
    where
      line : (m : ℕ) → m < nodes_in (records plan) → Dec (m ≡ n) → waiting_on (taken_area a n) m ≡ get_or (set s.queues n (mapped entry_of rest)) m []
      line m i (yes f) =
          rw f (ap (mapped entry_of) (law.leaves k rest e) ∙ sym (get_or-set_same s.queues n (mapped entry_of rest) [] (omega (arith, h.shape.queues))))
      line m i (no d) =
          ap (mapped entry_of) (law.others m (below h m i) d) ∙ h.shows.queues m i ∙ sym (get_or-set_other s.queues n m (mapped entry_of rest) [] d)

  -- what the state has in its queue
  queued : (k : ℕ) (rest : List ℕ) → queue_of a n ≡ k ∷ rest → queue_on s n ≡ entry_of k ∷ mapped entry_of rest
  unfolding mapped
  queued k rest e = sym (h.shows.queues n l) ∙ ap (mapped entry_of) e

  -- the answers, of a frame and of a request
  frame_answered : (t : ℕ) (rest : List ℕ) → queue_of a n ≡ t ∷ rest → t < length (tx_of plan)
      → taken_answer a n ≡ Ok (Some (model.entry_answer (said plan) s n (frame t) (length (mapped entry_of rest))))
  unfolding model.entry_answer model.framing_of model.handed
  frame_answered t rest e m = law.frame t rest e m ∙ rw (kept_part_is h t m, mapped-length entry_of rest)

  request_answered : (r : ℕ) (rest : List ℕ) → queue_of a n ≡ (requests_start + r) ∷ rest → r < length (rows_of plan)
      → taken_answer a n ≡ Ok (Some (model.entry_answer (said plan) s n (request r) (length (mapped entry_of rest))))
  unfolding model.entry_answer
  request_answered r rest e m = law.request r rest e m ∙ rw (mapped-length entry_of rest)

  -- and the payload
  frame_handed : (t : ℕ) (rest : List ℕ) (e : queue_of a n ≡ t ∷ rest) → t < length (tx_of plan)
      → taken_payload (taken_area a n) (taken_answer a n) ≡ model.handed (said plan) s (frame t)
  unfolding taken_payload model.handed
  frame_handed t rest e m = rw (law.frame t rest e m) (kept_part_is (Held-left t rest e) t m)

  request_handed : (r : ℕ) (rest : List ℕ) (e : queue_of a n ≡ (requests_start + r) ∷ rest) → r < length (rows_of plan)
      → taken_payload (taken_area a n) (taken_answer a n) ≡ model.handed (said plan) s (request r)
  unfolding taken_payload model.handed
  request_handed r rest e m = rw (law.request r rest e m)

module _ {plan a : List ℕ} {s : State} (h : Held plan a s) where
  refused_answer : (n : ℕ) → ltb n (node_count a) ≡ false → taken_answer a n ≡ Err NoNode
  unfolding taken_answer
  refused_answer n k = picks _ _ _ h.reads.header.mark ∙ passes _ _ _ k

  refused_area : (n : ℕ) → ltb n (node_count a) ≡ false → taken_area a n ≡ a
  unfolding taken_area
  refused_area n k = picks _ _ _ h.reads.header.mark ∙ passes _ _ _ k

  pub take_follows : (n : ℕ) → Follows plan a s (calls.take n)
  unfolding answer_in area_after calls.answer_of calls.next_of model.taken_answer model.taken_payload model.taken model.oldest_answer
      model.oldest_payload model.without_oldest taken_payload pick
  take_follows n = go (ltb n (nodes_in (records plan))) refl
    where
      -- what leaves is entry x of the model
      leaves : (k : ltb n (nodes_in (records plan)) ≡ true) (i : ℕ) (rest : List ℕ) (x : Entry) → queue_of a n ≡ i ∷ rest → entry_of i ≡ x
          → taken_answer a n ≡ Ok (Some (model.entry_answer (said plan) s n x (length (mapped entry_of rest))))
          → taken_payload (taken_area a n) (taken_answer a n) ≡ model.handed (said plan) s x → Follows plan a s (calls.take n)
      leaves k i rest x e is answered handed =
          let l = ltb-true n _ k in
          let q : queue_on s n ≡ x ∷ mapped entry_of rest = queued h n l i rest e ∙ rw is in
          record {
            answer =
                ap (λ z. calls.taken (taken_answer a n) z) handed ∙ ap (λ z. calls.taken z (model.handed (said plan) s x)) answered
                ∙ rw (k, q);
            held = rw (k, q) (Held-left h n l i rest e);
          }

      frames : (k : ltb n (nodes_in (records plan)) ≡ true) (i : ℕ) (rest : List ℕ) → queue_of a n ≡ i ∷ rest → CanWait plan n i
          → Follows plan a s (calls.take n)
      frames k i rest e (of_frame m f) =
          let l = ltb-true n _ k in
          leaves k i rest (frame i) e (entry_frame i (omega (arith, h.good.counts.tx))) (frame_answered h n l i rest e m)
          (frame_handed h n l i rest e m)
      frames k i rest e (of_request r is m f lin) =
          let l = ltb-true n _ k in
          let g : queue_of a n ≡ (requests_start + r) ∷ rest = e ∙ rw is in
          leaves k (requests_start + r) rest (request r) g (entry_request r) (request_answered h n l r rest g m) (request_handed h n l r rest g m)

      on : ltb n (nodes_in (records plan)) ≡ true → (q : List ℕ) → queue_of a n ≡ q → Follows plan a s (calls.take n)
      on k [] e =
          let l = ltb-true n _ k in
          let w = (law h n l).none e in
          let q : queue_on s n ≡ [] = sym (h.shows.queues n l) ∙ (unfold mapped in ap (mapped entry_of) e) in
          record { answer = rw (w.0, k, q); held = rw (w.1, k, q) h }
      on k (i ∷ rest) e = frames k i rest e ((law h n (ltb-true n _ k)).can i rest e)

      go : (b : Bool) → ltb n (nodes_in (records plan)) ≡ b → Follows plan a s (calls.take n)
      go true k = on k (queue_of a n) refl
      go false k =
          let m : ltb n (node_count a) ≡ false = ap (ltb n) h.reads.header.nodes ∙ k in
          record { answer = rw (refused_answer n m, k); held = rw (refused_area n m, k) h }
