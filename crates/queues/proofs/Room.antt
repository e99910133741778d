-- What waits on a node is among the frames and requests that can be scheduled on it, and its ring has an entry for each of them and no more.
use mathlib.Core.Path.{◌≡◌, sym, ap, ◌∙◌}
use mathlib.Core.Logic.{◌≢◌, inl, inr}
use mathlib.Core.List.{List, [], ◌∷◌, map}
use mathlib.Core.Option.{none}
use Prim.Native.Nat.{ℕ, suc, ◌≤◌, ◌<◌}
use native.Mathlib.Omega.{arith}
use native.Mathlib.Decide.{dec_lt}
use lib.ListN.{length, get_or}
use Rattle.std.specs.Prelude.{Option, Some, Result, Ok}
use Rattle.base.proofs.Apart.{differ}
use Rattle.records.specs.declared.record.Entry.{Entry}
use Rattle.records.specs.Nodes.{frame, request}
use Rattle.area.specs.Queue.{entry_of, queue_of}
use Rattle.answers.specs.declared.Refusal.{Refusal}
use Rattle.answers.specs.declared.Taken.{Taken}
use Rattle.answers.specs.declared.Taken.TheVariants.{Frame, Request}
use Rattle.taking.specs.Taken.{taken_answer}
use Rattle.sending.proofs.Queues.{Queue, waiter}
use Rattle.sending.proofs.Waiters.{CanWait, of_frame, of_request}
use Rattle.sending.proofs.Entries.{entry_frame, entry_request}
use Rattle.model.specs.Plan.{said}
use Rattle.model.specs.Opening.{mapped}
use Rattle.model.specs.Words.{In}
use Rattle.model.proofs.Begins.{mapped-length}
use Rattle.model.proofs.Entries.{map_in}
use Rattle.model.proofs.Upto.{In-left, In-right}
use Rattle.refines.specs.Shows.{waiting_on}
use Rattle.queues.specs.Turns.{leaving}
use Rattle.queues.specs.Room.{Schedulable, all, many, Fits, QueueRoom}
use Rattle.queues.proofs.Opened.{IsOpen, opened}
use Rattle.queues.proofs.Taking.{still_waiting, Taking, nobody, oldest, refused, taking}
use Rattle.queues.proofs.Schedulable.{schedulable, many_are}

-- what stands in a list of images is that of a place
In-mapped : {A B : Type 0} (f : A → B) (d : A) (y : B) (xs : List A) → In y (mapped f xs) → (i : ℕ) × (i < length xs) × (y ≡ f (get_or xs i d))
unfolding In mapped
In-mapped f d y [] i = absurd i
In-mapped f d y (x ∷ xs) (inl e) = (0, omega arith, e)
In-mapped f d y (x ∷ xs) (inr i) = let w = In-mapped f d y xs i in (suc w.0, omega (arith, w.1), w.2)

module _ {plan a : List ℕ} (o : IsOpen plan a) (n : ℕ) (l : n < 16) where
  abbrev can : Schedulable (said plan) n
  can = schedulable plan n

  queue : Queue plan a n
  queue = o.held.ready.queues.queue n l

  -- ---- who waits

  waiter_can : (k : ℕ) → CanWait plan n k → In (entry_of k) (all can)
  waiter_can k (of_frame h e) =
      let is = (can.of_frames.exactly k).1 (record { exists = h; node = e }) in
      rw (entry_frame k (omega (arith, o.held.good.counts.tx))) (In-left (frame k) _ _ (map_in frame k can.frames is))
  waiter_can k (of_request r is h e lin) =
      let asked = (can.of_requests.exactly r).1 (record { exists = h; node = e; lin = lin }) in
      rw (is, entry_request r) (In-right (request r) (map frame can.frames) _ (map_in request r can.requests asked))

  among : (e : Entry) → In e (waiting_on a n) → In e (all can)
  among e i =
      let (j, h, is) = In-mapped entry_of 0 e (queue_of a n) i in
      rw is (waiter_can (waiter a n j) (queue.can j h))

  -- whatever list of them is taken
  pub few : (list : Schedulable (said plan) n) → length (waiting_on a n) ≤ many list
  few list = omega (arith, mapped-length entry_of (queue_of a n), queue.few, many_are plan n list)

  -- ---- what a take tells of those that still wait

  fewer : (x : Result (Option Taken) Refusal) → taken_answer a n ≡ x → leaving x ≢ none → still_waiting x < many can
  unfolding leaving
  fewer x is some = go (dec_lt n (said plan).nodes)
    where
      on : Taking n a → still_waiting x < many can
      on (nobody t q r) = absurd (some (rw (sym is ∙ t)))
      on (oldest e rest tells q r) = omega (arith, few can, ap length q, rw is at tells.waiting)

      go : Dec (n < (said plan).nodes) → still_waiting x < many can
      go (yes m) = on (taking o n m)
      go (no d) = absurd (some (rw (sym is ∙ refused o n (omega arith))))

  -- ---- the ring

  pub fits : Fits plan a n
  unfolding still_waiting leaving
  fits =
      let ring = o.held.reads.rings n l in
      record {
        can = can;
        among = among;
        few = few can;
        after_frame = λ x is. fewer (Ok (Some (Frame x))) is (λ e. differ cc);
        after_request = λ x is. fewer (Ok (Some (Request x))) is (λ e. differ cc);
        room = ring.room ∙ sym (many_are plan n can);
        within = ring.within;
        apart = ring.apart;
      }

pub queue_room : QueueRoom
queue_room a calls plan bytes is n l = fits (opened a calls plan bytes is) n l
