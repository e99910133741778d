-- What a call does to a node's queue in an area that shows a plan: a take on the node takes the oldest, every other call adds at the end or leaves it.
use mathlib.Core.Path.{◌≡◌, refl, ap, ◌∙◌}
use mathlib.Core.Logic.{◌≢◌}
use mathlib.Core.List.{List, [], ◌∷◌}
use mathlib.Core.Option.{some}
use Prim.Native.Nat.{ℕ, ◌≤◌, ◌<◌}
use native.Mathlib.Decide.{ℕ_discrete}
use lib.ListN.{length}
use borrow.Author.Tests.{eq-eqb, ne_eqb}
use Rattle.std.specs.Prelude.{Option, Some, None, Result, Ok, Err}
use Rattle.base.proofs.Apart.{differ}
use Rattle.base.proofs.Picks.{picks, passes}
use Rattle.records.specs.declared.record.Entry.{Entry}
use Rattle.records.specs.declared.record.Entry.TheVariants as entry
use Rattle.answers.specs.declared.Refusal.{Refusal}
use Rattle.answers.specs.declared.Refusal.TheVariants.{NoNode}
use Rattle.answers.specs.declared.Taken.{Taken}
use Rattle.answers.specs.declared.Taken.TheVariants.{Frame, Request}
use Rattle.taking.specs.Taken.{taken_answer}
use Rattle.sending.proofs.Longer.{Longer}
use Rattle.model.specs.Plan.{said}
use Rattle.model.specs.State.{queue_on}
use Rattle.model.specs.Calls.{Call, reception, response, no_response, tick, take, fullness, taken, running}
use Rattle.model.specs.TakeRules.{Takes, TakeRules}
use Rattle.model.proofs.Meets.{runs}
use Rattle.history.specs.Calls.{answer_in, area_after}
use Rattle.refines.specs.Shows.{waiting_on}
use Rattle.refines.proofs.Worlds.{follows}
use Rattle.queues.specs.Turns.{leaving, unrefused, take_on}
use Rattle.queues.proofs.Grows.{grows}
use Rattle.queues.proofs.Opened.{IsOpen}

-- how many still wait, by the answer of a take
unfoldable pub still_waiting : Result (Option Taken) Refusal → ℕ
still_waiting (Ok (Some (Frame x))) = x.waiting
still_waiting (Ok (Some (Request x))) = x.waiting
still_waiting (Ok None) = 0
still_waiting (Err why) = 0

-- the answer is of entry e, behind which these wait
pub record Tells (x : Result (Option Taken) Refusal) (e : Entry) (rest : List Entry) : Type 0 where
  pub one : unrefused x ≡ x ∷ []
  pub leaves : leaving x ≡ some e
  pub waiting : still_waiting x ≡ length rest

-- a take on node n: nobody waits, or the oldest leaves
pub data Taking (n : ℕ) (a : List ℕ) : Type 0 where
  nobody : taken_answer a n ≡ Ok None → waiting_on a n ≡ [] → waiting_on (area_after a (take n)) n ≡ [] → Taking n a
  oldest : (e : Entry) (rest : List Entry) → Tells (taken_answer a n) e rest → waiting_on a n ≡ e ∷ rest → waiting_on (area_after a (take n)) n ≡ rest
      → Taking n a

-- its answer counts
pub counts : {n : ℕ} {a : List ℕ} → Taking n a → take_on n a (take n) ≡ taken_answer a n ∷ []
unfolding take_on unrefused
counts {n} (nobody t q r) = picks _ _ _ (eq-eqb n n refl) ∙ rw t
counts {n} (oldest e rest tells q r) = picks _ _ _ (eq-eqb n n refl) ∙ tells.one

-- any call: it is no take on node n, or it is one
pub data Turn (n : ℕ) (a : List ℕ) (c : Call) : Type 0 where
  adds : take_on n a c ≡ [] → Longer (waiting_on a n) (waiting_on (area_after a c) n) → Turn n a c
  takes : take_on n a c ≡ taken_answer a n ∷ [] → c ≡ take n → Taking n a → Turn n a c

module _ {plan a : List ℕ} (o : IsOpen plan a) (n : ℕ) where
  open o use {state, held}

  rules : TakeRules (said plan) (running (said plan)) state n
  rules = (runs plan held.good).take state held.shape n

  -- the area answers as the model
  answered : {x : Result (Option Taken) Refusal} {payload : List ℕ} → (running (said plan)).answer state (take n) ≡ taken x payload → taken_answer a n ≡ x
  unfolding running answer_in
  answered e = let f = (follows held (take n)).answer ∙ e in cc

  pub refused : (said plan).nodes ≤ n → taken_answer a n ≡ Err NoNode
  refused l = answered (rules.refused l).answer

  module _ (l : n < (said plan).nodes) where
    -- and has the model's queue
    queue_now : waiting_on a n ≡ queue_on state n
    queue_now = held.shows.queues n l

    queue_then : (c : Call) → waiting_on (area_after a c) n ≡ queue_on ((running (said plan)).next state c) n
    unfolding running
    queue_then c = (follows held c).held.shows.queues n l

    leaves : (x : Result (Option Taken) Refusal) (e : Entry) (rest : List Entry) {payload : List ℕ} → queue_on state n ≡ e ∷ rest → Tells x e rest
        → Takes (running (said plan)) state n rest x payload → Taking n a
    leaves x e rest q tells t = oldest e rest (rw (answered t.answer) tells) (queue_now ∙ q) (queue_then (take n) ∙ t.leaves)

    pub taking : Taking n a
    unfolding unrefused leaving still_waiting
    taking = go (queue_on state n) refl
      where
        go : (q : List Entry) → queue_on state n ≡ q → Taking n a
        go [] e =
            let w = rules.none l e in
            nobody (answered w.answer) (queue_now ∙ e) (queue_then (take n) ∙ ap (λ s. queue_on s n) w.stays ∙ e)
        go (entry.Frame t ∷ rest) e =
            leaves _ _ rest e (record { one = refl; leaves = refl; waiting = refl }) (rules.oldest_frame l t.0 rest e).takes
        go (entry.Request r ∷ rest) e =
            leaves _ _ rest e (record { one = refl; leaves = refl; waiting = refl }) (rules.oldest_request l r.0 rest e)

    other : (c : Call) → c ≢ take n → take_on n a c ≡ [] → Turn n a c
    other c d e =
        let g = grows (said plan) (running (said plan)) (runs plan held.good) state held.shape n l c d in
        adds e (rw (queue_now, queue_then c) g)

    pub turn : (c : Call) → Turn n a c
    unfolding take_on
    turn (reception m id payload) = other (reception m id payload) (λ e. differ cc) refl
    turn (response m id payload sum) = other (response m id payload sum) (λ e. differ cc) refl
    turn (no_response m id) = other (no_response m id) (λ e. differ cc) refl
    turn (tick report) = other (tick report) (λ e. differ cc) refl
    turn (take m) = go (ℕ_discrete m n)
      where
        go : Dec (m ≡ n) → Turn n a (take m)
        go (yes e) = rw e (takes (counts taking) refl taking)
        go (no d) = other (take m) (λ e. d cc) (passes _ _ _ (ne_eqb m n d))
    turn (fullness t) = other (fullness t) (λ e. differ cc) refl
