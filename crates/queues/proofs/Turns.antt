-- The statements on the order in which what waits leaves: for each place in a queue, from the law for one place and from the fact that none stands in
-- a queue twice.
use mathlib.Core.Path.{◌≡◌, sym, ◌∙◌}
use mathlib.Core.Logic.{◌≢◌}
use mathlib.Core.List.{List}
use mathlib.Core.Option.{some}
use Prim.Native.Nat.{ℕ, zero, suc, ◌<◌}
use native.Mathlib.Omega.{arith}
use native.Mathlib.Decide.{dec_lt}
use lib.ListN.{length, get_or-eq_default}
use Rattle.std.specs.Prelude.{None, Ok}
use Rattle.base.proofs.Apart.{differ}
use Rattle.records.specs.declared.record.Entry.{Entry}
use Rattle.area.specs.Queue.{entry_of, queue_of}
use Rattle.taking.specs.Taken.{taken_answer}
use Rattle.model.specs.Plan.{said}
use Rattle.model.specs.Calls.{Call, take}
use Rattle.model.proofs.Begins.{mapped_at, mapped-length}
use Rattle.history.specs.Calls.{area_after, after_in}
use Rattle.refines.proofs.Held.{below}
use Rattle.sending.proofs.Queues.{waiter}
use Rattle.sending.proofs.Entries.{entry_one}
use Rattle.queues.specs.Turns.{leaving, takes_on, leaving_at, Ahead, InTurn, LeavesInTurn, at_once, AsIfAtOnce}
use Rattle.queues.proofs.Opened.{IsOpen, open_after, opened}
use Rattle.queues.proofs.Taking.{Taking, nobody, oldest, counts, taking}
use Rattle.queues.proofs.Leaving.{in_turn}

module _ {plan : List ℕ} (n : ℕ) (l : n < (said plan).nodes) where
  -- ---- one that is nearer to the front is another

  module _ {a : List ℕ} (o : IsOpen plan a) where
    -- what stands at a place is what has its number there
    numbered : (k : ℕ) (e : Entry) → Ahead a n k e → (k < length (queue_of a n)) × (entry_of (waiter a n k) ≡ e)
    numbered k e h =
        let m : k < length (queue_of a n) = omega (arith, h.waits, mapped-length entry_of (queue_of a n)) in
        (m, sym (mapped_at entry_of 0 e (queue_of a n) k m) ∙ h.there)

    nearer : (j k : ℕ) (e : Entry) → j < k → Ahead a n k e → Ahead a n j (entry_of (waiter a n j))
    nearer j k e i h =
        let m : j < length (queue_of a n) = omega (arith, (numbered k e h).0) in
        record { waits = omega (arith, h.waits); there = mapped_at entry_of 0 _ (queue_of a n) j m }

    another : (j k : ℕ) (e : Entry) → j < k → Ahead a n k e → entry_of (waiter a n j) ≢ e
    another j k e i h same =
        let (m, is) = numbered k e h in
        (o.held.ready.queues.queue n (below o.held n l)).once j k i m (entry_one (same ∙ sym is))

    -- so it leaves at no take before its turn
    not_before : (k : ℕ) (e : Entry) → Ahead a n k e → (calls : List Call) (j : ℕ) → j < k → leaving_at j n a calls ≢ some e
    unfolding leaving
    not_before k e h calls j i f = go (dec_lt j (length (takes_on n a calls)))
      where
        go : Dec (j < length (takes_on n a calls)) → ⊥
        go (yes m) =
            let g = (in_turn n (entry_of (waiter a n j)) l calls a o j (nearer j k e i h)).leaves m in
            another j k e i h (cc)
        go (no d) = let g = rw (get_or-eq_default (takes_on n a calls) (Ok None) {n = j} (omega arith)) at f in differ cc

    pub turns : (k : ℕ) (e : Entry) → Ahead a n k e → (calls : List Call) → InTurn a n k e calls
    turns k e h calls =
        let x = in_turn n e l calls a o k h in
        record { leaves = x.leaves; not_before = not_before k e h calls; until = x.until }

  -- ---- takes at once tell what stands where

  pub told : (k : ℕ) (a : List ℕ) → IsOpen plan a → (e : Entry) → leaving_at k n a (at_once n (suc k)) ≡ some e → Ahead a n k e
  unfolding at_once takes_on leaving
  told zero a o e f = here (taking o n l) (rw (counts (taking o n l)) at f)
    where
      here : Taking n a → leaving (taken_answer a n) ≡ some e → Ahead a n 0 e
      here (nobody t q r) f = absurd (differ (let g = rw t at f in cc))
      here (oldest x rest tells q r) f = record { waits = rw q (omega arith); there = rw q (let g = tells.leaves in cc) }
  told (suc k) a o e f = here (taking o n l) (told k (area_after a (take n)) (open_after o (take n)) e (rw (counts (taking o n l)) at f))
    where
      here : Taking n a → Ahead (area_after a (take n)) n k e → Ahead a n (suc k) e
      here (nobody t q r) h = absurd (let w = rw r at h.waits in omega arith)
      here (oldest x rest tells q r) h =
          let w = rw r at h.waits in
          record { waits = rw q (omega arith); there = rw q (rw r at h.there) }

pub leaves_in_turn : LeavesInTurn
leaves_in_turn a before plan bytes is n l k e h calls = turns n l (opened a before plan bytes is) k e h calls

pub as_if_at_once : AsIfAtOnce
as_if_at_once a before plan bytes is n l k e f calls =
    let o = opened a before plan bytes is in
    (turns n l o k e (told n l k (after_in a before) o e f) calls).leaves
