-- Ticks after a fix of the one source that do not set its failure bit: the frame is kept and waits as it was, and the caller counts them.
use mathlib.Core.Path.{◌≡◌, refl, ap, ◌∙◌}
use mathlib.Core.List.{List, [], ◌∷◌}
use mathlib.Core.Option.{Option, some}
use Prim.Native.Nat.{ℕ, zero, suc, ◌+◌, ◌<◌, ◌≤◌}
use native.Mathlib.Nat.{zero-add, add-zero}
use native.Mathlib.Omega.{arith}
use lib.ListN.{length, replicate}
use borrow.Author.Tests.{le-leb}
use Rattle.std.specs.Prelude.{Ok}
use Rattle.base.specs.Pick.{pick}
use Rattle.base.proofs.Picks.{picks}
use Rattle.records.specs.declared.record.Id.TheVariants.{Standard}
use Rattle.records.specs.Ids.{same_id}
use Rattle.clock.specs.Counter.{Prescaler}
use Rattle.records.specs.declared.record.RxFrame.{RxFrame}
use Rattle.records.specs.declared.record.Entry.{Entry}
use Rattle.answers.specs.declared.Received.TheVariants.{Accepted}
use Rattle.opening.specs.Opened.{opened_answer, opened_area}
use Rattle.reception.specs.Reception.{received_answer}
use Rattle.ticking.specs.Tick.{tick_answer}
use Rattle.tables.specs.Reads.{row_at}
use Rattle.model.specs.State.{State}
use Rattle.model.specs.Calls.{Call, take, answer_of, next_of, running, Step, opening, call}
use Rattle.history.specs.Calls.{open_answer, answer_in, area_after, stepped, after_in}
use Rattle.history.specs.Past.{Past, opened_past, past_after, past_after_all}
use Rattle.refines.proofs.Held.{Held}
use Rattle.refines.proofs.Opened.{Held-opened}
use Rattle.age.specs.Acceptance.{Acceptance, by_reception, by_tick, older, acceptance_after, acceptance_after_all, last_acceptance}
use Rattle.age.specs.AgeOfAFix.{Handed}
use Rattle.age.proofs.AnyCalls.{follows}
use Rattle.age.proofs.Quiet.{Sets, fell, Quiet}
use Rattle.age.proofs.OneSource.{Enable, one_source, one_source_good, one_source_bytes, frame_of, plan_of, one_source_says, one_source_rows, taken_frame}
use Rattle.age.proofs.OneSource.{brought, given, a_fix, a_tick, state_of, blank, fixed, begins, fix_answer, fix_next, take_answer, answer_of_tick, tick_next}

-- k ticks with no reception among them
abbrev silent : ℕ → List Step
silent k = replicate k (call a_tick)

-- an opening, tick 0, which handles every timer, a fix, and k ticks
abbrev pub calls_of : List ℕ → ℕ → List Step
calls_of plan k = opening plan ∷ call a_tick ∷ call a_fix ∷ silent k

-- the last acceptance, k ticks ago
abbrev pub last_of : ℕ → Acceptance
last_of k = record { payload = brought; ticks = k }

-- no tick opens a plan
silent-past : (k : ℕ) (past : Past) (a : List ℕ) → (past_after_all past (silent k) a).plan ≡ past.plan
unfolding past_after_all past_after
silent-past zero past a = refl
silent-past (suc k) past a = silent-past k _ _

module _ {e r p : ℕ} (enable : Enable e) (byte : r < 256) (prescaler : Prescaler p) where
  -- ---- a call on an area that holds the plan

  does :
      {a : List ℕ} {s : State} → Held (one_source e r p) a s → (c : Call)
      → (answer_in a c ≡ answer_of (plan_of e r p) s c) × Held (one_source e r p) (area_after a c) (next_of (plan_of e r p) s c)
  unfolding running
  does h c = rw (one_source_says e r p) at (follows h c)

  module _ {kept : List ℕ} {waiting : List Entry} {n v : ℕ} {a : List ℕ} (h : Held (one_source e r p) a (state_of kept waiting n v)) where
    tick_done : tick_answer a (0 ∷ []) ≡ Ok tt
    unfolding answer_in
    tick_done = let x = (does h a_tick).0 ∙ answer_of_tick e r p kept waiting n v in cc

    tick_older : (x : RxFrame) (last : Option Acceptance) → acceptance_after x last (call a_tick) a ≡ older last
    unfolding acceptance_after by_tick
    tick_older x last = rw tick_done

    tick_held : (Sets e p n v → ⊥) → Held (one_source e r p) (area_after a a_tick) (state_of kept waiting (suc n) (fell r p n v))
    tick_held d = rw (tick_next e r p kept waiting n v d) at (does h a_tick).1

  -- ---- ticks since a fix

  -- the fix is kept and waits
  record Keeps (a : List ℕ) : Type 0 where
    number : ℕ
    timer : ℕ
    held : Held (one_source e r p) a (fixed number timer)

  silent_keeps : (k n v : ℕ) → Quiet e r p k n v → (a : List ℕ) → Held (one_source e r p) a (fixed n v) → Keeps (after_in a (silent k))
  unfolding after_in stepped Quiet
  silent_keeps zero n v q a h = record { number = n; timer = v; held = h }
  silent_keeps (suc k) n v q a h = silent_keeps k (suc n) _ q.1 _ (tick_held h q.0)

  silent_older :
      (x : RxFrame) (k n v j : ℕ) → Quiet e r p k n v → (a : List ℕ) → Held (one_source e r p) a (fixed n v)
      → acceptance_after_all x (some (last_of j)) (silent k) a ≡ some (last_of (k + j))
  unfolding acceptance_after_all older stepped Quiet
  silent_older x zero n v j q a h = rw zero-add
  silent_older x (suc k) n v j q a h =
      let m : suc k + j ≡ k + suc j = omega arith in
      ap (λ y. acceptance_after_all x y (silent k) (area_after a a_tick)) (tick_older h x (some (last_of j)))
      ∙ rw m (silent_older x k (suc n) _ (suc j) q.1 _ (tick_held h q.0))

  -- ---- from the opening on

  module _ (a : List ℕ) (long : 32768 ≤ length a) where
    opens : open_answer (one_source e r p) a ≡ Ok (record { nodes = 1; tx = 1; rx = 1 })
    unfolding opened_answer
    opens = rw (one_source_good r enable prescaler) (picks _ _ _ (le-leb _ _ long))

    -- the area after the opening, after tick 0, and after the fix
    abbrev a₁ : List ℕ
    a₁ = stepped a (opening (one_source e r p))

    abbrev a₂ : List ℕ
    a₂ = area_after a₁ a_tick

    abbrev a₃ : List ℕ
    a₃ = area_after a₂ a_fix

    held₁ : Held (one_source e r p) a₁ (blank 0 0)
    unfolding stepped opened_area
    held₁ =
        rw (opens, ← begins e r p, ← one_source_says e r p)
        (Held-opened _ a 1 1 1 (one_source_good r enable prescaler) long (one_source_bytes enable byte prescaler))

    held₂ : Held (one_source e r p) a₂ (blank 1 (fell r p 0 0))
    held₂ = tick_held held₁ (λ s. omega arith)

    held₃ : Held (one_source e r p) a₃ (fixed 1 r)
    held₃ = rw (fix_next r p enable 1 (fell r p 0 0)) at (does held₂ a_fix).1

    accepts : received_answer a₂ 0 (Standard 0x20) brought ≡ Ok Accepted
    unfolding answer_in
    accepts = let x = (does held₂ a_fix).0 ∙ fix_answer e r p 1 (fell r p 0 0) in cc

    accepted_now : (last : Option Acceptance) → acceptance_after (frame_of e r p) last (call a_fix) a₂ ≡ some (last_of 0)
    unfolding acceptance_after by_reception same_id pick
    accepted_now last = rw accepts

    module _ (k : ℕ) (quiet : Quiet e r p k 1 r) where
      pub handed : Handed a (calls_of (one_source e r p) k) (one_source e r p) 0 given
      unfolding past_after_all past_after opened_past after_in stepped
      handed =
          let keeps = silent_keeps k 1 r quiet a₃ held₃ in
          record {
            bytes = one_source_bytes enable byte prescaler;
            opened = silent-past k _ _ ∙ rw opens;
            node = 0;
            frame = taken_frame;
            tx = refl;
            takes = (does keeps.held (take 0)).0 ∙ take_answer e r p keeps.number keeps.timer;
          }

      pub accepted : last_acceptance (row_at (one_source e r p) 0).frame (calls_of (one_source e r p) k) a ≡ some (last_of k)
      unfolding acceptance_after_all stepped
      accepted =
          rw (one_source_rows e r p)
          (ap (λ y. acceptance_after_all (frame_of e r p) y (silent k) a₃) (accepted_now _)
          ∙ silent_older (frame_of e r p) k 1 r 0 quiet a₃ held₃ ∙ rw add-zero)
