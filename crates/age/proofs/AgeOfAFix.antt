-- A failure bit of 0 in what a take hands back says that no expiry of the source has come since its last acceptance; so its timer is still to expire,
-- which it does within the bound. And as long as it cannot have expired, the bit is 0.
use mathlib.Core.Path.{◌≡◌, refl, sym, ap, ◌∙◌}
use mathlib.Core.Logic.{⊎_elim}
use mathlib.Core.List.{List}
use mathlib.Core.Option.{Option, none, some}
use Prim.Native.Nat.{ℕ, ◌+◌, ◌≤◌, ◌<◌}
use native.Mathlib.Nat.{zero-mul}
use native.Mathlib.Omega.{arith}
use native.Mathlib.Decide.{ℕ_discrete}
use lib.ListN.{length, take as first_of}
use Rattle.base.proofs.Apart.{differ}
use Rattle.bits.specs.Payload.{bit_at}
use Rattle.records.specs.Records.{records}
use Rattle.plan.specs.Rows.{rows_of, order_in}
use Rattle.area.specs.Claims.{RxEvent}
use Rattle.tables.specs.Reads.{initial, row_at, planned_tx}
use Rattle.model.specs.State.{kept_of}
use Rattle.model.specs.Calls.{Step, take}
use Rattle.history.specs.Calls.{after_in}
use Rattle.history.specs.Past.{past_of}
use Rattle.history.specs.Fresh.{Owner, nobody, signal, indicator, owner, last_failed, source_bit, failure_bit, fresh_by, fresh}
use Rattle.history.proofs.Demand3.{every_bit_fresh}
use Rattle.age.specs.Acceptance.{Acceptance, last_acceptance}
use Rattle.age.specs.AgeOfAFix.{Handed, Heard, handed_failure, bound, Recent, AgeOfAFix, SourcesTogether, BitsOf, BitsOfAnySource}
use Rattle.age.specs.Choosing.{NotEarly, ZeroSaysAccepted}
use Rattle.age.proofs.Logs.{zero_accepted}
use Rattle.age.proofs.Knows.{Timed, its_prescaler}
use Rattle.age.proofs.AnyCalls.{Known, known, follows}
use Rattle.age.proofs.HandedBits.{handed_kept, handed_bit}

module _ {a : List ℕ} {calls : List Step} {plan : List ℕ} {t : ℕ} {payload : List ℕ} (h : Handed a calls plan t payload)
    (r : ℕ) (row : r < length (rows_of plan)) where
  abbrev log : List RxEvent
  log = (past_of calls a).log

  k : Known plan r (after_in a calls) log (last_acceptance (row_at plan r).frame calls a)
  k = known a calls plan h.opened h.bytes r row

  -- ---- each bit that has an owner is worked out afresh

  kept : payload ≡ first_of (planned_tx plan t).size (kept_of k.state t)
  kept =
      handed_kept k.held.good k.state k.held.shape h.node h.frame payload (sym (follows k.held (take h.node)).0 ∙ h.takes)
      ∙ ap (λ (u : ℕ). first_of (planned_tx plan u).size (kept_of k.state u)) h.tx

  afresh : (b : ℕ) (w : Owner) → owner plan t b ≡ w → (w ≡ nobody → ⊥)
      → bit_at (order_in (records plan)) payload b ≡ fresh_by (order_in (records plan)) w log (initial plan t b)
  unfolding fresh
  afresh b w e d =
      let (exists, small, same) = handed_bit k.held t b (λ f. d (sym e ∙ f)) payload kept in
      rw (← e) (same ∙ every_bit_fresh a calls plan h.opened t b exists small)

  -- those of its last acceptance
  bits : (last : Acceptance) → last_acceptance (row_at plan r).frame calls a ≡ some last → BitsOf plan t payload r last
  unfolding fresh_by source_bit
  bits last accepted b from e =
      afresh b (signal r from) e (λ f. differ cc)
      ∙ ap (λ y. source_bit (order_in (records plan)) y from (initial plan t b)) (rw accepted at k.knows.payload)

  module _ (indicates : owner plan t (row_at plan r).frame.position ≡ indicator r) where
    abbrev first : ℕ
    first = initial plan t (row_at plan r).frame.position

    failure_afresh : (y : Option ℕ) → last_failed r log ≡ y → handed_failure plan payload r ≡ failure_bit y first
    unfolding fresh_by
    failure_afresh y e =
        afresh (row_at plan r).frame.position (indicator r) indicates (λ f. differ cc)
        ∙ ap (λ y. failure_bit y first) e

    -- what it is where there was an event
    failure_is : (v : ℕ) → last_failed r log ≡ some v → handed_failure plan payload r ≡ v
    unfolding failure_bit
    failure_is v e = failure_afresh (some v) e

module _ {a : List ℕ} {calls : List Step} {plan : List ℕ} {t : ℕ} {payload : List ℕ} (h : Handed a calls plan t payload)
    (r : ℕ) (last : Acceptance) (x : Heard a calls plan t r last) where
  timed : 0 < (row_at plan r).frame.reload → Timed plan r (k h r x.row).state (past_of calls a).log last
  timed above = (k h r x.row).knows.timed (λ lin. let both = sym x.can ∙ lin in differ cc) above last x.accepted

  -- ---- the failure bit is 0: there was no expiry

  recent : 0 < (row_at plan r).frame.reload → handed_failure plan payload r ≡ 0 → Recent plan t payload r last
  recent above unset =
      record {
        few =
            ⊎_elim (λ (f, (ticks, due, few, more)). omega (arith, few, due.all))
            (λ (f, more). absurd (omega (arith, unset, failure_is h r x.row x.indicates 1 f)))
            (timed above);
        bits = bits h r x.row last x.accepted;
      }

  -- ---- and it is 0 where there cannot have been one

  not_flagged : last.ticks + (row_at plan r).frame.prescaler ≤ bound plan r → handed_failure plan payload r ≡ 0
  not_flagged few =
      ⊎_elim (λ (f, soon). failure_is h r x.row x.indicates 0 f) (λ (f, more). absurd (omega (arith, more)))
      (timed (above (ℕ_discrete (row_at plan r).frame.reload 0)))
    where
      above : Dec ((row_at plan r).frame.reload ≡ 0) → 0 < (row_at plan r).frame.reload
      above (yes e) =
          let handled = its_prescaler (k h r x.row).held.good r x.row in
          let nothing : bound plan r ≡ 0 = rw e (zero-mul _) in
          absurd (omega arith)
      above (no d) = omega arith

-- ---- a failure bit that was 1 at first, and is 0

module _ {a : List ℕ} {calls : List Step} {plan : List ℕ} {t : ℕ} {payload : List ℕ} (h : Handed a calls plan t payload) (r : ℕ)
    (row : r < length (rows_of plan)) (indicates : owner plan t (row_at plan r).frame.position ≡ indicator r)
    (set : initial plan t (row_at plan r).frame.position ≡ 1) (unset : handed_failure plan payload r ≡ 0) where
  cleared : last_failed r (past_of calls a).log ≡ some 0
  unfolding failure_bit
  cleared = go (last_failed r (past_of calls a).log) refl
    where
      go : (y : Option ℕ) → last_failed r (past_of calls a).log ≡ y → last_failed r (past_of calls a).log ≡ some 0
      go none e = absurd (omega (arith, failure_afresh h r row indicates none e))
      go (some v) e = e ∙ ap (λ (v : ℕ). some v) (sym (failure_is h r row indicates v e) ∙ unset)

  accepted : (last : Acceptance) × (last_acceptance (row_at plan r).frame calls a ≡ some last)
  accepted = go (last_acceptance (row_at plan r).frame calls a) refl
    where
      go : (y : Option Acceptance) → last_acceptance (row_at plan r).frame calls a ≡ y
          → (last : Acceptance) × (last_acceptance (row_at plan r).frame calls a ≡ some last)
      go none e = absurd (zero_accepted r (past_of calls a).log cleared (rw e at (k h r row).knows.payload))
      go (some last) e = (last, e)

pub age_of_a_fix : AgeOfAFix
age_of_a_fix a calls plan t payload h r last x above unset = recent h r last x above unset

pub bits_of_any_source : BitsOfAnySource
bits_of_any_source a calls plan t payload h r last row accepted = bits h r row last accepted

pub sources_together : SourcesTogether
sources_together a calls plan t payload h q r one_last other_last x y above below unset clear =
    let one = recent h q one_last x above unset in
    let other = recent h r other_last y below clear in
    record { one = one; other = other; before = omega (arith, one.few); after = omega (arith, other.few) }

pub not_early : NotEarly
not_early a calls plan t payload h r last x few = not_flagged h r last x few

pub zero_says_accepted : ZeroSaysAccepted
zero_says_accepted a calls plan t payload h r row indicates set unset = accepted h r row indicates set unset
