-- The copies that the bytes from a place on state: a destination gives one, a signal says of what, and any other kind ends them.
use mathlib.Core.Path.{◌≡◌, refl, sym, ap, ◌∙◌}
use mathlib.Core.Bool.{Bool, true, false}
use mathlib.Core.Logic.{◌≢◌}
use mathlib.Core.List.{List, [], ◌∷◌}
use mathlib.Core.Option.{none, some}
use Prim.Native.Nat.{ℕ, ◌+◌, ◌%◌, ◌≤◌, ◌<◌}
use native.Mathlib.Decide.{dec_lt, ℕ_discrete}
use native.Mathlib.Omega.{arith}
use lib.Dec.{eqb}
use lib.ListN.{length}
use Rattle.base.specs.Pick.{pick}
use Rattle.base.specs.Numbers.{byte_at, two_at}
use Rattle.base.proofs.Picks.{both}
use Rattle.bits.specs.Payload.{set_bit}
use Rattle.records.specs.declared.record.Record.{Record}
use Rattle.records.specs.declared.record.Record.TheVariants.{Signal, Destination, Broken}
use Rattle.records.specs.declared.record.Fault.TheVariants.{Cut}
use Rattle.records.specs.Kinds.{form_of, length_of, tx_record, rx_record, fields_at, kind_of, rx_fields}
use Rattle.records.specs.Records.{record_at, records_at, size_of}
use Rattle.records.proofs.RecordLaws.{by_kind_byte, no_fields, record_cut, record_whole, records_end, records_step}
use Rattle.records.proofs.Variants.{by_row}
use Rattle.plan.specs.Rows.{Source, copy, Claim, with_failure, claims_from, awaited}
use Rattle.area.specs.Layout.{payloads_start, masks_end, spot, stored, rx_there, failure_tx, claims_at}
use Rattle.area.specs.Claims.{RxEvent, accepted, expired, done, all_done, failure_written}
use Rattle.area.proofs.Frame.{Same, Same-refl, Same-pick, Same-set_bit}
use Rattle.area.proofs.Kept.{Kept}
use Rattle.area.proofs.ClaimLaws.{claim_of, done_cleared, done_failed, done_stays}

-- ---- record by record

module _ (n p s : ℕ) (bytes : List ℕ) (k : ℕ) where
  abbrev here : List Claim
  here = claims_from n none p s (records_at bytes k)

  pub copies_destination :
      k + 4 ≤ length bytes → byte_at bytes k ≡ 6
      → here ≡ claim_of n (two_at bytes (k + 1)) (byte_at bytes (k + 3)) (copy p s) ∷ claims_from n none p s (records_at bytes (k + 4))
  unfolding claims_from with_failure size_of kind_of length_of form_of pick
  copies_destination h e =
      rw (records_step bytes k (omega arith), ← whole)
    where
      whole : Destination (record { tx = record { 0 = two_at bytes (k + 1) }; position = byte_at bytes (k + 3) }) ≡ record_at bytes k
      whole = unfold length_of fields_at form_of pick in (rw e at (record_whole bytes k (omega arith)) (omega arith) (omega arith))

  pub copies_signal :
      k + 3 ≤ length bytes → byte_at bytes k ≡ 5
      → here ≡ claims_from n none (byte_at bytes (k + 1)) (byte_at bytes (k + 2)) (records_at bytes (k + 3))
  unfolding claims_from size_of kind_of length_of form_of pick
  copies_signal h e =
      rw (records_step bytes k (omega arith), ← whole)
    where
      whole : Signal (record { position = byte_at bytes (k + 1); size = byte_at bytes (k + 2) }) ≡ record_at bytes k
      whole = unfold length_of fields_at form_of pick in (rw e at (record_whole bytes k (omega arith)) (omega arith) (omega arith))

  -- any other kind ends them
  module _ (n5 : byte_at bytes k ≢ 5) (n6 : byte_at bytes k ≢ 6) (rs : List Record) where
    abbrev Ends : Record → Type 0
    Ends r = claims_from n none p s (r ∷ rs) ≡ []

    stop_fields : Ends (fields_at (byte_at bytes k) bytes k)
    unfolding fields_at tx_record rx_record form_of pick claims_from
    stop_fields =
        by_kind_byte (λ kind. kind ≢ 5 → kind ≢ 6 → Ends (fields_at kind bytes k)) (λ d e. refl) (λ d e. refl) (λ d e. refl) (λ d e. refl)
        (λ d e. absurd (d refl)) (λ d e. absurd (e refl)) (λ d e. refl) (λ d e. refl) (byte_at bytes k)
        (λ none d e. rw (← (no_fields (byte_at bytes k) none bytes k))) n5 n6

    stop_record : Ends (record_at bytes k)
    unfolding record_at claims_from
    stop_record = both Ends _ _ _ refl (both Ends _ _ _ refl (both Ends _ _ _ refl stop_fields))

  pub copies_stop : byte_at bytes k ≢ 5 → byte_at bytes k ≢ 6 → here ≡ []
  copies_stop n5 n6 = go (dec_lt k (length bytes))
    where
      go : Dec (k < length bytes) → here ≡ []
      go (yes h) = rw (records_step bytes k h) (stop_record n5 n6 _)
      go (no h) = unfold claims_from in rw (records_end bytes k (omega arith))

-- where fewer than four bytes are left, there is none
pub copies_end : (n p s : ℕ) (bytes : List ℕ) (k : ℕ) → length bytes < k + 4 → claims_from n none p s (records_at bytes k) ≡ []
copies_end n p s bytes k h = go (dec_lt k (length bytes)) (ℕ_discrete (byte_at bytes k) 5) (ℕ_discrete (byte_at bytes k) 6)
  where
    nothing : (p s k : ℕ) → length bytes ≤ k → claims_from n none p s (records_at bytes k) ≡ []
    nothing p s k l = unfold claims_from in rw (records_end bytes k l)

    cut : (kind : ℕ) → k < length bytes → Broken (Cut kind) ≡ record_at bytes k → claims_from n none p s (records_at bytes k) ≡ []
    cut kind l e = unfold claims_from in rw (records_step bytes k l, ← e)

    signal : k < length bytes → byte_at bytes k ≡ 5 → Dec (length bytes < k + 3) → claims_from n none p s (records_at bytes k) ≡ []
    signal l e (yes m) = cut 5 l (unfold length_of form_of pick in (rw e at (record_cut bytes k l) (omega arith) (omega arith)))
    signal l e (no m) = copies_signal n p s bytes k (omega arith) e ∙ nothing _ _ (k + 3) (omega arith)

    go : Dec (k < length bytes) → Dec (byte_at bytes k ≡ 5) → Dec (byte_at bytes k ≡ 6) → claims_from n none p s (records_at bytes k) ≡ []
    go (no l) d e = nothing p s k (omega arith)
    go (yes l) (yes e) d = signal l e (dec_lt (length bytes) (k + 3))
    go (yes l) (no d) (yes e) = cut 6 l (unfold length_of form_of pick in (rw e at (record_cut bytes k l) (omega arith) (omega arith)))
    go (yes l) (no d) (no e) = copies_stop n p s bytes k d e

-- ---- what the events do to them, and to the failure bit before them

-- neither number bears on what is done
pub copies_rx :
    (o : ℕ) (e : RxEvent) (n m p s : ℕ) (rs : List Record) (a : List ℕ)
    → all_done o e (claims_from n none p s rs) a ≡ all_done o e (claims_from m none p s rs) a
unfolding claims_from with_failure all_done done
copies_rx o e n m p s [] a = refl
copies_rx o e n m p s (r ∷ rs) a =
    by_row (λ r. all_done o e (claims_from n none p s (r ∷ rs)) a ≡ all_done o e (claims_from m none p s (r ∷ rs)) a) (λ x. refl)
    (λ body. copies_rx o e n m body.position body.size rs a) (λ body. copies_rx o e n m p s rs _)
    (λ r no. ap (λ cs. all_done o e cs a) (no.by _ _ _ _ ∙ sym (no.by _ _ _ _))) r

-- an expiry copies nothing
copies_stay : (o r n p s : ℕ) (rs : List Record) (a : List ℕ) → all_done o (expired r) (claims_from n none p s rs) a ≡ a
unfolding claims_from with_failure all_done
copies_stay o r n p s [] a = refl
copies_stay o r n p s (x ∷ rs) a =
    by_row (λ x. all_done o (expired r) (claims_from n none p s (x ∷ rs)) a ≡ a) (λ f. refl)
    (λ body. copies_stay o r n body.position body.size rs a)
    (λ body.
    ap (all_done o (expired r) (claims_from n none p s rs)) (done_stays o r a n body.tx.0 body.position p s) ∙ copies_stay o r n p s rs a)
    (λ x no. ap (λ cs. all_done o (expired r) cs a) (no.by _ _ _ _)) x

-- the failure bit comes first, where it is awaited
module _ (o r q tx : ℕ) (cs : List Claim) (b : List ℕ) where
  with_accepted :
      (pl : List ℕ) (t : Bool)
      → all_done o (accepted r pl) (with_failure r (pick t (some q) none) tx cs) b
      ≡ all_done o (accepted r pl) cs (pick t (set_bit o b (spot (tx % 256) q) 0) b)
  unfolding pick with_failure all_done
  with_accepted pl true = rw (done_cleared o r b r tx q pl)
  with_accepted pl false = refl

  with_expired :
      (t : Bool)
      → all_done o (expired r) (with_failure r (pick t (some q) none) tx cs) b
      ≡ all_done o (expired r) cs (pick t (set_bit o b (spot (tx % 256) q) 1) b)
  unfolding pick with_failure all_done
  with_expired true = rw (done_failed o r b r tx q)
  with_expired false = refl

module _ (o r : ℕ) (a : List ℕ) (at : ℕ) where
  pub accepted_claims :
      (b pl : List ℕ) → stored b ≡ stored a
      → all_done o (accepted r pl) (claims_at a r at) b
      ≡ all_done o (accepted r pl) (claims_from r none 0 0 (records_at (stored b) (at + rx_fields))) (failure_written o 0 b at)
  unfolding claims_at failure_written awaited
  accepted_claims b pl same =
      rw same
      (with_accepted o r (rx_there a at).position (failure_tx a at) (claims_from r none 0 0 (records_at (stored a) (at + rx_fields))) b pl
      (eqb (rx_there a at).enable 1))

  pub expired_claims : all_done o (expired r) (claims_at a r at) a ≡ failure_written o 1 a at
  unfolding claims_at failure_written awaited
  expired_claims =
      with_expired o r (rx_there a at).position (failure_tx a at) (claims_from r none 0 0 (records_at (stored a) (at + rx_fields))) a
      (eqb (rx_there a at).enable 1)
      ∙ copies_stay o r r 0 0 (records_at (stored a) (at + rx_fields)) _

-- ---- what they leave

-- the failure bit is in a payload
pub failure_off :
    {P : ℕ → Type 0} → ((j : ℕ) → payloads_start ≤ j → j < masks_end → P j → ⊥) → (o v : ℕ) (a : List ℕ) (at : ℕ) → (rx_there a at).position < 256
    → Same P a (failure_written o v a at)
unfolding failure_written
failure_off never o v a at h = Same-pick _ _ _ (Same-set_bit o _ v (never _ (omega arith) (omega arith)) (Same-refl a)) (Same-refl a)

pub Kept-failure : (o v : ℕ) (a : List ℕ) (at : ℕ) → (rx_there a at).position < 256 → Kept a (failure_written o v a at)
Kept-failure = failure_off (λ j l m p. p.high (omega arith) m)

-- a claim's Tx frame is its number's low byte
pub done_low :
    (o : ℕ) (e : RxEvent) (a : List ℕ) (n t u q : ℕ) (s : Source) → t % 256 ≡ u % 256 → done o e a (claim_of n t q s) ≡ done o e a (claim_of n u q s)
unfolding done
done_low o e a n t u q s e' = rw e'
