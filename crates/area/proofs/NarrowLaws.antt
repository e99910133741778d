-- The claims of an area of bytes are narrow, whatever stands there: a position and a size are one byte each.
use mathlib.Core.Path.{sym, subst}
use mathlib.Core.List.{List, [], ◌∷◌}
use mathlib.Core.Option.{Option, none, some}
use Prim.Native.Nat.{ℕ, zero, suc, ◌+◌, ◌<◌}
use native.Mathlib.Omega.{arith}
use lib.ListN.{take, drop}
use lib.Seq.{get_or-drop}
use Rattle.base.proofs.Picks.{both}
use Rattle.bits.proofs.PayloadLaws.{Bytes}
use Rattle.records.specs.declared.record.Record.{Record}
use Rattle.records.specs.Views.{on_signal, on_destination}
use Rattle.records.specs.Kinds.{rx_at, tx_record, rx_record}
use Rattle.records.specs.Records.{record_at, records_from, records_at}
use Rattle.records.proofs.RecordLaws.{by_record}
use Rattle.records.proofs.Variants.{by_row}
use Rattle.plan.specs.Rows.{Claim, with_failure, claims_from, awaited}
use Rattle.area.specs.Layout.{plan_start, plan_room, rx_fields_place, stored, claims_at, claims}
use Rattle.area.proofs.Frame.{Each, Narrow}
use Rattle.area.proofs.ClaimLaws.{Narrow-copy, narrow_failure}

-- ---- the bytes of the part that holds the plan

Bytes-take : (n : ℕ) (l : List ℕ) → Bytes l → Bytes (take n l)
Bytes-take zero l b i = omega arith
Bytes-take (suc n) [] b i = omega arith
Bytes-take (suc n) (x ∷ l) b zero = b 0
Bytes-take (suc n) (x ∷ l) b (suc i) = Bytes-take n l (λ j. b (suc j)) i

pub Bytes-stored : (a : List ℕ) → Bytes a → Bytes (stored a)
unfolding stored
Bytes-stored a b = Bytes-take plan_room (drop plan_start a) (λ i. rw (get_or-drop plan_start a i 0) (b (plan_start + i)))

-- ---- a record of bytes

unfoldable Small : Record → Type 0
Small r = on_signal (on_destination (Unit {0}) (λ body. body.position < 256) r) (λ body. body.size < 256) r

abbrev Within : Option ℕ → Type 0
Within none = Unit {0}
Within (some q) = q < 256

module _ (plan : List ℕ) (b : Bytes plan) where
  Small-at : (at : ℕ) → Small (record_at plan at)
  unfolding Small tx_record rx_record
  Small-at at = by_record Small plan at (λ fault. tt) tt tt (λ id stands. tt) (λ id stands. tt) (b (at + 2)) (b (at + 3))

  small_from : (bound at : ℕ) → Each Small (records_from bound plan at)
  unfolding records_from
  small_from zero at = tt
  small_from (suc bound) at = both (Each Small) _ _ _ tt (Small-at at, small_from bound _)

-- ---- and the claims

narrow_with : (n : ℕ) (w : Option ℕ) (tx : ℕ) (cs : List Claim) → Within w → Each Narrow cs → Each Narrow (with_failure n w tx cs)
unfolding with_failure
narrow_with n none tx cs h e = e
narrow_with n (some q) tx cs h e = (narrow_failure n tx q h, e)

narrow_from : (n : ℕ) (w : Option ℕ) (p s : ℕ) (rs : List Record) → Within w → s < 256 → Each Small rs → Each Narrow (claims_from n w p s rs)
unfolding claims_from Small
narrow_from n w p s [] h l e = tt
narrow_from n w p s (r ∷ rs) h l e =
    by_row (λ r. Small r → Each Narrow (claims_from n w p s (r ∷ rs))) (λ x f. tt) (λ body f. narrow_from n w body.position body.size rs h f e.1)
    (λ body f. narrow_with n w body.tx.0 _ h
    (Narrow-copy n body.tx.0 body.position f p s (omega arith), narrow_from n none p s rs tt l e.1))
    (λ r no f. subst (Each Narrow) (sym (no.by _ _ _ _)) tt) r e.0

-- the copies, and all
pub narrow_copies : (a : List ℕ) (r at p s : ℕ) → s < 256 → Bytes a → Each Narrow (claims_from r none p s (records_at (stored a) at))
unfolding records_at
narrow_copies a r at p s l b = narrow_from r none p s _ tt l (small_from (stored a) (Bytes-stored a b) _ _)

pub narrow_claims : (a : List ℕ) (r : ℕ) → Bytes a → Each Narrow (claims a r)
unfolding claims claims_at awaited rx_at
narrow_claims a r b =
    narrow_with r _ _ _ (both Within _ _ _ (Bytes-stored a b (rx_fields_place a r + 5)) tt) (narrow_copies a r _ 0 0 (omega arith) b)
