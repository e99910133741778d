-- A bit is held by a claim exactly where the records give it an owner.
use mathlib.Core.Path.{◌≡◌, refl, ap, ◌∙◌}
use mathlib.Core.Logic.{inl, inr}
use mathlib.Core.List.{List, [], ◌∷◌, ◌++◌, append_assoc}
use Prim.Native.Nat.{ℕ, ◌+◌, ◌≤◌, ◌<◌}
use native.Mathlib.Omega.{arith}
use native.Mathlib.Decide.{ℕ_discrete}
use lib.ListN.{length, get_or}
use Rattle.records.specs.declared.record.SignalBody.{SignalBody}
use Rattle.records.specs.declared.record.DestinationBody.{DestinationBody}
use Rattle.records.specs.declared.record.RxFrame.{RxFrame}
use Rattle.records.specs.declared.record.Record.{Record}
use Rattle.records.specs.declared.record.Record.TheVariants.{Rx, Signal, Destination}
use Rattle.records.specs.Kinds.{stage_of}
use Rattle.plan.specs.Rows.{copy, failure, Claim, row_of, rows_from, all_claims}
use Rattle.facts.specs.Good.{Each, count_of, Holds}
use Rattle.claims.specs.Claims.{Whole, IsDestination, Own, Beyond, Copies, ClaimsOf, Framed, Lawful}
use Rattle.claims.specs.Owners.{Has, Owner, destination, indicator}
use Rattle.claims.specs.Statements.{OwnersBySplits}
use Rattle.claims.proofs.OfKind.{destinations_own}
use Rattle.claims.proofs.Splits.{Each-join, count_below}
use Rattle.claims.proofs.Claims.{claims_by_splits}
use Rattle.claims.proofs.One.{indicated_some}
use Rattle.claims.proofs.Rows.{Parted, parted}
use Rattle.claims.proofs.All.{claim_bits, Has-at, all_claims_hold}
use Rattle.claims.proofs.Owned.{to_records}

-- a claim that the words give a row stands among all
module _ (rs front since : List Record) (x : RxFrame) (whole : Each Whole rs) (split : rs ≡ front ++ Rx x ∷ since) (own rest : List Record)
    (part : since ≡ own ++ rest) (all : Each Own own) (beyond : Beyond rest) where
  in_all : (c : Claim) → ((cs : List Claim) → ClaimsOf (count_of 4 front) x own cs → Has cs c) → Has (all_claims (rows_from 0 rs)) c
  unfolding stage_of
  in_all c f =
      let rows = claims_by_splits rs whole in
      let k = count_of 4 front in
      let d = row_of 0 x [] in
      let l : k < length (rows_from 0 rs) = omega (arith, rows.many, count_below 4 front since rs (Rx x) refl split) in
      (all_claims_hold.exactly (rows_from 0 rs) c).1
      (get_or (rows_from 0 rs) k d, Has-at (rows_from 0 rs) k d l, f _ ((rows.each front since x split d).claims own rest part all beyond))

  copy_in : (before upto dests after : List Record) (y : SignalBody) (t : DestinationBody) → own ≡ before ++ Destination t ∷ after
      → before ≡ upto ++ Signal y ∷ dests → Each IsDestination dests
      → Has (all_claims (rows_from 0 rs)) (record { rx = count_of 4 front; tx = t.tx.0; at = t.position; from = copy y.position y.size })
  unfolding stage_of
  copy_in before upto dests after y t e f a = in_all c (λ cs h. go cs (ℕ_discrete x.enable 1) h)
    where
      c : Claim
      c = record { rx = count_of 4 front; tx = t.tx.0; at = t.position; from = copy y.position y.size }

      below : count_of 6 before < count_of 6 own
      below = count_below 6 before after own (Destination t) refl e

      there : (first : ℕ) (cs : List Claim) → Copies first (count_of 4 front) own cs → Has cs c
      there first cs h =
          rw (h.each before upto dests after y t e f a c) at (Has-at cs (first + count_of 6 before) c (omega (arith, h.many, below)))

      go : (cs : List Claim) → Dec (x.enable ≡ 1) → ClaimsOf (count_of 4 front) x own cs → Has cs c
      go cs (yes on) h = there 1 cs (h.enabled on (omega (arith, below)))
      go cs (no off) h = there 0 cs (h.disabled off)

  indicator_in : (y : SignalBody) (t : DestinationBody) (after : List Record) → own ≡ Signal y ∷ Destination t ∷ after → x.enable ≡ 1
      → Has (all_claims (rows_from 0 rs)) (record { rx = count_of 4 front; tx = t.tx.0; at = x.position; from = failure })
  indicator_in y t after e on =
      in_all c (λ cs h. rw (h.failing on y t after e c) at (Has-at cs 0 c (omega (arith, (h.enabled on some).many))))
    where
      c : Claim
      c = record { rx = count_of 4 front; tx = t.tx.0; at = x.position; from = failure }

      some : 0 < count_of 6 own
      some = indicated_some own (y, t, after, e)

gather :
    (own dests after rest : List Record) (s d : Record)
    → own ++ s ∷ (dests ++ d ∷ (after ++ rest)) ≡ ((own ++ s ∷ dests) ++ d ∷ after) ++ rest
gather own dests after rest s d = simp append_assoc

abbrev Held : List Record → ℕ → ℕ → Type 0
Held rs t b = (c : Claim) × Has (all_claims (rows_from 0 rs)) c × Holds c t b

module _ (rs : List Record) (law : Lawful rs) (t b : ℕ) where
  -- a destination in the Tx frame
  abbrev there : ℕ → DestinationBody
  there q = record { tx = record { 0 = t }; position = q }

  destination_held :
      (upto dests rest : List Record) (y : SignalBody) (q : ℕ) → rs ≡ upto ++ Signal y ∷ (dests ++ Destination (there q) ∷ rest)
      → Each IsDestination dests → q ≤ b → b < q + y.size → Framed upto → Parted rest → Held rs t b
  unfolding Each
  destination_held upto dests rest y q e a low high (front, x, own, f, o) k =
      let here = Destination (there q) in
      let before = own ++ Signal y ∷ dests in
      let tail = Signal y ∷ (dests ++ here ∷ rest) in
      let split : rs ≡ front ++ Rx x ∷ (own ++ tail) = e ∙ ap (λ (xs : List Record). xs ++ tail) f ∙ append_assoc front (Rx x ∷ own) tail in
      let part : own ++ tail ≡ (before ++ here ∷ k.own) ++ k.rest =
      ap (λ (xs : List Record). own ++ Signal y ∷ (dests ++ here ∷ xs)) k.split ∙ gather own dests k.own k.rest (Signal y) here in
      let all : Each Own (before ++ here ∷ k.own) =
      Each-join Own before (here ∷ k.own) (Each-join Own own (Signal y ∷ dests) o (inl (y, refl), destinations_own dests a))
      (inr (there q, refl), k.all) in (
        record { rx = count_of 4 front; tx = t; at = q; from = copy y.position y.size },
        copy_in rs front (own ++ tail) x law.whole split (before ++ here ∷ k.own) k.rest part all k.beyond before own dests k.own y
            (there q) refl refl a,
        ((claim_bits _ t b).copied y.position y.size refl).1 (refl, low, high),
      )

  indicator_held :
      (front rest : List Record) (x : RxFrame) (y : SignalBody) (q : ℕ) → rs ≡ front ++ Rx x ∷ Signal y ∷ Destination (there q) ∷ rest
      → x.enable ≡ 1 → b ≡ x.position → Parted rest → Held rs t b
  unfolding Each
  indicator_held front rest x y q e on at k =
      let here = Destination (there q) in (
        record { rx = count_of 4 front; tx = t; at = x.position; from = failure },
        indicator_in rs front (Signal y ∷ here ∷ rest) x law.whole e (Signal y ∷ here ∷ k.own) k.rest
            (ap (λ (xs : List Record). Signal y ∷ here ∷ xs) k.split) (inl (y, refl), (inr (there q, refl), k.all)) k.beyond
            y (there q) k.own refl on,
        ((claim_bits _ t b).failed refl).1 (refl, at),
      )

  to_claim : Owner rs t b → Held rs t b
  to_claim (destination upto dests rest y q e a low high) =
      destination_held upto dests rest y q e a low high
      (law.framed upto (dests ++ Destination (there q) ∷ rest) (Signal y) e (inl (y, refl))) (parted rest)
  to_claim (indicator front rest x y q e on at) = indicator_held front rest x y q e on at (parted rest)

pub owners_by_splits : OwnersBySplits
owners_by_splits rs law t b = (to_claim rs law t b, (λ (c, h, held). to_records rs law t b c h held))
