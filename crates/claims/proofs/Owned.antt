-- A bit that a claim holds has an owner in the records.
use mathlib.Core.Path.{◌≡◌, refl, sym, ap, ◌∙◌}
use mathlib.Core.List.{List, ◌∷◌, ◌++◌, append_assoc}
use Prim.Native.Nat.{ℕ, zero, suc, ◌+◌, ◌<◌}
use native.Mathlib.Nat.{zero-add}
use native.Mathlib.Omega.{arith}
use native.Mathlib.Decide.{ℕ_discrete}
use lib.ListN.{length, get_or}
use Rattle.records.specs.declared.record.SignalBody.{SignalBody}
use Rattle.records.specs.declared.record.DestinationBody.{DestinationBody}
use Rattle.records.specs.declared.record.Record.{Record}
use Rattle.records.specs.declared.record.Record.TheVariants.{Rx, Signal, Destination}
use Rattle.plan.specs.Rows.{copy, failure, Claim, Row, rows_from, all_claims}
use Rattle.facts.specs.Good.{count_of, Holds}
use Rattle.claims.specs.Claims.{Copies, ClaimsOf, RowOf, RowsOf, Indicated, Lawful}
use Rattle.claims.specs.Owners.{Has, Owner, destination, indicator}
use Rattle.claims.proofs.Claims.{claims_by_splits}
use Rattle.claims.proofs.One.{CopyAt, copy_at, copied, indicated_some}
use Rattle.claims.proofs.Rows.{FrameAt, frame_at, Regular-at, RowOf-from_frame_at}
use Rattle.claims.proofs.All.{claim_bits, at_has, all_claims_hold}

number_is : (x : DestinationBody) (t : ℕ) → x.tx.0 ≡ t → x ≡ record { tx = record { 0 = t }; position = x.position }
number_is x t e i = record { tx = record { 0 = e i }; position = x.position }

regroup :
    (front upto dests after rest : List Record) (r s d : Record)
    → front ++ r ∷ (((upto ++ s ∷ dests) ++ d ∷ after) ++ rest) ≡ (front ++ r ∷ upto) ++ s ∷ (dests ++ d ∷ (after ++ rest))
regroup front upto dests after rest r s d = simp append_assoc

module _ (rs : List Record) (t b k : ℕ) (f : FrameAt k rs) where
  split_own : (own : List Record) → f.part.own ≡ own → rs ≡ f.front ++ Rx f.x ∷ (own ++ f.part.rest)
  split_own own e =
      f.split
      ∙ ap (λ (xs : List Record). f.front ++ Rx f.x ∷ xs) (f.part.split ∙ ap (λ (xs : List Record). xs ++ f.part.rest) e)

  copy_owns :
      (j : ℕ) (c : CopyAt j f.part.own)
      → Holds (record { rx = k; tx = c.t.tx.0; at = c.t.position; from = copy c.signal.g.position c.signal.g.size }) t b
      → Owner rs t b
  copy_owns j c h =
      let g = ((claim_bits _ t b).copied c.signal.g.position c.signal.g.size refl).0 h in
      let own = c.split ∙ ap (λ (xs : List Record). xs ++ Destination c.t ∷ c.after) c.signal.split in
      destination (f.front ++ Rx f.x ∷ c.signal.upto) c.signal.dests (c.after ++ f.part.rest) c.signal.g c.t.position
      (rw (← (number_is c.t t g.0))
      (split_own _ own ∙ regroup f.front c.signal.upto c.signal.dests c.after f.part.rest (Rx f.x) _ _))
      c.signal.all g.1 g.2

  indicator_owns :
      (y : SignalBody) (u : DestinationBody) (after : List Record) → f.part.own ≡ Signal y ∷ Destination u ∷ after → f.x.enable ≡ 1
      → Holds (record { rx = k; tx = u.tx.0; at = f.x.position; from = failure }) t b → Owner rs t b
  indicator_owns y u after e on h =
      let g = ((claim_bits _ t b).failed refl).0 h in
      indicator f.front (after ++ f.part.rest) f.x y u.position
      (rw (← (number_is u t g.0)) (split_own _ e)) on g.1

  claim_owns :
      Lawful rs → (cs : List Claim) → ClaimsOf k f.x f.part.own cs → (j : ℕ) (d : Claim) → j < length cs → Holds (get_or cs j d) t b
      → Owner rs t b
  claim_owns law cs h j d l m = go (ℕ_discrete f.x.enable 1) j l m
    where
      copy_there : (first i : ℕ) → Copies first k f.part.own cs → i < count_of 6 f.part.own → Holds (get_or cs (first + i) d) t b → Owner rs t b
      copy_there first i c l m =
          let at = copy_at f.part.own (Regular-at rs law k f).signalled f.part.all i l in
          copy_owns i at (rw (copied first k f.part.own cs c i at d) at m)

      with_indicator : f.x.enable ≡ 1 → Indicated f.part.own → (j : ℕ) → j < length cs → Holds (get_or cs j d) t b → Owner rs t b
      with_indicator on (y, u, after, e) zero l m = indicator_owns y u after e on (rw (h.failing on y u after e d) at m)
      with_indicator on i (suc j) l m =
          let c = h.enabled on (indicated_some f.part.own i) in
          let e : suc j ≡ 1 + j = omega arith in
          copy_there 1 j c (omega (arith, c.many)) (rw e at m)

      go : Dec (f.x.enable ≡ 1) → (j : ℕ) → j < length cs → Holds (get_or cs j d) t b → Owner rs t b
      go (yes on) j l m = with_indicator on ((Regular-at rs law k f).indicated on) j l m
      go (no off) j l m = let c = h.disabled off in copy_there 0 j c (omega (arith, c.many)) (rw (sym (zero-add j)) at m)

pub to_records : (rs : List Record) → Lawful rs → (t b : ℕ) (c : Claim) → Has (all_claims (rows_from 0 rs)) c → Holds c t b → Owner rs t b
to_records rs law t b c h held = go ((all_claims_hold.exactly (rows_from 0 rs) c).0 h)
  where
    rows : RowsOf rs (rows_from 0 rs)
    rows = claims_by_splits rs law.whole

    in_claims :
        (row : Row) (k : ℕ) → get_or (rows_from 0 rs) k row ≡ row → FrameAt k rs
        → (j : ℕ) × (j < length row.claims) × ((d : Claim) → get_or row.claims j d ≡ c) → Owner rs t b
    in_claims row k e f (j, l, i) =
        let at : RowOf k f.x f.since row = rw e at (RowOf-from_frame_at rs (rows_from 0 rs) rows k f row) in
        let p = f.part in
        claim_owns rs t b k f law row.claims (at.claims p.own p.rest p.split p.all p.beyond) j c l (rw (i c) held)

    in_row : (row : Row) → Has row.claims c → (k : ℕ) × (k < length (rows_from 0 rs)) × ((d : Row) → get_or (rows_from 0 rs) k d ≡ row) → Owner rs t b
    in_row row h (k, l, e) = in_claims row k (e row) (frame_at rs law.whole k (omega (arith, rows.many))) (at_has row.claims c h)

    go : (row : Row) × Has (rows_from 0 rs) row × Has row.claims c → Owner rs t b
    go (row, a, h) = in_row row h (at_has (rows_from 0 rs) row a)
