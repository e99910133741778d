-- The claims of a row are those that its own records say, by the places of its destinations.
use mathlib.Core.Path.{◌≡◌, refl, ap}
use mathlib.Core.List.{List, [], ◌∷◌, ◌++◌}
use mathlib.Core.Option.{Option, none, some}
use Prim.Native.Nat.{ℕ, suc, ◌+◌, ◌<◌}
use native.Mathlib.Omega.{arith}
use lib.ListN.{length, get_or}
use borrow.Author.Tests.{eq-eqb, ne_eqb}
use Rattle.base.specs.Pick.{pick}
use Rattle.records.specs.declared.record.SignalBody.{SignalBody}
use Rattle.records.specs.declared.record.DestinationBody.{DestinationBody}
use Rattle.records.specs.declared.record.RxFrame.{RxFrame}
use Rattle.records.specs.declared.record.Record.{Record}
use Rattle.records.specs.declared.record.Record.TheVariants.{Signal, Destination}
use Rattle.records.specs.Kinds.{stage_of}
use Rattle.plan.specs.Rows.{failure, Claim, with_failure, claims_from, awaited, row_of}
use Rattle.facts.specs.Good.{Each, count_of}
use Rattle.claims.specs.Claims.{Whole, Own, Beyond, Copies, ClaimsOf}
use Rattle.claims.specs.Statements.{ClaimsBySplits}
use Rattle.claims.proofs.OfKind.{by_own}
use Rattle.claims.proofs.Splits.{Each-append}
use Rattle.claims.proofs.Numbered.{rows_many, get_or-rows_from}
use Rattle.claims.proofs.Copies.{claims_own, Copies-none}

-- ---- an indicator: the failure bit first, where there is a destination

indicator_first :
    (n f : ℕ) (own : List Record) → Each Own own → (p s : ℕ) → 0 < count_of 6 own
    → (c : Claim) × (claims_from n (some f) p s own ≡ c ∷ claims_from n none p s own)
unfolding claims_from with_failure count_of stage_of pick
indicator_first n f =
    by_own (λ own. (p s : ℕ) → 0 < count_of 6 own → (c : Claim) × (claims_from n (some f) p s own ≡ c ∷ claims_from n none p s own))
    (λ p s l. absurd (omega arith))
    (λ g rs h p s l. h g.position g.size (omega arith))
    (λ t rs h p s l. (record { rx = n; tx = t.tx.0; at = f; from = failure }, refl))

indicator_at :
    (n f : ℕ) (g : SignalBody) (t : DestinationBody) (after : List Record) (d : Claim)
    → get_or (claims_from n (some f) 0 0 (Signal g ∷ Destination t ∷ after)) 0 d ≡ record { rx = n; tx = t.tx.0; at = f; from = failure }
unfolding claims_from with_failure
indicator_at n f g t after d = refl

no_destination : (n : ℕ) (own : List Record) → Each Own own → (w : Option ℕ) (p s : ℕ) → count_of 6 own ≡ 0 → claims_from n w p s own ≡ []
unfolding claims_from count_of stage_of pick
no_destination n =
    by_own (λ own. (w : Option ℕ) (p s : ℕ) → count_of 6 own ≡ 0 → claims_from n w p s own ≡ [])
    (λ w p s e. refl)
    (λ g rs h w p s e. h w g.position g.size (omega arith))
    (λ t rs h w p s e. absurd (omega arith))

-- one claim more in front
Copies-suc : (n : ℕ) (own : List Record) (c : Claim) (cs : List Claim) → Copies 0 n own cs → Copies 1 n own (c ∷ cs)
Copies-suc n own c cs h =
    record {
      many = omega (arith, h.many);
      each = λ before upto dests after g t e f a d.
          let k : 1 + count_of 6 before ≡ suc (0 + count_of 6 before) = omega arith in
          rw k (h.each before upto dests after g t e f a d);
    }

ClaimsOf-row_of : (n : ℕ) (x : RxFrame) (own rest : List Record) → Each Own own → Beyond rest → ClaimsOf n x own (row_of n x (own ++ rest)).claims
unfolding row_of awaited pick
ClaimsOf-row_of n x own rest o b =
    rw (claims_own n rest b own o (awaited x) 0 0)
    (record {
      disabled = λ e. rw (ne_eqb x.enable 1 e) (Copies-none n own o);
      enabled = λ e l.
          let c = indicator_first n x.position own o 0 0 l in
          rw (eq-eqb x.enable 1 e, c.1) (Copies-suc n own c.0 _ (Copies-none n own o));
      failing = λ e g t after f d. rw (eq-eqb x.enable 1 e, f) (indicator_at n x.position g t after d);
      nothing = λ e. ap length (no_destination n own o (awaited x) 0 0 e);
    })

-- ---- all rows

pub claims_by_splits : ClaimsBySplits
unfolding row_of
claims_by_splits rs w =
    record {
      many = rows_many rs w;
      each = λ front since x e d.
          rw (e, get_or-rows_from front since x d (Each-append Whole front _ (rw e at w)).0)
          (record { number = refl; frame = refl; claims = λ own rest f o b. rw f (ClaimsOf-row_of (count_of 4 front) x own rest o b) });
    }
