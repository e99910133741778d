-- A row has one claim of its failure where the indicator is enabled, and none where it is not. In a good plan no other claim holds that claim's bit,
-- so the indicator owns it; and a bit that the indicator owns is held by that claim, so there is no second one.
use mathlib.Core.Path.{◌≡◌, refl, sym, ap, subst, ◌∙◌}
use mathlib.Core.List.{List, [], ◌∷◌, ◌++◌}
use mathlib.Core.Option.{none}
use Prim.Native.Nat.{ℕ, ◌-◌, ◌<◌}
use native.Mathlib.Omega.{arith}
use native.Mathlib.Decide.{ℕ_discrete}
use lib.ListN.{length, get_or}
use borrow.Author.Tests.{eq-eqb, ne_eqb}
use Rattle.base.proofs.Apart.{differ}
use Rattle.base.specs.Pick.{pick}
use Rattle.base.proofs.Picks.{picks, cases}
use Rattle.records.specs.declared.record.RxFrame.{RxFrame}
use Rattle.records.specs.declared.record.Record.{Record}
use Rattle.records.specs.declared.record.Record.TheVariants.{Destination}
use Rattle.records.specs.Records.{records}
use Rattle.records.proofs.Variants.{by_row}
use Rattle.plan.specs.Rows.{Source, copy, failure, Claim, with_failure, claims_from, no_row, awaited, row_of, rows_from, rows_of, claims_of}
use Rattle.facts.specs.Good.{Each, Holds, Once, GoodPlan}
use Rattle.facts.proofs.Lists.{each_at}
use Rattle.claims.specs.Claims.{Whole, Indicated, Regular}
use Rattle.claims.specs.Owners.{Has}
use Rattle.claims.specs.Examples.{failed}
use Rattle.claims.proofs.Splits.{behind, Each-append}
use Rattle.claims.proofs.Numbered.{rows_many, get_or-rows_from}
use Rattle.claims.proofs.Rows.{frame_at}
use Rattle.claims.proofs.Lawful.{lawful}
use Rattle.claims.proofs.All.{claim_bits, Has-at, at_has, all_claims_hold}
use Rattle.tables.specs.Reads.{row_at}
use Rattle.model.proofs.Meets.{good_plan}
use Rattle.history.specs.Fresh.{Owner, indicator, holds, owner_from, owner_in, owner}
use Rattle.history.proofs.Bits.{Holds-is, is_holds}
use Rattle.age.specs.FailureBits.{FailureBits}

-- ---- the claims of a row

-- what holds of a claim if it is of a failure
abbrev IfFailure : (Claim → Type 0) → Claim → Type 0
IfFailure P c = c.from ≡ failure → P c

-- where no failure is awaited, no claim is of one
none_fails : (P : Claim → Type 0) (n p s : ℕ) (rs : List Record) → Each (IfFailure P) (claims_from n none p s rs)
unfolding claims_from with_failure Each
none_fails P n p s [] = tt
none_fails P n p s (r ∷ rs) =
    by_row (λ r. Each (IfFailure P) (claims_from n none p s (r ∷ rs))) (λ x. tt) (λ g. none_fails P n g.position g.size rs)
    (λ t. ((λ e. absurd (differ cc)), none_fails P n p s rs))
    (λ r no. subst (Each (IfFailure P)) (sym (no.by _ _ _ _)) tt) r

-- the Tx frame of the first claim
abbrev first_tx : List Claim → ℕ
first_tx cs = (get_or cs 0 (failed 0 0 0)).tx

-- among the claims of row r, which is Rx frame x's, that of its failure stands where the indicator is enabled, and there is no other
record Failing (r : ℕ) (x : RxFrame) (cs : List Claim) : Type 0 where
  there : x.enable ≡ 1 → Has cs (failed r (first_tx cs) x.position)
  only : Each (IfFailure (λ c. (x.enable ≡ 1) × (c ≡ failed r (first_tx cs) x.position))) cs

row_failing : (r : ℕ) (x : RxFrame) (since : List Record) → Regular x since → Failing r x (row_of r x since).claims
unfolding row_of awaited pick claims_from with_failure Each
row_failing r x since h = go (ℕ_discrete x.enable 1)
  where
    enabled : x.enable ≡ 1 → Indicated since → Failing r x (row_of r x since).claims
    enabled on (g, t, rest, e) =
        rw (e, eq-eqb x.enable 1 on)
        (record {
          there = λ on. ([], _, refl);
          only = ((λ e. (on, refl)), none_fails _ r g.position g.size (Destination t ∷ rest));
        })

    go : Dec (x.enable ≡ 1) → Failing r x (row_of r x since).claims
    go (yes on) = enabled on (h.indicated on)
    go (no off) = rw (ne_eqb x.enable 1 off) (record { there = λ on. absurd (off on); only = none_fails _ r 0 0 since })

-- ---- who owns a bit, by the claims

each_has : {A : Type 0} (P : A → Type 0) (xs : List A) (x : A) → Each P xs → Has xs x → P x
each_has P xs x all h = let (k, l, e) = at_has xs x h in rw (e x) at (each_at P xs x k l all)

-- the claim that holds a bit says its owner
owner_at :
    (front rest : List Claim) (c : Claim) (t b : ℕ) → Once (front ++ c ∷ rest) → Holds c t b
    → owner_in (front ++ c ∷ rest) t b ≡ owner_from c.from c.rx (b - c.at)
unfolding owner_in Once
owner_at [] rest c t b once h = picks _ _ _ (is_holds c t b h)
owner_at (x ∷ front) rest c t b once h =
    cases (λ (w : Owner). w ≡ owner_from c.from c.rx (b - c.at)) (holds x t b) _ _
    (λ e. absurd (each_has _ _ c (once.0 t b (Holds-is x t b e)) (front, rest, refl) h)) (λ e. owner_at front rest c t b once.1 h)

-- an owner has the bit by a claim that holds it
abbrev Claimed : List Claim → ℕ → ℕ → Owner → Type 0
Claimed cs t b w = (c : Claim) × Has cs c × Holds c t b × (owner_from c.from c.rx (b - c.at) ≡ w)

claimed : (cs : List Claim) (t b r : ℕ) → owner_in cs t b ≡ indicator r → Claimed cs t b (indicator r)
unfolding owner_in
claimed [] t b r = λ e. absurd (differ cc)
claimed (c ∷ cs) t b r =
    cases (λ (w : Owner). w ≡ indicator r → Claimed (c ∷ cs) t b (indicator r)) (holds c t b) _ _
    (λ h e. (c, ([], cs, refl), Holds-is c t b h, e))
    (λ h e. let (d, (front, rest, split), held, is) = claimed cs t b r e in (d, (c ∷ front, rest, behind c split), held, is))

-- and that of an indicator is of its failure
of_failure : (s : Source) (r j n : ℕ) → owner_from s r j ≡ indicator n → (s ≡ failure) × (r ≡ n)
unfolding owner_from
of_failure (copy p s) r j n e = absurd (differ cc)
of_failure failure r j n e = (refl, cc)

-- ---- the bits of a good plan

module _ (plan : List ℕ) (good : GoodPlan plan) where
  failing : (r : ℕ) → r < length (rows_of plan) → Failing r (row_at plan r).frame (row_at plan r).claims
  unfolding rows_of row_of
  failing r l =
      let law = lawful (records plan) good.place good.followed in
      let f = frame_at (records plan) law.whole r (omega (arith, rows_many (records plan) law.whole)) in
      let whole = (Each-append Whole f.front _ (rw f.split at law.whole)).0 in
      let row : row_at plan r ≡ row_of r f.x f.since =
      ap (λ rs. get_or (rows_from 0 rs) r no_row) f.split ∙ rw f.many at (get_or-rows_from f.front f.since f.x no_row whole) in
      rw row (row_failing r f.x f.since (law.regular f.front f.since f.x f.split))

  -- whatever bit the indicator owns
  its :
      (r t b : ℕ) → owner plan t b ≡ indicator r
      → ((row_at plan r).frame.enable ≡ 1) × (t ≡ first_tx (row_at plan r).claims) × (b ≡ (row_at plan r).frame.position)
  unfolding owner claims_of
  its r t b e =
      let (c, among, held, is) = claimed (claims_of plan) t b r e in
      let (from, rx) = of_failure c.from c.rx (b - c.at) r is in
      let (row, there, has) = (all_claims_hold.exactly (rows_of plan) c).0 among in
      let (k, l, at) = at_has (rows_of plan) row there in
      let (on, same) = each_has _ _ c (failing k l).only (rw (at no_row) has) from in
      let (frame, bit) = ((claim_bits c t b).failed from).0 held in
      let own : r ≡ k = cc in
      rw own (on, cc, cc)

  -- and one that it does
  stands : (r : ℕ) → r < length (rows_of plan) → (row_at plan r).frame.enable ≡ 1
      → owner plan (first_tx (row_at plan r).claims) (row_at plan r).frame.position ≡ indicator r
  unfolding owner claims_of owner_from
  stands r l on =
      let c = failed r (first_tx (row_at plan r).claims) (row_at plan r).frame.position in
      let (front, rest, e) = (all_claims_hold.exactly (rows_of plan) c).1 (row_at plan r, Has-at (rows_of plan) r no_row l, (failing r l).there on) in
      rw e (owner_at front rest c _ _ (rw e at good.once) (((claim_bits c _ _).failed refl).1 (refl, refl)))

pub failure_bits : FailureBits
failure_bits plan u r l =
    let good = good_plan plan u in
    record {
      stands = λ on. (_, stands plan good r l on);
      enabled = λ t b e. let (on, frame, bit) = its plan good r t b e in (on, bit);
      one = λ t v b c e f. (its plan good r t b e).1 ∙ sym (its plan good r v c f).1;
    }
