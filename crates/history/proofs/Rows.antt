-- A plan's rows: the claims of each are among the plan's and have its number, and a node and an ID name one of them, which a lookup finds.
use mathlib.Core.Path.{◌≡◌, refl, sym, ap, subst, ◌∙◌}
use mathlib.Core.List.{List, [], ◌∷◌}
use mathlib.Core.Option.{Option, none, some}
use Prim.Native.Nat.{ℕ, zero, suc, ◌<◌}
use native.Mathlib.Omega.{arith}
use lib.ListN.{length, get_or}
use borrow.Author.Tests.{eq-eqb}
use Rattle.base.specs.Pick.{pick}
use Rattle.base.specs.Numbers.{byte_at}
use Rattle.base.proofs.Picks.{cases, by_eqb}
use Rattle.base.proofs.Ranges.{at_most-le}
use Rattle.records.specs.declared.record.Id.{Id}
use Rattle.records.specs.Ids.{same_id, key_of}
use Rattle.records.proofs.IdLaws.{same_is, same_itself}
use Rattle.records.specs.declared.record.RxNumber.{RxNumber}
use Rattle.records.specs.declared.record.Record.{Record}
use Rattle.records.specs.Records.{records}
use Rattle.records.proofs.Variants.{by_rx, by_row}
use Rattle.plan.specs.Progress.{row_key}
use Rattle.plan.specs.Rows.{Claim, Row, with_failure, claims_from, awaited, row_of, rows_from, rows_of, no_row}
use Rattle.facts.specs.Good.{Each, Rising, GoodPlan}
use Rattle.facts.proofs.Lists.{each_at}
use Rattle.facts.proofs.FactsGood.{facts_good}
use Rattle.area.specs.Layout.{node_count_byte, node_count}
use Rattle.reception.specs.declared.lookup.Found.TheVariants.{At}
use Rattle.reception.specs.Lookup.{looked_up}
use Rattle.tables.specs.Reads.{Reads}
use Rattle.tables.specs.Statements.{Names}
use Rattle.tables.proofs.Lookup.{lookup_finds}
use Rattle.history.specs.Past.{number_for}

-- ---- numbers

abbrev pub Of : ℕ → Claim → Type 0
Of n c = c.rx ≡ n

of_failure : (n : ℕ) (w : Option ℕ) (t : ℕ) (cs : List Claim) → Each (Of n) cs → Each (Of n) (with_failure n w t cs)
unfolding with_failure Each
of_failure n none t cs h = h
of_failure n (some q) t cs h = (refl, h)

of_claims : (n : ℕ) (w : Option ℕ) (p s : ℕ) (rs : List Record) → Each (Of n) (claims_from n w p s rs)
unfolding claims_from Each
of_claims n w p s [] = tt
of_claims n w p s (r ∷ rs) =
    by_row (λ r. Each (Of n) (claims_from n w p s (r ∷ rs))) (λ x. tt) (λ body. of_claims n w body.position body.size rs)
    (λ body. of_failure n w body.tx.0 _ (refl, of_claims n none p s rs)) (λ r no. subst (Each (Of n)) (sym (no.by _ _ _ _)) tt) r

-- the claims of the rows, which are numbered from n on
unfoldable pub Numbered : ℕ → List Row → Type 0
Numbered n [] = Unit {0}
Numbered n (r ∷ rs) = Each (Of n) r.claims × Numbered (suc n) rs

Numbered-from : (n : ℕ) (rs : List Record) → Numbered n (rows_from n rs)
unfolding rows_from row_of Numbered
Numbered-from n [] = tt
Numbered-from n (r ∷ rs) =
    by_rx (λ r. Numbered n (rows_from n (r ∷ rs))) (λ x. (of_claims n (awaited x) 0 0 rs, Numbered-from (suc n) rs))
    (λ r no. subst (Numbered n) (sym (no.by _ _)) (Numbered-from n rs)) r

pub rows_numbered : (plan : List ℕ) → Numbered 0 (rows_of plan)
unfolding rows_of
rows_numbered plan = Numbered-from 0 (records plan)

-- ---- the row of a node and an ID: the keys rise, so that no row before it has them

first_named :
    (n : ℕ) (id : Id) (rs : List Row) → Rising rs → (d : Row) (r : ℕ) → r < length rs → (get_or rs r d).frame.node ≡ n → (get_or rs r d).frame.id ≡ id
    → number_for n id rs ≡ r
unfolding number_for Rising row_key pick
first_named n id [] h d r l e i = absurd (omega arith)
first_named n id (x ∷ rs) h d zero l e i = rw (eq-eqb _ _ e, i, same_itself id)
first_named n id (x ∷ rs) h d (suc r) l e i =
    let later : suc (number_for n id rs) ≡ suc r = ap suc (first_named n id rs h.1 d r (omega arith) e i) in
    let above = each_at (λ s. row_key x.frame < row_key s.frame) rs d r (omega arith) h.0 in
    by_eqb (λ (m : ℕ). m ≡ suc r) x.frame.node n _ _
    (λ u. cases (λ (m : ℕ). m ≡ suc r) (same_id x.frame.id id) _ _
    (λ v. let same : key_of x.frame.id ≡ key_of (get_or rs r d).frame.id = ap key_of (same_is _ _ v ∙ sym i) in absurd (omega arith)) (λ v. later))
    (λ u. later)

pub number_named : (plan : List ℕ) → GoodPlan plan → (n : ℕ) (id : Id) (r : ℕ) → Names plan n id r → number_for n id (rows_of plan) ≡ r
number_named plan good n id r h = first_named n id (rows_of plan) good.rising no_row r h.exists h.node h.id

pub row_named :
    (plan : List ℕ) → GoodPlan plan → (a : List ℕ) → Reads plan a → (n : ℕ) (id : Id) → n < node_count a → (r : RxNumber) → looked_up a n id ≡ At r
    → Names plan n id r.0
row_named plan good a reads n id known r e =
    (lookup_finds plan a _ _ _ (facts_good plan good) reads n id (omega (arith, known, at_most-le 16 (byte_at a node_count_byte)))).found r e
