-- The place of a stranger by the numbers of the IDs: what comes before an ID of a format is what the statement counts.
use mathlib.Core.Path.{◌≡◌, refl, sym, subst}
use mathlib.Core.Logic.{◌⊎◌, inl, inr, ⊎_elim, ◌↔◌}
use mathlib.Core.List.{List}
use Prim.Native.Nat.{ℕ, ◌<◌}
use Rattle.records.specs.declared.record.Id.{Id}
use Rattle.records.specs.declared.record.Id.TheVariants.{Standard, Extended}
use Rattle.records.specs.Ids.{Before}
use Rattle.model.specs.Plan.{said}
use Rattle.model.specs.Words.{Those, Smaller}
use Rattle.history.specs.Formats.{BeforeStandard, BeforeExtended, PlacesByFormat}
use Rattle.history.proofs.Strangers.{strangers_belong}

-- ---- what comes before an ID

standard_before : (x : Id) (i : ℕ) → Before x (Standard i) → (m : ℕ) × (x ≡ Standard m) × (m < i)
unfolding Before
standard_before (Standard m) i b = (m, refl, b)
standard_before (Extended m) i b = absurd b

extended_before : (x : Id) (i : ℕ) → Before x (Extended i) → ((m : ℕ) × (x ≡ Standard m)) ⊎ ((m : ℕ) × (x ≡ Extended m) × (m < i))
unfolding Before
extended_before (Standard m) i b = inl (m, refl)
extended_before (Extended m) i b = inr (m, refl, b)

Before-standard : (m i : ℕ) → m < i → Before (Standard m) (Standard i)
unfolding Before
Before-standard m i l = l

Before-any : (m i : ℕ) → Before (Standard m) (Extended i)
unfolding Before
Before-any m i = tt

Before-extended : (m i : ℕ) → m < i → Before (Extended m) (Extended i)
unfolding Before
Before-extended m i l = l

-- ---- the rows

module _ (plan : List ℕ) (n i r : ℕ) where
  standard_rows : Smaller (said plan) n (Standard i) r ↔ BeforeStandard plan n i r
  standard_rows = (
    (λ x. let (m, e, l) = standard_before _ i x.id in (m, record { exists = x.exists; node = x.node; id = e }, l)),
    (λ (m, x, l). record { exists = x.exists; node = x.node; id = subst (λ y. Before y (Standard i)) (sym x.id) (Before-standard m i l) }),
  )

  extended_rows : Smaller (said plan) n (Extended i) r ↔ BeforeExtended plan n i r
  extended_rows = (
    (λ x.
        ⊎_elim (λ (m, e). inl (m, record { exists = x.exists; node = x.node; id = e }))
        (λ (m, e, l). inr (m, record { exists = x.exists; node = x.node; id = e }, l)) (extended_before _ i x.id)),
    ⊎_elim
        (λ (m, x). record { exists = x.exists; node = x.node; id = subst (λ y. Before y (Extended i)) (sym x.id) (Before-any m i) })
        (λ (m, x, l). record { exists = x.exists; node = x.node; id = subst (λ y. Before y (Extended i)) (sym x.id) (Before-extended m i l) }),
  )

-- exactly the same numbers have one property as the other
Those-like : {P Q : ℕ → Type 0} {xs : List ℕ} → ((r : ℕ) → P r ↔ Q r) → Those P xs → Those Q xs
Those-like f t = record { order = t.order; exactly = λ r. (λ i. (f r).0 ((t.exactly r).0 i), λ q. (t.exactly r).1 ((f r).1 q)) }

pub places_by_format : PlacesByFormat
places_by_format =
    record {
      standard = λ a calls plan is n number place payload answered.
          let b = strangers_belong a calls plan is n (Standard number) place payload answered in
          record { numbers = b.rows; those = Those-like (standard_rows plan n number) b.those; many = b.many };
      extended = λ a calls plan is n number place payload answered.
          let b = strangers_belong a calls plan is n (Extended number) place payload answered in
          record { numbers = b.rows; those = Those-like (extended_rows plan n number) b.those; many = b.many };
    }
