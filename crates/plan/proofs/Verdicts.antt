-- Two answers of the check that are one have one count of each kind, or one reason and one record.
use mathlib.Core.Path.{◌≡◌, ap}
use Prim.Native.Nat.{ℕ}
use Rattle.std.specs.Prelude.{Result, Ok, Err}
use Rattle.plan.specs.declared.verdict.Reason.{Reason}
use Rattle.plan.specs.declared.verdict.Reason.TheVariants.{Short}
use Rattle.plan.specs.declared.verdict.BadRecord.{BadRecord}
use Rattle.plan.specs.declared.verdict.PlanCounts.{PlanCounts}
use Rattle.plan.specs.Check.{good_with, refused_at}

abbrev counts_of : Result PlanCounts BadRecord → PlanCounts
counts_of (Ok counts) = counts
counts_of (Err bad) = record { nodes = 0; tx = 0; rx = 0 }

abbrev bad_of : Result PlanCounts BadRecord → BadRecord
bad_of (Ok counts) = record { reason = Short; record_number = 0 }
bad_of (Err bad) = bad

pub same_counts : {n t r m u s : ℕ} → good_with n t r ≡ good_with m u s → (n ≡ m) × (t ≡ u) × (r ≡ s)
same_counts e = (ap (λ v. (counts_of v).nodes) e, ap (λ v. (counts_of v).tx) e, ap (λ v. (counts_of v).rx) e)

pub same_refusal : {a b : Reason} {n m : ℕ} → refused_at {A = PlanCounts} a n ≡ refused_at b m → (a ≡ b) × (n ≡ m)
same_refusal e = (ap (λ v. (bad_of v).reason) e, ap (λ v. (bad_of v).record_number) e)
