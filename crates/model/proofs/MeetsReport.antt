-- The model meets the rules of a tick's report.
use mathlib.Core.Path.{◌≡◌, refl, ◌∙◌}
use mathlib.Core.List.{List}
use Prim.Native.Nat.{ℕ, zero, suc, ◌%◌, ◌≤◌, ◌<◌}
use native.Mathlib.Omega.{arith}
use native.Mathlib.Decide.{ℕ_discrete}
use lib.ListN.{length, get_or, set, length-set}
use lib.Seq.{get_or-set_same, get_or-set_other}
use borrow.Author.Tests.{eq-eqb, ne_eqb}
use Rattle.base.proofs.Picks.{by_eqb, picks, passes}
use Rattle.model.specs.Plan.{Plan, row_in}
use Rattle.model.specs.State.{State}
use Rattle.model.specs.Tick.{handled, timeout_of, expiry_report, report_of, reported}
use Rattle.model.specs.TickRules.{TimesOut, Reports}
use Rattle.model.proofs.Nodes.{lin_off, by_lin}

module _ (p : Plan) (s : State) (report : List ℕ) where
  reported-length : (n : ℕ) → length (reported p s n report) ≡ length report
  unfolding reported
  reported-length zero = refl
  reported-length (suc n) = length-set (reported p s n report) n _ ∙ reported-length n

  reported_later : (n r : ℕ) → n ≤ r → get_or (reported p s n report) r 0 ≡ get_or report r 0
  unfolding reported
  reported_later zero r l = refl
  reported_later (suc n) r l = get_or-set_other (reported p s n report) n r _ 0 (λ e. omega arith) ∙ reported_later n r (omega arith)

  reported_at : (n r : ℕ) → r < n → n ≤ length report → get_or (reported p s n report) r 0 ≡ report_of p s r
  unfolding reported
  reported_at zero r l m = absurd (omega arith)
  reported_at (suc n) r l m = go (ℕ_discrete r n) (λ k. reported_at n r k (omega arith))
    where
      go : Dec (r ≡ n) → (r < n → get_or (reported p s n report) r 0 ≡ report_of p s r)
          → get_or (set (reported p s n report) n (report_of p s n)) r 0 ≡ report_of p s r
      go (yes e) f = rw e (get_or-set_same (reported p s n report) n _ 0 (omega (arith, reported-length n)))
      go (no e) f = get_or-set_other (reported p s n report) n r _ 0 e ∙ f (omega arith)

  timed_out : (r : ℕ) → TimesOut p s r → report_of p s r ≡ timeout_of s r
  unfolding report_of expiry_report handled
  timed_out r x =
      picks _ _ _ (eq-eqb _ 0 x.expires.handled) ∙ picks _ _ _ (eq-eqb _ 1 x.expires.last) ∙ passes _ _ _ (lin_off p _ x.not_lin)

  pub reports : length p.rows ≤ length report → Reports p s report (reported p s (length p.rows) report)
  unfolding report_of expiry_report timeout_of handled
  reports l =
      record {
        size = reported-length (length p.rows);
        nothing =
            λ r k n.
            reported_at (length p.rows) r k l
            ∙ by_eqb (λ x. x ≡ 0) (s.number % (row_in p r).frame.prescaler) 0 _ _
            (λ e.
            by_eqb (λ x. x ≡ 0) (get_or s.rx_timers r 0) 1 _ _
            (λ f.
            by_lin p (row_in p r).frame.node (λ x. x ≡ 0) _ _ (λ c. refl)
            (λ c. absurd (n (record { expires = record { frame = k; handled = e; last = f }; not_lin = c }))))
            (λ f. refl))
            (λ e. refl);
        short =
            λ r x n.
            reported_at (length p.rows) r x.expires.frame l ∙ timed_out r x ∙ passes _ _ _ (ne_eqb _ 1 n);
        long =
            λ r x e.
            reported_at (length p.rows) r x.expires.frame l ∙ timed_out r x ∙ picks _ _ _ (eq-eqb _ 1 e);
        further = λ r k. reported_later (length p.rows) r k;
      }
