-- A reception and a response alter only bits that their frame owns, "no response" only its failure bit, a tick only failure bits, a take and a fullness
-- none.
use mathlib.Core.Path.{◌≡◌, refl, sym, subst, ap, ◌∙◌}
use mathlib.Core.Logic.{◌≢◌}
use mathlib.Core.List.{List}
use Prim.Native.Nat.{ℕ, ◌<◌}
use native.Mathlib.Omega.{arith}
use lib.ListN.{length, take}
use borrow.Author.Tests.{ne_eqb}
use Rattle.std.specs.Prelude.{Result, Ok, Err}
use Rattle.base.specs.Pick.{pick}
use Rattle.plan.specs.Rows.{tx_of}
use Rattle.facts.specs.Good.{GoodPlan}
use Rattle.area.specs.Claims.{accepted, expired}
use Rattle.tables.specs.Reads.{Reads}
use Rattle.history.specs.Calls.{area_after, stepped}
use Rattle.history.specs.Past.{told_tick}
use Rattle.history.specs.Fresh.{Owner, nobody, signal, indicator, owner}
use Rattle.history.specs.Statements.{kept_bit, IsIndicator, OnlyTheirs}
use Rattle.history.proofs.Aside.{aside_taken}
use Rattle.history.proofs.Named.{reception_cases, response_cases, by_silence}
use Rattle.history.proofs.Replay.{turned, turned_other, replay}
use Rattle.history.proofs.Owned.{bit_turns}
use Rattle.history.proofs.Ticks.{report_leaves, tick_turns}
use Rattle.history.proofs.Receptions.{accepted_turns, responded_turns}
use Rattle.answers.specs.declared.Refusal.{Refusal}

-- an expiry, where its frame's indicator does not own it
turned-expired : (o : ℕ) (w : Owner) (v r : ℕ) → w ≢ indicator r → turned o w v (expired r) ≡ v
unfolding turned pick
turned-expired o nobody v r d = refl
turned-expired o (signal q k) v r d = refl
turned-expired o (indicator q) v r d = rw (ne_eqb q r (λ e. d (ap indicator e)))

module _ (o : ℕ) (w : Owner) (d : IsIndicator w → ⊥) where
  no_indicator : (r : ℕ) → w ≢ indicator r
  unfolding IsIndicator
  no_indicator r e = d (subst IsIndicator (sym e) tt)

  tick_leaves : (x : Result (Unit {0}) Refusal) (n : ℕ) (report : List ℕ) (v : ℕ) → replay (turned o w) (told_tick x n report) v ≡ v
  unfolding told_tick replay
  tick_leaves (Ok done) n report v = report_leaves (turned o w) 0 (take n report) (λ q u l m. turned-expired o w u q (no_indicator q)) v
  tick_leaves (Err why) n report v = refl

pub only_theirs :
    (plan : List ℕ) → GoodPlan plan → (a : List ℕ) → Reads plan a → (t b : ℕ) → t < length (tx_of plan) → b < 64 → OnlyTheirs plan a t b
unfolding area_after stepped
only_theirs plan good a reads t b h small =
    let u = bit_turns plan good t b (omega (arith, good.counts.tx)) small in
    record {
      reception = λ n id payload d.
          reception_cases plan good a reads n id payload (λ x c. kept_bit plan c t b ≡ kept_bit plan a t b) (λ x e. refl)
          (λ r x. accepted_turns good u a reads r payload x.exists ∙ turned_other _ (owner plan t b) _ (accepted r payload) (d r x));
      response = λ n id payload sum d.
          response_cases plan good a reads n id payload sum (λ x c. kept_bit plan c t b ≡ kept_bit plan a t b) (λ x e. refl)
          (λ r x. responded_turns good u a reads r payload x.exists ∙ turned_other _ (owner plan t b) _ (accepted r payload) (d r x));
      no_response = λ n id d.
          by_silence plan good a reads n id (λ x c. kept_bit plan c t b ≡ kept_bit plan a t b) (λ why. refl)
          (λ r x. u.expires a reads r x.exists ∙ turned-expired _ (owner plan t b) _ r (d r x));
      tick = λ report d. tick_turns good u a report reads ∙ tick_leaves _ (owner plan t b) d _ _ _ _;
      take = λ n. u.same _ _ (aside_taken u.aside a n);
      fullness = λ x. refl;
    }
