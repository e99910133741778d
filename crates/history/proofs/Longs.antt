-- A long counter goes by what happens to its Rx frame: an acceptance starts it again, an expiry lowers it.
use mathlib.Core.Path.{◌≡◌, refl, ap, ◌∙◌}
use mathlib.Core.List.{List}
use Prim.Native.Nat.{ℕ, ◌<◌}
use native.Mathlib.Omega.{arith}
use lib.Dec.{eqb}
use lib.ListN.{length}
use lib.Seq.{get_or-set_same}
use Rattle.base.specs.Pick.{pick}
use Rattle.base.specs.Numbers.{byte_at}
use Rattle.base.proofs.Picks.{by_eqb}
use Rattle.clock.specs.Timer.{lowered}
use Rattle.plan.specs.Rows.{rows_of}
use Rattle.facts.specs.Good.{GoodPlan}
use Rattle.area.specs.Layout.{long, order, claims}
use Rattle.area.specs.Claims.{RxEvent, accepted, expired, all_done}
use Rattle.area.proofs.Frame.{Same}
use Rattle.ticking.specs.Tick.{long_lowered, expired_area}
use Rattle.tables.specs.Reads.{row_at, Reads}
use Rattle.history.proofs.Aside.{Aside, aside_long}
use Rattle.history.proofs.Steady.{Reads-steady}
use Rattle.history.proofs.Again.{Again, aside_again}
use Rattle.history.proofs.Later.{aside_claims, steady_claims}
use Rattle.history.proofs.Turns.{Turns}

-- a long counter that holds v, of Rx frame r with long count n, after an event
unfoldable pub turned_long : ℕ → ℕ → ℕ → RxEvent → ℕ
turned_long r n v (accepted q payload) = pick (eqb q r) n v
turned_long r n v (expired q) = pick (eqb q r) (lowered n v) v

module _ (plan : List ℕ) (good : GoodPlan plan) (r : ℕ) (l : r < length (rows_of plan)) where
  few : (q : ℕ) → q < length (rows_of plan) → q < 256
  few q h = omega (arith, good.counts.rx)

  -- its one place
  abbrev Here : ℕ → Type 0
  Here j = j ≡ long r

  here_aside : Aside Here
  here_aside =
      record {
        ends = λ n h j i m p. omega arith;
        ring = λ j i m p. omega (arith, few r l);
        timers = λ j i m p. omega arith;
        waits = λ j i m p. omega (arith, few r l);
      }

  -- an event's claims leave it
  unclaimed : (a b : List ℕ) → Reads plan a → (e : RxEvent) (q : ℕ) → q < length (rows_of plan) → Same Here b (all_done (order a) e (claims a q) b)
  unclaimed = aside_claims plan good here_aside (λ j i m p. omega (arith, few r l))

  restarts : (a b : List ℕ) → Reads plan a → Again a r b → byte_at b (long r) ≡ (row_at plan r).frame.long
  restarts a b reads x = x.long (omega (arith, few r l, reads.header.size)) ∙ ap (λ y. y.long) (reads.rx r l).frame

  accepts : (a b : List ℕ) → Reads plan a → (q : ℕ) (payload : List ℕ) → q < length (rows_of plan) → Again a q b
      → byte_at (all_done (order a) (accepted q payload) (claims a q) b) (long r)
      ≡ turned_long r (row_at plan r).frame.long (byte_at a (long r)) (accepted q payload)
  unfolding turned_long
  accepts a b reads q payload h x =
      (unclaimed a b reads (accepted q payload) q h).at (long r) refl
      ∙ by_eqb (λ (v : ℕ). byte_at b (long r) ≡ v) q r _ _ (λ e. restarts a b reads (rw e at x))
      (λ d. (aside_again here_aside (few q h) (λ p. d (omega arith)) x).at (long r) refl)

  lowers : (a : List ℕ) → Reads plan a → byte_at (expired_area a r) (long r) ≡ lowered (row_at plan r).frame.long (byte_at a (long r))
  unfolding expired_area long_lowered
  lowers a reads =
      let same = unclaimed a a reads (expired r) r l in
      let frame = ((Reads-steady (steady_claims plan good a a reads (expired r) r l) reads).rx r l).frame in
      let done = all_done (order a) (expired r) (claims a r) a in
      let room : long r < length done = omega (arith, same.len, few r l, reads.header.size) in
      get_or-set_same done (long r) _ 0 room ∙ rw (frame, same.at (long r) refl)

  expires : (a : List ℕ) → Reads plan a → (q : ℕ) → q < length (rows_of plan)
      → byte_at (expired_area a q) (long r) ≡ turned_long r (row_at plan r).frame.long (byte_at a (long r)) (expired q)
  unfolding turned_long
  expires a reads q h =
      by_eqb (λ (v : ℕ). byte_at (expired_area a q) (long r) ≡ v) q r _ _ (λ e. rw e (lowers a reads))
      (λ d. unfold expired_area in
      (aside_long here_aside _ q (λ p. d (omega arith))).at (long r) refl ∙ (unclaimed a a reads (expired q) q h).at (long r) refl)

  pub long_turns : Turns plan (λ j. j ≡ long r) (λ a. byte_at a (long r)) (turned_long r (row_at plan r).frame.long)
  long_turns =
      record { aside = here_aside; uncounted = λ p. omega arith; same = λ a b s. s.at (long r) refl; accepts = accepts; expires = expires }
