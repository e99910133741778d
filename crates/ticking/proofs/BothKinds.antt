-- The timers of a kind: what is known of Tx timers and of Rx timers, said of both.
use mathlib.Core.Path.{◌≡◌, refl}
use mathlib.Core.Bool.{Bool, true, false}
use mathlib.Core.List.{List}
use Prim.Native.Nat.{ℕ, ◌+◌, ◌<◌, ◌≤◌}
use native.Mathlib.Numerals.{add-one}
use Rattle.base.specs.Numbers.{byte_at}
use Rattle.base.specs.Pick.{pick}
use Rattle.base.proofs.Picks.{both}
use lib.Dec.{eqb}
use Rattle.ticking.specs.Tick.{tx_ticks, rx_ticks, reported}
use Rattle.ticking.specs.Sixteen.{each, each_marked, fell, marks_of, marked_report, table_of, tick_of, ticks_of, step_of, tick_told, step_told, reported_by, told_from, told_marked, cleared_by}
use Rattle.ticking.proofs.Positions.{Positions}
use Rattle.ticking.proofs.Turns.{tx_ticks-each, rx_ticks-each, reported_each, tx_sixteen, rx_sixteen, sixteen_reported, none_reported}

-- ---- one timer more, and sixteen

pub ticks_one : (rx : Bool) (k i : ℕ) (a : List ℕ) → ticks_of rx k (i + 1) a ≡ tick_of rx k (ticks_of rx k i a) i
unfolding ticks_of tick_of tx_ticks rx_ticks
ticks_one true k i a = rw add-one
ticks_one false k i a = rw add-one

pub reported_one : (rx : Bool) (k i : ℕ) (a report : List ℕ) → reported_by rx k (i + 1) a report ≡ tick_told rx k (ticks_of rx k i a) i (reported_by rx k i a report)
unfolding reported_by ticks_of tick_told reported
reported_one true k i a report = rw add-one
reported_one false k i a report = refl

pub ticks_sixteen : (rx : Bool) (k j n : ℕ) (a : List ℕ) → ticks_of rx k (j + n) a ≡ each (tick_of rx k) j n (ticks_of rx k j a)
unfolding ticks_of tick_of
ticks_sixteen true k j n a = rx_ticks-each k j n a
ticks_sixteen false k j n a = tx_ticks-each k j n a

pub reported_sixteen :
    (rx : Bool) (k j n : ℕ) (a report : List ℕ) → reported_by rx k (j + n) a report ≡ told_from rx k j n (ticks_of rx k j a) (reported_by rx k j a report)
unfolding reported_by told_from ticks_of
reported_sixteen true k j n a report = reported_each k j n a report
reported_sixteen false k j n a report = refl

pub ticks_none : (rx : Bool) (k : ℕ) (a : List ℕ) → a ≡ ticks_of rx k 0 a
unfolding ticks_of tx_ticks rx_ticks
ticks_none true k a = refl
ticks_none false k a = refl

pub reported_none : (rx : Bool) (k : ℕ) (a report : List ℕ) → report ≡ reported_by rx k 0 a report
unfolding reported_by reported
reported_none true k a report = refl
reported_none false k a report = refl

pub told_one :
    (rx : Bool) (m : List ℕ) (j i : ℕ) (a report : List ℕ)
    → told_marked rx m j (i + 1) a report
    ≡ pick (eqb (byte_at m i) 1) (step_told rx (each_marked (step_of rx) m j i a) (j + i) (told_marked rx m j i a report)) (told_marked rx m j i a report)
unfolding told_marked step_told step_of marked_report
told_one true m j i a report = rw add-one
told_one false m j i a report = both (λ x. report ≡ x) (eqb (byte_at m i) 1) report report refl refl

pub told_none : (rx : Bool) (m : List ℕ) (j : ℕ) (a report : List ℕ) → report ≡ told_marked rx m j 0 a report
unfolding told_marked marked_report
told_none true m j a report = refl
told_none false m j a report = refl

-- ---- lowering first and expiring after

module _ (k j : ℕ) (a b m : List ℕ) (n : ℕ) (e : n ≡ 16) (h : j + 16 ≤ 256) (p : Positions a) where
  pub sixteen : (rx : Bool) → m ≡ marks_of k (table_of rx j) n a → b ≡ each (fell k) (table_of rx j) n a
      → each_marked (step_of rx) m j 16 b ≡ each (tick_of rx k) j 16 a
  unfolding table_of step_of tick_of
  sixteen true x y = rx_sixteen k j a b m n e h p x y
  sixteen false x y = tx_sixteen k j a b m n e h x y

  pub sixteen_told : (rx : Bool) → m ≡ marks_of k (table_of rx j) n a → b ≡ each (fell k) (table_of rx j) n a
      → (report : List ℕ) → told_marked rx m j 16 b (cleared_by rx j report) ≡ told_from rx k j 16 a report
  unfolding table_of told_marked cleared_by told_from
  sixteen_told true x y report = sixteen_reported k j a b m n e h p x y report
  sixteen_told false x y report = refl

pub none_told :
    (rx : Bool) (m : List ℕ) (j n : ℕ) (a report : List ℕ) → ((i : ℕ) → i < n → byte_at m i ≡ 0) → told_marked rx m j n a report ≡ report
unfolding told_marked
none_told true m j n a report none = none_reported m j n a report none
none_told false m j n a report none = refl
