-- What the check has read of the Rx frame and of the signal that are being read.
use mathlib.Core.Path.{◌≡◌, refl, sym, ◌∙◌}
use mathlib.Core.Logic.{◌≢◌}
use mathlib.Core.List.{List, [], ◌∷◌}
use Prim.Native.Nat.{ℕ, ◌+◌, ◌*◌}
use native.Mathlib.Omega.{arith}
use native.Mathlib.Nat.{add-zero, zero-add}
use lib.Dec.{eqb}
use lib.ListN.{length}
use borrow.Author.Tests.{eq-eqb, ne_eqb}
use Rattle.base.specs.Pick.{pick}
use Rattle.records.specs.declared.record.RxFrame.{RxFrame}
use Rattle.records.specs.declared.record.SignalBody.{SignalBody}
use Rattle.records.specs.declared.record.Record.{Record}
use Rattle.records.specs.declared.record.Record.TheVariants.{Rx, Signal}
use Rattle.records.specs.Kinds.{stage_of}
use Rattle.plan.specs.declared.progress.RowSoFar.{RowSoFar}
use Rattle.plan.specs.Progress.{row_key, row_after, after}
use Rattle.facts.specs.Good.{Each, count_of}
use Rattle.facts.specs.Statements.{State, stepped, state_after}
use Rattle.claims.specs.Claims.{IsDestination}
use Rattle.refusals.specs.Before.{NoRx}
use Rattle.refusals.proofs.Passing.{Whole, head, node, tx_frame, rx_frame, signal, destination, row_in}

-- ---- the Rx frame that is being read: x was record number n, and since are the records after it

pub record Reading (n : ℕ) (x : RxFrame) (since : List Record) (row : RowSoFar) : Type 0 where
  pub floor : row.floor ≡ row_key x + 1
  pub room : row.room ≡ 8 * x.size
  pub position : row.position ≡ x.position
  pub source : row.source ≡ n
  pub signals : row.signals ≡ count_of 5 since
  -- an enabled indicator awaits a signal, then a destination
  pub idle : x.enable ≢ 1 → row.awaits ≡ 0
  pub first : x.enable ≡ 1 → since ≡ [] → row.awaits ≡ 5
  pub second : x.enable ≡ 1 → (g : SignalBody) → since ≡ Signal g ∷ [] → row.awaits ≡ 6

-- what a record that is no Rx frame leaves
pub record Stays (row new : RowSoFar) : Type 0 where
  pub floor : new.floor ≡ row.floor
  pub room : new.room ≡ row.room
  pub position : new.position ≡ row.position
  pub source : new.source ≡ row.source
  pub idle : row.awaits ≡ 0 → new.awaits ≡ 0

Stays-by : (n : ℕ) (row : RowSoFar) (r : Record) → Whole r → NoRx r → Stays row (row_after n row r)
unfolding row_after pick
Stays-by n row r (head order) d = record { floor = refl; room = refl; position = refl; source = refl; idle = λ e. e }
Stays-by n row r (node body) d = record { floor = refl; room = refl; position = refl; source = refl; idle = λ e. e }
Stays-by n row r (tx_frame x) d = record { floor = refl; room = refl; position = refl; source = refl; idle = λ e. e }
Stays-by n row r (rx_frame x) d = absurd (d x refl)
Stays-by n row r (signal g) d = record { floor = refl; room = refl; position = refl; source = refl; idle = λ e. rw (eq-eqb _ 0 e) }
Stays-by n row r (destination t) d = record { floor = refl; room = refl; position = refl; source = refl; idle = λ e. refl }

pub stays : (rs : List Record) (s : State) → Each NoRx rs → Each Whole rs → Stays (row_in s) (row_in (state_after s rs))
unfolding state_after Each after
stays [] s d w = record { floor = refl; room = refl; position = refl; source = refl; idle = λ e. e }
stays (r ∷ rs) s d w =
    let a = Stays-by s.progress.number (row_in s) r w.0 d.0 in
    let b = stays rs (stepped s r) d.1 w.1 in
    record {
      floor = b.floor ∙ a.floor;
      room = b.room ∙ a.room;
      position = b.position ∙ a.position;
      source = b.source ∙ a.source;
      idle = λ e. b.idle (a.idle e);
    }

signals_by : (n : ℕ) (row : RowSoFar) (r : Record) → Whole r → NoRx r → (k m : ℕ) → m ≡ (row_after n row r).signals + k
    → m ≡ row.signals + (pick (eqb (stage_of r) 5) 1 0 + k)
unfolding row_after stage_of pick
signals_by n row r (head order) d k m e = omega arith
signals_by n row r (node body) d k m e = omega arith
signals_by n row r (tx_frame x) d k m e = omega arith
signals_by n row r (rx_frame x) d k m e = absurd (d x refl)
signals_by n row r (signal g) d k m e = omega arith
signals_by n row r (destination t) d k m e = omega arith

signals : (rs : List Record) (s : State) → Each NoRx rs → Each Whole rs → (row_in (state_after s rs)).signals ≡ (row_in s).signals + count_of 5 rs
unfolding state_after Each after count_of
signals [] s d w = sym (add-zero _)
signals (r ∷ rs) s d w = signals_by s.progress.number (row_in s) r w.0 d.0 (count_of 5 rs) _ (signals rs (stepped s r) d.1 w.1)

pub reading : (s : State) (n : ℕ) → s.progress.number ≡ n → (x : RxFrame) (since : List Record) → Each NoRx since → Each Whole since
    → Reading n x since (row_in (state_after s (Rx x ∷ since)))
unfolding state_after after row_after pick
reading s n e x since d w =
    let a = stays since (stepped s (Rx x)) d w in
    record {
      floor = a.floor;
      room = a.room;
      position = a.position;
      source = a.source ∙ e;
      signals = signals since (stepped s (Rx x)) d w ∙ zero-add _;
      idle = λ off. a.idle (rw (ne_eqb x.enable 1 off));
      first = λ on f. rw (f, eq-eqb x.enable 1 on);
      second = λ on g f. rw (f, eq-eqb x.enable 1 on);
    }

-- ---- the signal that is being read: its size, and how many destinations it has so far

pub record Sized (s : ℕ) (destinations : List Record) (row : RowSoFar) : Type 0 where
  pub size : row.size ≡ s
  pub many : row.destinations ≡ length destinations

serves_by : (n : ℕ) (row : RowSoFar) (r : Record) → IsDestination r
    → ((row_after n row r).size ≡ row.size) × ((row_after n row r).destinations ≡ row.destinations + 1)
unfolding row_after
serves_by n row r d = rw d.1 (refl, refl)

serves : (rs : List Record) (s : State) → Each IsDestination rs
    → ((row_in (state_after s rs)).size ≡ (row_in s).size)
    × ((row_in (state_after s rs)).destinations ≡ (row_in s).destinations + length rs)
unfolding state_after Each after
serves [] s d = (refl, sym (add-zero _))
serves (r ∷ rs) s d =
    let a = serves rs (stepped s r) d.1 in
    let b = serves_by s.progress.number (row_in s) r d.0 in
    (a.0 ∙ b.0, omega (arith, a.1, b.1))

pub sized : (s : State) (g : SignalBody) (destinations : List Record) → Each IsDestination destinations
    → Sized g.size destinations (row_in (state_after s (Signal g ∷ destinations)))
unfolding state_after after row_after
sized s g destinations d =
    let a = serves destinations (stepped s (Signal g)) d in
    record { size = a.0; many = a.1 ∙ zero-add _ }
