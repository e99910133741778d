-- What an enabled indicator awaits after the records since its Rx frame: a signal, then a destination, then nothing.
use mathlib.Core.Path.{◌≡◌, refl}
use mathlib.Core.List.{List, [], ◌∷◌}
use Prim.Native.Nat.{ℕ}
use native.Mathlib.Omega.{arith}
use borrow.Author.Tests.{ne_eqb}
use Rattle.base.specs.Pick.{pick}
use Rattle.records.specs.declared.record.SignalBody.{SignalBody}
use Rattle.records.specs.declared.record.Record.{Record}
use Rattle.records.specs.declared.record.Record.TheVariants.{Signal}
use Rattle.records.specs.Kinds.{stage_of}
use Rattle.plan.specs.declared.progress.RowSoFar.{RowSoFar}
use Rattle.plan.specs.Progress.{row_after, after}
use Rattle.facts.specs.Good.{Each}
use Rattle.facts.specs.Statements.{State, stepped, state_after, AllGo}
use Rattle.facts.proofs.Followers.{followed_is}
use Rattle.refusals.specs.Before.{NoRx}
use Rattle.refusals.proofs.Passing.{Whole, head, node, tx_frame, rx_frame, signal, destination, whole, went, all_whole, row_in}
use Rattle.refusals.proofs.Reading.{stays}

pub data Awaiting (awaits : ℕ) : List Record → Type 0 where
  all : awaits ≡ 5 → Awaiting awaits []
  one : (g : SignalBody) → awaits ≡ 6 → Awaiting awaits (Signal g ∷ [])
  nothing : (since : List Record) → awaits ≡ 0 → Awaiting awaits since

after_signal : (n : ℕ) (row : RowSoFar) (g : SignalBody) → row.awaits ≡ 5 → (row_after n row (Signal g)).awaits ≡ 6
unfolding row_after pick
after_signal n row g e = rw (ne_eqb row.awaits 0 (omega arith))

after_second : (n : ℕ) (row : RowSoFar) (r : Record) → Whole r → row.awaits ≡ 6 → row.awaits ≡ stage_of r → (row_after n row r).awaits ≡ 0
unfolding stage_of row_after
after_second n row r (head order) e f = absurd (omega arith)
after_second n row r (node body) e f = absurd (omega arith)
after_second n row r (tx_frame x) e f = absurd (omega arith)
after_second n row r (rx_frame x) e f = absurd (omega arith)
after_second n row r (signal g) e f = absurd (omega arith)
after_second n row r (destination t) e f = refl

-- the second record since is a destination
second : (s : State) (g : SignalBody) (rs : List Record) → AllGo s rs → Each NoRx rs → (row_in s).awaits ≡ 6
    → Awaiting (row_in (state_after s rs)).awaits (Signal g ∷ rs)
unfolding AllGo Each state_after after
second s y [] g d e = one y e
second s y (r ∷ rs) g d e =
    let a = went s r g.0 in
    let f = followed_is (row_in s) (stage_of r) a.follows (omega arith) in
    nothing _ ((stays rs (stepped s r) d.1 (all_whole rs (stepped s r) g.1)).idle
    (after_second s.progress.number (row_in s) r (whole r a.known a.whole) e f))

-- and the first a signal
first_by : (s : State) (r : Record) → Whole r → (rs : List Record) → AllGo (stepped s r) rs → Each NoRx rs → (row_in s).awaits ≡ 5
    → (row_in s).awaits ≡ stage_of r → Awaiting (row_in (state_after (stepped s r) rs)).awaits (r ∷ rs)
unfolding stage_of after
first_by s r (head order) rs g d e f = absurd (omega arith)
first_by s r (node body) rs g d e f = absurd (omega arith)
first_by s r (tx_frame x) rs g d e f = absurd (omega arith)
first_by s r (rx_frame x) rs g d e f = absurd (omega arith)
first_by s r (signal y) rs g d e f = second (stepped s r) y rs g d (after_signal s.progress.number (row_in s) y e)
first_by s r (destination t) rs g d e f = absurd (omega arith)

pub awaiting : (s : State) (since : List Record) → AllGo s since → Each NoRx since → (row_in s).awaits ≡ 5
    → Awaiting (row_in (state_after s since)).awaits since
unfolding AllGo Each state_after
awaiting s [] g d e = all e
awaiting s (r ∷ rs) g d e =
    let a = went s r g.0 in
    first_by s r (whole r a.known a.whole) rs g.1 d.1 e (followed_is (row_in s) (stage_of r) a.follows (omega arith))
