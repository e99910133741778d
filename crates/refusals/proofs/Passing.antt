-- What records that pass are: whole, and in place.
use mathlib.Core.Path.{◌≡◌, refl}
use mathlib.Core.Bool.{true}
use mathlib.Core.List.{List, [], ◌∷◌, ◌++◌}
use Prim.Native.Nat.{ℕ}
use Rattle.std.specs.Prelude.{Ok}
use Rattle.records.specs.declared.record.NodeBody.{NodeBody}
use Rattle.records.specs.declared.record.SignalBody.{SignalBody}
use Rattle.records.specs.declared.record.DestinationBody.{DestinationBody}
use Rattle.records.specs.declared.record.TxFrame.{TxFrame}
use Rattle.records.specs.declared.record.RxFrame.{RxFrame}
use Rattle.records.specs.declared.record.Record.{Record}
use Rattle.records.specs.declared.record.Record.TheVariants.{Head, Node, Tx, Rx, Signal, Destination, Broken}
use Rattle.plan.specs.declared.progress.Counts.{Counts}
use Rattle.plan.specs.declared.progress.RowSoFar.{RowSoFar}
use Rattle.plan.specs.Progress.{after}
use Rattle.plan.specs.Tests.{is_kind, is_whole}
use Rattle.plan.proofs.CheckLaws.{Passed, passed}
use Rattle.plan.proofs.TestLaws.{no_fault}
use Rattle.facts.specs.Good.{Each, InPlace}
use Rattle.facts.specs.Statements.{State, stepped, state_after, judged_in, AllGo}

-- a whole record of a known kind
pub data Whole : Record → Type 0 where
  head : (order : ℕ) → Whole (Head order)
  node : (body : NodeBody) → Whole (Node body)
  tx_frame : (x : TxFrame) → Whole (Tx x)
  rx_frame : (x : RxFrame) → Whole (Rx x)
  signal : (g : SignalBody) → Whole (Signal g)
  destination : (t : DestinationBody) → Whole (Destination t)

pub whole : (r : Record) → is_kind r ≡ true → is_whole r ≡ true → Whole r
whole (Head order) k w = head order
whole (Node body) k w = node body
whole (Tx x) k w = tx_frame x
whole (Rx x) k w = rx_frame x
whole (Signal body) k w = signal body
whole (Destination body) k w = destination body
whole (Broken fault) k w = absurd (no_fault fault k w)

-- ---- where the check stands

abbrev pub row_in : State → RowSoFar
row_in s = s.progress.row

abbrev pub counts_in : State → Counts
counts_in s = s.progress.counts

abbrev pub stage_in : State → ℕ
stage_in s = s.progress.stage

-- ---- records that pass

abbrev pub PassedIn : State → Record → Type 0
PassedIn s r = Passed s.progress s.sizes s.sets r

pub went : (s : State) (r : Record) → judged_in s r ≡ Ok (after s.progress r) → PassedIn s r
went s r e = (passed s.progress s.sizes s.sets r _ e).0

pub all_whole : (rs : List Record) (s : State) → AllGo s rs → Each Whole rs
unfolding AllGo Each
all_whole [] s h = tt
all_whole (r ∷ rs) s h = let a = went s r h.0 in (whole r a.known a.whole, all_whole rs (stepped s r) h.1)

pub all_placed : (rs : List Record) (s : State) → AllGo s rs → InPlace s.progress.stage rs
unfolding AllGo InPlace after
all_placed [] s h = tt
all_placed (r ∷ rs) s h =
    let a = went s r h.0 in
    (record { known = a.known; whole = a.whole; stands = a.stands }, all_placed rs (stepped s r) h.1)

-- ---- the records before one, and those after it

pub past : (xs ys : List Record) (s : State) → state_after s (xs ++ ys) ≡ state_after (state_after s xs) ys
unfolding state_after
past [] ys s = refl
past (x ∷ xs) ys s = past xs ys (stepped s x)

pub all_front : (xs ys : List Record) (s : State) → AllGo s (xs ++ ys) → AllGo s xs
unfolding AllGo
all_front [] ys s h = tt
all_front (x ∷ xs) ys s h = (h.0, all_front xs ys (stepped s x) h.1)

pub all_since : (xs ys : List Record) (s : State) → AllGo s (xs ++ ys) → AllGo (state_after s xs) ys
unfolding AllGo state_after
all_since [] ys s h = h
all_since (x ∷ xs) ys s h = all_since xs ys (stepped s x) h.1

pub all_joined : (xs ys : List Record) (s : State) → AllGo s xs → AllGo (state_after s xs) ys → AllGo s (xs ++ ys)
unfolding AllGo state_after
all_joined [] ys s h k = k
all_joined (x ∷ xs) ys s h k = (h.0, all_joined xs ys (stepped s x) h.1 k)
