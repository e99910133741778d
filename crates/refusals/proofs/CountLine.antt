-- The test of 4 fails exactly where that line applies.
use mathlib.Core.Path.{◌≡◌}
use mathlib.Core.Logic.{inl, inr, ⊎_elim}
use mathlib.Core.Bool.{true, false, ◌&&◌, true≢false}
use mathlib.Core.List.{List}
use Prim.Native.Nat.{◌≤◌}
use native.Mathlib.Omega.{arith}
use lib.Dec.{ltb}
use borrow.Author.Tests.{leb-true}
use Rattle.records.specs.declared.record.Record.{Record}
use Rattle.plan.specs.Limits.{most_nodes, most_tx, most_rx, most_signals, most_in_frame, most_destinations, most_of_signal}
use Rattle.plan.specs.Tests.{may_stand, has_room}
use Rattle.facts.specs.Good.{count_of}
use Rattle.facts.specs.Statements.{State}
use Rattle.refusals.specs.Before.{◌or◌}
use Rattle.refusals.specs.Fields.{TooMany, nodes, tx_frames, rx_frames, signals, in_a_frame, destinations, for_a_signal}
use Rattle.refusals.proofs.Passing.{Whole, head, node, tx_frame, rx_frame, signal, destination, row_in, counts_in, stage_in}
use Rattle.refusals.proofs.SoFar.{SoFar}
use Rattle.refusals.proofs.Fails.{Fails, less, both}

module _ (before : List Record) (s : State) (h : SoFar before s) where
  nodes_test : Fails (ltb (counts_in s).nodes most_nodes) (16 ≤ count_of 2 before)
  nodes_test = rw (← h.nodes) (less _ _)

  tx_test : Fails (ltb (counts_in s).tx most_tx) (256 ≤ count_of 3 before)
  tx_test = rw (← h.tx) (less _ _)

  rx_test : Fails (ltb (counts_in s).rx most_rx) (256 ≤ count_of 4 before)
  rx_test = rw (← h.rx) (less _ _)

  signals_test : Fails (ltb (counts_in s).signals most_signals && ltb (row_in s).signals most_in_frame)
      ((1024 ≤ count_of 5 before) or (64 ≤ (row_in s).signals))
  signals_test = rw (← h.signals) (both (less _ _) (less _ _))

  destinations_test : Fails (ltb (counts_in s).destinations most_destinations && ltb (row_in s).destinations most_of_signal)
      ((2048 ≤ count_of 6 before) or (15 ≤ (row_in s).destinations))
  destinations_test = rw (← h.destinations) (both (less _ _) (less _ _))

  full : (r : Record) → Whole r → may_stand (stage_in s) r ≡ true → has_room (counts_in s) (row_in s) r ≡ false → TooMany before r
  unfolding has_room may_stand
  full r (head order) m e = absurd (true≢false e)
  full r (node body) m e = nodes body (nodes_test.says e)
  full r (tx_frame x) m e = tx_frames x (tx_test.says e)
  full r (rx_frame x) m e = rx_frames x (rx_test.says e)
  full r (signal g) m e =
      let x = h.stands.rx (leb-true 4 (stage_in s) m) in
      ⊎_elim (λ l. signals g l) (λ l. in_a_frame g x (omega (arith, l, (h.reading x).signals))) (signals_test.says e)
  full r (destination t) m e =
      let x = h.stands.signal (leb-true 5 (stage_in s) m) in
      ⊎_elim (λ l. destinations t l) (λ l. for_a_signal t x (omega (arith, l, (h.sized x).many))) (destinations_test.says e)

  no_room : (r : Record) → TooMany before r → has_room (counts_in s) (row_in s) r ≡ false
  unfolding has_room
  no_room r (nodes body l) = nodes_test.back l
  no_room r (tx_frames x l) = tx_test.back l
  no_room r (rx_frames x l) = rx_test.back l
  no_room r (signals g l) = signals_test.back (inl l)
  no_room r (in_a_frame g x l) = signals_test.back (inr (omega (arith, l, (h.reading x).signals)))
  no_room r (destinations t l) = destinations_test.back (inl l)
  no_room r (for_a_signal t x l) = destinations_test.back (inr (omega (arith, l, (h.sized x).many)))

  pub room : (r : Record) → Whole r → may_stand (stage_in s) r ≡ true → Fails (has_room (counts_in s) (row_in s) r) (TooMany before r)
  room r w m = record { says = full r w m; back = no_room r }
