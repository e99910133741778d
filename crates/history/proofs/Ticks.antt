-- A tick turns a number that goes by the events (`Turns`) by the expiries that its report tells, and by nothing else.
use mathlib.Core.Path.{◌≡◌, refl, sym, ap, ◌∙◌}
use mathlib.Core.List.{List, [], ◌∷◌, ◌++◌}
use Prim.Native.Nat.{ℕ, zero, suc, ◌+◌, ◌<◌, ◌≤◌}
use native.Mathlib.Nat.{zero-add, add-zero}
use native.Mathlib.Omega.{arith}
use lib.Dec.{leb, eqb}
use lib.ListN.{length, take}
use lib.Seq.{take-suc, length-take-le}
use borrow.Author.Tests.{leb-true}
use Rattle.std.specs.Prelude.{Result}
use Rattle.base.specs.Pick.{pick}
use Rattle.base.specs.Numbers.{byte_at, low_at}
use Rattle.base.proofs.Picks.{both, cases, into}
use Rattle.base.proofs.Ranges.{at_most-le}
use Rattle.plan.specs.Rows.{rows_of}
use Rattle.facts.specs.Good.{GoodPlan}
use Rattle.area.specs.Layout.{tx_count_bytes, rx_reload, rx_timer, long, rx_mask, counter, tx_count, rx_count}
use Rattle.area.specs.Claims.{RxEvent, expired}
use Rattle.area.proofs.Frame.{Same-refl, Same-set}
use Rattle.ticking.specs.Tick.{timed, tx_ticks, expired_area, expired_report, rx_on_lin, rx_expiry, expiry_report, rx_tick, rx_report, rx_ticks, reported}
use Rattle.clock.specs.Counter.{no_common_bit}
use Rattle.ticking.specs.Tick.{ticked, tick_answer, ticked_area, ticked_report}
use Rattle.ticking.proofs.TickLaws.{length-reported, byte_reported}
use Rattle.ticking.proofs.Apart.{report_apart}
use Rattle.tables.specs.Reads.{Reads}
use Rattle.history.specs.Past.{told_report, told_tick}
use Rattle.history.proofs.Pairs.{pairs}
use Rattle.history.proofs.Aside.{aside_timed, aside_requested, aside_tx_ticks}
use Rattle.history.proofs.Steady.{steady_aside, Reads-steady}
use Rattle.history.proofs.Later.{steady_rx_ticks}
use Rattle.history.proofs.Replay.{replay, replay-append}
use Rattle.history.proofs.Turns.{Turns}
use Rattle.answers.specs.declared.Refusal.{Refusal}

-- ---- what a report tells

told_append : (r : ℕ) (xs ys : List ℕ) → told_report r (xs ++ ys) ≡ told_report r xs ++ told_report (r + length xs) ys
unfolding told_report
told_append r [] ys = rw (add-zero r)
told_append r (x ∷ xs) ys =
    let e : r + suc (length xs) ≡ suc r + length xs = omega arith in
    rw (e, told_append (suc r) xs ys) (sym (into (λ (l : List RxEvent). l ++ told_report (suc r + length xs) ys) (eqb x 0) _ _))

-- one byte more
told_more : (n : ℕ) (xs : List ℕ) → n < length xs → told_report 0 (take (suc n) xs) ≡ told_report 0 (take n xs) ++ told_report n (byte_at xs n ∷ [])
told_more n xs h =
    let l : n ≤ length xs = omega arith in
    rw (take-suc xs n 0 h, told_append 0 (take n xs) (byte_at xs n ∷ []), length-take-le n xs l, zero-add n)

-- a number that no expiry of these rows turns
pub report_leaves :
    (turn : ℕ → RxEvent → ℕ) (r : ℕ) (xs : List ℕ) → ((q u : ℕ) → r ≤ q → q < r + length xs → turn u (expired q) ≡ u)
    → (v : ℕ) → replay turn (told_report r xs) v ≡ v
unfolding told_report replay
report_leaves turn r [] leaves v = refl
report_leaves turn r (x ∷ xs) leaves v =
    let more = report_leaves turn (suc r) xs (λ q u l m. leaves q u (omega arith) (omega arith)) in
    both (λ (log : List RxEvent). replay turn log v ≡ v) (eqb x 0) _ _ (more v) (more (turn v (expired r)) ∙ leaves r v (omega arith) (omega arith))

module _ {plan : List ℕ} (good : GoodPlan plan) {P : ℕ → Type 0} {now : List ℕ → ℕ} {turn : ℕ → RxEvent → ℕ} (u : Turns plan P now turn) where
  -- ---- one Rx timer

  -- its expiry: the byte of a request is 0 and tells nothing
  expiry_turns : (a : List ℕ) → Reads plan a → (r : ℕ) → r < length (rows_of plan)
      → now (rx_expiry a r) ≡ replay turn (told_report r (expiry_report a r ∷ [])) (now a)
  unfolding rx_expiry expiry_report expired_report told_report replay pick
  expiry_turns a reads r h =
      let Q : List ℕ → ℕ → Type 0 = λ x y. now x ≡ replay turn (told_report r (y ∷ [])) (now a) in
      let turns = u.expires a reads r h in
      pairs Q (rx_on_lin a r) (λ e. u.same _ _ (aside_requested u.aside a r (omega (arith, good.counts.rx))))
      (λ e. both (Q (expired_area a r)) (eqb (byte_at a (long r)) 1) 2 1 turns turns)

  row_ticks :
      (k : ℕ) (a : List ℕ) → Reads plan a → (r : ℕ) → r < length (rows_of plan)
      → now (rx_tick k a r) ≡ replay turn (told_report r (rx_report k a r ∷ [])) (now a)
  unfolding rx_tick rx_report told_report replay pick
  row_ticks k a reads r h =
      let Q : List ℕ → ℕ → Type 0 = λ x y. now x ≡ replay turn (told_report r (y ∷ [])) (now a) in
      let l : r < 256 = omega (arith, good.counts.rx) in
      let b = timed a (rx_reload r) (rx_timer r) in
      let stays = u.same _ _ (aside_timed u.aside a (rx_reload r) (rx_timer r) (omega arith) (omega arith)) in
      let s = aside_timed steady_aside a (rx_reload r) (rx_timer r) (omega arith) (omega arith) in
      let byte : expiry_report b r ≡ expiry_report a r = unfold timed in report_apart (rx_timer r) _ (omega arith) (omega arith) a r l in
      let told : List RxEvent = told_report r (expiry_report b r ∷ []) in
      let turns : Q (rx_expiry b r) (expiry_report b r) = expiry_turns b (Reads-steady s reads) r h ∙ ap (replay turn told) stays in
      pairs Q (no_common_bit k (byte_at a (rx_mask r))) (λ e. pairs Q (eqb (byte_at a (rx_timer r)) 1) (λ f. rw byte at turns) (λ f. stays)) (λ e. refl)

  -- ---- the first n, of which xs tells

  rows_tick :
      (k : ℕ) (a : List ℕ) → Reads plan a → (xs : List ℕ) (n : ℕ) → n ≤ length (rows_of plan) → n ≤ length xs
      → ((r : ℕ) → r < n → byte_at xs r ≡ rx_report k (rx_ticks k r a) r) → now (rx_ticks k n a) ≡ replay turn (told_report 0 (take n xs)) (now a)
  unfolding rx_ticks
  rows_tick k a reads xs zero h l is = unfold replay told_report in refl
  rows_tick k a reads xs (suc n) h l is =
      let before = rx_ticks k n a in
      let s = steady_rx_ticks plan good k n a reads (omega arith) in
      let last : List RxEvent = told_report n (byte_at xs n ∷ []) in
      let one : now (rx_tick k before n) ≡ replay turn last (now before) =
      rw (is n (omega arith)) (row_ticks k before (Reads-steady s reads) n (omega arith)) in
      one
      ∙ ap (replay turn last) (rows_tick k a reads xs n (omega arith) (omega arith) (λ r m. is r (omega arith)))
      ∙ sym (replay-append turn (told_report 0 (take n xs)) last (now a))
      ∙ ap (λ (log : List RxEvent). replay turn log (now a)) (sym (told_more n xs (omega arith)))

  -- what it is when n Rx timers have been handled
  pub after_rows :
      (a report : List ℕ) → Reads plan a → rx_count a ≤ length report → (n : ℕ) → n ≤ rx_count a
      → now (rx_ticks (counter a) n (tx_ticks (counter a) (tx_count a) a))
      ≡ replay turn (told_report 0 (take n (reported (counter a) (rx_count a) (tx_ticks (counter a) (tx_count a) a) report))) (now a)
  after_rows a report reads room n few =
      let k = counter a in
      let tx = tx_ticks k (tx_count a) a in
      let all = at_most-le 256 (low_at a tx_count_bytes) in
      let s = aside_tx_ticks steady_aside k (tx_count a) a all in
      let xs = reported k (rx_count a) tx report in
      rows_tick k tx (Reads-steady s reads) xs n (omega (arith, reads.header.rx)) (omega (arith, length-reported k (rx_count a) tx report))
      (λ r l. byte_reported k (rx_count a) tx report r (omega arith) room)
      ∙ ap (replay turn (told_report 0 (take n xs))) (u.same _ _ (aside_tx_ticks u.aside k (tx_count a) a all))

  -- ---- the call

  ticked_turns :
      (a report : List ℕ) → Reads plan a → rx_count a ≤ length report
      → now (ticked a)
      ≡ replay turn (told_report 0 (take (length (rows_of plan)) (reported (counter a) (rx_count a) (tx_ticks (counter a) (tx_count a) a) report))) (now a)
  unfolding ticked
  ticked_turns a report reads room =
      let n : rx_count a ≡ length (rows_of plan) = reads.header.rx in
      rw (← n) (u.same _ _ (Same-set _ _ u.uncounted (Same-refl _)) ∙ after_rows a report reads room (rx_count a) (omega arith))

  pub tick_turns :
      (a report : List ℕ) → Reads plan a
      → now (ticked_area (tick_answer a report) a)
      ≡ replay turn (told_tick (tick_answer a report) (length (rows_of plan)) (ticked_report (tick_answer a report) a report)) (now a)
  unfolding tick_answer ticked_area ticked_report told_tick replay
  tick_turns a report reads =
      let Q : Result (Unit {0}) Refusal → Type 0 = λ x. now (ticked_area x a) ≡ replay turn (told_tick x (length (rows_of plan)) (ticked_report x a report)) (now a) in
      both Q _ _ _
      (cases Q (leb (rx_count a) (length report)) _ _ (λ e. ticked_turns a report reads (leb-true _ _ e)) (λ e. refl))
      refl
