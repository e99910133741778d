-- What a tick leaves of an area, and what it makes of the counter and the report.
use mathlib.Core.Path.{◌≡◌, refl, ◌∙◌}
use mathlib.Core.List.{List}
use Prim.Native.Nat.{ℕ, zero, suc, ◌<◌, ◌≤◌}
use native.Mathlib.Omega.{arith}
use native.Mathlib.Decide.{ℕ_discrete}
use lib.ListN.{length, set, drop, length-set}
use lib.Seq.{get_or-set_same, get_or-set_other}
use Rattle.std.specs.Prelude.{Result, Ok, Err}
use Rattle.base.specs.Numbers.{byte_at}
use Rattle.base.proofs.Picks.{both}
use Rattle.base.proofs.Ranges.{at_most-le}
use Rattle.clock.specs.Counter.{counter_next}
use Rattle.area.specs.Layout.{counter_byte, plan_start, marked, counter, tx_count, rx_count, plan_of, tx_frame, rx_frame, claims}
use Rattle.area.proofs.Frame.{Same, Spared, same_tail}
use Rattle.area.proofs.Kept.{in_plan, plan_of_kept, tx_frame_kept, rx_frame_kept, claims_kept}
use Rattle.ticking.specs.Tick.{tx_ticks, expired_report, expiry_report, rx_report, rx_ticks, reported, ticked, ticked_area, ticked_report}
use Rattle.ticking.proofs.Positions.{Positions}
use Rattle.ticking.proofs.TickFrame.{Same-tx_ticks, Same-rx_ticks, Same-ticked, Kept-ticked}
use Rattle.answers.specs.declared.Refusal.{Refusal}

-- ---- on any area: the length, the mark, the counter

spared_mark : Spared (λ j. j < counter_byte)
spared_mark = record { ends = λ n h j l m p. omega arith; low = λ j l m p. omega arith; high = λ j l m p. omega arith }

front_ticked : (a : List ℕ) → Same (λ j. j < counter_byte) a (ticked a)
front_ticked a = Same-ticked spared_mark (λ q t h p. omega arith) (λ p. omega arith) a

pub length-ticked : (a : List ℕ) → length (ticked a) ≡ length a
length-ticked a = (front_ticked a).len

pub marked-ticked : (a : List ℕ) → marked (ticked a) ≡ marked a
unfolding marked
marked-ticked a = rw (length-ticked a, (front_ticked a).at 0 (omega arith), (front_ticked a).at 1 (omega arith))

-- it moves by the counter's own rule, from what it was before the timers were handled
pub counter-ticked : (a : List ℕ) → counter_byte < length a → counter (ticked a) ≡ counter_next (counter a)
unfolding ticked
counter-ticked a h =
    let timers = rx_ticks (counter a) (rx_count a) (tx_ticks (counter a) (tx_count a) a) in
    let tx = (Same-tx_ticks spared_mark (counter a) (tx_count a) a (at_most-le 256 _)).len in
    let rx : length timers ≡ length a = (Same-rx_ticks spared_mark (λ q t l p. omega arith) _ (rx_count a) _ (at_most-le 256 _)).len ∙ tx in
    get_or-set_same timers counter_byte _ 0 (omega arith)

-- ---- where the failure positions are bytes: the plan, the frames, the claims, and every byte from the plan on

module _ (a : List ℕ) (positions : Positions a) where
  pub tail_ticked : drop plan_start (ticked a) ≡ drop plan_start a
  tail_ticked = same_tail plan_start (Kept-ticked a positions) (λ j h. in_plan j (omega arith))

  pub plan_of-ticked : plan_of (ticked a) ≡ plan_of a
  plan_of-ticked = plan_of_kept (Kept-ticked a positions)

  pub tx_frame-ticked : (t : ℕ) → t < 256 → tx_frame (ticked a) t ≡ tx_frame a t
  tx_frame-ticked = tx_frame_kept (Kept-ticked a positions)

  pub rx_frame-ticked : (r : ℕ) → r < 256 → rx_frame (ticked a) r ≡ rx_frame a r
  rx_frame-ticked = rx_frame_kept (Kept-ticked a positions)

  pub claims-ticked : (r : ℕ) → r < 256 → claims (ticked a) r ≡ claims a r
  claims-ticked = claims_kept (Kept-ticked a positions)

-- the call: what holds of the ticked area and of the area as it was holds of what the call leaves
pub by_answer : (P : List ℕ → Type 0) (x : Result (Unit {0}) Refusal) (a : List ℕ) → P (ticked a) → P a → P (ticked_area x a)
unfolding ticked_area
by_answer P (Ok ticks) a done stayed = done
by_answer P (Err why) a done stayed = stayed

-- ---- the report

-- 0 nothing, 1 short, 2 long
pub rx_report_small : (k : ℕ) (a : List ℕ) (r : ℕ) → rx_report k a r ≤ 2
unfolding rx_report expiry_report expired_report
rx_report_small k a r =
    let P : ℕ → Type 0 = λ n. n ≤ 2 in
    both P _ _ _ (both P _ _ _ (both P _ _ _ (omega arith) (both P _ _ _ (omega arith) (omega arith))) (omega arith)) (omega arith)

pub length-reported : (k n : ℕ) (a report : List ℕ) → length (reported k n a report) ≡ length report
unfolding reported
length-reported k zero a report = refl
length-reported k (suc n) a report = simp length-set (length-reported k n a report)

pub further_reported : (k n : ℕ) (a report : List ℕ) (j : ℕ) → n ≤ j → byte_at (reported k n a report) j ≡ byte_at report j
unfolding reported
further_reported k zero a report j h = refl
further_reported k (suc n) a report j h =
    get_or-set_other (reported k n a report) n j _ 0 (λ e. omega arith) ∙ further_reported k n a report j (omega arith)

-- byte r is what Rx timer r does when those before it are handled
pub byte_reported :
    (k n : ℕ) (a report : List ℕ) (r : ℕ) → r < n → n ≤ length report → byte_at (reported k n a report) r ≡ rx_report k (rx_ticks k r a) r
unfolding reported
byte_reported k zero a report r h l = absurd (omega arith)
byte_reported k (suc n) a report r h l =
    go (ℕ_discrete r n) (λ m. byte_reported k n a report r m (omega arith))
  where
    go : Dec (r ≡ n) → (r < n → byte_at (reported k n a report) r ≡ rx_report k (rx_ticks k r a) r)
        → byte_at (set (reported k n a report) n (rx_report k (rx_ticks k n a) n)) r ≡ rx_report k (rx_ticks k r a) r
    go (yes e) rest = rw e (get_or-set_same (reported k n a report) n _ 0 (omega (arith, length-reported k n a report)))
    go (no d) rest = get_or-set_other (reported k n a report) n r _ 0 d ∙ rest (omega arith)

pub small_reported : (k n : ℕ) (a report : List ℕ) (r : ℕ) → r < n → n ≤ length report → byte_at (reported k n a report) r ≤ 2
small_reported k n a report r h l = rw (byte_reported k n a report r h l) (rx_report_small k _ r)

-- the call: the report's length stays, and its bytes from the Rx frame count on
pub length-ticked_report : (x : Result (Unit {0}) Refusal) (a report : List ℕ) → length (ticked_report x a report) ≡ length report
unfolding ticked_report
length-ticked_report (Ok done) a report = length-reported _ _ _ report
length-ticked_report (Err why) a report = refl

pub further_ticked_report : (x : Result (Unit {0}) Refusal) (a report : List ℕ) (j : ℕ) → rx_count a ≤ j → byte_at (ticked_report x a report) j ≡ byte_at report j
unfolding ticked_report
further_ticked_report (Ok done) a report j h = further_reported _ _ _ report j h
further_ticked_report (Err why) a report j h = refl
