-- The turns of the Tx timers and of the Rx timers, in parts of sixteen: what lowering and then expiring makes of the area and of the report.
use mathlib.Core.Path.{◌≡◌, refl, sym, ap, ◌∙◌}
use mathlib.Core.Logic.{⊎_elim}
use mathlib.Core.Bool.{Bool, true, false}
use mathlib.Core.List.{List}
use Prim.Native.Nat.{ℕ, zero, suc, ◌+◌, ◌<◌, ◌≤◌}
use native.Mathlib.Nat.{add-zero}
use native.Mathlib.Omega.{arith}
use native.Mathlib.Decide.{ℕ_discrete}
use lib.Dec.{eqb}
use lib.ListN.{set}
use lib.Seq.{get_or-set_other, set-set, set_comm}
use borrow.Author.Tests.{ne_eqb}
use Rattle.base.specs.Pick.{pick}
use Rattle.base.specs.Numbers.{byte_at}
use Rattle.base.proofs.Picks.{passes, into}
use Rattle.clock.specs.Counter.{no_common_bit}
use Rattle.clock.specs.Timer.{lowered}
use Rattle.area.specs.Layout.{requests_start, long, waits, tx_reload, rx_reload, tx_timer, rx_timer, tx_mask, rx_mask, rx_frame}
use Rattle.area.specs.Queue.{scheduled}
use Rattle.area.proofs.Frame.{Same, Same-refl, Same-then, Same-set, NoEnds, NoRing, Same-scheduled}
use Rattle.area.proofs.Kept.{Kept, planned, Kept-low, Kept-refl}
use Rattle.ticking.specs.Tick.{timed, tx_tick, tx_ticks, rx_expiry, expiry_report, rx_tick, rx_report, rx_ticks, reported}
use Rattle.ticking.specs.Sixteen.{each, expiring, fell, mark_of, marks_of, each_marked, tx_step, rx_step}
use Rattle.ticking.specs.Sixteen.{reported_from, with_zeros, marked_report}
use Rattle.ticking.proofs.Positions.{Positions, Positions-kept}
use Rattle.ticking.proofs.TickFrame.{Missed, Same-tx_tick, Same-expiry, Same-rx_tick, Kept-rx_tick}
use Rattle.ticking.proofs.Apart.{scheduled_apart, expiry_apart, report_apart, scheduled_stored}
use Rattle.ticking.proofs.Sixteens.{Of, turn-parted, marks_at, Turns, holds_fells, marked_fell, Marks, mark_turn, turns_parted}

-- ---- a tick is made of parts

module _ (k j : ℕ) where
  pub tx_ticks-each : (n : ℕ) (a : List ℕ) → tx_ticks k (j + n) a ≡ each (tx_tick k) j n (tx_ticks k j a)
  unfolding tx_ticks each
  tx_ticks-each zero a = rw add-zero
  tx_ticks-each (suc n) a = let e : j + suc n ≡ suc (j + n) = omega arith in rw (e, ← tx_ticks-each n a)

  pub rx_ticks-each : (n : ℕ) (a : List ℕ) → rx_ticks k (j + n) a ≡ each (rx_tick k) j n (rx_ticks k j a)
  unfolding rx_ticks each
  rx_ticks-each zero a = rw add-zero
  rx_ticks-each (suc n) a = let e : j + suc n ≡ suc (j + n) = omega arith in rw (e, ← rx_ticks-each n a)

  pub reported_each :
      (n : ℕ) (a report : List ℕ) → reported k (j + n) a report ≡ reported_from k j n (rx_ticks k j a) (reported k j a report)
  unfolding reported reported_from
  reported_each zero a report = rw add-zero
  reported_each (suc n) a report =
      let e : j + suc n ≡ suc (j + n) = omega arith in rw (e, ← reported_each n a report, ← rx_ticks-each n a)

-- ---- Tx

module _ (t u : ℕ) (h : t < u) (l : u < 256) where
  tx_ends : (n : ℕ) → n < 16 → NoEnds (Of u) n
  tx_ends n b j x y = ⊎_elim (λ e. omega arith) (λ e. omega arith)

  tx_ring : NoRing (Of u)
  tx_ring j x y = ⊎_elim (λ e. omega arith) (λ e. omega arith)

  tx_wait : Of u (waits t) → ⊥
  tx_wait = ⊎_elim (λ e. omega arith) (λ e. omega arith)

  not_tx_timer : Of u (tx_timer t) → ⊥
  not_tx_timer = ⊎_elim (λ e. omega arith) (λ e. omega arith)

  tx_same_after : (a : List ℕ) → Same (Of u) a (tx_step a t)
  unfolding tx_step pick
  tx_same_after a = Same-then (Same-set _ _ not_tx_timer (Same-refl a)) (Same-scheduled tx_ends tx_ring _ t tx_wait not_tx_timer)

  tx_same_turn : (k : ℕ) (a : List ℕ) → Same (Of u) a (tx_tick k a t)
  tx_same_turn k a = Same-tx_tick tx_ends tx_ring k a t tx_wait not_tx_timer

  tx_apart : (a : List ℕ) (v : ℕ) → tx_step (set a (tx_timer u) v) t ≡ set (tx_step a t) (tx_timer u) v
  unfolding tx_step pick
  tx_apart a v =
      let w = lowered (byte_at a (tx_reload t)) 1 in
      rw (get_or-set_other a (tx_timer u) (tx_reload t) v 0 (λ e. omega arith), set_comm a (tx_timer u) (tx_timer t) v w (λ e. omega arith))
      (scheduled_apart (tx_timer u) v (omega arith) (omega arith) (set a (tx_timer t) w) t (omega arith) (λ e. omega arith))

tx_tick_turn : (k : ℕ) (a : List ℕ) (t : ℕ) → t < 256 → tx_tick k a t ≡ pick (eqb (mark_of k a t) 1) (tx_step (fell k a t) t) (fell k a t)
unfolding tx_tick timed mark_of fell tx_step pick
tx_tick_turn k a t h =
    let other : (v : ℕ) → byte_at (set a (tx_timer t) v) (tx_reload t) ≡ byte_at a (tx_reload t) =
    λ v. get_or-set_other a (tx_timer t) (tx_reload t) v 0 (λ e. omega arith) in
    rw other (turn-parted (λ x. scheduled x t) a (tx_timer t) (byte_at a (tx_reload t)) (no_common_bit k (byte_at a (tx_mask t))))

Turns-tx_tick : (k : ℕ) → Turns k (λ t. t) tx_step (tx_tick k) (λ a. Unit {0})
Turns-tx_tick k =
    record {
      table = λ j n. refl;
      turn = tx_tick_turn k;
      apart = λ a t u v h l. tx_apart t u h l a v;
      same_after = λ a t u h l i. tx_same_after t u h l a;
      same_turn = λ a t u h l i. tx_same_turn t u h l k a;
      holds_after = λ a t h i. tt;
      holds_turn = λ a t h i. tt;
      holds_fell = λ a t h i. tt;
    }

-- Tx timer t, which holds 1, is handled: the code schedules the frame first, which leaves the reload values, and stores the count last
pub step_stored :
    (a : List ℕ) (t : ℕ) → t < 256
    → set (scheduled a t) (tx_timer t) (lowered (byte_at (scheduled a t) (tx_reload t)) 1) ≡ tx_step a t
unfolding tx_step lowered pick
step_stored a t h =
    let same : Same (λ j. j ≡ tx_reload t) a (scheduled a t) =
    Same-scheduled (λ n b j x y e. omega arith) (λ j x y e. omega arith) a t (λ e. omega arith) (λ e. omega arith) in
    rw (same.at (tx_reload t) refl) (scheduled_stored a t h)

module _ (k j : ℕ) (a b m : List ℕ) (n : ℕ) (e : n ≡ 16) (h : j + 16 ≤ 256) where
  pub tx_sixteen : m ≡ marks_of k j n a → b ≡ each (fell k) j n a → each_marked tx_step m j 16 b ≡ each (tx_tick k) j 16 a
  tx_sixteen x y =
      let marks : m ≡ marks_of k j 16 a = rw e at x in
      let low : b ≡ each (fell k) j 16 a = rw e at y in
      rw low (turns_parted (Turns-tx_tick k) m j 16 a h tt (λ i l. rw marks (marks_at k j 16 a i l (omega arith))))

-- ---- Rx

abbrev in_table : ℕ → ℕ
in_table r = 256 + r

-- the timer's own step
Kept-own : (a : List ℕ) (r v : ℕ) → r < 256 → Kept a (set a (rx_timer r) v)
Kept-own a r v h = Kept-low (rx_timer r) v (omega arith) (omega arith) (Kept-refl a)

module _ (r u : ℕ) (h : r < u) (l : u < 256) where
  not_rx_timer : Of (in_table u) (rx_timer r) → ⊥
  not_rx_timer = ⊎_elim (λ e. omega arith) (λ e. omega arith)

  rx_ends : (n : ℕ) → n < 16 → NoEnds (Of (in_table u)) n
  rx_ends n b j x y = ⊎_elim (λ e. omega arith) (λ e. omega arith)

  rx_ring : NoRing (Of (in_table u))
  rx_ring j x y = ⊎_elim (λ e. omega arith) (λ e. omega arith)

  rx_wait : Of (in_table u) (waits (requests_start + r)) → ⊥
  rx_wait = ⊎_elim (λ e. omega arith) (λ e. omega arith)

  rx_long : Of (in_table u) (long r) → ⊥
  rx_long = ⊎_elim (λ e. omega arith) (λ e. omega arith)

  rx_missed : (a : List ℕ) → Positions a → Missed (Of (in_table u)) (rx_frame a r).position
  rx_missed a p t x = let q = p r (omega arith) in ⊎_elim (λ e. omega arith) (λ e. omega arith)

  rx_same_after : (a : List ℕ) → Positions a → Same (Of (in_table u)) a (rx_step a r)
  unfolding rx_step pick
  rx_same_after a p =
      Same-then (Same-set _ _ not_rx_timer (Same-refl a))
      (Same-expiry rx_ends rx_ring _ r rx_wait rx_long (rx_missed _ (Positions-kept (Kept-own a r _ (omega arith)) p)))

  rx_same_turn : (k : ℕ) (a : List ℕ) → Positions a → Same (Of (in_table u)) a (rx_tick k a r)
  unfolding timed
  rx_same_turn k a p =
      Same-rx_tick rx_ends rx_ring k a r not_rx_timer rx_wait rx_long (rx_missed _ (Positions-kept (Kept-own a r _ (omega arith)) p))

  rx_apart : (a : List ℕ) (v : ℕ) → rx_step (set a (tx_timer (in_table u)) v) r ≡ set (rx_step a r) (tx_timer (in_table u)) v
  unfolding rx_step pick
  rx_apart a v =
      let p = tx_timer (in_table u) in
      let w = lowered (byte_at a (rx_reload r)) 1 in
      rw (get_or-set_other a p (rx_reload r) v 0 (λ e. omega arith), set_comm a p (rx_timer r) v w (λ e. omega arith))
      (expiry_apart p v (omega arith) (omega arith) (set a (rx_timer r) w) r (omega arith))

Kept-after : (a : List ℕ) (r : ℕ) → r < 256 → Positions a → Kept a (rx_step a r)
unfolding rx_step pick
Kept-after a r h p =
    let s = Kept-own a r (lowered (byte_at a (rx_reload r)) 1) h in
    let q = Positions-kept s p r h in
    Same-then s
    (Same-expiry planned.ends (λ j l m x. x.high l (omega arith)) _ r (λ x. x.low (omega arith) (omega arith))
    (λ x. x.low (omega arith) (omega arith)) (λ t l x. x.high (omega arith) (omega arith)))

rx_tick_turn :
    (k : ℕ) (a : List ℕ) (r : ℕ) → r < 256
    → rx_tick k a r ≡ pick (eqb (mark_of k a (in_table r)) 1) (rx_step (fell k a (in_table r)) r) (fell k a (in_table r))
unfolding rx_tick timed mark_of fell rx_step pick
rx_tick_turn k a r h =
    let e : tx_timer (in_table r) ≡ rx_timer r = omega arith in
    let f : tx_mask (in_table r) ≡ rx_mask r = omega arith in
    let other : (v : ℕ) → byte_at (set a (rx_timer r) v) (rx_reload r) ≡ byte_at a (rx_reload r) =
    λ v. get_or-set_other a (rx_timer r) (rx_reload r) v 0 (λ e. omega arith) in
    rw (e, f, other) (turn-parted (λ x. rx_expiry x r) a (rx_timer r) (byte_at a (rx_reload r)) (no_common_bit k (byte_at a (rx_mask r))))

holds_fell : (k : ℕ) (a : List ℕ) (r : ℕ) → r < 256 → Positions a → Positions (fell k a (in_table r))
unfolding fell
holds_fell k a r h p = Positions-kept (Kept-low (tx_timer (in_table r)) _ (omega arith) (omega arith) (Kept-refl a)) p

Turns-rx_tick : (k : ℕ) → Turns k in_table rx_step (rx_tick k) Positions
Turns-rx_tick k =
    record {
      table = λ j n. omega arith;
      turn = rx_tick_turn k;
      apart = λ a t u v h l. rx_apart t u h l a v;
      same_after = λ a t u h l i. rx_same_after t u h l a i;
      same_turn = λ a t u h l i. rx_same_turn t u h l k a i;
      holds_after = λ a t h i. Positions-kept (Kept-after a t h i) i;
      holds_turn = λ a t h i. Positions-kept (Kept-rx_tick k a t h i) i;
      holds_fell = holds_fell k;
    }

-- ---- the report

report_parted : (h : Bool) (c w : ℕ) → pick h (pick (eqb c 1) w 0) 0 ≡ pick (eqb (expiring h c) 1) w 0
unfolding expiring pick
report_parted false c w = refl
report_parted true c w = go (ℕ_discrete c 1)
  where
    go : Dec (c ≡ 1) → pick (eqb c 1) w 0 ≡ pick (eqb (pick (eqb c 1) 1 0) 1) w 0
    go (yes e) = rw e
    go (no d) = rw (ne_eqb c 1 d)

turn_report : (k : ℕ) (a : List ℕ) (r : ℕ) → r < 256 → rx_report k a r ≡ pick (eqb (mark_of k a (in_table r)) 1) (expiry_report a r) 0
unfolding rx_report mark_of pick
turn_report k a r h =
    let e : tx_timer (in_table r) ≡ rx_timer r = omega arith in
    let f : tx_mask (in_table r) ≡ rx_mask r = omega arith in
    rw (e, f) (report_parted (no_common_bit k (byte_at a (rx_mask r))) (byte_at a (rx_timer r)) _)

report_fell : (k : ℕ) (a : List ℕ) (u r : ℕ) → u < 256 → r < 256 → expiry_report (fell k a (in_table u)) r ≡ expiry_report a r
unfolding fell
report_fell k a u r h l = report_apart (tx_timer (in_table u)) _ (omega arith) (omega arith) a r l

overwritten : (c : Bool) (xs : List ℕ) (p v w : ℕ) → pick c (set (set xs p v) p w) (set xs p v) ≡ set xs p (pick c w v)
unfolding pick
overwritten true xs p v w = set-set xs p v w
overwritten false xs p v w = refl

module _ (m : List ℕ) (j : ℕ) where
  reports_set :
      (n : ℕ) (a report : List ℕ) (p v : ℕ) → j + n ≤ p → marked_report m j n a (set report p v) ≡ set (marked_report m j n a report) p v
  unfolding marked_report
  reports_set zero a report p v h = refl
  reports_set (suc n) a report p v h =
      rw (reports_set n a report p v (omega arith), set_comm (marked_report m j n a report) p (j + n) v _ (λ e. omega arith))
      (sym (into (λ (x : List ℕ). set x p v) _ _ _))

  reports_fell :
      (k n u : ℕ) (a report : List ℕ) → j + n ≤ u → u < 256 → Positions a
      → marked_report m j n (fell k a (in_table u)) report ≡ marked_report m j n a report
  unfolding marked_report
  reports_fell k zero u a report h l p = refl
  reports_fell k (suc n) u a report h l p =
      rw (
        reports_fell k n u a report (omega arith) l p,
        marked_fell (Turns-rx_tick k) m j n u a (omega arith) l p,
        report_fell k (each_marked rx_step m j n a) u (j + n) l (omega arith),
      )

reports_parted :
    (k : ℕ) (m : List ℕ) (j n : ℕ) (a report : List ℕ) → j + n ≤ 256 → Positions a → Marks (Turns-rx_tick k) m j n a
    → marked_report m j n (each (fell k) (in_table j) n a) (with_zeros j n report) ≡ reported_from k j n a report
unfolding each marked_report with_zeros reported_from
reports_parted k m j zero a report h p e = refl
reports_parted k m j (suc n) a report h p e =
    let w = Turns-rx_tick k in
    let u = j + n in
    let low = each (fell k) (in_table j) n a in
    let handled = each (rx_tick k) j n a in
    let q = holds_fells w j n a (omega arith) p in
    let before : (i : ℕ) → i < n → byte_at m i ≡ mark_of k a (in_table (j + i)) = λ i l. e i (omega arith) in
    let report_last = reports_parted k m j n a report (omega arith) p before in
    let area_last = turns_parted w m j n a (omega arith) p before in
    let number : in_table j + n ≡ in_table u = omega arith in
    rw (
      number,
      reports_fell m j k n u low (set (with_zeros j n report) u 0) (omega arith) (omega arith) q,
      reports_set m j n low (with_zeros j n report) u 0 (omega arith),
      report_last,
      marked_fell w m j n u low (omega arith) (omega arith) q,
      area_last,
      report_fell k handled u u (omega arith) (omega arith),
      overwritten (eqb (byte_at m n) 1) (reported_from k j n a report) u 0 (expiry_report handled u),
    ) (ap (set (reported_from k j n a report) u) (rw (mark_turn w m j n a (omega arith) p e) (sym (turn_report k handled u (omega arith)))))

module _ (k j : ℕ) (a b m : List ℕ) (n : ℕ) (e : n ≡ 16) (h : j + 16 ≤ 256) (p : Positions a) (x : m ≡ marks_of k (256 + j) n a)
    (y : b ≡ each (fell k) (256 + j) n a) where
  rx_marks : (i : ℕ) → i < 16 → byte_at m i ≡ mark_of k a (in_table (j + i))
  rx_marks i l =
      let marks : m ≡ marks_of k (256 + j) 16 a = rw e at x in
      let number : in_table (j + i) ≡ 256 + j + i = omega arith in
      rw (number, marks) (marks_at k (256 + j) 16 a i l (omega arith))

  pub rx_sixteen : each_marked rx_step m j 16 b ≡ each (rx_tick k) j 16 a
  rx_sixteen = let low : b ≡ each (fell k) (256 + j) 16 a = rw e at y in rw low (turns_parted (Turns-rx_tick k) m j 16 a h p rx_marks)

  pub sixteen_reported : (report : List ℕ) → marked_report m j 16 b (with_zeros j 16 report) ≡ reported_from k j 16 a report
  sixteen_reported report =
      let low : b ≡ each (fell k) (256 + j) 16 a = rw e at y in rw low (reports_parted k m j 16 a report h p rx_marks)

pub none_reported :
    (m : List ℕ) (j n : ℕ) (a report : List ℕ) → ((i : ℕ) → i < n → byte_at m i ≡ 0) → marked_report m j n a report ≡ report
unfolding marked_report
none_reported m j zero a report none = refl
none_reported m j (suc n) a report none =
    let z : byte_at m n ≡ 0 = none n (omega arith) in
    passes _ _ _ (ne_eqb (byte_at m n) 1 (λ e. omega arith)) ∙ none_reported m j n a report (λ i l. none i (omega arith))
