-- Laws of an opened area.
use Rattle.std.proofs.Common.{◌≡◌, ℕ, ◌+◌, ◌<◌, ◌≤◌, true, List, length, take, drop, refl, ◌∙◌, arith, length-drop, length-take-le, get_or-drop, get_or-take, ext_get_or, eq-eqb, le-leb}
use Rattle.base.specs.Pick.{pick}
use Rattle.base.specs.Numbers.{byte_at, low_at}
use Rattle.base.proofs.Ranges.{at_most_is}
use Rattle.records.specs.Records.{records}
use Rattle.plan.specs.Check.{good_with, check_plan, sets_of}
use Rattle.plan.specs.Rows.{tx_of, rows_of, cans_in}
use Rattle.facts.proofs.GoodFacts.{good_facts}
use Rattle.facts.proofs.Bounds.{good_bounds}
use Rattle.area.specs.Layout.{area_length, counter_byte, order_byte, plan_length_bytes, node_count_byte, can_count_byte, tx_count_bytes, rx_count_bytes, nodes_start}
use Rattle.area.specs.Layout.{plan_start, plan_room, LongEnough, marked, counter, node_count, can_count, tx_count, rx_count, plan_length, plan_of}
use Rattle.opening.specs.Opened.{blank, with_records, opened}
use Rattle.opening.proofs.Kept.{Same, Same-then, Same-records, Same-rings, Same-fullness}
use Rattle.opening.proofs.Alike.{Alike, Alike-records, Alike-rings, Alike-fullness}
use Rattle.opening.proofs.Counted.{CountsOf, counts}
use Rattle.opening.proofs.BlankLaws.{Alike-blank, blank_same, blank-length, blank_mark, blank_long, blank-zero, blank-plan, blank_behind}

-- the rings and the fullness stand in the tables
last_same : (P : ℕ → Type 0) → ((j : ℕ) → nodes_start ≤ j → j < plan_start → P j → ⊥) → (plan a : List ℕ)
    → Same P (with_records 0 (records plan) (blank plan a)) (opened plan a)
unfolding opened
last_same P tables plan a = Same-then P (Same-rings P tables 16 _ (omega arith)) (Same-fullness P tables (sets_of plan) 256 _ (omega arith))

-- P: a place that nothing is stored at once the area is blank
opened_same : (P : ℕ → Type 0) → (P order_byte → ⊥) → ((j : ℕ) → node_count_byte ≤ j → j < plan_start → P j → ⊥) → (plan a : List ℕ)
    → Same P (blank plan a) (opened plan a)
opened_same P order counted plan a =
    Same-then P (Same-records P order counted 0 (records plan) _) (last_same P (λ j low high. counted j (omega arith) high) plan a)

pub opened-length : (plan a : List ℕ) → length (opened plan a) ≡ length a
opened-length plan a = (opened_same (λ j. ⊥) (λ p. p) (λ j low high p. p) plan a).len ∙ blank-length plan a

-- past the area nothing is written
pub opened_past_area : (plan a : List ℕ) → length plan ≤ plan_room → (j : ℕ) → area_length ≤ j → byte_at (opened plan a) j ≡ byte_at a j
opened_past_area plan a short j h =
    let P : ℕ → Type 0 = λ i. area_length ≤ i in
    (Same-then P (blank_same plan a P short (λ i l p. omega arith)) (opened_same P (λ p. omega arith) (λ i low high p. omega arith) plan a)).at j h

module _ (plan a : List ℕ) (room : LongEnough a) where
  -- the header but for the order and the counts, and the plan, are the blank area's
  kept : Same (λ j. (j ≡ order_byte → ⊥) × (node_count_byte ≤ j → plan_start ≤ j)) (blank plan a) (opened plan a)
  kept = opened_same _ (λ p. p.0 refl) (λ j low high p. omega (arith, p.1 low)) plan a

  pub opened_mark : (byte_at (opened plan a) 0 ≡ 0x47) × (byte_at (opened plan a) 1 ≡ 0x57)
  opened_mark =
      let m = blank_mark plan a room in
      (kept.at 0 (λ e. omega arith, λ h. omega arith) ∙ m.0, kept.at 1 (λ e. omega arith, λ h. omega arith) ∙ m.1)

  pub opened-marked : marked (opened plan a) ≡ true
  unfolding marked pick
  opened-marked =
      rw
      (opened-length plan a, le-leb area_length (length a) room, eq-eqb (byte_at (opened plan a) 0) 0x47 opened_mark.0)
      (eq-eqb (byte_at (opened plan a) 1) 0x57 opened_mark.1)

  pub opened-counter : counter (opened plan a) ≡ 0
  opened-counter =
      kept.at counter_byte (λ e. omega arith, λ h. omega arith)
      ∙ blank-zero plan a room counter_byte (omega arith) (λ e. omega arith) (λ e. omega arith) (λ e. omega arith) (λ e. omega arith)

  -- the plan's bytes, and zeros behind them
  pub opened_byte : length plan ≤ plan_room → (i : ℕ) → i < length plan → byte_at (opened plan a) (plan_start + i) ≡ byte_at plan i
  opened_byte short i h = kept.at (plan_start + i) (λ e. omega arith, λ m. omega arith) ∙ blank-plan plan a room short i h

  pub opened_behind : (j : ℕ) → plan_start + length plan ≤ j → j < area_length → byte_at (opened plan a) j ≡ 0
  opened_behind j low h = kept.at j (λ e. omega arith, λ m. omega arith) ∙ blank_behind plan a room j low h

  pub opened-plan : length plan ≤ plan_room → plan_of (opened plan a) ≡ plan
  unfolding plan_of
  opened-plan short =
      let low = kept.at plan_length_bytes (λ e. omega arith, λ h. omega arith) in
      let high = kept.at (plan_length_bytes + 1) (λ e. omega arith, λ h. omega arith) in
      let m : low_at (opened plan a) plan_length_bytes ≡ length plan = omega (arith, blank_long plan a room short) in
      let n : plan_length (opened plan a) ≡ length plan = rw m (at_most_is plan_room (length plan) short) in
      let l : length (take (length plan) (drop plan_start (opened plan a))) ≡ length plan =
      length-take-le (length plan) (drop plan_start (opened plan a)) (omega (arith, length-drop plan_start (opened plan a), opened-length plan a)) in
      rw n
      (ext_get_or 0 (take (length plan) (drop plan_start (opened plan a))) plan l
      (λ i h. let k : i < length plan = omega arith in
      get_or-take (length plan) (drop plan_start (opened plan a)) i 0 k ∙ get_or-drop plan_start (opened plan a) i 0
      ∙ opened_byte short i k))

-- an opened area is a function of the plan alone
pub opened_alike : (plan a b : List ℕ) → LongEnough a → LongEnough b → Alike (opened plan a) (opened plan b)
unfolding opened
opened_alike plan a b first second =
    Alike-fullness (sets_of plan) 256 (Alike-rings 16 (omega arith) (Alike-records 0 (records plan) (Alike-blank plan a b first second)))

-- the counts that the call answers are those in the area
pub record Counted (a : List ℕ) (n t r : ℕ) : Type 0 where
  pub nodes : node_count a ≡ n
  pub tx : tx_count a ≡ t
  pub rx : rx_count a ≡ r

module _ (plan a : List ℕ) (room : LongEnough a) where
  abbrev recorded : List ℕ
  recorded = with_records 0 (records plan) (blank plan a)

  -- the records count from zero, and what comes after them leaves the counts
  from_zero : (j : ℕ) → node_count_byte ≤ j → j < plan_start → byte_at (blank plan a) j ≡ 0
  from_zero j low high = blank-zero plan a room j high (λ e. omega arith) (λ e. omega arith) (λ e. omega arith) (λ e. omega arith)

  counted : CountsOf (records plan) (blank plan a) recorded
  counted = counts 0 (records plan) (blank plan a) (omega (arith, blank-length plan a))

  left : Same (λ j. j < nodes_start) recorded (opened plan a)
  left = last_same (λ j. j < nodes_start) (λ j low high p. omega arith) plan a

  -- the count of CAN nodes
  pub opened_cans : cans_in (records plan) < 256 → can_count (opened plan a) ≡ cans_in (records plan)
  opened_cans h =
      let none' = from_zero can_count_byte (omega arith) (omega arith) in
      omega (arith, left.at can_count_byte (omega arith), counted.can (omega arith))

pub opened_counts : (plan a : List ℕ) (n t r : ℕ) → check_plan plan ≡ good_with n t r → LongEnough a → Counted (opened plan a) n t r
unfolding tx_of rows_of
opened_counts plan a n t r good room =
    let most = good_bounds plan n t r good in
    let few = (good_facts plan n t r good).1 in
    let zero = from_zero plan a room in
    let c = counted plan a room in
    let s = left plan a room in
    let nodes₀ = zero node_count_byte (omega arith) (omega arith) in
    let tx₀ = zero tx_count_bytes (omega arith) (omega arith) in
    let tx₁ = zero (tx_count_bytes + 1) (omega arith) (omega arith) in
    let rx₀ = zero rx_count_bytes (omega arith) (omega arith) in
    let rx₁ = zero (rx_count_bytes + 1) (omega arith) (omega arith) in
    let nodes' : byte_at (opened plan a) node_count_byte ≡ n =
    omega (arith, s.at node_count_byte (omega arith), c.nodes (omega (arith, few.nodes, most.nodes)), few.nodes) in
    let tx' : low_at (opened plan a) tx_count_bytes ≡ t =
    omega (arith, s.at tx_count_bytes (omega arith), s.at (tx_count_bytes + 1) (omega arith), c.tx (omega (arith, few.tx, most.tx)), few.tx) in
    let rx' : low_at (opened plan a) rx_count_bytes ≡ r =
    omega (arith, s.at rx_count_bytes (omega arith), s.at (rx_count_bytes + 1) (omega arith), c.rx 0 (omega (arith, few.rx, most.rx)), few.rx) in
    record {
      nodes = rw nodes' (at_most_is 16 n (omega (arith, most.nodes)));
      tx = rw tx' (at_most_is 256 t (omega (arith, most.tx)));
      rx = rw rx' (at_most_is 256 r (omega (arith, most.rx)));
    }
