-- What no call after the opening changes: the header but its counter, the nodes, where each queue's ring lies, the tables of the frames, and the
-- plan. Hence what is read from them is the same after as before, on any area.
use mathlib.Core.Path.{◌≡◌, refl, ap, ◌∙◌}
use mathlib.Core.Bool.{Bool}
use mathlib.Core.List.{List}
use Prim.Native.Nat.{ℕ, ◌+◌, ◌-◌, ◌<◌, ◌≤◌}
use native.Mathlib.Omega.{arith}
use lib.ListN.{set, take}
use Rattle.base.specs.Numbers.{byte_at, low_at}
use Rattle.bits.specs.Payload.{set_bit}
use Rattle.plan.specs.Rows.{Claim}
use Rattle.area.specs.Layout.{counter_byte, order_byte, plan_length_bytes, node_count_byte, can_count_byte, tx_count_bytes, rx_count_bytes}
use Rattle.area.specs.Layout.{queues_start, tx_reloads_start, full_start, entries_start, masks_end, plan_start, plan_room, requests_start, waiter_range, queue, tx_place, rx_place, home, spot}
use Rattle.area.specs.Layout.{marked, counter, order, node_count, type_on, tx_count, rx_count, tx_fields_place, rx_fields_place, home_node, plan_of, stored, id_before, tx_frame, rx_frame}
use Rattle.area.specs.Layout.{claims_at, claims}
use Rattle.area.specs.Queue.{ends_of, queued, scheduled, requested, dequeued}
use Rattle.area.specs.Claims.{RxEvent, sent_if, done, all_done}
use Rattle.area.proofs.Frame.{Same, Same-refl, Same-then, Same-set, same_two, same_tail, Spared, Narrow, Each}
use Rattle.area.proofs.Frame.{spared_spot, spared_queued, spared_dequeued, spared_scheduled, spared_requested, spared_sent_if}
use Rattle.area.proofs.Frame.{spared_done, spared_all_done}

-- ---- the places, by what they are not: an end of a queue, a timer, a long counter or a wait, a ring entry, a payload or a mask, the counter

pub record Planned (j : ℕ) : Type 0 where
  pub ends : (n : ℕ) → n < 16 → queue n + 4 ≤ j → j < queue n + 8 → ⊥
  pub low : tx_reloads_start ≤ j → j < full_start → ⊥
  pub high : entries_start ≤ j → j < masks_end → ⊥
  pub count : j ≡ counter_byte → ⊥

-- the header and the nodes
pub in_header : (j : ℕ) → j < queues_start → (j ≡ counter_byte → ⊥) → Planned j
in_header j h d = record { ends = λ n l x y. omega arith; low = λ x y. omega arith; high = λ x y. omega arith; count = d }

-- where a ring begins, and its room
pub in_queue : (n j : ℕ) → n < 16 → queue n ≤ j → j < queue n + 4 → Planned j
in_queue n j h l m =
    record { ends = λ i k x y. omega arith; low = λ x y. omega arith; high = λ x y. omega arith; count = λ e. omega arith }

-- fullness, Tx places, rows
pub in_tables : (j : ℕ) → full_start ≤ j → j < entries_start → Planned j
in_tables j h l =
    record { ends = λ n k x y. omega arith; low = λ x y. omega arith; high = λ x y. omega arith; count = λ e. omega arith }

-- the plan, and what is free before it
pub in_plan : (j : ℕ) → masks_end ≤ j → Planned j
in_plan j h = record { ends = λ n k x y. omega arith; low = λ x y. omega arith; high = λ x y. omega arith; count = λ e. omega arith }

-- ---- what keeps them

abbrev pub Kept : List ℕ → List ℕ → Type 0
Kept a b = Same Planned a b

pub planned : Spared Planned
planned = record { ends = λ n h j l m p. p.ends n h l m; low = λ j l m p. p.low l m; high = λ j l m p. p.high l m }

pub Kept-refl : (a : List ℕ) → Kept a a
Kept-refl = Same-refl

pub Kept-then : {a b c : List ℕ} → Kept a b → Kept b c → Kept a c
Kept-then = Same-then

-- a store at a timer, a count or a wait; at an entry, a payload or a mask; at the counter
pub Kept-low : {a b : List ℕ} (i v : ℕ) → tx_reloads_start ≤ i → i < full_start → Kept a b → Kept a (set b i v)
Kept-low i v l m = Same-set i v (λ p. p.low l m)

pub Kept-high : {a b : List ℕ} (i v : ℕ) → entries_start ≤ i → i < masks_end → Kept a b → Kept a (set b i v)
Kept-high i v l m = Same-set i v (λ p. p.high l m)

pub Kept-count : {a b : List ℕ} (v : ℕ) → Kept a b → Kept a (set b counter_byte v)
Kept-count v = Same-set counter_byte v (λ p. p.count refl)

pub Kept-spot : (o : ℕ) {a b : List ℕ} (t q v : ℕ) → t < 256 → q < 256 → Kept a b → Kept a (set_bit o b (spot t q) v)
Kept-spot = spared_spot planned

pub Kept-queued : (a : List ℕ) (n t : ℕ) → n < 16 → Kept a (queued a n t)
Kept-queued = spared_queued planned

pub Kept-dequeued : (a : List ℕ) (n : ℕ) → n < 16 → Kept a (dequeued a n)
Kept-dequeued = spared_dequeued planned

pub Kept-scheduled : (a : List ℕ) (t : ℕ) → t < 256 → Kept a (scheduled a t)
Kept-scheduled = spared_scheduled planned

pub Kept-requested : (a : List ℕ) (r : ℕ) → r < 256 → Kept a (requested a r)
Kept-requested = spared_requested planned

pub Kept-sent_if : (flags : ℕ) (changed : Bool) (a : List ℕ) (t : ℕ) → t < 256 → Kept a (sent_if flags changed a t)
Kept-sent_if = spared_sent_if planned

pub Kept-done : (o : ℕ) (e : RxEvent) (a : List ℕ) (c : Claim) → Narrow c → Kept a (done o e a c)
Kept-done = spared_done planned

pub Kept-all_done : (o : ℕ) (e : RxEvent) (cs : List Claim) (a : List ℕ) → Each Narrow cs → Kept a (all_done o e cs a)
Kept-all_done = spared_all_done planned

-- ---- the counter, which only a tick moves

moves : Spared (λ j. j ≡ counter_byte)
moves = record { ends = λ n h j l m p. omega arith; low = λ j l m p. omega arith; high = λ j l m p. omega arith }

pub counter-queued : (a : List ℕ) (n t : ℕ) → n < 16 → counter (queued a n t) ≡ counter a
counter-queued a n t h = (spared_queued moves a n t h).at counter_byte refl

pub counter-dequeued : (a : List ℕ) (n : ℕ) → n < 16 → counter (dequeued a n) ≡ counter a
counter-dequeued a n h = (spared_dequeued moves a n h).at counter_byte refl

pub counter-scheduled : (a : List ℕ) (t : ℕ) → t < 256 → counter (scheduled a t) ≡ counter a
counter-scheduled a t h = (spared_scheduled moves a t h).at counter_byte refl

pub counter-requested : (a : List ℕ) (r : ℕ) → r < 256 → counter (requested a r) ≡ counter a
counter-requested a r h = (spared_requested moves a r h).at counter_byte refl

pub counter-done : (o : ℕ) (e : RxEvent) (a : List ℕ) (c : Claim) → Narrow c → counter (done o e a c) ≡ counter a
counter-done o e a c n = (spared_done moves o e a c n).at counter_byte refl

pub counter-all_done : (o : ℕ) (e : RxEvent) (cs : List Claim) (a : List ℕ) → Each Narrow cs → counter (all_done o e cs a) ≡ counter a
counter-all_done o e cs a n = (spared_all_done moves o e cs a n).at counter_byte refl

-- ---- what is read there

module _ {a b : List ℕ} (k : Kept a b) where
  header : (j : ℕ) → j < queues_start → (j ≡ counter_byte → ⊥) → byte_at b j ≡ byte_at a j
  header j h d = k.at j (in_header j h d)

  two : (j : ℕ) → counter_byte < j → j + 1 < queues_start → low_at b j ≡ low_at a j
  two j h l = same_two k j (in_header j (omega arith) (λ e. omega arith)) (in_header (j + 1) (omega arith) (λ e. omega arith))

  table : (j : ℕ) → full_start ≤ j → j + 1 < entries_start → low_at b j ≡ low_at a j
  table j h l = same_two k j (in_tables j h (omega arith)) (in_tables (j + 1) (omega arith) (omega arith))

  pub marked_kept : marked b ≡ marked a
  unfolding marked
  marked_kept = rw (k.len, header 0 (omega arith) (λ e. omega arith), header 1 (omega arith) (λ e. omega arith))

  pub order_kept : order b ≡ order a
  order_kept = header order_byte (omega arith) (λ e. omega arith)

  pub node_count_kept : node_count b ≡ node_count a
  node_count_kept = rw (header node_count_byte (omega arith) (λ e. omega arith))

  pub type_on_kept : (n : ℕ) → type_on b n ≡ type_on a n
  unfolding type_on
  type_on_kept n = rw (header can_count_byte (omega arith) (λ e. omega arith))

  pub tx_count_kept : tx_count b ≡ tx_count a
  tx_count_kept = rw (two tx_count_bytes (omega arith) (omega arith))

  pub rx_count_kept : rx_count b ≡ rx_count a
  rx_count_kept = rw (two rx_count_bytes (omega arith) (omega arith))

  -- where node n's ring begins, and its room
  pub start_kept : (n : ℕ) → n < 16 → (ends_of b n).start ≡ (ends_of a n).start
  unfolding ends_of
  start_kept n h = same_two k (queue n) (in_queue n _ h (omega arith) (omega arith)) (in_queue n _ h (omega arith) (omega arith))

  pub room_kept : (n : ℕ) → n < 16 → (ends_of b n).room ≡ (ends_of a n).room
  unfolding ends_of
  room_kept n h =
      rw (same_two k (queue n + 2) (in_queue n _ h (omega arith) (omega arith)) (in_queue n _ h (omega arith) (omega arith)))

  pub plan_of_kept : plan_of b ≡ plan_of a
  unfolding plan_of
  plan_of_kept = rw (two plan_length_bytes (omega arith) (omega arith), same_tail plan_start k (λ j h. in_plan j (omega arith)))

  pub stored_kept : stored b ≡ stored a
  unfolding stored
  stored_kept = ap (take plan_room) (same_tail plan_start k (λ j h. in_plan j (omega arith)))

  -- a frame's home, and its ID
  home_kept : (n : ℕ) → n < waiter_range → byte_at b (home n) ≡ byte_at a (home n)
  home_kept n h = k.at (home n) (in_tables (home n) (omega arith) (omega arith))

  pub home_node_kept : (n : ℕ) → n < waiter_range → home_node b n ≡ home_node a n
  home_node_kept n h = rw (home_kept n h)

  before : (j : ℕ) → plan_start ≤ j + 4 → byte_at b j ≡ byte_at a j
  before j h = k.at j (in_plan j (omega arith))

  id_before_kept : (n at : ℕ) → n < waiter_range → id_before b n at ≡ id_before a n at
  unfolding id_before
  id_before_kept n at h =
      rw (
        home_kept n h,
        before (plan_start + at - 2) (omega arith),
        before (plan_start + at - 2 + 1) (omega arith),
        before (plan_start + at - 4) (omega arith),
        before (plan_start + at - 4 + 1) (omega arith),
        before (plan_start + at - 4 + 2) (omega arith),
        before (plan_start + at - 4 + 2 + 1) (omega arith),
      )

  pub tx_frame_kept : (t : ℕ) → t < 256 → tx_frame b t ≡ tx_frame a t
  unfolding tx_frame
  tx_frame_kept t h =
      let place : tx_fields_place b t ≡ tx_fields_place a t = rw (table (tx_place t) (omega arith) (omega arith)) in
      rw (place, stored_kept, home_node_kept t (omega arith), id_before_kept t (tx_fields_place a t) (omega arith))

  pub claims_at_kept : (r at : ℕ) → claims_at b r at ≡ claims_at a r at
  unfolding claims_at
  claims_at_kept r at = rw stored_kept

  module _ (r : ℕ) (h : r < 256) where
    place : rx_fields_place b r ≡ rx_fields_place a r
    place = rw (table (rx_place r) (omega arith) (omega arith))

    pub rx_frame_kept : rx_frame b r ≡ rx_frame a r
    unfolding rx_frame
    rx_frame_kept =
        rw (
          place,
          stored_kept,
          home_node_kept (requests_start + r) (omega arith),
          id_before_kept (requests_start + r) (rx_fields_place a r) (omega arith),
        )

    pub claims_kept : claims b r ≡ claims a r
    unfolding claims
    claims_kept = ap (claims_at b r) place ∙ claims_at_kept r (rx_fields_place a r)
