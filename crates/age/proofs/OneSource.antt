-- Plans with one source, by its failure enable e, reload value r and prescaler p, and what the model makes of one: on these the bound is tried.
use mathlib.Core.Path.{◌≡◌, refl, ap}
use mathlib.Core.List.{List, [], ◌∷◌, ◌++◌}
use Prim.Native.Nat.{ℕ, zero, suc, ◌%◌, ◌<◌}
use native.Mathlib.Omega.{arith}
use native.Mathlib.Decide.{ℕ_discrete}
use borrow.Author.Tests.{eq-eqb, ne_eqb}
use Rattle.std.specs.Prelude.{Some, Ok}
use Rattle.base.specs.Pick.{pick}
use Rattle.base.specs.Numbers.{Bytes, at_most}
use Rattle.base.proofs.Picks.{by_eqb, alike}
use Rattle.bits.specs.Digit.{digit, set_digit}
use Rattle.bits.specs.Payload.{digit_of, bit_at, set_bit, copied, differs}
use Rattle.bits.specs.Owners.{owned, clash}
use Rattle.clock.specs.Counter.{Prescaler, one, two, ten, twenty}
use Rattle.clock.specs.Timer.{lowered}
use Rattle.records.specs.declared.record.Id.TheVariants.{Standard}
use Rattle.records.specs.declared.record.RxFrame.{RxFrame}
use Rattle.records.specs.declared.record.NodeType.TheVariants.{Can}
use Rattle.records.specs.declared.record.Entry.{Entry}
use Rattle.records.specs.Ids.{behind_id, key_of, same_id}
use Rattle.records.specs.Kinds.{form_of, length_of, eight_at, tx_at, rx_at, tx_record, rx_record, fields_at, tx_kind, rx_kind, kind_of, stage_of_kind, stage_of}
use Rattle.records.specs.Records.{record_at, size_of, records_from, records_at, records}
use Rattle.records.specs.Nodes.{type_of, is_lin, frame}
use Rattle.plan.specs.Progress.{row_key, counted, row_after, after, start}
use Rattle.plan.specs.Tests.{followed, is_kind, is_whole, may_stand, can_first, has_room, is_prescaler, zero_past, id_in_range, tx_in_range}
use Rattle.plan.specs.Tests.{rx_in_range, in_range, is_lin_id, frame_fits, fits_node, rises, in_data, is_free, indicator_in_data, indicator_is_free}
use Rattle.plan.specs.Check.{good_with, need, placed, judged, sizes_after, sets_after, ended, verdict_of, check_on, check_plan}
use Rattle.plan.specs.Rows.{copy, with_failure, claims_from, awaited, row_of, rows_from, rows_of, tx_frames, tx_of, nodes_in, types_in, order_in}
use Rattle.facts.specs.Good.{Each}
use Rattle.facts.specs.PlanCases.{head, node, signal, destination}
use Rattle.answers.specs.declared.Received.TheVariants.{Accepted}
use Rattle.answers.specs.declared.Framing.TheVariants as framing
use Rattle.answers.specs.declared.TakenFrame.{TakenFrame}
use Rattle.answers.specs.declared.Taken.TheVariants.{Frame}
use Rattle.model.specs.Plan.{Plan, said}
use Rattle.model.specs.State.{State, with_number}
use Rattle.model.specs.Opening.{mapped, begun}
use Rattle.model.specs.Scheduling.{is_in, joined, scheduled}
use Rattle.model.specs.Reception.{find, sent_if, put_by, put, restarted, accepted, found_answer, found_state, received_answer, received as received_state}
use Rattle.model.specs.Tick.{handled, tx_lowered, tx_turn, tx_turns, failed_by, failed, expired, rx_expiry, rx_lowered, rx_turn, rx_turns, ticked_state}
use Rattle.model.specs.Tick.{tick_answer, tick_report, ticked as ticked_if}
use Rattle.model.specs.Take.{handed, framing_of, entry_answer, oldest_answer, oldest_payload, taken_answer, taken_payload}
use Rattle.model.specs.Calls.{Call, reception, tick, take, received, ticked, taken, answer_of, next_of}
use Rattle.age.proofs.Due.{prescaler_range}
use Rattle.age.proofs.Quiet.{Sets, fell}

-- ---- the plan

-- the indicator is off or on
pub data Enable : ℕ → Type 0 where
  off : Enable 0
  on : Enable 1

-- a Tx frame of two bytes that is sent at each reception
abbrev sink : List ℕ
sink = head ++ node ++ 0x03 ∷ 0x00 ∷ 0x01 ∷ 0x00 ∷ 0x02 ∷ 0x01 ∷ 0x00 ∷ 0x00 ∷ 0x01 ∷ 0x00 ∷ 0x00 ∷ 0x00 ∷ 0x00 ∷ 0x00 ∷ 0x00 ∷ 0x00 ∷ 0x00 ∷ []

-- an Rx frame of one byte, which goes to the Tx frame's first; its failure bit is the last of the second
abbrev source : ℕ → ℕ → ℕ → List ℕ
source e r p = (0x04 ∷ 0x00 ∷ 0x00 ∷ 0x20 ∷ 0x01 ∷ p ∷ r ∷ 0x00 ∷ e ∷ 0x0F ∷ 0x00 ∷ []) ++ signal 0 8 ++ destination 0 0

unfoldable pub one_source : ℕ → ℕ → ℕ → List ℕ
one_source e r p = sink ++ source e r p

pub one_source_good : (r : ℕ) {e p : ℕ} → Enable e → Prescaler p → check_plan (one_source e r p) ≡ good_with 1 1 1
unfolding one_source pick digit set_digit owned clash form_of length_of eight_at tx_at rx_at behind_id tx_record rx_record fields_at record_at tx_kind rx_kind kind_of stage_of_kind stage_of size_of records_from
    records_at records at_most key_of row_key counted row_after after start followed is_kind is_whole may_stand can_first has_room is_prescaler zero_past id_in_range tx_in_range rx_in_range
    in_range is_lin_id frame_fits fits_node rises in_data is_free indicator_in_data indicator_is_free need placed judged sizes_after sets_after ended verdict_of check_on check_plan
one_source_good r off one = refl
one_source_good r off two = refl
one_source_good r off ten = refl
one_source_good r off twenty = refl
one_source_good r on one = refl
one_source_good r on two = refl
one_source_good r on ten = refl
one_source_good r on twenty = refl

-- ---- its bytes

enable_byte : {e : ℕ} → Enable e → e < 256
enable_byte off = omega arith
enable_byte on = omega arith

Bytes-then : (xs ys : List ℕ) → Each (λ x. x < 256) xs → Bytes ys → Bytes (xs ++ ys)
unfolding Each
Bytes-then [] ys e b k = b k
Bytes-then (x ∷ xs) ys e b zero = e.0
Bytes-then (x ∷ xs) ys e b (suc k) = Bytes-then xs ys e.1 b k

pub one_source_bytes : {e r p : ℕ} → Enable e → r < 256 → Prescaler p → Bytes (one_source e r p)
unfolding one_source Each
one_source_bytes {e} {r} {p} f l g =
    Bytes-then sink (source e r p) (omega arith)
    (Bytes-then (source e r p) [] (omega (arith, enable_byte f, prescaler_range g)) (λ k. omega arith))

-- ---- what it says

abbrev pub frame_of : ℕ → ℕ → ℕ → RxFrame
frame_of e r p = record { node = 0; id = Standard 0x20; size = 1; prescaler = p; reload = r; initial = 0; enable = e; position = 15; long = 0 }

abbrev pub plan_of : ℕ → ℕ → ℕ → Plan
plan_of e r p =
    record {
      nodes = 1;
      types = Can ∷ [];
      order = 0;
      tx =
          record {
            node = 0;
            id = Standard 0x100;
            size = 2;
            prescaler = 1;
            reload = 0;
            initial = 0;
            flags = 1;
            payload = 0 ∷ 0 ∷ 0 ∷ 0 ∷ 0 ∷ 0 ∷ 0 ∷ 0 ∷ [];
          }
          ∷ [];
      rows =
          record {
            number = 0;
            frame = frame_of e r p;
            claims = with_failure 0 (awaited (frame_of e r p)) 0 (record { rx = 0; tx = 0; at = 0; from = copy 0 8 } ∷ []);
          }
          ∷ [];
    }

module _ (e r p : ℕ) where
  pub one_source_says : said (one_source e r p) ≡ plan_of e r p
  unfolding one_source pick form_of length_of eight_at tx_at rx_at behind_id tx_record rx_record fields_at record_at tx_kind rx_kind kind_of size_of records_from records_at records claims_from row_of rows_from
      rows_of tx_frames tx_of nodes_in types_in type_of order_in
  one_source_says = refl

  pub one_source_order : order_in (records (one_source e r p)) ≡ 0
  one_source_order = ap (λ x. x.order) one_source_says

  pub one_source_types : types_in (records (one_source e r p)) ≡ Can ∷ []
  one_source_types = ap (λ x. x.types) one_source_says

  pub one_source_rows : rows_of (one_source e r p) ≡ (plan_of e r p).rows
  one_source_rows = ap (λ x. x.rows) one_source_says

-- ---- the calls

-- what a fix brings, and what a take hands back of it
abbrev pub brought : List ℕ
brought = 0x2C ∷ []

abbrev pub given : List ℕ
given = 0x2C ∷ 0x00 ∷ []

-- the frame that it is taken as
abbrev pub taken_frame : TakenFrame
taken_frame = record { tx = record { 0 = 0 }; id = Standard 0x100; size = 2; waiting = 0; framing = framing.Can }

abbrev pub a_fix : Call
a_fix = reception 0 (Standard 0x20) brought

abbrev pub a_tick : Call
a_tick = tick (0 ∷ [])

-- a state, by what is kept and waits, the number of the next tick, and what the Rx timer holds
abbrev pub state_of : List ℕ → List Entry → ℕ → ℕ → State
state_of kept waiting n v = record { number = n; kept = kept ∷ []; tx_timers = 0 ∷ []; rx_timers = v ∷ []; longs = 0 ∷ []; queues = waiting ∷ [] }

-- before any reception, and after a fix
abbrev pub blank : ℕ → ℕ → State
blank = state_of (0 ∷ 0 ∷ 0 ∷ 0 ∷ 0 ∷ 0 ∷ 0 ∷ 0 ∷ []) []

abbrev pub fixed : ℕ → ℕ → State
fixed = state_of (0x2C ∷ 0 ∷ 0 ∷ 0 ∷ 0 ∷ 0 ∷ 0 ∷ 0 ∷ []) (frame 0 ∷ [])

pub fix_next : (r p : ℕ) {e : ℕ} → Enable e → (n v : ℕ) → next_of (plan_of e r p) (blank n v) a_fix ≡ fixed n r
unfolding next_of received_state find same_id found_state accepted restarted put put_by sent_if with_failure awaited scheduled is_in joined copied differs bit_at set_bit
    digit_of digit set_digit pick is_lin
fix_next r p off n v = refl
fix_next r p on n v = refl

module _ (e r p : ℕ) where
  pub begins : begun (plan_of e r p) ≡ blank 0 0
  unfolding begun mapped
  begins = refl

  pub fix_answer : (n v : ℕ) → answer_of (plan_of e r p) (blank n v) a_fix ≡ received (Ok Accepted)
  unfolding answer_of received_answer find same_id found_answer pick is_lin
  fix_answer n v = refl

  pub take_answer : (n v : ℕ) → answer_of (plan_of e r p) (fixed n v) (take 0) ≡ taken (Ok (Some (Frame taken_frame))) given
  unfolding answer_of taken_answer taken_payload oldest_answer oldest_payload entry_answer handed framing_of pick is_lin
  take_answer n v = refl

  module _ (kept : List ℕ) (waiting : List Entry) (n v : ℕ) where
    abbrev s : ℕ → State
    s timer = state_of kept waiting n timer

    pub answer_of_tick : answer_of (plan_of e r p) (s v) a_tick ≡ ticked (Ok tt) (tick_report (plan_of e r p) (s v) (0 ∷ []))
    unfolding answer_of tick_answer pick
    answer_of_tick = refl

    sends_none : tx_turns (plan_of e r p) 1 (s v) ≡ s v
    unfolding pick lowered tx_lowered tx_turn tx_turns
    sends_none = alike (handled (s v) 1) (s v)

    off_expiry : (e ≡ 1 → ⊥) → expired (plan_of e r p) (s (lowered r v)) 0 ≡ s (lowered r v)
    unfolding expired failed failed_by with_failure awaited lowered pick
    off_expiry d = rw (ne_eqb e 1 d)

    pub tick_next : (Sets e p n v → ⊥) → next_of (plan_of e r p) (s v) a_tick ≡ state_of kept waiting (suc n) (fell r p n v)
    unfolding next_of ticked_if ticked_state pick is_lin handled rx_expiry rx_lowered rx_turn rx_turns fell
    tick_next d = rw sends_none (go (ℕ_discrete (n % p) 0))
      where
        go : Dec (n % p ≡ 0) → with_number (rx_turns (plan_of e r p) 1 (s v)) (suc n) ≡ state_of kept waiting (suc n) (fell r p n v)
        go (yes h) =
            rw (eq-eqb _ _ h)
            (by_eqb (λ x. with_number x (suc n) ≡ state_of kept waiting (suc n) (lowered r v)) v 1 _ _
            (λ l. rw (off_expiry (λ o. d (record { on = o; handled = h; last = l }))))
            (λ l. refl))
        go (no h) = rw (ne_eqb _ _ h)
