-- The plan stands verbatim in an opened area, with zeros behind it: so what is read there is what the plan says.
use mathlib.Core.Path.{◌≡◌, refl, sym, ap, subst, ◌∙◌}
use mathlib.Core.Bool.{true, false}
use mathlib.Core.List.{List, ◌∷◌}
use mathlib.Core.Option.{Option, none, some}
use Prim.Native.Nat.{ℕ, zero, suc, ◌+◌, ◌-◌, ◌%◌, ◌≤◌, ◌<◌}
use native.Mathlib.Decide.{dec_lt, ℕ_discrete}
use native.Mathlib.Omega.{arith}
use lib.Dec.{ltb}
use lib.ListN.{length}
use borrow.Author.Tests.{lt-ltb, le-ltb}
use Rattle.base.proofs.Apart.{differ}
use Rattle.base.specs.Pick.{pick}
use Rattle.base.specs.Numbers.{byte_at, two_at, four_at}
use Rattle.base.proofs.Picks.{by_eqb}
use Rattle.records.specs.declared.record.Id.{Id}
use Rattle.records.specs.declared.record.Id.TheVariants.{Standard, Extended}
use Rattle.records.specs.declared.record.TxFrame.{TxFrame}
use Rattle.records.specs.declared.record.RxFrame.{RxFrame}
use Rattle.records.specs.declared.record.SignalBody.{SignalBody}
use Rattle.records.specs.declared.record.DestinationBody.{DestinationBody}
use Rattle.records.specs.declared.record.Record.{Record}
use Rattle.records.specs.declared.record.Record.TheVariants.{Tx, Rx, Signal, Destination}
use Rattle.records.specs.declared.decode.Step.{Step}
use Rattle.records.specs.Views.{on_tx, on_rx, on_destination}
use Rattle.records.specs.Ids.{behind_id, Possible}
use Rattle.records.specs.Kinds.{form_of, length_of, tx_kind, rx_kind, kind_of, eight_at, tx_at, rx_at, tx_record, rx_record, tx_fields, rx_fields, signal_bytes}
use Rattle.records.specs.Records.{record_at, size_of, records_at, records}
use Rattle.records.proofs.RecordLaws.{IdAt, two, four, by_record, step_onward, record_end, record_cut, step_whole, records_end, records_step}
use Rattle.plan.specs.Rows.{with_failure, claims_from, awaited}
use Rattle.facts.specs.Good.{Each, Along, Followed, GoodPlan}
use Rattle.claims.specs.Claims.{Whole}
use Rattle.claims.proofs.Lawful.{in_place_whole, Indicated-by}
use Rattle.area.specs.Layout.{plan_start, plan_room, extended_home, LongEnough, home, home_node, stored, id_before, rx_there, failure_tx, claims_at}
use Rattle.area.proofs.StoredLaws.{stored_byte, stored-length}
use Rattle.area.proofs.Copies.{copies_destination, copies_signal, copies_stop, copies_end}
use Rattle.opening.specs.Opened.{home_of, opened}
use Rattle.opening.proofs.OpenedLaws.{opened-length, opened_byte, opened_behind}

-- some bytes begin with the plan, and then comes no kind
pub record Verbatim (plan bytes : List ℕ) : Type 0 where
  pub more : length plan < length bytes
  pub byte : (k : ℕ) → k < length plan → byte_at bytes k ≡ byte_at plan k
  pub behind : byte_at bytes (length plan) ≡ 0

pub opened_verbatim : (plan a : List ℕ) → LongEnough a → length plan < plan_room → Verbatim plan (stored (opened plan a))
opened_verbatim plan a room short =
    record {
      more = omega (arith, stored-length (opened plan a) (omega (arith, opened-length plan a)));
      byte = λ k h. stored_byte (opened plan a) k (omega arith) ∙ opened_byte plan a room (omega arith) k h;
      behind = stored_byte (opened plan a) (length plan) short ∙ opened_behind plan a room (plan_start + length plan) (omega arith) (omega arith);
    }

-- ---- the records at their places

-- the first of the records from a place on is the one at the place
pub records_head :
    (plan : List ℕ) (at : ℕ) (r : Record) (rs : List Record) → records_at plan at ≡ r ∷ rs
    → (at < length plan) × (record_at plan at ≡ r) × (records_at plan (at + size_of r) ≡ rs)
records_head plan at r rs e = go (dec_lt at (length plan))
  where
    go : Dec (at < length plan) → (at < length plan) × (record_at plan at ≡ r) × (records_at plan (at + size_of r) ≡ rs)
    go (yes h) =
        let s = sym (records_step plan at h) ∙ e in
        let is : record_at plan at ≡ r = cc in
        (h, is, (cc))
    go (no h) =
        let none = records_end plan at (omega arith) in
        absurd (differ cc)

-- how many bytes they have
length_tx : (id : Id) → length_of (tx_kind id) ≡ behind_id id + tx_fields
unfolding length_of form_of tx_kind behind_id pick
length_tx (Standard n) = refl
length_tx (Extended n) = refl

length_rx : (id : Id) → length_of (rx_kind id) ≡ behind_id id + rx_fields
unfolding length_of form_of rx_kind behind_id pick
length_rx (Standard n) = refl
length_rx (Extended n) = refl

tx_size : (x : TxFrame) → size_of (Tx x) ≡ behind_id x.id + tx_fields
unfolding size_of kind_of
tx_size x = length_tx x.id

rx_size : (x : RxFrame) → size_of (Rx x) ≡ behind_id x.id + rx_fields
unfolding size_of kind_of
rx_size x = length_rx x.id

signal_size : (g : SignalBody) → size_of (Signal g) ≡ signal_bytes
unfolding size_of kind_of length_of form_of pick
signal_size g = refl

destination_size : (d : DestinationBody) → size_of (Destination d) ≡ 4
unfolding size_of kind_of length_of form_of pick
destination_size d = refl

module _ (plan : List ℕ) (at : ℕ) where
  -- a record at a place is before the plan's end, and ends by it
  ends_by : (r : Record) (n : ℕ) → record_at plan at ≡ r → size_of r ≡ n → 0 < n → at + n ≤ length plan
  unfolding size_of
  ends_by r n is size one = go (dec_lt at (length plan))
    where
      go : Dec (at < length plan) → at + n ≤ length plan
      go (yes h) = omega (arith, (step_onward plan at h).1, ap size_of is)
      go (no h) = absurd (omega (arith, ap size_of (sym is ∙ record_end plan at (omega arith))))

  -- a frame's record ends behind its fields, which begin behind its ID
  pub tx_ends : (x : TxFrame) → record_at plan at ≡ Tx x → at + behind_id x.id + tx_fields ≤ length plan
  tx_ends x is = omega (arith, tx_size x, ends_by (Tx x) (behind_id x.id + tx_fields) is (tx_size x) (omega arith))

  pub rx_ends : (x : RxFrame) → record_at plan at ≡ Rx x → at + behind_id x.id + rx_fields ≤ length plan
  rx_ends x is = omega (arith, rx_size x, ends_by (Rx x) (behind_id x.id + rx_fields) is (rx_size x) (omega arith))

  -- and says what stands there
  tx_says : (x : TxFrame) → record_at plan at ≡ Tx x → IdAt plan at x.id × (tx_at x.node x.id plan (at + behind_id x.id) ≡ x)
  unfolding tx_record rx_record tx_at
  tx_says x is =
      let P : Record → Type 0 = on_tx (Unit {0}) (λ y. IdAt plan at y.id × (tx_at y.node y.id plan (at + behind_id y.id) ≡ y)) in
      subst P is (by_record P plan at (λ fault. tt) tt tt (λ id stands. (stands, refl)) (λ id stands. tt) tt tt)

  rx_says : (x : RxFrame) → record_at plan at ≡ Rx x → IdAt plan at x.id × (rx_at x.node x.id plan (at + behind_id x.id) ≡ x)
  unfolding rx_record rx_at tx_record
  rx_says x is =
      let P : Record → Type 0 = on_rx (Unit {0}) (λ y. IdAt plan at y.id × (rx_at y.node y.id plan (at + behind_id y.id) ≡ y)) in
      subst P is (by_record P plan at (λ fault. tt) tt tt (λ id stands. tt) (λ id stands. (stands, refl)) tt tt)

  destination_says : (d : DestinationBody) → record_at plan at ≡ Destination d → two_at plan (at + 1) ≡ d.tx.0
  unfolding tx_record rx_record
  destination_says d is =
      let P : Record → Type 0 = on_destination (Unit {0}) (λ y. two_at plan (at + 1) ≡ y.tx.0) in
      subst P is (by_record P plan at (λ fault. tt) tt tt (λ id stands. tt) (λ id stands. tt) tt refl)

-- ---- the frames, read by their homes and places

-- a home says the node, and the format of the ID
pub home_of_node : (node : ℕ) (id : Id) → node < 16 → home_of node id % 16 ≡ node
unfolding home_of
home_of_node node (Standard n) h = omega arith
home_of_node node (Extended n) h = omega arith

home_short : (node n : ℕ) → ltb (home_of node (Standard n)) extended_home ≡ true
unfolding home_of
home_short node n = lt-ltb (node % 16) extended_home (omega arith)

home_long : (node n : ℕ) → ltb (home_of node (Extended n)) extended_home ≡ false
unfolding home_of
home_long node n = le-ltb (node % 16 + extended_home) extended_home (omega arith)

module _ (plan a : List ℕ) (v : Verbatim plan (stored a)) (short : length plan < plan_room) where
  -- a byte of the plan, as one of the area
  byte : (k : ℕ) → k < length plan → byte_at a (plan_start + k) ≡ byte_at plan k
  byte k h = sym (stored_byte a k (omega arith)) ∙ v.byte k h

  at_byte : (j k : ℕ) → j ≡ plan_start + k → k < length plan → byte_at a j ≡ byte_at plan k
  at_byte j k e h = rw e (byte k h)

  -- the ID before the fields of a record that stands at a place
  id_read :
      (k at node : ℕ) (id : Id) → IdAt plan at id → Possible id → at + behind_id id ≤ length plan → byte_at a (home k) ≡ home_of node id
      → id_before a k (at + behind_id id) ≡ id
  unfolding id_before behind_id Possible pick
  id_read k at node (Standard n) two p h e =
      rw (
        e,
        home_short node n,
        at_byte (plan_start + (at + 4) - 2) (at + 2) (omega arith) (omega arith),
        at_byte (plan_start + (at + 4) - 2 + 1) (at + 2 + 1) (omega arith) (omega arith),
      )
  id_read k at node (Extended n) four p h e =
      let whole : four_at a (plan_start + (at + 6) - 4) ≡ four_at plan (at + 2) =
      rw (
        at_byte (plan_start + (at + 6) - 4) (at + 2) (omega arith) (omega arith),
        at_byte (plan_start + (at + 6) - 4 + 1) (at + 2 + 1) (omega arith) (omega arith),
        at_byte (plan_start + (at + 6) - 4 + 2) (at + 2 + 2) (omega arith) (omega arith),
        at_byte (plan_start + (at + 6) - 4 + 2 + 1) (at + 2 + 2 + 1) (omega arith) (omega arith),
      ) in
      rw (e, home_long node n, whole) (ap Extended (omega arith))

  -- and the fields
  tx_at-stored : (node : ℕ) (id : Id) (at : ℕ) → at + tx_fields ≤ length plan → tx_at node id (stored a) at ≡ tx_at node id plan at
  unfolding tx_at eight_at
  tx_at-stored node id at h =
      rw (
        v.byte at (omega arith),
        v.byte (at + 1) (omega arith),
        v.byte (at + 2) (omega arith),
        v.byte (at + 3) (omega arith),
        v.byte (at + 4) (omega arith),
        v.byte (at + 5) (omega arith),
        v.byte (at + 5 + 1) (omega arith),
        v.byte (at + 5 + 2) (omega arith),
        v.byte (at + 5 + 3) (omega arith),
        v.byte (at + 5 + 4) (omega arith),
        v.byte (at + 5 + 5) (omega arith),
        v.byte (at + 5 + 6) (omega arith),
        v.byte (at + 5 + 7) (omega arith),
      )

  rx_at-stored : (node : ℕ) (id : Id) (at : ℕ) → at + rx_fields ≤ length plan → rx_at node id (stored a) at ≡ rx_at node id plan at
  unfolding rx_at
  rx_at-stored node id at h =
      rw (
        v.byte at (omega arith),
        v.byte (at + 1) (omega arith),
        v.byte (at + 2) (omega arith),
        v.byte (at + 3) (omega arith),
        v.byte (at + 4) (omega arith),
        v.byte (at + 5) (omega arith),
        v.byte (at + 6) (omega arith),
      )

  module _ (k at : ℕ) where
    pub tx_read :
        (x : TxFrame) → record_at plan at ≡ Tx x → x.node < 16 → Possible x.id → byte_at a (home k) ≡ home_of x.node x.id
        → tx_at (home_node a k) (id_before a k (at + behind_id x.id)) (stored a) (at + behind_id x.id) ≡ x
    tx_read x is low p e =
        let says = tx_says plan at x is in
        let ends = tx_ends plan at x is in
        rw (e, home_of_node x.node x.id low, id_read k at x.node x.id says.0 p (omega arith) e)
        (tx_at-stored x.node x.id (at + behind_id x.id) ends ∙ says.1)

    pub rx_read :
        (x : RxFrame) → record_at plan at ≡ Rx x → x.node < 16 → Possible x.id → byte_at a (home k) ≡ home_of x.node x.id
        → rx_at (home_node a k) (id_before a k (at + behind_id x.id)) (stored a) (at + behind_id x.id) ≡ x
    rx_read x is low p e =
        let says = rx_says plan at x is in
        let ends = rx_ends plan at x is in
        rw (e, home_of_node x.node x.id low, id_read k at x.node x.id says.0 p (omega arith) e)
        (rx_at-stored x.node x.id (at + behind_id x.id) ends ∙ says.1)

  -- what an Rx frame awaits is in its fields alone
  awaited_read : (at : ℕ) (x : RxFrame) → record_at plan at ≡ Rx x → awaited (rx_there a (at + behind_id x.id)) ≡ awaited x
  awaited_read at x is =
      ap awaited (rx_at-stored _ _ (at + behind_id x.id) (rx_ends plan at x is)) ∙ any x.node x.id ∙ ap awaited (rx_says plan at x is).1
    where
      any : (node : ℕ) (id : Id) → awaited (rx_at 0 (Standard 0) plan (at + behind_id x.id)) ≡ awaited (rx_at node id plan (at + behind_id x.id))
      any node id = unfold awaited rx_at in refl

-- ---- the copies

-- a kind that stands before the end, in a plan of whole records, is all of a record
module _ (plan : List ℕ) (k : ℕ) (h : k < length plan) (w : Each Whole (records_at plan k)) where
  abbrev size : ℕ
  size = length_of (byte_at plan k)

  here : Whole (record_at plan k) × Each Whole (records_at plan (k + size_of (record_at plan k)))
  unfolding Each
  here = rw (records_step plan k h) at w

  fits : 0 < size → k + size ≤ length plan
  fits one = go (dec_lt (length plan - k) size)
    where
      go : Dec (length plan - k < size) → k + size ≤ length plan
      go (yes l) = absurd (here.0 _ (sym (record_cut plan k h one l)))
      go (no l) = omega arith

  rest : 0 < size → Each Whole (records_at plan (k + size))
  rest one =
      let next : k + size ≡ k + size_of (record_at plan k) =
      ap (λ (x : Step). x.next) (step_whole plan k h refl refl one (omega (arith, fits one))) in
      rw next here.1

module _ (plan bytes : List ℕ) (v : Verbatim plan bytes) (n : ℕ) where
  abbrev Alike : ℕ → ℕ → ℕ → Type 0
  Alike p s k = claims_from n none p s (records_at bytes k) ≡ claims_from n none p s (records_at plan k)

  -- at the end there are none
  Alike-end : (p s k : ℕ) → k ≡ length plan → Alike p s k
  Alike-end p s k e =
      let z : byte_at bytes k ≡ 0 = rw e v.behind in
      copies_stop n p s bytes k (λ f. omega arith) (λ f. omega arith) ∙ sym (copies_end n p s plan k (omega arith))

  module _
      (k : ℕ) (h : k < length plan) (w : Each Whole (records_at plan k))
      (more : (p s m : ℕ) → k < m → m ≤ length plan → Each Whole (records_at plan m) → Alike p s m)
    where
      Alike-signal : (p s : ℕ) → byte_at plan k ≡ 5 → Alike p s k
      unfolding length_of form_of pick
      Alike-signal p s e =
          let fit : k + 3 ≤ length plan = rw e at (fits plan k h w) (omega arith) in
          let whole : Each Whole (records_at plan (k + 3)) = rw e at (rest plan k h w) (omega arith) in
          copies_signal n p s bytes k (omega (arith, v.more)) (v.byte k h ∙ e)
          ∙ rw (v.byte (k + 1) (omega arith), v.byte (k + 2) (omega arith)) (more (byte_at plan (k + 1)) (byte_at plan (k + 2)) (k + 3) (omega arith) fit whole)
          ∙ sym (copies_signal n p s plan k fit e)

      Alike-destination : (p s : ℕ) → byte_at plan k ≡ 6 → Alike p s k
      unfolding length_of form_of pick
      Alike-destination p s e =
          let fit : k + 4 ≤ length plan = rw e at (fits plan k h w) (omega arith) in
          let whole : Each Whole (records_at plan (k + 4)) = rw e at (rest plan k h w) (omega arith) in
          let both : two_at bytes (k + 1) ≡ two_at plan (k + 1) = rw (v.byte (k + 1) (omega arith), v.byte (k + 1 + 1) (omega arith)) in
          let ih = more p s (k + 4) (omega arith) fit whole in
          rw (copies_destination n p s bytes k (omega (arith, v.more)) (v.byte k h ∙ e), both, v.byte (k + 3) (omega arith), ih)
          (sym (copies_destination n p s plan k fit e))

      Alike-before : (p s : ℕ) → Alike p s k
      Alike-before p s = go (ℕ_discrete (byte_at plan k) 5) (ℕ_discrete (byte_at plan k) 6)
        where
          go : Dec (byte_at plan k ≡ 5) → Dec (byte_at plan k ≡ 6) → Alike p s k
          go (yes e) d = Alike-signal p s e
          go (no d) (yes e) = Alike-destination p s e
          go (no d) (no e) =
              copies_stop n p s bytes k (λ f. d (sym (v.byte k h) ∙ f)) (λ f. e (sym (v.byte k h) ∙ f)) ∙ sym (copies_stop n p s plan k d e)

  -- the first argument bounds how many bytes are left
  Alike-from : (bound p s k : ℕ) → length plan - k ≤ bound → k ≤ length plan → Each Whole (records_at plan k) → Alike p s k
  Alike-from zero p s k l h w = Alike-end p s k (omega arith)
  Alike-from (suc bound) p s k l h w = go (dec_lt k (length plan)) (λ p s m b. Alike-from bound p s m (omega arith))
    where
      go : Dec (k < length plan) → ((p s m : ℕ) → k < m → m ≤ length plan → Each Whole (records_at plan m) → Alike p s m) → Alike p s k
      go (yes b) more = Alike-before k b w more p s
      go (no b) more = Alike-end p s k (omega arith)

  pub copies_read : (p s k : ℕ) → k ≤ length plan → Each Whole (records_at plan k) → Alike p s k
  copies_read p s k = Alike-from (length plan - k) p s k (omega arith)

-- ---- the claims of an Rx frame, the failure bit before the copies

-- records of which each is whole, and each enabled indicator's Rx frame is followed by a signal and a destination
pub record Sound (rs : List Record) : Type 0 where
  pub whole : Each Whole rs
  pub followed : Along Followed rs

pub Sound-good : (plan : List ℕ) → GoodPlan plan → Sound (records plan)
Sound-good plan good = record { whole = in_place_whole 0 (records plan) good.place; followed = good.followed }

pub Sound-rest : (r : Record) (rs : List Record) → Sound (r ∷ rs) → Sound rs
unfolding Each Along
Sound-rest r rs s = record { whole = s.whole.1; followed = s.followed.1 }

failure_first :
    (n : ℕ) (w : Option ℕ) (g : SignalBody) (d : DestinationBody) (rs : List Record)
    → claims_from n w 0 0 (Signal g ∷ Destination d ∷ rs) ≡ with_failure n w d.tx.0 (claims_from n none 0 0 (Signal g ∷ Destination d ∷ rs))
unfolding claims_from with_failure
failure_first n w g d rs = refl

module _
    (plan a : List ℕ) (v : Verbatim plan (stored a)) (short : length plan < plan_room) (r at : ℕ) (x : RxFrame) (is : record_at plan at ≡ Rx x)
    (s : Sound (Rx x ∷ records_at plan (at + size_of (Rx x))))
  where
    abbrev own : List Record
    own = records_at plan (at + size_of (Rx x))

    -- the place of the fields, and the place behind them
    abbrev fields : ℕ
    fields = at + behind_id x.id

    behind : fields + rx_fields ≡ at + size_of (Rx x)
    behind = omega (arith, rx_size x)

    whole_own : Each Whole own
    whole_own = (Sound-rest (Rx x) own s).whole

    -- the Tx frame that is read behind the first signal is the first destination's
    failure_tx_first : (g : SignalBody) (d : DestinationBody) (rs : List Record) → own ≡ Signal g ∷ Destination d ∷ rs → failure_tx a fields ≡ d.tx.0
    failure_tx_first g d rs e =
        let k = fields + rx_fields + signal_bytes in
        let next : records_at plan k ≡ Destination d ∷ rs =
        rw (behind, ← (signal_size g)) (records_head plan (at + size_of (Rx x)) (Signal g) (Destination d ∷ rs) e).2 in
        let there = (records_head plan k (Destination d) rs next).1 in
        let end : k + 4 ≤ length plan = ends_by plan k (Destination d) 4 there (destination_size d) (omega arith) in
        rw (v.byte (k + 1) (omega arith), v.byte (k + 1 + 1) (omega arith)) (destination_says plan k d there)

    two_first :
        (g : SignalBody) (d : DestinationBody) (rs : List Record) → own ≡ Signal g ∷ Destination d ∷ rs → (w : Option ℕ)
        → with_failure r w (failure_tx a fields) (claims_from r none 0 0 own) ≡ claims_from r w 0 0 own
    two_first g d rs e w = rw (failure_tx_first g d rs e, e) (sym (failure_first r w g d rs))

    enabled :
        x.enable ≡ 1 → with_failure r (some x.position) (failure_tx a fields) (claims_from r none 0 0 own) ≡ claims_from r (some x.position) 0 0 own
    unfolding Along
    enabled on =
        let f = s.followed.0 x refl on in
        let i = Indicated-by own whole_own f.0 f.1 in
        two_first i.0 i.1 i.2 i.3 (some x.position)

    all : with_failure r (awaited x) (failure_tx a fields) (claims_from r none 0 0 own) ≡ claims_from r (awaited x) 0 0 own
    unfolding awaited with_failure
    all =
        by_eqb (λ (w : Option ℕ). with_failure r w (failure_tx a fields) (claims_from r none 0 0 own) ≡ claims_from r w 0 0 own) x.enable 1
        (some x.position) none enabled (λ off. refl)

    pub claims_read : claims_at a r fields ≡ claims_from r (awaited x) 0 0 own
    unfolding claims_at
    claims_read =
        let end : at + size_of (Rx x) ≤ length plan = omega (arith, rx_size x, rx_ends plan at x is) in
        let copies : claims_from r none 0 0 (records_at (stored a) (fields + rx_fields)) ≡ claims_from r none 0 0 own =
        rw behind (copies_read plan (stored a) v r 0 0 (at + size_of (Rx x)) end whole_own) in
        rw (awaited_read plan a v short at x is, copies) all
