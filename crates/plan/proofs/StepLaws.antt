-- The tests that each kind of record has, peeled from the front.
use mathlib.Core.Path.{◌≡◌, refl, ap, ◌∙◌}
use mathlib.Core.Bool.{Bool, true, false, not, ◌&&◌, ◌||◌}
use mathlib.Core.List.{List}
use Prim.Native.Nat.{ℕ, ◌+◌, ◌*◌, ◌≤◌, ◌<◌}
use Rattle.std.specs.Prelude.{Result, Ok, Err}
use lib.Dec.{leb, ltb, eqb}
use lib.ListN.{get_or}
use borrow.Author.Tests.{not-true, not-false, le-leb, lt-leb, le-ltb, lt-ltb}
use Rattle.base.specs.Pick.{pick}
use Rattle.base.proofs.Picks.{picks, passes}
use Rattle.records.specs.declared.record.NodeBody.{NodeBody}
use Rattle.records.specs.declared.record.TxFrame.{TxFrame}
use Rattle.records.specs.declared.record.RxFrame.{RxFrame}
use Rattle.records.specs.declared.record.SignalBody.{SignalBody}
use Rattle.records.specs.declared.record.DestinationBody.{DestinationBody}
use Rattle.records.specs.declared.record.Record.{Record}
use Rattle.records.specs.declared.record.Record.TheVariants.{Head, Node, Tx, Rx, Signal, Destination}
use Rattle.records.specs.Kinds.{node_stage, tx_stage, rx_stage, signal_stage}
use Rattle.plan.specs.Limits.{most_nodes, most_tx, most_rx, most_signals, most_in_frame, most_destinations, most_of_signal}
use Rattle.plan.specs.declared.verdict.Reason.{Reason}
use Rattle.plan.specs.declared.verdict.Reason.TheVariants.{Place, Count, Range, Order, Data, Owner, Indicator}
use Rattle.plan.specs.declared.verdict.BadRecord.{BadRecord}
use Rattle.plan.specs.declared.progress.Progress.{Progress}
use Rattle.plan.specs.Progress.{row_key, after}
use Rattle.plan.specs.Tests.{may_stand, can_first, has_room, tx_in_range, rx_in_range, in_range, frame_fits, fits_node, rises, in_data, is_free}
use Rattle.plan.specs.Tests.{indicator_in_data, indicator_is_free}
use Rattle.bits.specs.Owners.{owned, clash}
use Rattle.plan.specs.Claim.{claimed}
use Rattle.plan.specs.Check.{refused_at, need, placed}

-- ---- a test that fails refuses, and one that is passed leaves what follows

pub stops : (t : Bool) (a : Reason) (n : ℕ) (rest : Result Progress BadRecord) → not t ≡ true → refused_at a n ≡ need t a n rest
unfolding need
stops t a n rest e = rw (passes t rest (refused_at a n) (not-true t e))

pub goes :
    (t : Bool) (a : Reason) (n : ℕ) (rest : Result Progress BadRecord) {x : Result Progress BadRecord} → not t ≡ false → x ≡ rest
    → x ≡ need t a n rest
unfolding need
goes t a n rest e same = rw (picks t rest (refused_at a n) (not-false t e)) same

-- two tests of one reason are one
need_both : (t u : Bool) (a : Reason) (n : ℕ) (rest : Result Progress BadRecord) → need (t && u) a n rest ≡ need t a n (need u a n rest)
unfolding need pick
need_both true u a n rest = refl
need_both false u a n rest = refl

-- the three that come first, of its place, the counts and its ranges, and what comes after them
pub record Tried (n : ℕ) (stands room range : Bool) (rest y : Result Progress BadRecord) : Type 0 where
  pub same : need stands Place n (need room Count n (need range Range n rest)) ≡ y

module _ {n : ℕ} {stands room range : Bool} {rest y : Result Progress BadRecord} (tests : Tried n stands room range rest y) where
  pub at_place : not stands ≡ true → refused_at Place n ≡ y
  at_place s = stops _ _ _ _ s ∙ tests.same

  pub at_count : not stands ≡ false → not room ≡ true → refused_at Count n ≡ y
  at_count s r = goes _ _ _ _ s (stops _ _ _ _ r) ∙ tests.same

  pub at_range : not stands ≡ false → not room ≡ false → not range ≡ true → refused_at Range n ≡ y
  at_range s r g = goes _ _ _ _ s (goes _ _ _ _ r (stops _ _ _ _ g)) ∙ tests.same

  pub past : not stands ≡ false → not room ≡ false → not range ≡ false → {x : Result Progress BadRecord} → x ≡ rest → x ≡ y
  past s r g e = goes _ _ _ _ s (goes _ _ _ _ r (goes _ _ _ _ g e)) ∙ tests.same

-- ---- the tests that each kind has

module _ (p : Progress) (sizes sets : List ℕ) where
  pub head_tests :
      (order : ℕ) → Tried p.number (eqb p.stage 0) true (leb order 1) (Ok (after p (Head order))) (placed p sizes sets (Head order))
  unfolding placed need pick may_stand can_first has_room in_range fits_node rises in_data is_free indicator_in_data indicator_is_free
  head_tests order = record { same = refl }

  pub node_tests :
      (body : NodeBody)
      → Tried p.number
      (ltb 0 p.stage && leb p.stage node_stage && (not (eqb body.of 0) || eqb p.counts.can p.counts.nodes))
      (ltb p.counts.nodes most_nodes) (leb body.of 1)
      (Ok (after p (Node body))) (placed p sizes sets (Node body))
  unfolding placed need pick may_stand can_first has_room in_range fits_node rises in_data is_free indicator_in_data indicator_is_free
  node_tests body =
      record {
        same =
            need_both (ltb 0 p.stage && leb p.stage node_stage) (not (eqb body.of 0) || eqb p.counts.can p.counts.nodes) Place p.number
            (need (ltb p.counts.nodes most_nodes) Count p.number
            (need (leb body.of 1) Range p.number
            (Ok (after p (Node body)))));
      }

  pub tx_tests :
      (x : TxFrame)
      → Tried p.number (ltb 0 p.stage && leb p.stage tx_stage) (ltb p.counts.tx most_tx)
      (tx_in_range p.counts.nodes x && frame_fits p.counts.can x.node x.id x.size)
      (Ok (after p (Tx x))) (placed p sizes sets (Tx x))
  unfolding placed need pick may_stand can_first has_room in_range fits_node rises in_data is_free indicator_in_data indicator_is_free
  tx_tests x =
      record {
        same =
            ap (λ (rest : Result Progress BadRecord).
            need (ltb 0 p.stage && leb p.stage tx_stage) Place p.number (need (ltb p.counts.tx most_tx) Count p.number rest))
            (need_both (tx_in_range p.counts.nodes x) (frame_fits p.counts.can x.node x.id x.size) Range p.number (Ok (after p (Tx x))));
      }

  pub rx_tests :
      (x : RxFrame)
      → Tried p.number (ltb 0 p.stage) (ltb p.counts.rx most_rx)
      (rx_in_range p.counts.nodes x && frame_fits p.counts.can x.node x.id x.size)
      (need (leb p.row.floor (row_key x)) Order p.number
      (Ok (after p (Rx x)))) (placed p sizes sets (Rx x))
  unfolding placed need pick may_stand can_first has_room in_range fits_node rises in_data is_free indicator_in_data indicator_is_free
  rx_tests x =
      record {
        same =
            ap (λ (rest : Result Progress BadRecord). need (ltb 0 p.stage) Place p.number (need (ltb p.counts.rx most_rx) Count p.number rest))
            (need_both (rx_in_range p.counts.nodes x) (frame_fits p.counts.can x.node x.id x.size) Range p.number
            (need (leb p.row.floor (row_key x)) Order p.number (Ok (after p (Rx x)))));
      }

  pub signal_tests :
      (body : SignalBody)
      → Tried p.number (leb rx_stage p.stage) (ltb p.counts.signals most_signals && ltb p.row.signals most_in_frame)
      (leb body.position 63 && ltb 0 body.size && leb body.size 64)
      (need (leb (body.position + body.size) p.row.room) Data p.number
      (Ok (after p (Signal body)))) (placed p sizes sets (Signal body))
  unfolding placed need pick may_stand can_first has_room in_range fits_node rises in_data is_free indicator_in_data indicator_is_free
  signal_tests body = record { same = refl }

-- ---- a destination: what it claims decides

-- by what is claimed
unfoldable pub claim_next : Progress → Record → Result ℕ Reason → Result Progress BadRecord
claim_next p r (Ok set) = Ok (after p r)
claim_next p r (Err reason) = refused_at reason p.number

pub claim_next_same : (p : Progress) (r : Record) {x y : Result ℕ Reason} → x ≡ y → claim_next p r x ≡ claim_next p r y
claim_next_same p r e = ap (claim_next p r) e

-- as tests: the answers are a clash, no failure bit awaited, its position inside, and its clash
claim_cases :
    (p : Progress) (r : Record) (a b c d : Bool) (one two : ℕ)
    → claim_next p r (pick a (Err Owner) (pick b (Ok one) (pick c (pick d (Err Owner) (Ok two)) (Err Indicator))))
    ≡ need (not a) Owner p.number (need (b || c) Indicator p.number (need (b || not d) Owner p.number (Ok (after p r))))
unfolding claim_next need pick
claim_cases p r true b c d one two = refl
claim_cases p r false true c d one two = refl
claim_cases p r false false true true one two = refl
claim_cases p r false false true false one two = refl
claim_cases p r false false false true one two = refl
claim_cases p r false false false false one two = refl

module _ (p : Progress) (sizes : List ℕ) (body : DestinationBody) where
  -- how many bits its Tx frame's data has
  abbrev room : ℕ
  room = 8 * get_or sizes body.tx.0 0

  -- whether the Tx frame exists, and the destination stands in its data
  abbrev is_inside : Bool
  is_inside = ltb body.tx.0 p.counts.tx && leb (body.position + p.row.size) room

  pub no_frame : p.counts.tx ≤ body.tx.0 → not is_inside ≡ true
  no_frame h = rw (le-ltb body.tx.0 p.counts.tx h)

  pub past_data : body.tx.0 < p.counts.tx → room < body.position + p.row.size → not is_inside ≡ true
  past_data h l = rw (lt-ltb body.tx.0 p.counts.tx h, lt-leb (body.position + p.row.size) room l)

  pub in_data_inside : body.tx.0 < p.counts.tx → body.position + p.row.size ≤ room → not is_inside ≡ false
  in_data_inside h l = rw (lt-ltb body.tx.0 p.counts.tx h, le-leb (body.position + p.row.size) room l)

module _ (p : Progress) (sizes sets : List ℕ) (body : DestinationBody) where
  -- the bits of its Tx frame that are owned
  abbrev set : ℕ
  set = get_or sets body.tx.0 0

  pub destination_tests :
      Tried p.number (leb signal_stage p.stage)
      (ltb p.counts.destinations most_destinations && ltb p.row.destinations most_of_signal)
      (leb body.position 63)
      (need (is_inside p sizes body) Data p.number
      (claim_next p (Destination body) (claimed set body.position p.row.size p.row.awaits p.row.position (room p sizes body))))
      (placed p sizes sets (Destination body))
  unfolding placed need pick may_stand can_first has_room in_range fits_node rises in_data is_free indicator_in_data indicator_is_free claimed
  destination_tests =
      record {
        same =
            ap (λ (rest : Result Progress BadRecord).
            need (leb signal_stage p.stage) Place p.number
            (need (ltb p.counts.destinations most_destinations && ltb p.row.destinations most_of_signal) Count p.number
            (need (leb body.position 63) Range p.number
            (need (is_inside p sizes body) Data p.number rest))))
            (claim_cases p (Destination body) (clash set body.position p.row.size) (eqb p.row.awaits 0)
            (ltb p.row.position (room p sizes body)) (clash (owned set body.position p.row.size) p.row.position 1) _ _);
      }
