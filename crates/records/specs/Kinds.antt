-- The table of kinds. "Records of one kind byte and a fixed body": a row says how many bytes a record of a kind has, which
-- stage of the plan it belongs to, and what its bytes say.
--
--   kind           body  stage        fields
--   1 head           1   head         order
--   2 node           1   node         type
--   3 Tx frame      16   Tx           node 1, ID 2, size 1, prescaler 1, reload 1, initial timer 1, flags 1, initial payload 8
--   4 Rx frame      10   Rx           node 1, ID 2, size 1, prescaler 1, reload 1, initial timer 1, failure enable 1, failure position 1, long count 1
--   5 signal         2   signal       position, size
--   6 destination    3   destination  Tx frame 2, position 1
--   7 Tx frame      18   Tx           as 3, "with a four-byte ID" (document 02, Ticket 6)
--   8 Rx frame      12   Rx           as 4, with a four-byte ID
use Rattle.std.specs.Prelude.{ℕ, ◌+◌, List, [], ◌∷◌, eqb}
use Rattle.base.specs.Pick.{pick}
use Rattle.base.specs.Numbers.{byte_at, two_at, four_at}
use Rattle.records.specs.declared.record.Id.{Id}
use Rattle.records.specs.declared.record.Id.TheVariants.{Standard, Extended}
use Rattle.records.specs.declared.record.TxFrame.{TxFrame}
use Rattle.records.specs.declared.record.RxFrame.{RxFrame}
use Rattle.records.specs.declared.record.Fault.{Fault}
use Rattle.records.specs.declared.record.Fault.TheVariants.{BadKind}
use Rattle.records.specs.declared.record.Record.{Record}
use Rattle.records.specs.declared.record.Record.TheVariants.{Head, Node, Tx, Rx, Signal, Destination, Broken}
use Rattle.records.specs.Ids.{behind_id}
use Rattle.records.specs.Views.{by_kind, by_fault}

-- the eight bytes from a place on
unfoldable pub eight_at : List ℕ → ℕ → List ℕ
eight_at plan at =
    byte_at plan at
    ∷ byte_at plan (at + 1)
    ∷ byte_at plan (at + 2)
    ∷ byte_at plan (at + 3)
    ∷ byte_at plan (at + 4)
    ∷ byte_at plan (at + 5)
    ∷ byte_at plan (at + 6)
    ∷ byte_at plan (at + 7)
    ∷ []

-- the frame of a node and an ID whose fields behind the ID begin at a place: these are alike in both formats
unfoldable pub tx_at : ℕ → Id → List ℕ → ℕ → TxFrame
tx_at node id plan at =
    record {
      node = node;
      id = id;
      size = byte_at plan at;
      prescaler = byte_at plan (at + 1);
      reload = byte_at plan (at + 2);
      initial = byte_at plan (at + 3);
      flags = byte_at plan (at + 4);
      payload = eight_at plan (at + 5);
    }

unfoldable pub rx_at : ℕ → Id → List ℕ → ℕ → RxFrame
rx_at node id plan at =
    record {
      node = node;
      id = id;
      size = byte_at plan at;
      prescaler = byte_at plan (at + 1);
      reload = byte_at plan (at + 2);
      initial = byte_at plan (at + 3);
      enable = byte_at plan (at + 4);
      position = byte_at plan (at + 5);
      long = byte_at plan (at + 6);
    }

-- the record at a place, with its ID
unfoldable pub tx_record : Id → List ℕ → ℕ → Record
tx_record id plan at = Tx (tx_at (byte_at plan (at + 1)) id plan (at + behind_id id))

unfoldable pub rx_record : Id → List ℕ → ℕ → Record
rx_record id plan at = Rx (rx_at (byte_at plan (at + 1)) id plan (at + behind_id id))

-- how many bytes a record has, its kind byte among them
abbrev pub head_bytes : ℕ
head_bytes = 2

abbrev pub node_bytes : ℕ
node_bytes = 2

-- of a frame, its fields behind the ID
abbrev pub tx_fields : ℕ
tx_fields = 13

abbrev pub rx_fields : ℕ
rx_fields = 7

abbrev pub signal_bytes : ℕ
signal_bytes = 3

abbrev pub destination_bytes : ℕ
destination_bytes = 4

-- the stages of a plan, in the order in which a plan goes through them; the last two come again with each Rx frame
abbrev pub head_stage : ℕ
head_stage = 1

abbrev pub node_stage : ℕ
node_stage = 2

abbrev pub tx_stage : ℕ
tx_stage = 3

abbrev pub rx_stage : ℕ
rx_stage = 4

abbrev pub signal_stage : ℕ
signal_stage = 5

abbrev pub destination_stage : ℕ
destination_stage = 6

-- a row of the table: how many bytes, the kind byte among them; the stage; and the record whose kind byte stands at a place of a plan
pub record Form : Type 0 where
  pub bytes : ℕ
  pub stage : ℕ
  pub fields : List ℕ → ℕ → Record

unfoldable pub form_of : ℕ → Form
form_of kind =
    pick (eqb kind 1) (record { bytes = head_bytes; stage = head_stage; fields = λ plan at. Head (byte_at plan (at + 1)) })
    (pick (eqb kind 2) (record { bytes = node_bytes; stage = node_stage; fields = λ plan at. Node (record { of = byte_at plan (at + 1) }) })
    (pick (eqb kind 3) (record { bytes = 4 + tx_fields; stage = tx_stage; fields = λ plan at. tx_record (Standard (two_at plan (at + 2))) plan at })
    (pick (eqb kind 4) (record { bytes = 4 + rx_fields; stage = rx_stage; fields = λ plan at. rx_record (Standard (two_at plan (at + 2))) plan at })
    (pick (eqb kind 5)
    (record {
      bytes = signal_bytes;
      stage = signal_stage;
      fields = λ plan at. Signal (record { position = byte_at plan (at + 1); size = byte_at plan (at + 2) });
    })
    (pick (eqb kind 6)
    (record {
      bytes = destination_bytes;
      stage = destination_stage;
      fields = λ plan at. Destination (record { tx = record { 0 = two_at plan (at + 1) }; position = byte_at plan (at + 3) });
    })
    (pick (eqb kind 7) (record { bytes = 6 + tx_fields; stage = tx_stage; fields = λ plan at. tx_record (Extended (four_at plan (at + 2))) plan at })
    (pick (eqb kind 8) (record { bytes = 6 + rx_fields; stage = rx_stage; fields = λ plan at. rx_record (Extended (four_at plan (at + 2))) plan at })
    (record { bytes = 0; stage = 0; fields = λ plan at. Broken BadKind }))))))))

-- how many bytes a record of a kind has; 0 where there is no such kind
unfoldable pub length_of : ℕ → ℕ
length_of kind = (form_of kind).bytes

-- the stage of a kind; 0 where there is no such kind
unfoldable pub stage_of_kind : ℕ → ℕ
stage_of_kind kind = (form_of kind).stage

-- a whole record of a kind
unfoldable pub fields_at : ℕ → List ℕ → ℕ → Record
fields_at kind plan at = (form_of kind).fields plan at

-- the kind that a record's kind byte says; 0 where it is no kind, and at the end
abbrev pub fault_kind : Fault → ℕ
fault_kind fault = by_fault 0 0 (λ kind. kind) fault

-- "Kinds 7 and 8 are Tx and Rx frames with a four-byte ID .., otherwise as 3 and 4." (document 02, Ticket 6)
unfoldable pub tx_kind : Id → ℕ
tx_kind (Standard n) = 3
tx_kind (Extended n) = 7

unfoldable pub rx_kind : Id → ℕ
rx_kind (Standard n) = 4
rx_kind (Extended n) = 8

unfoldable pub kind_of : Record → ℕ
kind_of (Head order) = 1
kind_of (Node body) = 2
kind_of (Tx frame) = tx_kind frame.id
kind_of (Rx frame) = rx_kind frame.id
kind_of (Signal body) = 5
kind_of (Destination body) = 6
kind_of (Broken fault) = fault_kind fault

-- the stage of a record, which one that is cut short has by its kind byte; 0 where that is no kind, and at the end
abbrev pub fault_stage : Fault → ℕ
fault_stage fault = by_fault 0 0 stage_of_kind fault

unfoldable pub stage_of : Record → ℕ
stage_of r =
    by_kind (λ _. head_stage) (λ _. node_stage) (λ _. tx_stage) (λ _. rx_stage) (λ _. signal_stage) (λ _. destination_stage) fault_stage r
