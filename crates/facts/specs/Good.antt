-- What a good plan is, in document 01's words: facts about its records, its rows and their claims, with nothing of how the check goes.
use Rattle.std.specs.Prelude.{◌≡◌, true, List, [], ◌∷◌, ℕ, suc, ◌+◌, ◌*◌, ◌≤◌, ◌<◌, eqb, length, get_or}
use Rattle.base.specs.Pick.{pick}
use Rattle.records.specs.declared.record.Id.{Id}
use Rattle.records.specs.declared.record.Id.TheVariants.{Standard}
use Rattle.records.specs.declared.record.NodeType.{NodeType}
use Rattle.records.specs.declared.record.NodeType.TheVariants.{Can, Lin}
use Rattle.records.specs.declared.record.NodeBody.{NodeBody}
use Rattle.records.specs.declared.record.TxFrame.{TxFrame}
use Rattle.records.specs.declared.record.RxFrame.{RxFrame}
use Rattle.records.specs.declared.record.Record.{Record}
use Rattle.records.specs.declared.record.Record.TheVariants.{Node, Rx}
use Rattle.records.specs.Views.{on_tx, on_rx, in_row, no_record}
use Rattle.records.specs.Kinds.{rx_stage, signal_stage, destination_stage, stage_of}
use Rattle.records.specs.Records.{records}
use Rattle.records.specs.Nodes.{type_of}
use Rattle.plan.specs.Progress.{row_key}
use Rattle.plan.specs.Tests.{is_kind, is_whole, may_stand, in_range}
use Rattle.plan.specs.Rows.{width_of, Claim, Row, rows_of, claims_of, tx_of, nodes_in, types_in}

-- of each element
unfoldable pub Each {ℓ} : {A : Type ℓ} → (A → Type 0) → List A → Type 0
Each P [] = Unit {0}
Each P (x ∷ xs) = P x × Each P xs

-- of each record, with the records that follow it
unfoldable pub Along : (Record → List Record → Type 0) → List Record → Type 0
Along P [] = Unit {0}
Along P (r ∷ rs) = P r rs × Along P rs

-- ---- "One head first, then nodes, then Tx frames, then Rx frames, each followed by its signals, each followed by its destinations."

-- a whole record of a known kind that may stand after one of a stage, which is 0 if there is none
pub record Placed (stage : ℕ) (r : Record) : Type 0 where
  pub known : is_kind r ≡ true
  pub whole : is_whole r ≡ true
  pub stands : may_stand stage r ≡ true

unfoldable pub InPlace : ℕ → List Record → Type 0
InPlace stage [] = Unit {0}
InPlace stage (r ∷ rs) = Placed stage r × InPlace (stage_of r) rs

-- ---- "LIN nodes follow all CAN nodes" (document 02, Ticket 2)

-- a node of a type
abbrev pub NodeOf : NodeType → Record → Type 0
NodeOf type r = (body : NodeBody) × (r ≡ Node body) × (type_of body.of ≡ type)

abbrev pub NoCan : Record → Type 0
NoCan r = NodeOf Can r → ⊥

abbrev pub LinLast : Record → List Record → Type 0
LinLast r rs = NodeOf Lin r → Each NoCan rs

-- ---- "At most 16 nodes, 256 Tx frames, 256 Rx frames, 1,024 signals (64 in a frame), 2,048 destinations (15 for a signal)."

-- how many records of a stage there are
unfoldable pub count_of : ℕ → List Record → ℕ
count_of stage [] = 0
count_of stage (r ∷ rs) = pick (eqb (stage_of r) stage) 1 0 + count_of stage rs

-- how many signals an Rx frame has, and how many destinations a signal has, by the records after it
unfoldable pub signals_of : List Record → ℕ
signals_of [] = 0
signals_of (r ∷ rs) = pick (eqb (stage_of r) signal_stage) (suc (signals_of rs)) (pick (eqb (stage_of r) destination_stage) (signals_of rs) 0)

unfoldable pub destinations_of : List Record → ℕ
destinations_of [] = 0
destinations_of (r ∷ rs) = pick (eqb (stage_of r) destination_stage) (suc (destinations_of rs)) 0

pub record Few (r : Record) (rs : List Record) : Type 0 where
  pub signals : stage_of r ≡ rx_stage → signals_of rs ≤ 64
  pub destinations : stage_of r ≡ signal_stage → destinations_of rs ≤ 15

pub record Counted (plan : List ℕ) : Type 0 where
  pub nodes : nodes_in (records plan) ≤ 16
  pub tx : length (tx_of plan) ≤ 256
  pub rx : length (rows_of plan) ≤ 256
  pub signals : count_of signal_stage (records plan) ≤ 1024
  pub destinations : count_of destination_stage (records plan) ≤ 2048
  pub few : Along Few (records plan)

-- ---- "Ranges: order 0–1; .. node below the node count; .." The node count is the plan's.

abbrev pub InRange : List ℕ → Type 0
InRange plan = Each (λ r. in_range (nodes_in (records plan)) r ≡ true) (records plan)

-- ---- "IDs there run 0 to 59, sizes 1 to 8" (document 02, Ticket 2): there is on a LIN node, and no ID there has 29 bits (Ticket 6). The types are those
-- of the nodes, in number order.

pub record LinRanges (id : Id) (size : ℕ) : Type 0 where
  pub number : ℕ
  pub standard : id ≡ Standard number
  pub below : number < 60
  pub some : 1 ≤ size
  pub most : size ≤ 8

abbrev pub OnLin : List NodeType → ℕ → Id → ℕ → Type 0
OnLin types node id size = get_or types node Can ≡ Lin → LinRanges id size

abbrev pub InLinRange : List NodeType → Record → Type 0
InLinRange types r =
    on_tx (on_rx (Unit {0}) (λ frame. OnLin types frame.node frame.id frame.size) r) (λ frame. OnLin types frame.node frame.id frame.size) r

-- ---- 6: "an Rx frame's (node, ID) is not above that of the one before": here each is above those of all rows before it

unfoldable pub Rising : List Row → Type 0
Rising [] = Unit {0}
Rising (r ∷ rs) = Each (λ s. row_key r.frame < row_key s.frame) rs × Rising rs

-- ---- 7: "a signal .. passes its frame's data": here none does. `room` is how many bits the data of the Rx frame that is being read has.

unfoldable pub SignalsFit : ℕ → List Record → Type 0
SignalsFit room [] = Unit {0}
SignalsFit room (r ∷ rs) =
    in_row (SignalsFit room rs) (λ frame. SignalsFit (8 * frame.size) rs) (λ body. (body.position + body.size ≤ room) × SignalsFit room rs)
    (λ body. SignalsFit room rs) r

-- ---- 7: "a .. destination passes its frame's data, or the Tx frame does not exist", and 9: "or its position passes the Tx data": here none does,
-- of the claims of the destinations and of the failure bits. The sizes are those of the Tx frames.

unfoldable pub sizes_of : List TxFrame → List ℕ
sizes_of [] = []
sizes_of (x ∷ xs) = x.size ∷ sizes_of xs

pub record Fits (sizes : List ℕ) (c : Claim) : Type 0 where
  pub exists : c.tx < length sizes
  pub inside : c.at + width_of c.from ≤ 8 * get_or sizes c.tx 0

-- ---- "No bit has two owners."

-- a claim holds bit b of Tx frame t
pub record Holds (c : Claim) (t b : ℕ) : Type 0 where
  pub frame : c.tx ≡ t
  pub low : c.at ≤ b
  pub high : b < c.at + width_of c.from

-- no claim holds the bit
abbrev pub Free : List Claim → ℕ → ℕ → Type 0
Free cs t b = Each (λ c. Holds c t b → ⊥) cs

-- no bit that a claim holds is held by a later one
unfoldable pub Once : List Claim → Type 0
Once [] = Unit {0}
Once (c ∷ cs) = ((t b : ℕ) → Holds c t b → Free cs t b) × Once cs

-- ---- 9: "an enabled indicator's Rx frame is not followed at once by a signal and a destination (judged by kind byte)": here each is

-- the stage of the record at a place, 0 past the end
abbrev pub stage_at : ℕ → List Record → ℕ
stage_at k rs = stage_of (get_or rs k no_record)

abbrev pub Followed : Record → List Record → Type 0
Followed r rs = (x : RxFrame) → r ≡ Rx x → x.enable ≡ 1 → (stage_at 0 rs ≡ signal_stage) × (stage_at 1 rs ≡ destination_stage)

-- ---- a good plan

-- 1 to 9 in their order, but for 2, 1 and 3, which stand together in `place`, and the second half of 9, which stands in `fits`; what 3 and 5 ask of
-- LIN nodes stands in `lin` and `lin_ranges`
pub record GoodPlan (plan : List ℕ) : Type 0 where
  pub nonempty : 0 < length (records plan)
  pub place : InPlace 0 (records plan)
  pub lin : Along LinLast (records plan)
  pub counts : Counted plan
  pub ranges : InRange plan
  pub lin_ranges : Each (InLinRange (types_in (records plan))) (records plan)
  pub rising : Rising (rows_of plan)
  pub signals : SignalsFit 0 (records plan)
  pub fits : Each (Fits (sizes_of (tx_of plan))) (claims_of plan)
  pub once : Once (claims_of plan)
  pub followed : Along Followed (records plan)
