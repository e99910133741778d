-- What a plan's records say: the Tx frames, and for each Rx frame its row, with the bits that it owns.
use Rattle.std.specs.Prelude.{ℕ, suc, List, [], ◌∷◌, ◌++◌, eqb}
use Rattle.std.proofs.Math.Option.{Option, none, some}
use Rattle.base.specs.Pick.{pick}
use Rattle.records.specs.declared.record.TxFrame.{TxFrame}
use Rattle.records.specs.declared.record.RxFrame.{RxFrame}
use Rattle.records.specs.declared.record.NodeType.{NodeType}
use Rattle.records.specs.declared.record.Record.{Record}
use Rattle.records.specs.Views.{on_head, on_node, on_tx, on_rx, in_row, no_rx}
use Rattle.records.specs.Records.{records}
use Rattle.records.specs.Nodes.{type_of}

-- where the bits of a claim come from: the received payload from a position on, as many as a size says; or the frame's failure
pub data Source : Type 0 where
  copy : ℕ → ℕ → Source
  failure : Source

unfoldable pub width_of : Source → ℕ
width_of (copy p s) = s
width_of failure = 1

-- some bits of a Tx frame, from a position on, that an Rx frame owns
pub record Claim : Type 0 where
  pub rx : ℕ
  pub tx : ℕ
  pub at : ℕ
  pub from : Source

-- the failure bit of Rx frame n, where one is awaited, goes into the Tx frame of the first destination
unfoldable pub with_failure : ℕ → Option ℕ → ℕ → List Claim → List Claim
with_failure n none tx claims = claims
with_failure n (some q) tx claims = record { rx = n; tx = tx; at = q; from = failure } ∷ claims

-- the claims of Rx frame n from its signals on: w is the failure position that is awaited, p and s are the current signal's position and size
unfoldable pub claims_from : ℕ → Option ℕ → ℕ → ℕ → List Record → List Claim
claims_from n w p s [] = []
claims_from n w p s (r ∷ rs) =
    in_row [] (λ frame. []) (λ body. claims_from n w body.position body.size rs)
    (λ body. with_failure n w body.tx.0 (record { rx = n; tx = body.tx.0; at = body.position; from = copy p s } ∷ claims_from n none p s rs))
    r

pub record Row : Type 0 where
  pub number : ℕ
  pub frame : RxFrame
  pub claims : List Claim

-- a number that is no row's has this one
abbrev pub no_row : Row
no_row = record { number = 0; frame = no_rx; claims = [] }

-- the failure position, where the indicator is enabled
unfoldable pub awaited : RxFrame → Option ℕ
awaited x = pick (eqb x.enable 1) (some x.position) none

-- the row of an Rx frame with the records after it
unfoldable pub row_of : ℕ → RxFrame → List Record → Row
row_of n x rs = record { number = n; frame = x; claims = claims_from n (awaited x) 0 0 rs }

-- the rows, numbered from n
unfoldable pub rows_from : ℕ → List Record → List Row
rows_from n [] = []
rows_from n (r ∷ rs) = on_rx (rows_from n rs) (λ frame. row_of n frame rs ∷ rows_from (suc n) rs) r

unfoldable pub rows_of : List ℕ → List Row
rows_of plan = rows_from 0 (records plan)

-- all claims, in plan order
unfoldable pub all_claims : List Row → List Claim
all_claims [] = []
all_claims (r ∷ rs) = r.claims ++ all_claims rs

unfoldable pub claims_of : List ℕ → List Claim
claims_of plan = all_claims (rows_of plan)

-- the Tx frames, in number order
unfoldable pub tx_frames : List Record → List TxFrame
tx_frames [] = []
tx_frames (r ∷ rs) = on_tx (tx_frames rs) (λ frame. frame ∷ tx_frames rs) r

unfoldable pub tx_of : List ℕ → List TxFrame
tx_of plan = tx_frames (records plan)

-- how many nodes there are
unfoldable pub nodes_in : List Record → ℕ
nodes_in [] = 0
nodes_in (r ∷ rs) = on_node (nodes_in rs) (λ body. suc (nodes_in rs)) r

-- how many of them are CAN nodes: "type: 0 CAN"
unfoldable pub cans_in : List Record → ℕ
cans_in [] = 0
cans_in (r ∷ rs) = on_node (cans_in rs) (λ body. pick (eqb body.of 0) (suc (cans_in rs)) (cans_in rs)) r

-- their types, in number order
unfoldable pub types_in : List Record → List NodeType
types_in [] = []
types_in (r ∷ rs) = on_node (types_in rs) (λ body. type_of body.of ∷ types_in rs) r

-- the order that the head states
unfoldable pub order_in : List Record → ℕ
order_in [] = 0
order_in (r ∷ rs) = on_head 0 (λ order. order) r
