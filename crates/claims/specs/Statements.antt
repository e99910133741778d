-- What is proved of the nodes, the frames, the rows, the claims and the owners.
use Rattle.std.specs.Prelude.{◌≡◌, ◌↔◌, List, [], ◌∷◌, ◌++◌, ℕ}
use Rattle.records.specs.declared.record.NodeType.{NodeType}
use Rattle.records.specs.declared.record.TxFrame.{TxFrame}
use Rattle.records.specs.declared.record.RxFrame.{RxFrame}
use Rattle.records.specs.declared.record.Record.{Record}
use Rattle.records.specs.declared.record.Record.TheVariants.{Head}
use Rattle.records.specs.Records.{records}
use Rattle.records.specs.Kinds.{node_stage}
use Rattle.plan.specs.Check.{good_with, check_plan}
use Rattle.plan.specs.Rows.{Claim, Row, rows_from, rows_of, all_claims, claims_of, tx_frames, tx_of, nodes_in, types_in, order_in}
use Rattle.facts.specs.Good.{Each, count_of, Holds}
use Rattle.claims.specs.Claims.{Whole, Own, TypesOf, FramesOf, ClaimsOf, RowsOf, Regular, Lawful}
use Rattle.claims.specs.Owners.{Has, Bits, Owner}

-- ---- of any records that are whole

abbrev pub TypesBySplits : Type 0
TypesBySplits = (rs : List Record) → Each Whole rs → TypesOf rs (types_in rs)

abbrev pub FramesBySplits : Type 0
FramesBySplits = (rs : List Record) → Each Whole rs → FramesOf rs (tx_frames rs)

abbrev pub ClaimsBySplits : Type 0
ClaimsBySplits = (rs : List Record) → Each Whole rs → RowsOf rs (rows_from 0 rs)

abbrev pub NodesCounted : Type 0
NodesCounted = (rs : List Record) → Each Whole rs → nodes_in rs ≡ count_of node_stage rs

abbrev pub HeadOrder : Type 0
HeadOrder = (rs rest : List Record) (order : ℕ) → rs ≡ Head order ∷ rest → order_in rs ≡ order

-- ---- no second list fits

abbrev pub OneTypes : Type 0
OneTypes = (rs : List Record) → Each Whole rs → (xs ys : List NodeType) → TypesOf rs xs → TypesOf rs ys → xs ≡ ys

abbrev pub OneFrames : Type 0
OneFrames = (rs : List Record) → Each Whole rs → (xs ys : List TxFrame) → FramesOf rs xs → FramesOf rs ys → xs ≡ ys

abbrev pub OneClaims : Type 0
OneClaims =
    (number : ℕ) (x : RxFrame) (own : List Record) → Each Own own → Regular x own
    → (cs ds : List Claim) → ClaimsOf number x own cs → ClaimsOf number x own ds → cs ≡ ds

abbrev pub OneRows : Type 0
OneRows = (rs : List Record) → Lawful rs → (xs ys : List Row) → RowsOf rs xs → RowsOf rs ys → xs ≡ ys

-- ---- owners

-- a claim holds the bits that its source says
abbrev pub ClaimBits : Type 0
ClaimBits = (c : Claim) (t b : ℕ) → Bits c t b

-- a claim is among all exactly where it is among those of a row, and the last row's come last
pub record AllClaims : Type 0 where
  pub exactly : (rows : List Row) (c : Claim) → Has (all_claims rows) c ↔ ((row : Row) × Has rows row × Has row.claims c)
  pub first : all_claims [] ≡ []
  pub last : (rows : List Row) (row : Row) → all_claims (rows ++ row ∷ []) ≡ all_claims rows ++ row.claims

-- a bit is held by a claim exactly where the records give it an owner
abbrev pub OwnersBySplits : Type 0
OwnersBySplits = (rs : List Record) → Lawful rs → (t b : ℕ) → Owner rs t b ↔ ((c : Claim) × Has (all_claims (rows_from 0 rs)) c × Holds c t b)

-- ---- so of a plan that the check calls good all is said

-- the one thing with a property
pub record Only {A : Type 0} (P : A → Type 0) (x : A) : Type 0 where
  pub has : P x
  pub one : (y : A) → P y → y ≡ x

pub record Said (plan : List ℕ) : Type 0 where
  pub lawful : Lawful (records plan)
  pub types : Only (TypesOf (records plan)) (types_in (records plan))
  pub frames : Only (FramesOf (records plan)) (tx_of plan)
  pub rows : Only (RowsOf (records plan)) (rows_of plan)
  pub nodes : nodes_in (records plan) ≡ count_of node_stage (records plan)
  pub order : (order : ℕ) × (rest : List Record) × (records plan ≡ Head order ∷ rest) × (order_in (records plan) ≡ order)
  pub owners : (t b : ℕ) → Owner (records plan) t b ↔ ((c : Claim) × Has (claims_of plan) c × Holds c t b)

abbrev pub GoodSaid : Type 0
GoodSaid = (plan : List ℕ) (n t r : ℕ) → check_plan plan ≡ good_with n t r → Said plan
