-- The words of the rules: what stands in a list, what a node is, which Rx frame a node and an ID name, what a state has.
use Rattle.std.specs.Prelude.{◌≡◌, ◌⊎◌, ◌↔◌, List, [], ◌∷◌, ℕ, ◌<◌, length, get_or}
use Rattle.base.specs.Numbers.{Bytes}
use Rattle.records.specs.declared.record.Id.{Id}
use Rattle.records.specs.declared.record.Id.TheVariants.{Standard}
use Rattle.records.specs.declared.record.NodeType.TheVariants.{Can, Lin}
use Rattle.records.specs.Ids.{Before}
use Rattle.facts.specs.Good.{Each}
use Rattle.model.specs.Plan.{Plan, row_in}
use Rattle.model.specs.State.{State, kept_of}
use Rattle.model.specs.Calls.{Call, Answer, Running}

-- x stands in a list
unfoldable pub In : {A : Type 0} → A → List A → Type 0
In x [] = ⊥
In x (y ∷ ys) = (x ≡ y) ⊎ In x ys

-- in number order, none twice
unfoldable pub Ascending : List ℕ → Type 0
Ascending [] = Unit {0}
Ascending (x ∷ xs) = Each (λ y. x < y) xs × Ascending xs

-- exactly the numbers with a property, in number order
pub record Those (P : ℕ → Type 0) (xs : List ℕ) : Type 0 where
  pub order : Ascending xs
  pub exactly : (x : ℕ) → In x xs ↔ P x

-- "Node type 1 is a LIN node" (document 02, Ticket 2)
abbrev pub LinNode : Plan → ℕ → Type 0
LinNode p n = get_or p.types n Can ≡ Lin

-- Rx frame r is one of a LIN node
abbrev pub LinRow : Plan → ℕ → Type 0
LinRow p r = LinNode p (row_in p r).frame.node

-- Rx frame r is the plan's frame of node n with this ID
pub record Names (p : Plan) (n : ℕ) (i : Id) (r : ℕ) : Type 0 where
  pub exists : r < length p.rows
  pub node : (row_in p r).frame.node ≡ n
  pub id : (row_in p r).frame.id ≡ i

-- Rx frame r is that frame, and its node is there and is a LIN node, where no ID has 29 bits
pub record Polls (p : Plan) (n i r : ℕ) : Type 0 where
  pub there : n < p.nodes
  pub lin : LinNode p n
  pub names : Names p n (Standard i) r

-- "the node is not LIN or has no such Rx frame" (document 02, Ticket 2)
abbrev pub NothingPolled : Plan → ℕ → ℕ → Type 0
NothingPolled p n i = (LinNode p n → ⊥) ⊎ ((r : ℕ) → Names p n (Standard i) r → ⊥)

-- Rx frame r is one of the plan's frames of node n, and has a smaller ID: "11-bit rows come before 29-bit ones, each in ascending order, and the place of
-- Ticket 4 counts in that order" (document 02, Ticket 6)
pub record Smaller (p : Plan) (n : ℕ) (i : Id) (r : ℕ) : Type 0 where
  pub exists : r < length p.rows
  pub node : (row_in p r).frame.node ≡ n
  pub id : Before (row_in p r).frame.id i

-- a payload: eight bytes
pub record Payload (xs : List ℕ) : Type 0 where
  pub eight : length xs ≡ 8
  pub bytes : Bytes xs

-- one thing of each kind for each frame and node
pub record Shape (p : Plan) (s : State) : Type 0 where
  pub kept : length s.kept ≡ length p.tx
  pub payload : (t : ℕ) → t < length p.tx → Payload (kept_of s t)
  pub tx_timers : length s.tx_timers ≡ length p.tx
  pub rx_timers : length s.rx_timers ≡ length p.rows
  pub longs : length s.longs ≡ length p.rows
  pub queues : length s.queues ≡ p.nodes

-- a caller's call is refused: the answer, and "A refusal writes nothing."
pub record Answers (g : Running) (s : State) (c : Call) (x : Answer) : Type 0 where
  pub answer : g.answer s c ≡ x
  pub stays : g.next s c ≡ s
