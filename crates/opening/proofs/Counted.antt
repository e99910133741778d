-- The counts that the records leave: each node, CAN node, Tx frame and Rx frame is counted once.
use Rattle.std.proofs.Common.{◌≡◌, ℕ, suc, ◌+◌, ◌%◌, ◌<◌, ◌≤◌, Bool, true, false, eqb, List, [], ◌∷◌, length, set, ◌∙◌, arith, length-set, get_or-set_other, get_or-set_same}
use Rattle.base.specs.Pick.{pick}
use Rattle.base.specs.Numbers.{byte_at, low_at}
use Rattle.base.proofs.Ranges.{low_same}
use Rattle.records.specs.declared.record.TxFrame.{TxFrame}
use Rattle.records.specs.declared.record.RxFrame.{RxFrame}
use Rattle.records.specs.declared.record.Record.{Record}
use Rattle.records.specs.declared.record.Record.TheVariants.{Head, Node, Tx, Rx, Signal, Destination, Broken}
use Rattle.plan.specs.Rows.{rows_from, tx_frames, nodes_in, cans_in}
use Rattle.area.specs.Layout.{order_byte, node_count_byte, can_count_byte, tx_count_bytes, rx_count_bytes, nodes_start}
use Rattle.opening.specs.Opened.{next_tx, next_rx, with_tx_timer, with_payload, with_frame, with_tx_place, with_tx}
use Rattle.opening.specs.Opened.{with_rx_timer, with_row, with_node_row, with_request, with_rx, with_can, with_node, with_record, with_records}
use Rattle.opening.proofs.Kept.{same, Same-set, same_node, Same-tx, Same-rx}
use Rattle.records.specs.Records.{size_of}

-- what is counted from a to b, as long as it is in range; the rows are numbered from any number on
pub record Counts (n c t : ℕ) (r : ℕ → ℕ) (a b : List ℕ) : Type 0 where
  pub nodes : byte_at a node_count_byte + n < 256 → byte_at b node_count_byte ≡ byte_at a node_count_byte + n
  pub can : byte_at a can_count_byte + c < 256 → byte_at b can_count_byte ≡ byte_at a can_count_byte + c
  pub tx : low_at a tx_count_bytes + t ≤ 256 → low_at b tx_count_bytes ≡ low_at a tx_count_bytes + t
  pub rx : (k : ℕ) → low_at a rx_count_bytes + r k ≤ 256 → low_at b rx_count_bytes ≡ low_at a rx_count_bytes + r k

abbrev pub CountsOf : List Record → List ℕ → List ℕ → Type 0
CountsOf rs a b = Counts (nodes_in rs) (cans_in rs) (length (tx_frames rs)) (λ n. length (rows_from n rs)) a b

node_length : (type : ℕ) (a : List ℕ) → length (with_node type a) ≡ length a
node_length type a = (same_node (λ j. ⊥) type a (λ p. p) (λ p. p)).len

tx_length : (at : ℕ) (x : TxFrame) (a : List ℕ) → length (with_tx at x a) ≡ length a
tx_length at x a = (Same-tx (λ j. ⊥) (λ j low high p. p) at x a (λ p. p) (λ p. p)).len

rx_length : (at : ℕ) (x : RxFrame) (a : List ℕ) → length (with_rx at x a) ≡ length a
rx_length at x a = (Same-rx (λ j. ⊥) (λ j low high p. p) at x a (λ p. p) (λ p. p)).len

-- a frame's number goes up by one
tx_next : (at : ℕ) (x : TxFrame) (a : List ℕ) → rx_count_bytes + 2 ≤ length a → low_at (with_tx at x a) tx_count_bytes ≡ next_tx a + 1
unfolding with_tx
tx_next at x a l =
    let b = with_frame (x.node % 16) (with_payload (next_tx a) x.payload (with_tx_timer (next_tx a) x (with_tx_place (next_tx a) at x a))) in
    let n = simp length-set at (tx_length at x a) in
    low_same b tx_count_bytes (next_tx a + 1) (omega arith) (omega arith)

rx_next : (at : ℕ) (x : RxFrame) (a : List ℕ) → rx_count_bytes + 2 ≤ length a → low_at (with_rx at x a) rx_count_bytes ≡ next_rx a + 1
unfolding with_rx
rx_next at x a l =
    let b = with_request (x.node % 16) (with_node_row (x.node % 16) (next_rx a) (with_row (next_rx a) at x (with_rx_timer (next_rx a) x a))) in
    let n = simp length-set at (rx_length at x a) in
    low_same b rx_count_bytes (next_rx a + 1) (omega arith) (omega arith)

-- one record, and then the rest, whose rows have the numbers `next`
then :
    {n d t r m e u m' e' u' : ℕ} {q q' : ℕ → ℕ} {a b c : List ℕ} (next : ℕ → ℕ) → Counts n d t (λ k. r) a b → Counts m e u q b c
    → m' ≡ n + m → e' ≡ d + e → u' ≡ t + u → ((k : ℕ) → q' k ≡ r + q (next k)) → Counts m' e' u' q' a c
then next one rest en ed et er = record {
  nodes = λ h. omega (arith, one.nodes (omega arith), rest.nodes (omega (arith, one.nodes (omega arith))));
  can = λ h. omega (arith, one.can (omega arith), rest.can (omega (arith, one.can (omega arith))));
  tx = λ h. omega (arith, one.tx (omega arith), rest.tx (omega (arith, one.tx (omega arith))));
  rx = λ k h.
      let e = er k in
      let o = one.rx k (omega arith) in
      omega (arith, rest.rx (next k) (omega arith));
}

pub one_more : (t : Bool) (k : ℕ) → pick t (suc k) k ≡ pick t 1 0 + k
unfolding pick
one_more true k = omega arith
one_more false k = omega arith

module _ (a : List ℕ) (l : rx_count_bytes + 2 ≤ length a) where
  -- nothing is counted
  none_counts : Counts 0 0 0 (λ k. 0) a a
  none_counts = record { nodes = λ h. omega arith; can = λ h. omega arith; tx = λ h. omega arith; rx = λ k h. omega arith }

  -- a byte before the counts of frames
  byte_counts :
      (i v : ℕ) {n c : ℕ} → i < tx_count_bytes
      → (byte_at a node_count_byte + n < 256 → byte_at (set a i v) node_count_byte ≡ byte_at a node_count_byte + n)
      → (byte_at a can_count_byte + c < 256 → byte_at (set a i v) can_count_byte ≡ byte_at a can_count_byte + c)
      → Counts n c 0 (λ k. 0) a (set a i v)
  byte_counts i v h nodes can =
      let s = Same-set (λ j. tx_count_bytes ≤ j) i v (λ p. omega arith) (same _ a) in
      record {
        nodes = nodes;
        can = can;
        tx = λ h. omega (arith, s.at tx_count_bytes (omega arith), s.at (tx_count_bytes + 1) (omega arith));
        rx = λ k h. omega (arith, s.at rx_count_bytes (omega arith), s.at (rx_count_bytes + 1) (omega arith));
      }

  beside : (i j v : ℕ) → (j ≡ i → ⊥) → byte_at (set a i v) j ≡ byte_at a j + 0
  beside i j v d = omega (arith, get_or-set_other a i j v 0 d)

  raised : (i : ℕ) → i < length a → byte_at a i + 1 < 256 → byte_at (set a i ((byte_at a i + 1) % 256)) i ≡ byte_at a i + 1
  raised i m h = get_or-set_same a i ((byte_at a i + 1) % 256) 0 m ∙ omega arith

  head_counts : (order : ℕ) → Counts 0 0 0 (λ k. 0) a (set a order_byte order)
  head_counts order =
      byte_counts order_byte order (omega arith)
      (λ h. beside order_byte node_count_byte order (λ e. omega arith)) (λ h. beside order_byte can_count_byte order (λ e. omega arith))

  number_counts : Counts 1 0 0 (λ k. 0) a (set a node_count_byte ((byte_at a node_count_byte + 1) % 256))
  number_counts =
      byte_counts node_count_byte _ (omega arith)
      (λ h. raised node_count_byte (omega arith) h) (λ h. beside node_count_byte can_count_byte _ (λ e. omega arith))

  can_counts : (t : Bool) → Counts 0 (pick t 1 0) 0 (λ k. 0) a (pick t (set a can_count_byte ((byte_at a can_count_byte + 1) % 256)) a)
  unfolding pick
  can_counts true =
      byte_counts can_count_byte _ (omega arith)
      (λ h. beside can_count_byte node_count_byte _ (λ e. omega arith)) (λ h. raised can_count_byte (omega arith) h)
  can_counts false = none_counts

  tx_counts : (at : ℕ) (x : TxFrame) → Counts 0 0 1 (λ k. 0) a (with_tx at x a)
  tx_counts at x =
      let P : ℕ → Type 0 = λ j. (j < nodes_start) × (tx_count_bytes ≤ j → rx_count_bytes ≤ j) in
      let s = Same-tx P (λ j low high p. omega arith) at x a (λ p. omega (arith, p.1 (omega arith))) (λ p. omega (arith, p.1 (omega arith))) in
      record {
        nodes = λ h. omega (arith, s.at node_count_byte (omega arith, λ m. omega arith));
        can = λ h. omega (arith, s.at can_count_byte (omega arith, λ m. omega arith));
        tx = λ h. omega (arith, tx_next at x a l);
        rx = λ k h. omega (arith, s.at rx_count_bytes (omega arith, λ m. omega arith), s.at (rx_count_bytes + 1) (omega arith, λ m. omega arith));
      }

  rx_counts : (at : ℕ) (x : RxFrame) → Counts 0 0 0 (λ k. 1) a (with_rx at x a)
  rx_counts at x =
      let s = Same-rx (λ j. j < rx_count_bytes) (λ j low high p. omega arith) at x a (λ p. omega arith) (λ p. omega arith) in
      record {
        nodes = λ h. omega (arith, s.at node_count_byte (omega arith));
        can = λ h. omega (arith, s.at can_count_byte (omega arith));
        tx = λ h. omega (arith, s.at tx_count_bytes (omega arith), s.at (tx_count_bytes + 1) (omega arith));
        rx = λ k h. omega (arith, rx_next at x a l);
      }

node_counts : (type : ℕ) (a : List ℕ) → rx_count_bytes + 2 ≤ length a → Counts 1 (pick (eqb type 0) 1 0) 0 (λ k. 0) a (with_node type a)
unfolding with_node with_can
node_counts type a l =
    then (λ k. k) (number_counts a l)
    (can_counts (set a node_count_byte ((byte_at a node_count_byte + 1) % 256)) (simp length-set l) (eqb type 0))
    (omega arith) (omega arith) (omega arith) (λ k. omega arith)

pub counts : (at : ℕ) (rs : List Record) (a : List ℕ) → rx_count_bytes + 2 ≤ length a → CountsOf rs a (with_records at rs a)
unfolding with_records with_record nodes_in cans_in tx_frames rows_from
counts at [] a l = none_counts a l
counts at (Head order ∷ rs) a l =
    then (λ k. k) (head_counts a l order) (counts (at + size_of (Head order)) rs (set a order_byte order) (simp length-set l))
    (omega arith) (omega arith) (omega arith) (λ k. omega arith)
counts at (Node body ∷ rs) a l =
    then (λ k. k) (node_counts body.of a l) (counts _ rs (with_node body.of a) (rw (node_length body.of a) l))
    (omega arith) (one_more (eqb body.of 0) (cans_in rs)) (omega arith) (λ k. omega arith)
counts at (Tx x ∷ rs) a l =
    then (λ k. k) (tx_counts a l at x) (counts _ rs (with_tx at x a) (rw (tx_length at x a) l))
    (omega arith) (omega arith) (omega arith) (λ k. omega arith)
counts at (Rx x ∷ rs) a l =
    then suc (rx_counts a l at x) (counts _ rs (with_rx at x a) (rw (rx_length at x a) l))
    (omega arith) (omega arith) (omega arith) (λ k. omega arith)
counts at (Signal body ∷ rs) a l = counts _ rs a l
counts at (Destination body ∷ rs) a l = counts _ rs a l
counts at (Broken fault ∷ rs) a l = counts _ rs a l
