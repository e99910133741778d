-- What the parts of an opening leave: the length, and each byte at a place of P.
use Rattle.std.proofs.Common.{◌≡◌, ℕ, zero, suc, ◌+◌, ◌%◌, ◌<◌, ◌≤◌, List, [], ◌∷◌, length, get_or, set, refl, ◌∙◌, add-one, arith, length-set, get_or-set_other}
use Rattle.base.specs.Numbers.{low_at, set_low}
use Rattle.base.proofs.Picks.{both}
use Rattle.records.specs.declared.record.TxFrame.{TxFrame}
use Rattle.records.specs.declared.record.RxFrame.{RxFrame}
use Rattle.records.specs.declared.record.Record.{Record}
use Rattle.records.specs.declared.record.Record.TheVariants.{Head, Node, Tx, Rx, Signal, Destination, Broken}
use Rattle.area.specs.Layout.{order_byte, node_count_byte, can_count_byte, tx_count_bytes, rx_count_bytes, nodes_start, plan_start, queue}
use Rattle.opening.specs.Opened.{cleared, zeroed, laid, with_tx_timer, with_payload, with_frame, with_tx_place, with_tx, with_rx_timer, with_key, with_row, with_node_row}
use Rattle.opening.specs.Opened.{with_request, with_rx, with_can, with_node, with_record, with_records, rings_before, with_rings, with_fullness}
use Rattle.records.specs.Records.{size_of}

pub record Same (P : ℕ → Type 0) (a b : List ℕ) : Type 0 where
  pub len : length b ≡ length a
  pub at : (j : ℕ) → P j → get_or b j 0 ≡ get_or a j 0

module _ (P : ℕ → Type 0) where
  pub same : (a : List ℕ) → Same P a a
  same a = record { len = refl; at = λ j p. refl }

  pub Same-then : {a b c : List ℕ} → Same P a b → Same P b c → Same P a c
  Same-then s t = record { len = t.len ∙ s.len; at = λ j p. t.at j p ∙ s.at j p }

  pub Same-set : {a b : List ℕ} (i v : ℕ) → (P i → ⊥) → Same P a b → Same P a (set b i v)
  Same-set {a} {b} i v never s = record {
    len = length-set b i v ∙ s.len;
    at = λ j p. get_or-set_other b i j v 0 (λ e. never (rw e at p)) ∙ s.at j p;
  }

  pub Same-low : {a b : List ℕ} (i v : ℕ) → (P i → ⊥) → (P (i + 1) → ⊥) → Same P a b → Same P a (set_low b i v)
  Same-low i v first second s = Same-set _ _ second (Same-set _ _ first s)

  pub Same-cleared : (n : ℕ) (a : List ℕ) → ((j : ℕ) → j < n → P j → ⊥) → Same P a (cleared n a)
  unfolding cleared
  Same-cleared zero a never = same a
  Same-cleared (suc n) a never = Same-set _ _ (never n (omega arith)) (Same-cleared n a (λ j h. never j (omega arith)))

  pub Same-laid : (plan : List ℕ) (n : ℕ) (a : List ℕ) → ((j : ℕ) → j < n → P (plan_start + j) → ⊥) → Same P a (laid plan n a)
  unfolding laid
  Same-laid plan zero a never = same a
  Same-laid plan (suc n) a never = Same-set _ _ (never n (omega arith)) (Same-laid plan n a (λ j h. never j (omega arith)))

  pub Same-zeroed : (from n : ℕ) (a : List ℕ) → ((j : ℕ) → j < n → P (from + j) → ⊥) → Same P a (zeroed from n a)
  unfolding zeroed
  Same-zeroed from zero a never = same a
  Same-zeroed from (suc n) a never = Same-set _ _ (never n (omega arith)) (Same-zeroed from n a (λ j h. never j (omega arith)))

  pub same_node : (type : ℕ) (a : List ℕ) → (P node_count_byte → ⊥) → (P can_count_byte → ⊥) → Same P a (with_node type a)
  unfolding with_node with_can
  same_node type a nodes can =
      let s = Same-set node_count_byte _ nodes (same a) in
      both (Same P a) _ _ _ (Same-set can_count_byte _ can s) s

pub zeroed-length : (from n : ℕ) (a : List ℕ) → length (zeroed from n a) ≡ length a
zeroed-length from n a = (Same-zeroed (λ j. ⊥) from n a (λ j h p. p)).len

pub cleared-length : (n : ℕ) (a : List ℕ) → length (cleared n a) ≡ length a
cleared-length n a = (Same-cleared (λ j. ⊥) n a (λ j h p. p)).len

pub laid-length : (plan : List ℕ) (n : ℕ) (a : List ℕ) → length (laid plan n a) ≡ length a
laid-length plan n a = (Same-laid (λ j. ⊥) plan n a (λ j h p. p)).len

-- P: no place of the tables, which stand from the nodes on to the plan
module _ (P : ℕ → Type 0) (tables : (j : ℕ) → nodes_start ≤ j → j < plan_start → P j → ⊥) where
  put : {a b : List ℕ} (i v : ℕ) → nodes_start ≤ i → i < plan_start → Same P a b → Same P a (set b i v)
  put i v low high s = Same-set P _ _ (tables i low high) s

  put_low : {a b : List ℕ} (i v : ℕ) → nodes_start ≤ i → i + 1 < plan_start → Same P a b → Same P a (set_low b i v)
  put_low i v low high s = Same-low P _ _ (tables i low (omega arith)) (tables (i + 1) (omega arith) high) s

  Same-tx_timer : (t : ℕ) (x : TxFrame) (a : List ℕ) → t < 256 → Same P a (with_tx_timer t x a)
  unfolding with_tx_timer
  Same-tx_timer t x a h =
      put _ _ (omega arith) (omega arith) (put _ _ (omega arith) (omega arith) (put _ _ (omega arith) (omega arith) (same P a)))

  Same-payload : (t : ℕ) (b : List ℕ) (a : List ℕ) → t < 256 → Same P a (with_payload t b a)
  unfolding with_payload
  Same-payload t b a h =
      put _ _ (omega arith) (omega arith) (put _ _ (omega arith) (omega arith) (put _ _ (omega arith) (omega arith)
      (put _ _ (omega arith) (omega arith) (put _ _ (omega arith) (omega arith) (put _ _ (omega arith) (omega arith)
      (put _ _ (omega arith) (omega arith) (put _ _ (omega arith) (omega arith) (same P a))))))))

  Same-frame : (n : ℕ) (a : List ℕ) → n < 16 → Same P a (with_frame n a)
  unfolding with_frame
  Same-frame n a h = put_low _ _ (omega arith) (omega arith) (same P a)

  Same-tx_place : (t at : ℕ) (x : TxFrame) (a : List ℕ) → t < 256 → Same P a (with_tx_place t at x a)
  unfolding with_tx_place
  Same-tx_place t at x a h = put _ _ (omega arith) (omega arith) (put_low _ _ (omega arith) (omega arith) (same P a))

  pub Same-tx : (at : ℕ) (x : TxFrame) (a : List ℕ) → (P tx_count_bytes → ⊥) → (P (tx_count_bytes + 1) → ⊥) → Same P a (with_tx at x a)
  unfolding with_tx
  Same-tx at x a low high =
      Same-low P _ _ low high
      (Same-then P (Same-tx_place _ at x a (omega arith))
      (Same-then P (Same-tx_timer _ x _ (omega arith))
      (Same-then P (Same-payload _ x.payload _ (omega arith)) (Same-frame _ _ (omega arith)))))

  Same-rx_timer : (r : ℕ) (x : RxFrame) (a : List ℕ) → r < 256 → Same P a (with_rx_timer r x a)
  unfolding with_rx_timer
  Same-rx_timer r x a h =
      put _ _ (omega arith) (omega arith) (put _ _ (omega arith) (omega arith) (put _ _ (omega arith) (omega arith)
      (put _ _ (omega arith) (omega arith) (same P a))))

  Same-row : (r at : ℕ) (x : RxFrame) (a : List ℕ) → r < 256 → Same P a (with_row r at x a)
  unfolding with_row with_key
  Same-row r at x a h =
      put _ _ (omega arith) (omega arith)
      (put_low _ _ (omega arith) (omega arith) (put_low _ _ (omega arith) (omega arith) (put_low _ _ (omega arith) (omega arith) (same P a))))

  Same-node_row : (n r : ℕ) (a : List ℕ) → n < 16 → Same P a (with_node_row n r a)
  unfolding with_node_row
  Same-node_row n r a h =
      put_low _ _ (omega arith) (omega arith)
      (both (Same P a) _ _ _ (put_low _ _ (omega arith) (omega arith) (same P a)) (same P a))

  Same-request : (n : ℕ) (a : List ℕ) → n < 16 → Same P a (with_request n a)
  unfolding with_request
  Same-request n a h = both (Same P a) _ _ _ (same P a) (Same-frame n a h)

  pub Same-rx : (at : ℕ) (x : RxFrame) (a : List ℕ) → (P rx_count_bytes → ⊥) → (P (rx_count_bytes + 1) → ⊥) → Same P a (with_rx at x a)
  unfolding with_rx
  Same-rx at x a low high =
      Same-low P _ _ low high
      (Same-then P (Same-rx_timer _ x a (omega arith))
      (Same-then P (Same-row _ at x _ (omega arith))
      (Same-then P (Same-node_row _ _ _ (omega arith)) (Same-request _ _ (omega arith)))))

  pub Same-rings : (n : ℕ) (a : List ℕ) → n ≤ 16 → Same P a (with_rings n a)
  unfolding with_rings
  Same-rings zero a h = same P a
  Same-rings (suc n) a h = put_low _ _ (omega arith) (omega arith) (Same-rings n a (omega arith))

  pub Same-fullness : (sets : List ℕ) (n : ℕ) (a : List ℕ) → n ≤ 256 → Same P a (with_fullness sets n a)
  unfolding with_fullness
  Same-fullness sets zero a h = same P a
  Same-fullness sets (suc n) a h = put_low _ _ (omega arith) (omega arith) (Same-fullness sets n a (omega arith))

-- P: none of those places, nor of the order and the counts
module _
    (P : ℕ → Type 0) (order : P order_byte → ⊥) (counts : (j : ℕ) → node_count_byte ≤ j → j < plan_start → P j → ⊥)
  where
    tables : (j : ℕ) → nodes_start ≤ j → j < plan_start → P j → ⊥
    tables j low high = counts j (omega arith) high

    Same-record : (at : ℕ) (r : Record) (a : List ℕ) → Same P a (with_record at r a)
    unfolding with_record
    Same-record at (Head o) a = Same-set P _ _ order (same P a)
    Same-record at (Node body) a = same_node P body.of a (counts node_count_byte (omega arith) (omega arith))
        (counts can_count_byte (omega arith) (omega arith))
    Same-record at (Tx x) a = Same-tx P tables at x a (counts tx_count_bytes (omega arith) (omega arith))
        (counts (tx_count_bytes + 1) (omega arith) (omega arith))
    Same-record at (Rx x) a = Same-rx P tables at x a (counts rx_count_bytes (omega arith) (omega arith))
        (counts (rx_count_bytes + 1) (omega arith) (omega arith))
    Same-record at (Signal body) a = same P a
    Same-record at (Destination body) a = same P a
    Same-record at (Broken fault) a = same P a

    pub Same-records : (at : ℕ) (rs : List Record) (a : List ℕ) → Same P a (with_records at rs a)
    unfolding with_records
    Same-records at [] a = same P a
    Same-records at (r ∷ rs) a = Same-then P (Same-record at r a) (Same-records (at + size_of r) rs _)

-- a queue's room does not stand where the starts are stored
Rings-kept : (n : ℕ) (a : List ℕ) → Same (λ j. 2 ≤ j % 8) a (with_rings n a)
unfolding with_rings
Rings-kept zero a = same _ a
Rings-kept (suc n) a = Same-low (λ j. 2 ≤ j % 8) _ _ (λ p. omega arith) (λ p. omega arith) (Rings-kept n a)

room_kept : (n k : ℕ) (a : List ℕ) → low_at (with_rings n a) (queue k + 2) ≡ low_at a (queue k + 2)
room_kept n k a =
    let s = Rings-kept n a in
    let low = s.at (queue k + 2) (omega arith) in
    let high = s.at (queue k + 2 + 1) (omega arith) in
    omega arith

pub start_next :
    (a b : List ℕ) (n start room : ℕ) → b ≡ with_rings n a → start ≡ rings_before a n → room ≡ low_at b (queue n + 2)
    → start + room ≡ rings_before a (n + 1)
unfolding rings_before
start_next a b n start room is before read = rw (add-one n, read, is, room_kept n n a, before)
