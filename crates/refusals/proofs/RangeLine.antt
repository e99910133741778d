-- The tests of 5 fail exactly where those lines apply.
use mathlib.Core.Path.{◌≡◌, refl}
use mathlib.Core.Logic.{◌≢◌, inl, inr}
use mathlib.Core.Bool.{true, false, ◌&&◌, ◌||◌, true≢false}
use mathlib.Core.List.{List, [], ◌∷◌}
use Prim.Native.Nat.{ℕ, zero, suc, ◌≤◌, ◌<◌}
use native.Mathlib.Omega.{arith}
use lib.Dec.{leb, ltb, eqb}
use lib.ListN.{get_or}
use Rattle.base.specs.Numbers.{byte_at}
use Rattle.records.specs.declared.record.Id.{Id}
use Rattle.records.specs.declared.record.Id.TheVariants.{Standard, Extended}
use Rattle.records.specs.declared.record.TxFrame.{TxFrame}
use Rattle.records.specs.declared.record.RxFrame.{RxFrame}
use Rattle.records.specs.declared.record.Record.{Record}
use Rattle.records.specs.Records.{eight_bytes}
use Rattle.plan.specs.Tests.{is_prescaler, zero_past, id_in_range, tx_in_range, rx_in_range, in_range, is_lin_id, frame_fits, fits_node}
use Rattle.plan.proofs.TestLaws.{tx_ranges, rx_ranges}
use Rattle.facts.specs.Good.{count_of}
use Rattle.facts.specs.Statements.{State}
use Rattle.refusals.specs.Before.{◌or◌, ◌and◌, LinBefore}
use Rattle.refusals.specs.Fields.{NoPrescaler, NotZeroPast, NoId, OutOfRange, NoLinId, OutOfLinRange}
use Rattle.refusals.specs.Fields as F
use Rattle.refusals.proofs.Passing.{Whole, head, node, tx_frame, rx_frame, signal, destination, counts_in}
use Rattle.refusals.proofs.SoFar.{SoFar}
use Rattle.refusals.proofs.Fails.{Fails, less, most, equal, both, either, by}

prescaler : (p : ℕ) → Fails (is_prescaler p) (NoPrescaler p)
unfolding is_prescaler
prescaler p = either (either (either (equal _ _) (equal _ _)) (equal _ _)) (equal _ _)

-- some byte past the size, one by one
abbrev SomePast : ℕ → List ℕ → Type 0
SomePast size b =
    ((size ≤ 0) and (byte_at b 0 ≢ 0)) or ((size ≤ 1) and (byte_at b 1 ≢ 0)) or ((size ≤ 2) and (byte_at b 2 ≢ 0)) or ((size ≤ 3) and (byte_at b 3 ≢ 0))
    or ((size ≤ 4) and (byte_at b 4 ≢ 0)) or ((size ≤ 5) and (byte_at b 5 ≢ 0)) or ((size ≤ 6) and (byte_at b 6 ≢ 0)) or ((size ≤ 7) and (byte_at b 7 ≢ 0))

some_past : (size : ℕ) (b : List ℕ) → SomePast size b → NotZeroPast size b
some_past size b (inl (inl (inl (inl (inl (inl (inl w))))))) = (0, w.0, w.1)
some_past size b (inl (inl (inl (inl (inl (inl (inr w))))))) = (1, w.0, w.1)
some_past size b (inl (inl (inl (inl (inl (inr w)))))) = (2, w.0, w.1)
some_past size b (inl (inl (inl (inl (inr w))))) = (3, w.0, w.1)
some_past size b (inl (inl (inl (inr w)))) = (4, w.0, w.1)
some_past size b (inl (inl (inr w))) = (5, w.0, w.1)
some_past size b (inl (inr w)) = (6, w.0, w.1)
some_past size b (inr w) = (7, w.0, w.1)

past_some : (size : ℕ) (b : List ℕ) (i : ℕ) → size ≤ i → byte_at (eight_bytes b) i ≢ 0 → SomePast size b
past_some size b zero l d = inl (inl (inl (inl (inl (inl (inl (l, d)))))))
past_some size b (suc zero) l d = inl (inl (inl (inl (inl (inl (inr (l, d)))))))
past_some size b (suc (suc zero)) l d = inl (inl (inl (inl (inl (inr (l, d))))))
past_some size b (suc (suc (suc zero))) l d = inl (inl (inl (inl (inr (l, d)))))
past_some size b (suc (suc (suc (suc zero)))) l d = inl (inl (inl (inr (l, d))))
past_some size b (suc (suc (suc (suc (suc zero))))) l d = inl (inl (inr (l, d)))
past_some size b (suc (suc (suc (suc (suc (suc zero)))))) l d = inl (inr (l, d))
past_some size b (suc (suc (suc (suc (suc (suc (suc zero))))))) l d = inr (l, d)
past_some size b (suc (suc (suc (suc (suc (suc (suc (suc i)))))))) l d = absurd (d refl)

zeros : (size : ℕ) (b : List ℕ) → Fails (zero_past size b) (NotZeroPast size b)
unfolding zero_past
zeros size b =
    by (both (both (both (both (both (both (both at at) at) at) at) at) at) at) (some_past size b) (λ w. past_some size b w.0 w.1 w.2)
  where
    at : {i x : ℕ} → Fails (ltb i size || eqb x 0) ((size ≤ i) and (x ≢ 0))
    at = either (less _ _) (equal _ _)

Fails-id_in_range : (id : Id) → Fails (id_in_range id) (NoId id)
unfolding id_in_range
Fails-id_in_range id = record { says = says id; back = back id }
  where
    says : (id : Id) → id_in_range id ≡ false → NoId id
    says (Standard n) e = F.standard n ((less n 2048).says e)
    says (Extended n) e = F.extended n ((less n 536870912).says e)

    back : (id : Id) → NoId id → id_in_range id ≡ false
    back id (F.standard n l) = (less n 2048).back l
    back id (F.extended n l) = (less n 536870912).back l

tx_range : (n : ℕ) (x : TxFrame)
    → Fails (tx_in_range n x)
    ((n ≤ x.node) or NoId x.id or (8 < x.size) or NoPrescaler x.prescaler or (3 < x.flags) or NotZeroPast x.size x.payload)
unfolding tx_in_range
tx_range n x = both (both (both (both (both (less _ _) (Fails-id_in_range _)) (most _ _)) (prescaler _)) (most _ _)) (zeros _ _)

rx_range : (n : ℕ) (x : RxFrame)
    → Fails (rx_in_range n x)
    ((n ≤ x.node) or NoId x.id or (8 < x.size) or NoPrescaler x.prescaler or (1 < x.enable) or (63 < x.position) or (15 < x.long))
unfolding rx_in_range
rx_range n x = both (both (both (both (both (both (less _ _) (Fails-id_in_range _)) (most _ _)) (prescaler _)) (most _ _)) (most _ _)) (most _ _)

signal_range : (p z : ℕ) → Fails (leb p 63 && ltb 0 z && leb z 64) ((63 < p) or (z < 1) or (64 < z))
signal_range p z = both (both (most _ _) (by (less 0 z) (λ l. omega arith) (λ l. omega arith))) (most _ _)

module _ (before : List Record) where
  outside : (r : Record) → Whole r → in_range (count_of 2 before) r ≡ false → OutOfRange before r
  unfolding in_range
  outside r (head order) e = F.head order ((most order 1).says e)
  outside r (node body) e = F.node body ((most body.of 1).says e)
  outside r (tx_frame x) e = F.tx_frame x ((tx_range _ x).says e)
  outside r (rx_frame x) e = F.rx_frame x ((rx_range _ x).says e)
  outside r (signal g) e = F.signal g ((signal_range g.position g.size).says e)
  outside r (destination t) e = F.destination t ((most t.position 63).says e)

  not_inside : (r : Record) → OutOfRange before r → in_range (count_of 2 before) r ≡ false
  unfolding in_range
  not_inside r (F.head order l) = (most order 1).back l
  not_inside r (F.node body l) = (most body.of 1).back l
  not_inside r (F.tx_frame x l) = (tx_range _ x).back l
  not_inside r (F.rx_frame x l) = (rx_range _ x).back l
  not_inside r (F.signal g l) = (signal_range g.position g.size).back l
  not_inside r (F.destination t l) = (most t.position 63).back l

  pub range : (s : State) → SoFar before s → (r : Record) → Whole r → Fails (in_range (counts_in s).nodes r) (OutOfRange before r)
  range s h r w = rw h.nodes (record { says = outside r w; back = not_inside r })

-- ---- on a LIN node

lin_id : (id : Id) → Fails (is_lin_id id) (NoLinId id)
unfolding is_lin_id
lin_id id = record { says = says id; back = back id }
  where
    says : (id : Id) → is_lin_id id ≡ false → NoLinId id
    says (Standard n) e = F.standard n ((less n 60).says e)
    says (Extended n) e = F.extended n

    back : (id : Id) → NoLinId id → is_lin_id id ≡ false
    back id (F.standard n l) = (less n 60).back l
    back id (F.extended n) = refl

module _ (before : List Record) (s : State) (h : SoFar before s) where
  frame_test :
      (on : ℕ) (id : Id) (size : ℕ) → on < (counts_in s).nodes
      → Fails (frame_fits (counts_in s).can on id size) (LinBefore on before and (NoLinId id or (size < 1)))
  unfolding frame_fits
  frame_test on id size l =
      by (either (less on (counts_in s).can) (both (lin_id id) (by (less 0 size) (λ k. omega arith) (λ k. omega arith))))
      (λ w. (h.lin on (omega (arith, w.0, h.can)) (omega (arith, l, h.nodes)), w.1))
      (λ w. (omega (arith, h.above on w.0, h.can), w.1))

  no_fit : (r : Record) → Whole r → in_range (counts_in s).nodes r ≡ true → fits_node (counts_in s) r ≡ false → OutOfLinRange before r
  unfolding in_range fits_node
  no_fit r (head order) i e = absurd (true≢false e)
  no_fit r (node body) i e = absurd (true≢false e)
  no_fit r (tx_frame x) i e = let w = (frame_test x.node x.id x.size (tx_ranges _ x i).node).says e in F.tx_frame x w.0 w.1
  no_fit r (rx_frame x) i e = let w = (frame_test x.node x.id x.size (rx_ranges _ x i).node).says e in F.rx_frame x w.0 w.1
  no_fit r (signal g) i e = absurd (true≢false e)
  no_fit r (destination t) i e = absurd (true≢false e)

  not_fitting : (r : Record) → in_range (counts_in s).nodes r ≡ true → OutOfLinRange before r → fits_node (counts_in s) r ≡ false
  unfolding in_range fits_node
  not_fitting r i (F.tx_frame x y w) = (frame_test x.node x.id x.size (tx_ranges _ x i).node).back (y, w)
  not_fitting r i (F.rx_frame x y w) = (frame_test x.node x.id x.size (rx_ranges _ x i).node).back (y, w)

  pub lin_range : (r : Record) → Whole r → in_range (counts_in s).nodes r ≡ true → Fails (fits_node (counts_in s) r) (OutOfLinRange before r)
  lin_range r w i = record { says = no_fit r w i; back = not_fitting r i }
