-- The tests of 7 and 8 fail exactly where those lines apply.
use mathlib.Core.Path.{◌≡◌}
use mathlib.Core.Logic.{inl, inr, ⊎_elim}
use mathlib.Core.Bool.{true, false, ◌&&◌, true≢false}
use mathlib.Core.List.{List}
use Prim.Native.Nat.{ℕ, ◌+◌, ◌-◌, ◌*◌, ◌≤◌, ◌<◌}
use native.Mathlib.Decide.{dec_lt}
use native.Mathlib.Omega.{arith}
use lib.Dec.{leb, ltb}
use lib.ListN.{get_or}
use borrow.Author.Tests.{leb-true}
use Rattle.records.specs.declared.record.Record.{Record}
use Rattle.records.specs.declared.record.Record.TheVariants.{Destination}
use Rattle.plan.specs.Tests.{may_stand, in_data, is_free}
use Rattle.facts.specs.Good.{count_of}
use Rattle.facts.specs.Statements.{State}
use Rattle.refusals.specs.Before.{◌or◌}
use Rattle.refusals.specs.Owners.{PassesData, no_frame, TwoOwners}
use Rattle.refusals.specs.Owners as O
use Rattle.refusals.proofs.Passing.{Whole, head, node, tx_frame, rx_frame, signal, destination, row_in, counts_in, stage_in}
use Rattle.refusals.proofs.SoFar.{SoFar}
use Rattle.refusals.proofs.Fails.{Fails, less, most, both, Taken, free}

module _ (before : List Record) (s : State) (h : SoFar before s) where
  -- ---- 7

  destination_test : (t q : ℕ) → Fails (ltb t (counts_in s).tx && leb (q + (row_in s).size) (8 * get_or s.sizes t 0))
      ((count_of 3 before ≤ t) or (8 * get_or s.sizes t 0 < q + (row_in s).size))
  destination_test t q = rw (← h.tx) (both (less _ _) (most _ _))

  past_data : (r : Record) → Whole r → may_stand (stage_in s) r ≡ true
      → in_data (counts_in s) (row_in s) s.sizes r ≡ false → PassesData before r
  unfolding in_data may_stand
  past_data r (head order) m e = absurd (true≢false e)
  past_data r (node body) m e = absurd (true≢false e)
  past_data r (tx_frame x) m e = absurd (true≢false e)
  past_data r (rx_frame x) m e = absurd (true≢false e)
  past_data r (signal g) m e =
      let x = h.stands.rx (leb-true 4 (stage_in s) m) in
      O.signal g x (omega (arith, (most (g.position + g.size) (row_in s).room).says e, (h.reading x).room))
  past_data r (destination t) m e = ⊎_elim (λ l. no_frame t l) (λ l. go (dec_lt t.tx.0 (count_of 3 before)) l)
      ((destination_test t.tx.0 t.position).says e)
    where
      go : Dec (t.tx.0 < count_of 3 before) → 8 * get_or s.sizes t.tx.0 0 < t.position + (row_in s).size → PassesData before (Destination t)
      go (yes k) l =
          let y = h.frames t.tx.0 k in
          let x = h.stands.signal (leb-true 5 (stage_in s) m) in
          O.destination t y x (omega (arith, l, h.sizes t.tx.0 y, (h.sized x).size))
      go (no k) l = no_frame t (omega arith)

  data_past : (r : Record) → PassesData before r → in_data (counts_in s) (row_in s) s.sizes r ≡ false
  unfolding in_data
  data_past r (O.signal g x l) = (most (g.position + g.size) (row_in s).room).back (omega (arith, l, (h.reading x).room))
  data_past r (no_frame t l) = (destination_test t.tx.0 t.position).back (inl l)
  data_past r (O.destination t y x l) = (destination_test t.tx.0 t.position).back (inr (omega (arith, l, h.sizes t.tx.0 y, (h.sized x).size)))

  pub data_fits : (r : Record) → Whole r → may_stand (stage_in s) r ≡ true
      → Fails (in_data (counts_in s) (row_in s) s.sizes r) (PassesData before r)
  data_fits r w m = record { says = past_data r w m; back = data_past r }

  -- ---- 8

  clashes : (r : Record) → Whole r → may_stand (stage_in s) r ≡ true → is_free (row_in s) s.sets r ≡ false → TwoOwners before r
  unfolding is_free may_stand
  clashes r (head order) m e = absurd (true≢false e)
  clashes r (node body) m e = absurd (true≢false e)
  clashes r (tx_frame x) m e = absurd (true≢false e)
  clashes r (rx_frame x) m e = absurd (true≢false e)
  clashes r (signal g) m e = absurd (true≢false e)
  clashes r (destination t) m e =
      let x = h.stands.signal (leb-true 5 (stage_in s) m) in
      let k = (free (get_or s.sets t.tx.0 0) t.position (row_in s).size).says e in
      O.destination t x (t.position + k.0) (omega arith) (omega (arith, k.1, (h.sized x).size)) ((h.owned t.tx.0 (t.position + k.0)).0 k.2)

  two_clash : (r : Record) → TwoOwners before r → is_free (row_in s) s.sets r ≡ false
  unfolding is_free
  two_clash r (O.destination t x b l m o) =
      let e : t.position + (b - t.position) ≡ b = omega arith in
      let k : Taken (get_or s.sets t.tx.0 0) t.position (row_in s).size =
      (b - t.position, omega (arith, l, m, (h.sized x).size), rw e ((h.owned t.tx.0 b).1 o)) in
      (free (get_or s.sets t.tx.0 0) t.position (row_in s).size).back k

  pub owner : (r : Record) → Whole r → may_stand (stage_in s) r ≡ true → Fails (is_free (row_in s) s.sets r) (TwoOwners before r)
  owner r w m = record { says = clashes r w m; back = two_clash r }
