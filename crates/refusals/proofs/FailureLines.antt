-- The tests of 9's second half, and of 8 for the failure bit, fail exactly where those lines apply.
use mathlib.Core.Path.{◌≡◌, refl, sym, ap, ◌∙◌}
use mathlib.Core.Logic.{◌≢◌, ◌⊎◌, inl, inr}
use mathlib.Core.Bool.{true, false, not, ◌||◌, true≢false}
use mathlib.Core.List.{List, [], ◌∷◌, ◌++◌, append_assoc}
use Prim.Native.Nat.{ℕ, ◌+◌, ◌*◌, ◌≤◌}
use native.Mathlib.Omega.{arith}
use lib.Dec.{ltb, eqb}
use lib.ListN.{get_or}
use borrow.Author.Tests.{ltb-true}
use Rattle.bits.specs.Digit.{digit}
use Rattle.bits.specs.Owners.{owned, clash}
use Rattle.records.specs.declared.record.DestinationBody.{DestinationBody}
use Rattle.records.specs.declared.record.SignalBody.{SignalBody}
use Rattle.records.specs.declared.record.Record.{Record}
use Rattle.records.specs.declared.record.Record.TheVariants.{Rx, Signal, Destination}
use Rattle.records.specs.Kinds.{stage_of}
use Rattle.plan.specs.Tests.{followed, in_data, indicator_in_data, indicator_is_free}
use Rattle.plan.proofs.TestLaws.{and_both}
use Rattle.facts.specs.Good.{Each}
use Rattle.facts.specs.Statements.{State}
use Rattle.facts.proofs.Owners.{Within, within?, owned_in, owned_out}
use Rattle.facts.proofs.Followers.{followed_is}
use Rattle.refusals.specs.Before.{◌and◌}
use Rattle.refusals.specs.Owners.{FailureBefore, FailurePasses, FailureTaken, before_it, its_own}
use Rattle.refusals.specs.Owners as O
use Rattle.refusals.proofs.Passing.{Whole, head, node, tx_frame, rx_frame, signal, destination, row_in, counts_in}
use Rattle.refusals.proofs.Awaiting.{Awaiting, all, one, nothing}
use Rattle.refusals.proofs.SoFar.{SoFar}
use Rattle.refusals.proofs.Fails.{Fails, less, equal, either, Taken, free}
use Rattle.refusals.proofs.KindLines.{awaits_rx}

module _ (before : List Record) (s : State) (h : SoFar before s) where
  -- ---- the failure bit: where it is awaited at a destination

  one_since : (since : List Record) (awaits : ℕ) → Awaiting awaits since → awaits ≡ 6 → (g : SignalBody) × (since ≡ Signal g ∷ [])
  one_since since awaits (all e) f = absurd (omega arith)
  one_since since awaits (one g e) f = (g, refl)
  one_since since awaits (nothing x e) f = absurd (omega arith)

  failure_before : followed (row_in s) 6 ≡ true → (row_in s).awaits ≢ 0 → FailureBefore before
  failure_before f d =
      let x = awaits_rx before s h d in
      let k = one_since x.0.since (row_in s).awaits (h.awaits x.0 x.1) (followed_is (row_in s) 6 f d) in
      record { rx = x.0; enabled = x.1; body = k.0; first = k.1 }

  failure_awaits : (x : FailureBefore before) → (row_in s).awaits ≢ 0
  failure_awaits x e = omega (arith, e, (h.reading x.rx).second x.enabled x.body x.first)

  failure_at : (x : FailureBefore before) → (row_in s).position ≡ x.rx.frame.position
  failure_at x = (h.reading x.rx).position

  failure_size : (x : FailureBefore before) → (row_in s).size ≡ x.body.size
  unfolding Each
  failure_size x =
      let front = x.rx.front ++ Rx x.rx.frame ∷ [] in
      let e : before ≡ front ++ Signal x.body ∷ [] =
      x.rx.split ∙ ap (λ (since : List Record). x.rx.front ++ Rx x.rx.frame ∷ since) x.first
      ∙ sym (append_assoc x.rx.front (Rx x.rx.frame ∷ []) (Signal x.body ∷ [])) in
      (h.sized (record { front = front; body = x.body; destinations = []; split = e; only = tt })).size

  -- ---- 9, second half

  indicator_test : (t : ℕ) → Fails (eqb (row_in s).awaits 0 || ltb (row_in s).position (8 * get_or s.sizes t 0))
      (((row_in s).awaits ≢ 0) and (8 * get_or s.sizes t 0 ≤ (row_in s).position))
  indicator_test t = either (equal _ _) (less _ _)

  past_indicator : (r : Record) → Whole r → followed (row_in s) (stage_of r) ≡ true → in_data (counts_in s) (row_in s) s.sizes r ≡ true
      → indicator_in_data (row_in s) s.sizes r ≡ false → FailurePasses before r
  unfolding indicator_in_data in_data stage_of
  past_indicator r (head order) f i e = absurd (true≢false e)
  past_indicator r (node body) f i e = absurd (true≢false e)
  past_indicator r (tx_frame x) f i e = absurd (true≢false e)
  past_indicator r (rx_frame x) f i e = absurd (true≢false e)
  past_indicator r (signal g) f i e = absurd (true≢false e)
  past_indicator r (destination t) f i e =
      let w = (indicator_test t.tx.0).says e in
      let x = failure_before f w.0 in
      let l = ltb-true t.tx.0 (counts_in s).tx (and_both (ltb t.tx.0 (counts_in s).tx) _ i).0 in
      let y = h.frames t.tx.0 (omega (arith, l, h.tx)) in
      O.destination t x y (omega (arith, w.1, h.sizes t.tx.0 y, failure_at x))

  indicator_past : (r : Record) → FailurePasses before r → indicator_in_data (row_in s) s.sizes r ≡ false
  unfolding indicator_in_data
  indicator_past r (O.destination t x y l) =
      (indicator_test t.tx.0).back (failure_awaits x, omega (arith, l, h.sizes t.tx.0 y, failure_at x))

  pub failure_fits : (r : Record) → Whole r → followed (row_in s) (stage_of r) ≡ true → in_data (counts_in s) (row_in s) s.sizes r ≡ true
      → Fails (indicator_in_data (row_in s) s.sizes r) (FailurePasses before r)
  failure_fits r w f i = record { says = past_indicator r w f i; back = indicator_past r }

  -- ---- 8, for the failure bit

  bit_test : (t q : ℕ)
      → Fails (eqb (row_in s).awaits 0 || not (clash (owned (get_or s.sets t 0) q (row_in s).size) (row_in s).position 1))
      (((row_in s).awaits ≢ 0) and Taken (owned (get_or s.sets t 0) q (row_in s).size) (row_in s).position 1)
  bit_test t q = either (equal _ _) (free _ _ _)

  bit_clashes : (r : Record) → Whole r → followed (row_in s) (stage_of r) ≡ true → indicator_is_free (row_in s) s.sets r ≡ false
      → FailureTaken before r
  unfolding indicator_is_free stage_of
  bit_clashes r (head order) f e = absurd (true≢false e)
  bit_clashes r (node body) f e = absurd (true≢false e)
  bit_clashes r (tx_frame x) f e = absurd (true≢false e)
  bit_clashes r (rx_frame x) f e = absurd (true≢false e)
  bit_clashes r (signal g) f e = absurd (true≢false e)
  bit_clashes r (destination t) f e = go (within? t.position (row_in s).size (row_in s).position)
    where
      w : ((row_in s).awaits ≢ 0) and Taken (owned (get_or s.sets t.tx.0 0) t.position (row_in s).size) (row_in s).position 1
      w = (bit_test t.tx.0 t.position).says e

      x : FailureBefore before
      x = failure_before f w.0

      bit : digit (owned (get_or s.sets t.tx.0 0) t.position (row_in s).size) (row_in s).position ≡ 1
      bit =
          let e : (row_in s).position + w.1.0 ≡ (row_in s).position = omega (arith, w.1.1) in
          rw e at w.1.2

      go : Within t.position (row_in s).size (row_in s).position ⊎ (Within t.position (row_in s).size (row_in s).position → ⊥)
          → FailureTaken before (Destination t)
      go (inl l) = its_own t x (omega (arith, l.0, failure_at x)) (omega (arith, l.1, failure_at x, failure_size x))
      go (inr n) =
          before_it t x
          (rw (failure_at x) at
          ((h.owned t.tx.0 (row_in s).position).0
          (sym (owned_out (get_or s.sets t.tx.0 0) t.position (row_in s).size (row_in s).position n) ∙ bit)))

  bit_taken : (t : DestinationBody) (x : FailureBefore before)
      → digit (owned (get_or s.sets t.tx.0 0) t.position (row_in s).size) (row_in s).position ≡ 1
      → indicator_is_free (row_in s) s.sets (Destination t) ≡ false
  unfolding indicator_is_free
  bit_taken t x bit =
      let e : (row_in s).position + 0 ≡ (row_in s).position = omega arith in
      (bit_test t.tx.0 t.position).back (failure_awaits x, (0, omega arith, rw e bit))

  taken_clash : (r : Record) → FailureTaken before r → indicator_is_free (row_in s) s.sets r ≡ false
  taken_clash r (before_it t x o) = bit_taken t x (go (within? t.position (row_in s).size (row_in s).position))
    where
      go : Within t.position (row_in s).size (row_in s).position ⊎ (Within t.position (row_in s).size (row_in s).position → ⊥)
          → digit (owned (get_or s.sets t.tx.0 0) t.position (row_in s).size) (row_in s).position ≡ 1
      go (inl l) = owned_in (get_or s.sets t.tx.0 0) t.position (row_in s).size (row_in s).position l
      go (inr n) =
          owned_out (get_or s.sets t.tx.0 0) t.position (row_in s).size (row_in s).position n
          ∙ rw (failure_at x) ((h.owned t.tx.0 x.rx.frame.position).1 o)
  taken_clash r (its_own t x l m) =
      bit_taken t x
      (owned_in (get_or s.sets t.tx.0 0) t.position (row_in s).size (row_in s).position
      (omega (arith, l, failure_at x), omega (arith, m, failure_at x, failure_size x)))

  pub failure_owner : (r : Record) → Whole r → followed (row_in s) (stage_of r) ≡ true
      → Fails (indicator_is_free (row_in s) s.sets r) (FailureTaken before r)
  failure_owner r w f = record { says = bit_clashes r w f; back = taken_clash r }
