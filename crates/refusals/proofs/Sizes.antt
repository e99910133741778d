-- The Tx frames before, by number, and that the sizes that the check has are theirs.
use mathlib.Core.Path.{◌≡◌, refl, ap, ◌∙◌}
use mathlib.Core.List.{List, [], ◌∷◌, ◌++◌}
use Prim.Native.Nat.{ℕ, zero, suc, ◌+◌, ◌<◌}
use native.Mathlib.Omega.{arith}
use lib.Dec.{eqb}
use lib.ListN.{length, get_or, set, length-set}
use lib.Seq.{get_or-set_same}
use borrow.Author.Tests.{ltb-true}
use Rattle.base.specs.Pick.{pick}
use Rattle.records.specs.declared.record.TxFrame.{TxFrame}
use Rattle.records.specs.declared.record.Record.{Record}
use Rattle.records.specs.declared.record.Record.TheVariants.{Tx}
use Rattle.records.specs.Kinds.{stage_of}
use Rattle.plan.specs.Limits.{most_tx}
use Rattle.plan.specs.Progress.{counted, after, start}
use Rattle.plan.specs.Tests.{has_room}
use Rattle.plan.specs.Check.{sizes_after}
use Rattle.facts.specs.Good.{Each, count_of}
use Rattle.facts.specs.Statements.{State, begun, stepped, state_after, AllGo}
use Rattle.facts.proofs.Passes.{sizes_finally}
use Rattle.facts.proofs.Sizes.{sizes_low}
use Rattle.facts.proofs.Whole.{zeros-length}
use Rattle.refusals.specs.Before.{TxBefore}
use Rattle.refusals.proofs.Passing.{Whole, head, node, tx_frame, rx_frame, signal, destination, went, past, all_whole, all_front, all_since, counts_in}
use Rattle.refusals.proofs.Read.{adds}

-- ---- Tx frame t

tx_more : (t k : ℕ) (r : Record) (rs : List Record) → TxBefore t rs → pick (eqb (stage_of r) 3) 1 0 + t ≡ k → TxBefore k (r ∷ rs)
unfolding count_of
tx_more t k r rs h e =
    record {
      front = r ∷ h.front;
      frame = h.frame;
      since = h.since;
      split = ap (λ (xs : List Record). r ∷ xs) h.split;
      number = ap (λ (n : ℕ). pick (eqb (stage_of r) 3) 1 0 + n) h.number ∙ e;
    }

tx_by :
    (r : Record) → Whole r → (rs : List Record) (t : ℕ) → t < count_of 3 (r ∷ rs) → ((k : ℕ) → k < count_of 3 rs → TxBefore k rs)
    → TxBefore t (r ∷ rs)
unfolding count_of stage_of pick
tx_by r (head order) rs t l h = tx_more t t r rs (h t (omega arith)) (omega arith)
tx_by r (node body) rs t l h = tx_more t t r rs (h t (omega arith)) (omega arith)
tx_by r (tx_frame x) rs zero l h = record { front = []; frame = x; since = rs; split = refl; number = refl }
tx_by r (tx_frame x) rs (suc t) l h = tx_more t (suc t) r rs (h t (omega arith)) (omega arith)
tx_by r (rx_frame x) rs t l h = tx_more t t r rs (h t (omega arith)) (omega arith)
tx_by r (signal g) rs t l h = tx_more t t r rs (h t (omega arith)) (omega arith)
tx_by r (destination d) rs t l h = tx_more t t r rs (h t (omega arith)) (omega arith)

pub tx_before : (rs : List Record) (t : ℕ) → Each Whole rs → t < count_of 3 rs → TxBefore t rs
unfolding Each count_of
tx_before [] t w l = absurd (omega arith)
tx_before (r ∷ rs) t w l = tx_by r w.0 rs t l (λ k m. tx_before rs k w.1 m)

-- ---- the sizes

long_by : (t : ℕ) (sizes : List ℕ) (r : Record) → Whole r → length (sizes_after t sizes r) ≡ length sizes
unfolding sizes_after
long_by t sizes r (head order) = refl
long_by t sizes r (node body) = refl
long_by t sizes r (tx_frame x) = length-set sizes t x.size
long_by t sizes r (rx_frame x) = refl
long_by t sizes r (signal g) = refl
long_by t sizes r (destination d) = refl

long : (rs : List Record) (s : State) → Each Whole rs → length (state_after s rs).sizes ≡ length s.sizes
unfolding state_after Each
long [] s w = refl
long (r ∷ rs) s w = long rs (stepped s r) w.1 ∙ long_by _ s.sizes r w.0

as_finally : (rs : List Record) (s : State) → (state_after s rs).sizes ≡ sizes_finally (counts_in s) s.sizes rs
unfolding state_after sizes_finally after
as_finally [] s = refl
as_finally (r ∷ rs) s = as_finally rs (stepped s r)

stored : (s : State) (x : TxFrame) (since : List Record) → (counts_in s).tx < length s.sizes
    → get_or (state_after s (Tx x ∷ since)).sizes (counts_in s).tx 0 ≡ x.size
unfolding state_after after counted sizes_after
stored s x since l =
    let t = (counts_in s).tx in
    rw (as_finally since (stepped s (Tx x)))
    (sizes_low since (counted (counts_in s) (Tx x)) (set s.sizes t x.size) t (omega arith) ∙ get_or-set_same s.sizes t x.size 0 l)

pub sizes_are :
    (before : List Record) → AllGo begun before → (t : ℕ) (y : TxBefore t before)
    → get_or (state_after begun before).sizes t 0 ≡ y.frame.size
unfolding start AllGo has_room
sizes_are before g t y =
    let g' : AllGo begun (y.front ++ Tx y.frame ∷ y.since) = rw y.split at g in
    let s = state_after begun y.front in
    let w = all_whole y.front begun (all_front y.front (Tx y.frame ∷ y.since) begun g') in
    let here = went s (Tx y.frame) (all_since y.front (Tx y.frame ∷ y.since) begun g').0 in
    let room = ltb-true (counts_in s).tx most_tx here.room in
    let e : (counts_in s).tx ≡ t = omega (arith, (adds y.front begun w).tx, y.number) in
    rw (y.split, past y.front (Tx y.frame ∷ y.since) begun, ← e)
    (stored s y.frame y.since (omega (arith, room, long y.front begun w, zeros-length)))
