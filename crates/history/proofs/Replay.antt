-- A number after some events, the oldest first, and a bit by its owner: that comes to the bit worked out afresh.
use mathlib.Core.Path.{◌≡◌, refl, sym}
use mathlib.Core.List.{List, [], ◌∷◌, ◌++◌}
use mathlib.Core.Option.{Option, none, some}
use Prim.Native.Nat.{ℕ}
use lib.Dec.{eqb}
use borrow.Author.Tests.{ne_eqb}
use Rattle.base.specs.Pick.{pick}
use Rattle.base.proofs.Picks.{into}
use Rattle.bits.specs.Payload.{bit_at}
use Rattle.area.specs.Claims.{RxEvent, accepted, expired}
use Rattle.history.specs.Fresh.{Owner, nobody, signal, indicator, or_else, source_bit, failure_bit, fresh_by}
use Rattle.history.specs.Fresh.{accepted_of, last_accepted, failed_by, last_failed}
use Rattle.history.specs.Statements.{OwnedBy}

-- ---- a number that each event turns

unfoldable pub replay : (ℕ → RxEvent → ℕ) → List RxEvent → ℕ → ℕ
replay turn [] v = v
replay turn (e ∷ log) v = replay turn log (turn v e)

pub replay-append :
    (turn : ℕ → RxEvent → ℕ) (xs ys : List RxEvent) (v : ℕ) → replay turn (xs ++ ys) v ≡ replay turn ys (replay turn xs v)
unfolding replay
replay-append turn [] ys v = refl
replay-append turn (e ∷ xs) ys v = replay-append turn xs ys (turn v e)

-- ---- a bit

-- the Rx frame of an event
abbrev pub rx_of : RxEvent → ℕ
rx_of (accepted r payload) = r
rx_of (expired r) = r

-- a bit of value v after an event
unfoldable pub turned : ℕ → Owner → ℕ → RxEvent → ℕ
turned o nobody v e = v
turned o (signal r k) v (accepted q payload) = pick (eqb r q) (bit_at o payload k) v
turned o (signal r k) v (expired q) = v
turned o (indicator r) v (accepted q payload) = pick (eqb r q) 0 v
turned o (indicator r) v (expired q) = pick (eqb r q) 1 v

-- an event of a frame that does not own the bit
pub turned_other : (o : ℕ) (w : Owner) (v : ℕ) (e : RxEvent) → (OwnedBy (rx_of e) w → ⊥) → turned o w v e ≡ v
unfolding turned OwnedBy pick
turned_other o nobody v e d = refl
turned_other o (signal r k) v (accepted q payload) d = rw (ne_eqb r q (λ e. d (sym e)))
turned_other o (signal r k) v (expired q) d = refl
turned_other o (indicator r) v (accepted q payload) d = rw (ne_eqb r q (λ e. d (sym e)))
turned_other o (indicator r) v (expired q) d = rw (ne_eqb r q (λ e. d (sym e)))

-- ---- the last event decides

source_else : (o : ℕ) (x y : Option (List ℕ)) (k v : ℕ) → source_bit o (or_else x y) k v ≡ source_bit o x k (source_bit o y k v)
unfolding source_bit or_else
source_else o (some payload) y k v = refl
source_else o none y k v = refl

failure_else : (x y : Option ℕ) (v : ℕ) → failure_bit (or_else x y) v ≡ failure_bit x (failure_bit y v)
unfolding failure_bit or_else
failure_else (some z) y v = refl
failure_else none y v = refl

source_turned : (o r k : ℕ) (e : RxEvent) (v : ℕ) → source_bit o (accepted_of r e) k v ≡ turned o (signal r k) v e
unfolding accepted_of turned source_bit
source_turned o r k (accepted q payload) v = into (λ (x : Option (List ℕ)). source_bit o x k v) (eqb r q) (some payload) none
source_turned o r k (expired q) v = refl

failure_turned : (o r : ℕ) (e : RxEvent) (v : ℕ) → failure_bit (failed_by r e) v ≡ turned o (indicator r) v e
unfolding failed_by turned failure_bit
failure_turned o r (accepted q payload) v = into (λ (x : Option ℕ). failure_bit x v) (eqb r q) (some 0) none
failure_turned o r (expired q) v = into (λ (x : Option ℕ). failure_bit x v) (eqb r q) (some 1) none

-- ---- so each kind of owner gives its fresh bit

source_replay : (o r k : ℕ) (log : List RxEvent) (v : ℕ) → replay (turned o (signal r k)) log v ≡ source_bit o (last_accepted r log) k v
unfolding replay last_accepted
source_replay o r k [] v = unfold source_bit in refl
source_replay o r k (e ∷ log) v = rw (source_else, source_turned) (source_replay o r k log (turned o (signal r k) v e))

failure_replay : (o r : ℕ) (log : List RxEvent) (v : ℕ) → replay (turned o (indicator r)) log v ≡ failure_bit (last_failed r log) v
unfolding replay last_failed
failure_replay o r [] v = unfold failure_bit in refl
failure_replay o r (e ∷ log) v = rw (failure_else, failure_turned o r e v) (failure_replay o r log (turned o (indicator r) v e))

nobody-replay : (o : ℕ) (log : List RxEvent) (v : ℕ) → replay (turned o nobody) log v ≡ v
unfolding replay turned
nobody-replay o [] v = refl
nobody-replay o (e ∷ log) v = nobody-replay o log v

pub replay_fresh : (o : ℕ) (w : Owner) (log : List RxEvent) (v : ℕ) → replay (turned o w) log v ≡ fresh_by o w log v
unfolding fresh_by
replay_fresh o nobody log v = nobody-replay o log v
replay_fresh o (signal r k) log v = source_replay o r k log v
replay_fresh o (indicator r) log v = failure_replay o r log v
