-- The model's turns of a tick leave the tick's number, and of each row that is yet to come its timer and its long counter.
use mathlib.Core.Path.{◌≡◌, refl, ◌∙◌}
use mathlib.Core.Logic.{◌≢◌}
use mathlib.Core.List.{List, [], ◌∷◌}
use Prim.Native.Nat.{ℕ, zero, suc, ◌≤◌}
use native.Mathlib.Omega.{arith}
use lib.ListN.{get_or}
use lib.Seq.{get_or-set_other}
use Rattle.base.proofs.Picks.{both}
use Rattle.plan.specs.Rows.{Source, copy, failure, Claim}
use Rattle.model.specs.Plan.{Plan, row_in}
use Rattle.model.specs.State.{State}
use Rattle.model.specs.Scheduling.{joined, scheduled, asked, requested}
use Rattle.model.specs.Tick.{tx_lowered, tx_turn, tx_turns, failed_by, failed, expired, rx_expiry, rx_lowered, rx_turn, rx_turns}

-- x is a state after s in which row r is as it was
pub record Later (r : ℕ) (s x : State) : Type 0 where
  pub number : x.number ≡ s.number
  pub timer : get_or x.rx_timers r 0 ≡ get_or s.rx_timers r 0
  pub long : get_or x.longs r 0 ≡ get_or s.longs r 0

Later-same : {r : ℕ} {s : State} → Later r s s
Later-same = record { number = refl; timer = refl; long = refl }

pub Later-then : {r : ℕ} {s x y : State} → Later r s x → Later r x y → Later r s y
Later-then a b = record { number = b.number ∙ a.number; timer = b.timer ∙ a.timer; long = b.long ∙ a.long }

module _ (p : Plan) (r : ℕ) where
  -- ---- Tx timers

  Later-tx_turn : (s : State) (t : ℕ) → Later r s (tx_turn p s t)
  unfolding tx_turn tx_lowered scheduled joined
  Later-tx_turn s t =
      let P = Later r s in
      both P _ _ _
      (both P _ _ _
      (both P _ _ _ (record { number = refl; timer = refl; long = refl }) (record { number = refl; timer = refl; long = refl }))
      (record { number = refl; timer = refl; long = refl }))
      Later-same

  pub Later-tx_turns : (n : ℕ) (s : State) → Later r s (tx_turns p n s)
  unfolding tx_turns
  Later-tx_turns zero s = Later-same
  Later-tx_turns (suc n) s = Later-then (Later-tx_turns n s) (Later-tx_turn _ n)

  -- ---- Rx timers

  -- an expiry's bits leave all but payloads
  pub failed_bits : (cs : List Claim) (s : State) → Later r s (failed p s cs)
  unfolding failed
  failed_bits [] s = Later-same
  failed_bits (c ∷ cs) s = Later-then (one c.from) (failed_bits cs (failed_by p s c c.from))
    where
      one : (z : Source) → Later r s (failed_by p s c z)
      one (copy q k) = unfold failed_by in Later-same
      one failure = unfold failed_by in record { number = refl; timer = refl; long = refl }

  Later-rx_turn : (s : State) (q : ℕ) → r ≢ q → Later r s (rx_turn p s q)
  unfolding rx_turn rx_lowered rx_expiry requested asked expired
  Later-rx_turn s q d =
      let P = Later r s in
      let w = failed_bits (row_in p q).claims (rx_lowered p s q) in
      let timer = get_or-set_other s.rx_timers q r _ 0 d in
      both P _ _ _
      (both P _ _ _
      (both P _ _ _
      (both P _ _ _ (record { number = refl; timer = timer; long = refl }) (record { number = refl; timer = timer; long = refl }))
      (record {
        number = w.number;
        timer = w.timer ∙ timer;
        long = get_or-set_other (failed p (rx_lowered p s q) (row_in p q).claims).longs q r _ 0 d ∙ w.long;
      }))
      (record { number = refl; timer = timer; long = refl }))
      Later-same

  pub Later-rx_turns : (n : ℕ) → n ≤ r → (s : State) → Later r s (rx_turns p n s)
  unfolding rx_turns
  Later-rx_turns zero l s = Later-same
  Later-rx_turns (suc n) l s = Later-then (Later-rx_turns n (omega arith) s) (Later-rx_turn _ n (λ e. omega arith))
