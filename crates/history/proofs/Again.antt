-- What an acceptance does to the state of its row, on CAN and on LIN: the long counter starts again, and no other byte changes but the row's Rx timer.
use mathlib.Core.Path.{◌≡◌, refl}
use mathlib.Core.Logic.{◌≢◌}
use mathlib.Core.List.{List}
use Prim.Native.Nat.{ℕ, ◌<◌}
use native.Mathlib.Nat.{mod-eq_of_lt}
use native.Mathlib.Omega.{arith}
use lib.ListN.{length, set, length-set}
use lib.Seq.{get_or-set_same}
use Rattle.base.specs.Numbers.{byte_at}
use Rattle.area.specs.Layout.{rx_reload, rx_timer, long, rx_frame}
use Rattle.area.proofs.Frame.{Same, Same-refl, Same-set, Same-fewer}
use Rattle.reception.specs.Reception.{restarted}
use Rattle.polling.specs.Polling.{long_again}
use Rattle.history.proofs.Aside.{Aside}

abbrev Others : ℕ → ℕ → Type 0
Others r j = (j ≢ rx_timer r) × (j ≢ long r)

pub record Again (a : List ℕ) (r : ℕ) (b : List ℕ) : Type 0 where
  pub others : Same (Others r) a b
  pub long : long r < length a → byte_at b (long r) ≡ (rx_frame a r).long

module _ (a : List ℕ) (r : ℕ) (h : r < 256) where
  pub again_restarted : Again a r (restarted a r)
  unfolding restarted
  again_restarted =
      rw (mod-eq_of_lt h)
      (record {
        others = Same-set _ _ (λ p. p.1 refl) (Same-set _ _ (λ p. p.0 refl) (Same-refl a));
        long = λ l. get_or-set_same (set a (rx_timer r) (byte_at a (rx_reload r))) (long r) _ 0 (simp length-set l);
      })

  -- "Reception does not reload a LIN timer" (document 02, Ticket 2)
  pub again_long : Again a r (long_again a r)
  unfolding long_again
  again_long = record { others = Same-set _ _ (λ p. p.1 refl) (Same-refl a); long = get_or-set_same a (long r) _ 0 }

pub aside_again : {P : ℕ → Type 0} → Aside P → {a b : List ℕ} {r : ℕ} → r < 256 → (P (long r) → ⊥) → Again a r b → Same P a b
aside_again f h never x =
    Same-fewer (λ j p. ((λ e. f.timers _ (omega arith) (omega arith) (rw e at p)), (λ e. never (rw e at p)))) x.others
