-- The model meets the rules of sending at a destination.
use mathlib.Core.Path.{◌≡◌, refl, sym, ◌∙◌}
use mathlib.Core.Logic.{◌≢◌, ◌⊎◌, inl, inr, ⊎_elim}
use mathlib.Core.Bool.{Bool, true, false, true≢false}
use mathlib.Core.List.{[]}
use Prim.Native.Nat.{ℕ, ◌/◌, ◌%◌, ◌<◌}
use native.Mathlib.Omega.{arith}
use native.Mathlib.Decide.{ℕ_discrete}
use lib.ListN.{length, length-set}
use lib.Seq.{get_or-set_same, get_or-set_other}
use Rattle.base.proofs.Picks.{cases, by_eqb}
use Rattle.records.specs.Nodes.{frame}
use Rattle.model.specs.Plan.{Plan, tx_in}
use Rattle.model.specs.State.{State, queue_on}
use Rattle.model.specs.Scheduling.{is_in, joined, scheduled}
use Rattle.model.specs.Reception.{sent_if}
use Rattle.model.specs.Words.{In}
use Rattle.model.specs.ReceptionRules.{OnReception, OnChange, Schedules, Aside}
use Rattle.model.proofs.Lawful.{Lawful}
use Rattle.model.proofs.Entries.{in_is_in, is_in_in}

module _ (p : Plan) (lawful : Lawful p) where
  -- x is u but for what scheduling changes
  pub record Sched (W : Type 0) (t : ℕ) (u x : State) : Type 0 where
    pub schedules : Schedules p W t u x
    pub aside : Aside u x
    pub kept : x.kept ≡ u.kept
    pub queues : length x.queues ≡ length u.queues
    pub timers : length x.tx_timers ≡ length u.tx_timers

  -- nothing is sent: it is not wanted, or the frame waits already
  still : {W : Type 0} (t : ℕ) (u : State) → (W → (In (frame t) (queue_on u (tx_in p t).node) → ⊥) → ⊥) → Sched W t u u
  still t u n =
      record {
        schedules =
            record {
              joins = λ w k. absurd (n w k);
              reloads = λ w k. absurd (n w k);
              waiting = λ i. (refl, refl);
              unwanted = λ k. (refl, refl);
              others = λ m d. refl;
              timers = λ m d. refl;
            };
        aside = record { number = refl; rx_timers = refl; longs = refl };
        kept = refl;
        queues = refl;
        timers = refl;
      }

  wanted : {W : Type 0} (t : ℕ) (u : State) → t < length p.tx → length u.queues ≡ p.nodes → length u.tx_timers ≡ length p.tx → W
      → Sched W t u (scheduled p u t)
  unfolding scheduled joined
  wanted {W} t u l q k w = cases (Sched W t u) (is_in (frame t) (queue_on u (tx_in p t).node)) _ _ waits joins
    where
      waits : is_in (frame t) (queue_on u (tx_in p t).node) ≡ true → Sched W t u u
      waits e = still t u (λ w n. n (is_in_in (frame t) _ e))

      joins : is_in (frame t) (queue_on u (tx_in p t).node) ≡ false → Sched W t u (joined p u t)
      joins e =
          record {
            schedules =
                record {
                  joins = λ w n. get_or-set_same u.queues (tx_in p t).node _ [] (omega (arith, lawful.node t l));
                  reloads = λ w n. get_or-set_same u.tx_timers t _ 0 (omega arith);
                  waiting = λ i. absurd (true≢false (sym (in_is_in (frame t) _ i) ∙ e));
                  unwanted = λ n. absurd (n w);
                  others = λ m d. get_or-set_other u.queues (tx_in p t).node m _ [] d;
                  timers = λ m d. get_or-set_other u.tx_timers t m _ 0 d;
                };
            aside = record { number = refl; rx_timers = refl; longs = refl };
            kept = refl;
            queues = length-set u.queues (tx_in p t).node _;
            timers = length-set u.tx_timers t _;
          }

  pub sends : (D : Type 0) (changed : Bool) → (changed ≡ true → D) → (D → changed ≡ true) → (t : ℕ) (u : State) → t < length p.tx
      → length u.queues ≡ p.nodes → length u.tx_timers ≡ length p.tx
      → Sched (OnReception p t ⊎ (OnChange p t × D)) t u (sent_if p (tx_in p t).flags changed u t)
  unfolding sent_if
  sends D changed f g t u l q k =
      by_eqb (Sched W t u) ((tx_in p t).flags % 2) 1 _ _ (λ e. wanted t u l q k (inl (odd e)))
      (λ n.
      by_eqb (Sched W t u) ((tx_in p t).flags / 2 % 2) 1 _ _
      (λ e.
      cases (Sched W t u) changed _ _ (λ c. wanted t u l q k (inr (inl (omega (arith, lawful.flags t l)), f c)))
      (λ c. still t u (λ w k. ⊎_elim (λ o. even n o) (λ o. true≢false (sym (g o.1) ∙ c)) w)))
      (λ e. still t u (λ w k. ⊎_elim (λ o. even n o) (λ o. ⊎_elim (λ z. e (rw z)) (λ z. e (rw z)) o.0) w)))
    where
      W : Type 0
      W = OnReception p t ⊎ (OnChange p t × D)

      odd : (tx_in p t).flags % 2 ≡ 1 → OnReception p t
      odd e = go (ℕ_discrete (tx_in p t).flags 1)
        where
          go : Dec ((tx_in p t).flags ≡ 1) → OnReception p t
          go (yes z) = inl z
          go (no z) = inr (omega (arith, lawful.flags t l))

      even : ((tx_in p t).flags % 2 ≢ 1) → OnReception p t → ⊥
      even n o = ⊎_elim (λ z. n (rw z)) (λ z. n (rw z)) o
