-- The state in which the model begins is the one that document 01 states.
use mathlib.Core.Path.{◌≡◌, refl, sym, ap, ◌∙◌}
use mathlib.Core.List.{List, [], ◌∷◌}
use Prim.Native.Nat.{ℕ, zero, suc, ◌<◌}
use native.Mathlib.Omega.{arith}
use lib.ListN.{length, get_or, length-replicate, get_or-replicate}
use lib.Seq.{ext_get_or}
use Rattle.plan.specs.Rows.{no_row}
use Rattle.records.specs.Views.{no_tx}
use Rattle.records.specs.Records.{eight_bytes}
use Rattle.model.specs.Plan.{Plan, tx_in}
use Rattle.model.specs.State.{State}
use Rattle.model.specs.Opening.{mapped, begun}
use Rattle.model.specs.OpeningRules.{Begins}
use Rattle.model.specs.Words.{Payload}
use Rattle.model.proofs.Words.{state_same}

module _ {A B : Type 0} (f : A → B) (d : A) (e : B) where
  pub mapped_at : (xs : List A) (i : ℕ) → i < length xs → get_or (mapped f xs) i e ≡ f (get_or xs i d)
  unfolding mapped
  mapped_at [] i l = absurd (omega arith)
  mapped_at (x ∷ xs) zero l = refl
  mapped_at (x ∷ xs) (suc i) l = mapped_at xs i (omega arith)

pub mapped-length : {A B : Type 0} (f : A → B) (xs : List A) → length (mapped f xs) ≡ length xs
unfolding mapped
mapped-length f [] = refl
mapped-length f (x ∷ xs) = ap suc (mapped-length f xs)

module _ (p : Plan) where
  pub begins : ((t : ℕ) → t < length p.tx → Payload (eight_bytes (tx_in p t).payload)) → Begins p (begun p)
  unfolding begun
  begins b =
      let kept : (t : ℕ) → t < length p.tx → get_or (mapped (λ x. eight_bytes x.payload) p.tx) t [] ≡ eight_bytes (tx_in p t).payload =
      mapped_at (λ x. eight_bytes x.payload) no_tx [] p.tx in
      record {
        number = refl;
        shape =
            record {
              kept = mapped-length _ p.tx;
              payload = λ t l. rw (kept t l) (b t l);
              tx_timers = mapped-length _ p.tx;
              rx_timers = mapped-length _ p.rows;
              longs = mapped-length _ p.rows;
              queues = length-replicate p.nodes [];
            };
        kept = kept;
        tx_timers = mapped_at (λ x. x.initial) no_tx 0 p.tx;
        rx_timers = mapped_at (λ x. x.frame.initial) no_row 0 p.rows;
        longs = mapped_at (λ x. x.frame.long) no_row 0 p.rows;
        queues = λ n l. get_or-replicate p.nodes n [] [] l;
      }

  pub one_beginning : (x y : State) → Begins p x → Begins p y → x ≡ y
  one_beginning x y a b =
      let u = a.shape in
      let v = b.shape in
      state_same x y (a.number ∙ sym b.number)
      (ext_get_or [] _ _ (u.kept ∙ sym v.kept) (λ t l. let m : t < length p.tx = omega (arith, u.kept) in a.kept t m ∙ sym (b.kept t m)))
      (ext_get_or 0 _ _ (u.tx_timers ∙ sym v.tx_timers)
      (λ t l. let m : t < length p.tx = omega (arith, u.tx_timers) in a.tx_timers t m ∙ sym (b.tx_timers t m)))
      (ext_get_or 0 _ _ (u.rx_timers ∙ sym v.rx_timers)
      (λ r l. let m : r < length p.rows = omega (arith, u.rx_timers) in a.rx_timers r m ∙ sym (b.rx_timers r m)))
      (ext_get_or 0 _ _ (u.longs ∙ sym v.longs)
      (λ r l. let m : r < length p.rows = omega (arith, u.longs) in a.longs r m ∙ sym (b.longs r m)))
      (ext_get_or [] _ _ (u.queues ∙ sym v.queues) (λ n l. let m : n < p.nodes = omega (arith, u.queues) in a.queues n m ∙ sym (b.queues n m)))
