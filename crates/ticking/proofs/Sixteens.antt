-- Lowering first and expiring after, in number order, is the same as one timer after the other: the expiry of a timer neither reads nor writes
-- another timer's count or its mask.
use mathlib.Core.Path.{◌≡◌, refl, sym, ap, ◌∙◌}
use mathlib.Core.Logic.{◌≢◌, ◌⊎◌, inl, inr, ⊎_elim}
use mathlib.Core.Bool.{Bool, true, false, not, true≢false}
use mathlib.Core.List.{List}
use Prim.Native.Nat.{ℕ, zero, suc, ◌+◌, ◌<◌, ◌≤◌}
use native.Mathlib.Numerals.{add-one}
use native.Mathlib.Omega.{arith}
use native.Mathlib.Decide.{ℕ_discrete}
use lib.Dec.{eqb}
use lib.Bits.{bit_or, or_zero_r, or_add_and, and_le_l}
use lib.ListN.{length, set, length-set}
use lib.Seq.{get_or-set_same, get_or-set_other, set-set, set-get_or}
use borrow.Author.Tests.{eq-eqb, ne_eqb, lt-ltb}
use Rattle.base.specs.Pick.{pick}
use Rattle.base.specs.Numbers.{byte_at}
use Rattle.base.proofs.Picks.{picks, passes, both, into}
use Rattle.clock.specs.Timer.{lowered}
use Rattle.area.specs.Layout.{tx_timer, tx_mask}
use Rattle.area.proofs.Frame.{Same, Same-refl, Same-then, Same-set}
use Rattle.ticking.specs.Sixteen.{each, fallen, expiring, fell, mark_of, marks_of, any_of, each_marked}

-- ---- one timer

fallen-lowered : (reload c : ℕ) → c ≢ 1 → lowered reload c ≡ fallen true c
unfolding lowered fallen pick
fallen-lowered reload c d = go (ℕ_discrete c 0)
  where
    go : Dec (c ≡ 0) → lowered reload c ≡ fallen true c
    go (yes e) = rw e
    go (no z) = rw (ne_eqb c 0 z, ne_eqb c 1 d, lt-ltb 1 c (omega arith))

-- a turn: the timer falls, and where it is marked it expires, holding 1
module _ (after : List ℕ → List ℕ) (a : List ℕ) (p reload : ℕ) where
  abbrev turn : Bool → ℕ → List ℕ
  turn h c = pick h (pick (eqb c 1) (after (set a p (lowered reload c))) (set a p (lowered reload c))) a

  abbrev parted : Bool → ℕ → List ℕ
  parted h c = pick (eqb (expiring h c) 1) (after (set (set a p (fallen h c)) p (lowered reload 1))) (set a p (fallen h c))

  handled_parted : (c : ℕ) → Dec (c ≡ 1) → turn true c ≡ parted true c
  unfolding expiring pick
  handled_parted c (yes e) = rw e (ap after (sym (set-set a p _ _)))
  handled_parted c (no d) = rw (ne_eqb c 1 d) (ap (set a p) (fallen-lowered reload c d))

  pub turn-parted : (h : Bool) → turn h (byte_at a p) ≡ parted h (byte_at a p)
  unfolding expiring fallen pick
  turn-parted true = handled_parted (byte_at a p) (ℕ_discrete (byte_at a p) 1)
  turn-parted false = sym (set-get_or a p 0)

-- ---- timer u of the table: what is read of it

abbrev pub Of : ℕ → ℕ → Type 0
Of u j = (j ≡ tx_timer u) ⊎ (j ≡ tx_mask u)

pub mark_same : (k u : ℕ) {a b : List ℕ} → Same (Of u) a b → mark_of k b u ≡ mark_of k a u
unfolding mark_of
mark_same k u s = rw (s.at (tx_timer u) (inl refl), s.at (tx_mask u) (inr refl))

-- another timer's fall leaves it
Same-fell : (k u j : ℕ) (a : List ℕ) → j < 512 → u < 512 → j ≢ u → Same (Of u) a (fell k a j)
unfolding fell
Same-fell k u j a h l d = Same-set _ _ (⊎_elim (λ e. d (omega arith)) (λ e. omega arith)) (Same-refl a)

Same-fells : (k u j n : ℕ) (a : List ℕ) → j + n ≤ u → u < 512 → Same (Of u) a (each (fell k) j n a)
unfolding each
Same-fells k u j zero a h l = Same-refl a
Same-fells k u j (suc n) a h l =
    Same-then (Same-fells k u j n a (omega arith) l) (Same-fell k u (j + n) _ (omega arith) l (λ e. omega arith))

pub mark_fells : (k u j n : ℕ) (a : List ℕ) → j + n ≤ u → u < 512 → mark_of k (each (fell k) j n a) u ≡ mark_of k a u
mark_fells k u j n a h l = mark_same k u (Same-fells k u j n a h l)

-- ---- the marks

length_marks : (k j n : ℕ) (a : List ℕ) → length (marks_of k j n a) ≡ 16
unfolding marks_of
length_marks k j zero a = refl
length_marks k j (suc n) a = length-set (marks_of k j n a) n _ ∙ length_marks k j n a

pub marks_at : (k j n : ℕ) (a : List ℕ) (i : ℕ) → i < n → n ≤ 16 → byte_at (marks_of k j n a) i ≡ mark_of k a (j + i)
unfolding marks_of
marks_at k j zero a i h l = absurd (omega arith)
marks_at k j (suc n) a i h l = go (ℕ_discrete i n) (λ m. marks_at k j n a i m (omega arith))
  where
    go : Dec (i ≡ n) → (i < n → byte_at (marks_of k j n a) i ≡ mark_of k a (j + i))
        → byte_at (set (marks_of k j n a) n (mark_of k a (j + n))) i ≡ mark_of k a (j + i)
    go (yes e) rest = rw e (get_or-set_same (marks_of k j n a) n _ 0 (omega (arith, length_marks k j n a)))
    go (no d) rest = get_or-set_other (marks_of k j n a) n i _ 0 d ∙ rest (omega arith)

-- the code's way to see whether there is any
pub or_any : (seen m : ℕ) → not (eqb (bit_or seen m) 0) ≡ pick (eqb m 0) (not (eqb seen 0)) true
unfolding pick
or_any seen m = go (ℕ_discrete m 0)
  where
    go : Dec (m ≡ 0) → not (eqb (bit_or seen m) 0) ≡ pick (eqb m 0) (not (eqb seen 0)) true
    go (yes e) = rw (e, or_zero_r seen)
    go (no d) = rw (ne_eqb m 0 d, ne_eqb (bit_or seen m) 0 (λ z. d (omega (arith, or_add_and seen m, and_le_l seen m))))

pub none_at : (n : ℕ) (m : List ℕ) → any_of n m ≡ false → (i : ℕ) → i < n → byte_at m i ≡ 0
unfolding any_of
none_at zero m e i h = absurd (omega arith)
none_at (suc n) m e i h = go (ℕ_discrete (byte_at m n) 0) (ℕ_discrete i n) (λ r l. none_at n m r i l)
  where
    go : Dec (byte_at m n ≡ 0) → Dec (i ≡ n) → (any_of n m ≡ false → i < n → byte_at m i ≡ 0) → byte_at m i ≡ 0
    go (yes z) (yes x) rest = rw x z
    go (yes z) (no x) rest = rest (sym (picks _ _ _ (eq-eqb _ _ z)) ∙ e) (omega arith)
    go (no d) x rest = absurd (true≢false (sym (passes _ _ _ (ne_eqb _ _ d)) ∙ e))

pub none_marked :
    (f : List ℕ → ℕ → List ℕ) (m : List ℕ) (j n : ℕ) (a : List ℕ) → ((i : ℕ) → i < n → byte_at m i ≡ 0) → each_marked f m j n a ≡ a
unfolding each_marked
none_marked f m j zero a none = refl
none_marked f m j (suc n) a none =
    let z : byte_at m n ≡ 0 = none n (omega arith) in
    passes _ _ _ (ne_eqb (byte_at m n) 1 (λ e. omega arith)) ∙ none_marked f m j n a (λ i l. none i (omega arith))

-- one timer more, as a loop goes on
module _ (f : List ℕ → ℕ → List ℕ) (m : List ℕ) (j i : ℕ) (a b : List ℕ) where
  pub marked_on : byte_at m i ≡ 1 → b ≡ each_marked f m j i a → f b (j + i) ≡ each_marked f m j (i + 1) a
  unfolding each_marked
  marked_on on e = rw (add-one, e) (sym (picks _ _ _ (eq-eqb _ _ on)))

  pub marked_off : byte_at m i ≢ 1 → b ≡ each_marked f m j i a → b ≡ each_marked f m j (i + 1) a
  unfolding each_marked
  marked_off off e = rw (add-one, e) (sym (passes _ _ _ (ne_eqb _ _ off)))

-- ---- all of them

-- what is asked of the turns of some timers: `at` is their number in the table, f their expiry, tick their turn, I what it holds for
pub record Turns (k : ℕ) (at : ℕ → ℕ) (f tick : List ℕ → ℕ → List ℕ) (I : List ℕ → Type 0) : Type 0 where
  pub table : (j n : ℕ) → at (j + n) ≡ at j + n
  pub turn : (a : List ℕ) (t : ℕ) → t < 256 → tick a t ≡ pick (eqb (mark_of k a (at t)) 1) (f (fell k a (at t)) t) (fell k a (at t))
  pub apart : (a : List ℕ) (t u v : ℕ) → t < u → u < 256 → f (set a (tx_timer (at u)) v) t ≡ set (f a t) (tx_timer (at u)) v
  pub same_after : (a : List ℕ) (t u : ℕ) → t < u → u < 256 → I a → Same (Of (at u)) a (f a t)
  pub same_turn : (a : List ℕ) (t u : ℕ) → t < u → u < 256 → I a → Same (Of (at u)) a (tick a t)
  pub holds_after : (a : List ℕ) (t : ℕ) → t < 256 → I a → I (f a t)
  pub holds_turn : (a : List ℕ) (t : ℕ) → t < 256 → I a → I (tick a t)
  pub holds_fell : (a : List ℕ) (t : ℕ) → t < 256 → I a → I (fell k a (at t))

module _ {k : ℕ} {at : ℕ → ℕ} {f tick : List ℕ → ℕ → List ℕ} {I : List ℕ → Type 0} (w : Turns k at f tick I) where
  pub holds_fells : (j n : ℕ) (a : List ℕ) → j + n ≤ 256 → I a → I (each (fell k) (at j) n a)
  unfolding each
  holds_fells j zero a h i = i
  holds_fells j (suc n) a h i = rw (← w.table j n) (w.holds_fell _ (j + n) (omega arith) (holds_fells j n a (omega arith) i))

  holds_marked : (m : List ℕ) (j n : ℕ) (a : List ℕ) → j + n ≤ 256 → I a → I (each_marked f m j n a)
  unfolding each_marked
  holds_marked m j zero a h i = i
  holds_marked m j (suc n) a h i =
      let x = holds_marked m j n a (omega arith) i in both I _ _ _ (w.holds_after _ (j + n) (omega arith) x) x

  holds_turns : (j n : ℕ) (a : List ℕ) → j + n ≤ 256 → I a → I (each tick j n a)
  unfolding each
  holds_turns j zero a h i = i
  holds_turns j (suc n) a h i = w.holds_turn _ (j + n) (omega arith) (holds_turns j n a (omega arith) i)

  Same-turns : (j n u : ℕ) (a : List ℕ) → j + n ≤ u → u < 256 → I a → Same (Of (at u)) a (each tick j n a)
  unfolding each
  Same-turns j zero u a h l i = Same-refl a
  Same-turns j (suc n) u a h l i =
      Same-then (Same-turns j n u a (omega arith) l i) (w.same_turn _ (j + n) u (omega arith) l (holds_turns j n a (omega arith) i))

  -- an expiry, and the fall of a later timer
  after_fell : (a : List ℕ) (t u : ℕ) → t < u → u < 256 → I a → f (fell k a (at u)) t ≡ fell k (f a t) (at u)
  unfolding fell
  after_fell a t u h l i =
      let s = w.same_after a t u h l i in
      rw (s.at (tx_timer (at u)) (inl refl), s.at (tx_mask (at u)) (inr refl)) (w.apart a t u _ h l)

  -- all expiries, and the fall of a later timer
  pub marked_fell :
      (m : List ℕ) (j n u : ℕ) (a : List ℕ) → j + n ≤ u → u < 256 → I a
      → each_marked f m j n (fell k a (at u)) ≡ fell k (each_marked f m j n a) (at u)
  unfolding each_marked
  marked_fell m j zero u a h l i = refl
  marked_fell m j (suc n) u a h l i =
      rw (
        marked_fell m j n u a (omega arith) l i,
        after_fell (each_marked f m j n a) (j + n) u (omega arith) l (holds_marked m j n a (omega arith) i),
      )
      (sym (into (λ (x : List ℕ). fell k x (at u)) _ _ _))

  -- the marks are those of the timers from j on
  abbrev pub Marks : List ℕ → ℕ → ℕ → List ℕ → Type 0
  Marks m j n a = (i : ℕ) → i < n → byte_at m i ≡ mark_of k a (at (j + i))

  pub mark_turn : (m : List ℕ) (j n : ℕ) (a : List ℕ) → j + n < 256 → I a → Marks m j (suc n) a → byte_at m n ≡ mark_of k (each tick j n a) (at (j + n))
  mark_turn m j n a h i e =
      e n (omega arith) ∙ sym (mark_same k (at (j + n)) (Same-turns j n (j + n) a (omega arith) (omega arith) i))

  pub turns_parted :
      (m : List ℕ) (j n : ℕ) (a : List ℕ) → j + n ≤ 256 → I a → Marks m j n a
      → each_marked f m j n (each (fell k) (at j) n a) ≡ each tick j n a
  unfolding each each_marked
  turns_parted m j zero a h i e = refl
  turns_parted m j (suc n) a h i e =
      let low = each (fell k) (at j) n a in
      let last = turns_parted m j n a (omega arith) i (λ x l. e x (omega arith)) in
      rw (
        ← w.table j n,
        marked_fell m j n (j + n) low (omega arith) (omega arith) (holds_fells j n a (omega arith) i),
        last,
        mark_turn m j n a (omega arith) i e,
      )
      (sym (w.turn (each tick j n a) (j + n) (omega arith)))
