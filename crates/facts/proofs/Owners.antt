-- The owner sets and the claims: a claim that clashes with no set joins it, and then the later claims must keep off its bits. So no bit is claimed
-- twice exactly where no claim clashes.
use mathlib.Core.Path.{◌≡◌, refl, sym, ap, ◌∙◌}
use mathlib.Core.Logic.{◌⊎◌, inl, inr, ⊎_elim}
use mathlib.Core.Bool.{Bool, true, false}
use mathlib.Core.List.{List, ◌∷◌}
use Prim.Native.Nat.{ℕ, ◌+◌, ◌-◌, ◌≤◌, ◌<◌}
use native.Mathlib.Decide.{ℕ_discrete, dec_le, dec_lt}
use native.Mathlib.Omega.{arith}
use lib.ListN.{length, get_or, set}
use lib.Seq.{get_or-set_same, get_or-set_other}
use Rattle.bits.specs.Digit.{digit}
use Rattle.bits.specs.Owners.{owned, clash}
use Rattle.bits.proofs.OwnerLaws.{owned_bit, owned_other, clash_exactly, clash_none}
use Rattle.plan.specs.Rows.{width_of, Claim}
use Rattle.facts.specs.Good.{Each, Holds, Free, Once}

-- ---- bits p to p + s - 1 of one set

abbrev pub Within : ℕ → ℕ → ℕ → Type 0
Within p s b = (p ≤ b) × (b < p + s)

pub within? : (p s b : ℕ) → Within p s b ⊎ (Within p s b → ⊥)
within? p s b = go (dec_le p b) (dec_lt b (p + s))
  where
    go : Dec (p ≤ b) → Dec (b < p + s) → Within p s b ⊎ (Within p s b → ⊥)
    go (yes l) (yes m) = inl (l, m)
    go (yes l) (no m) = inr (λ w. m w.1)
    go (no l) m = inr (λ w. l w.0)

pub owned_in : (set p s b : ℕ) → Within p s b → digit (owned set p s) b ≡ 1
owned_in set p s b w =
    let e : p + (b - p) ≡ b = omega arith in
    rw e at (owned_bit set p s (b - p) (omega arith))

pub owned_out : (set p s b : ℕ) → (Within p s b → ⊥) → digit (owned set p s) b ≡ digit set b
owned_out set p s b d = owned_other set p s b (λ k l e. d (omega arith))

-- ---- the sets of all Tx frames

-- bit b of Tx frame t has an owner
abbrev pub Has : List ℕ → ℕ → ℕ → Type 0
Has sets t b = digit (get_or sets t 0) b ≡ 1

-- the sets with a claim's bits
abbrev pub taken : List ℕ → Claim → List ℕ
taken sets c = set sets c.tx (owned (get_or sets c.tx 0) c.at (width_of c.from))

module _ (sets : List ℕ) (c : Claim) (there : c.tx < length sets) where
  Same-frame : get_or (taken sets c) c.tx 0 ≡ owned (get_or sets c.tx 0) c.at (width_of c.from)
  Same-frame = get_or-set_same sets c.tx _ 0 there

  pub taken_in : (t b : ℕ) → Holds c t b → Has (taken sets c) t b
  taken_in t b h = rw (← h.frame, Same-frame) (owned_in (get_or sets c.tx 0) c.at (width_of c.from) b (h.low, h.high))

  pub taken_out : (t b : ℕ) → (Holds c t b → ⊥) → digit (get_or (taken sets c) t 0) b ≡ digit (get_or sets t 0) b
  taken_out t b d = go (ℕ_discrete t c.tx)
    where
      go : Dec (t ≡ c.tx) → digit (get_or (taken sets c) t 0) b ≡ digit (get_or sets t 0) b
      go (yes e) =
          rw (e, Same-frame)
          (owned_out (get_or sets c.tx 0) c.at (width_of c.from) b (λ w. d (record { frame = sym e; low = w.0; high = w.1 })))
      go (no e) = ap (λ (s : ℕ). digit s b) (get_or-set_other sets c.tx t _ 0 e)

  holds? : (t b : ℕ) → Holds c t b ⊎ (Holds c t b → ⊥)
  holds? t b = go (ℕ_discrete c.tx t) (within? c.at (width_of c.from) b)
    where
      go : Dec (c.tx ≡ t) → Within c.at (width_of c.from) b ⊎ (Within c.at (width_of c.from) b → ⊥) → Holds c t b ⊎ (Holds c t b → ⊥)
      go (yes e) (inl w) = inl (record { frame = e; low = w.0; high = w.1 })
      go (yes e) (inr d) = inr (λ h. d (h.low, h.high))
      go (no e) w = inr (λ h. e h.frame)

  pub taken_keeps : (t b : ℕ) → Has sets t b → Has (taken sets c) t b
  taken_keeps t b one = ⊎_elim (taken_in t b) (λ d. taken_out t b d ∙ one) (holds? t b)

  pub taken_cases : (t b : ℕ) → Has (taken sets c) t b → Holds c t b ⊎ Has sets t b
  taken_cases t b one = ⊎_elim inl (λ d. inr (sym (taken_out t b d) ∙ one)) (holds? t b)

-- ---- claims that keep off the owned bits and off each other

pub record Clear (sets : List ℕ) (cs : List Claim) : Type 0 where
  pub free : (t b : ℕ) → Has sets t b → Free cs t b
  pub once : Once cs

module _ (sets : List ℕ) (c : Claim) (cs : List Claim) (there : c.tx < length sets) where
  -- one more in front, which clashes with no set
  pub Clear-back : clash (get_or sets c.tx 0) c.at (width_of c.from) ≡ false → Clear (taken sets c) cs → Clear sets (c ∷ cs)
  unfolding Once Each
  Clear-back none_owned k =
      record {
        free = λ t b one. (
          (λ h.
              let z = clash_none (get_or sets c.tx 0) c.at (width_of c.from) (b - c.at) none_owned (omega (arith, h)) in
              let e : c.at + (b - c.at) ≡ b = omega (arith, h) in
              let one' : digit (get_or sets c.tx 0) b ≡ 1 = rw h.frame one in
              let zero' : digit (get_or sets c.tx 0) b ≡ 0 = rw e at z in
              omega arith),
          k.free t b (taken_keeps sets c there t b one),
        );
        once = ((λ t b h. k.free t b (taken_in sets c there t b h)), k.once);
      }

  -- and one less
  pub clear_next : Clear sets (c ∷ cs) → (clash (get_or sets c.tx 0) c.at (width_of c.from) ≡ false) × Clear (taken sets c) cs
  unfolding Once Each
  clear_next h = (
    go (clash (get_or sets c.tx 0) c.at (width_of c.from)) refl,
    record {
      free = λ t b one. ⊎_elim (λ held. h.once.0 t b held) (λ old. (h.free t b old).1) (taken_cases sets c there t b one);
      once = h.once.1;
    },
  )
    where
      go : (x : Bool) → clash (get_or sets c.tx 0) c.at (width_of c.from) ≡ x → x ≡ false
      go true e =
          let some = (clash_exactly (get_or sets c.tx 0) c.at (width_of c.from)).0 e in
          absurd ((h.free c.tx (c.at + some.0) some.2).0 (record { frame = refl; low = omega arith; high = omega (arith, some.1) }))
      go false e = refl

-- the order of the first two does not matter
pub Clear-swap : (sets : List ℕ) (c d : Claim) (cs : List Claim) → Clear sets (c ∷ d ∷ cs) → Clear sets (d ∷ c ∷ cs)
unfolding Once Each
Clear-swap sets c d cs h =
    record {
      free = λ t b one. let f = h.free t b one in (f.1.0, (f.0, f.1.1));
      once = (
        (λ t b held. ((λ other. (h.once.0 t b other).0 held), h.once.1.0 t b held)),
        ((λ t b held. (h.once.0 t b held).1), h.once.1.1),
      );
    }
