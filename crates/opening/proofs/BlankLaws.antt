-- The bytes of a blank area: zero, but for the mark, the plan's length and the plan.
use Rattle.std.proofs.Common.{◌≡◌, ℕ, zero, suc, ◌+◌, ◌-◌, ◌<◌, ◌≤◌, ltb, List, length, get_or, set, sym, refl, ◌∙◌, ⊎_elim, eq-or-lt_of_le, arith, length-set, get_or-set_other, get_or-set_same, ext_get_or, ltb-false, ltb-true}
use Rattle.base.specs.Numbers.{byte_at, low_at}
use Rattle.base.proofs.Picks.{cases}
use Rattle.base.proofs.Ranges.{low_same}
use Rattle.area.specs.Layout.{area_length, counter_byte, plan_length_bytes, plan_start, plan_room, LongEnough}
use Rattle.opening.specs.Opened.{cleared, zeroed, laid, blank}
use Rattle.opening.proofs.Alike.{Alike, Alike-set, Alike-set_low}
use Rattle.opening.proofs.Kept.{Same, same, Same-set, Same-low, Same-then, Same-cleared, Same-zeroed, Same-laid}
use Rattle.opening.proofs.Kept.{cleared-length, zeroed-length, laid-length}

cleared_at : (n : ℕ) (a : List ℕ) (j : ℕ) → n ≤ length a → j < n → byte_at (cleared n a) j ≡ 0
unfolding cleared
cleared_at zero a j l h = absurd (omega arith)
cleared_at (suc n) a j l h =
    let long = cleared-length n a in
    ⊎_elim
    (λ (e : j ≡ n). rw e (get_or-set_same (cleared n a) n 0 0 (omega arith)))
    (λ (k : j < n). get_or-set_other (cleared n a) n j 0 0 (λ e. omega arith) ∙ cleared_at n a j (omega arith) k)
    (eq-or-lt_of_le (omega arith))

zeroed_at : (from n : ℕ) (a : List ℕ) (j : ℕ) → from + n ≤ length a → from ≤ j → j < from + n → byte_at (zeroed from n a) j ≡ 0
unfolding zeroed
zeroed_at from zero a j l low h = absurd (omega arith)
zeroed_at from (suc n) a j l low h =
    let long = zeroed-length from n a in
    ⊎_elim
    (λ (e : j ≡ from + n). rw e (get_or-set_same (zeroed from n a) (from + n) 0 0 (omega arith)))
    (λ (k : j < from + n). get_or-set_other (zeroed from n a) (from + n) j 0 0 (λ e. omega arith) ∙ zeroed_at from n a j (omega arith) low k)
    (eq-or-lt_of_le (omega arith))

laid_at : (plan : List ℕ) (n : ℕ) (a : List ℕ) (i : ℕ) → plan_start + n ≤ length a → i < n → byte_at (laid plan n a) (plan_start + i) ≡ byte_at plan i
unfolding laid
laid_at plan zero a i l h = absurd (omega arith)
laid_at plan (suc n) a i l h =
    let long = laid-length plan n a in
    ⊎_elim
    (λ (e : i ≡ n). rw e (get_or-set_same (laid plan n a) (plan_start + n) (get_or plan n 0) 0 (omega arith)))
    (λ (k : i < n). get_or-set_other (laid plan n a) (plan_start + n) (plan_start + i) (get_or plan n 0) 0 (λ e. omega arith) ∙ laid_at plan n a i (omega arith) k)
    (eq-or-lt_of_le (omega arith))

-- ---- the blank area

module _ (plan a : List ℕ) where
  abbrev filled : List ℕ
  filled = laid plan (length plan) (cleared area_length a)

  -- P: neither the mark nor the length
  Same-blank : (P : ℕ → Type 0) → (P 0 → ⊥) → (P 1 → ⊥) → (P plan_length_bytes → ⊥) → (P (plan_length_bytes + 1) → ⊥) → Same P filled (blank plan a)
  unfolding blank
  Same-blank P first second low high = Same-low P _ _ low high (Same-set P _ _ second (Same-set P _ _ first (same P _)))

  -- past its end the area stays
  pub blank_same : (P : ℕ → Type 0) → length plan ≤ plan_room → ((j : ℕ) → j < area_length → P j → ⊥) → Same P a (blank plan a)
  blank_same P short never =
      Same-then P (Same-cleared P area_length a never)
      (Same-then P (Same-laid P plan (length plan) _ (λ j h. never (plan_start + j) (omega arith)))
      (Same-blank P (never 0 (omega arith)) (never 1 (omega arith)) (never plan_length_bytes (omega arith)) (never (plan_length_bytes + 1) (omega arith))))

  filled-length : length filled ≡ length a
  filled-length = laid-length plan (length plan) (cleared area_length a) ∙ cleared-length area_length a

  pub blank-length : length (blank plan a) ≡ length a
  blank-length = (Same-blank (λ j. ⊥) (λ p. p) (λ p. p) (λ p. p) (λ p. p)).len ∙ filled-length

  module _ (room : LongEnough a) where
    pub blank_mark : (byte_at (blank plan a) 0 ≡ 0x47) × (byte_at (blank plan a) 1 ≡ 0x57)
    unfolding blank
    blank_mark =
        let n = filled-length in
        let one = set filled 0 0x47 in
        let s = Same-low (λ j. j < counter_byte) plan_length_bytes (length plan) (λ p. omega arith) (λ p. omega arith) (same _ (set one 1 0x57)) in (
          s.at 0 (omega arith) ∙ get_or-set_other one 1 0 0x57 0 (λ e. omega arith) ∙ get_or-set_same filled 0 0x47 0 (omega arith),
          s.at 1 (omega arith) ∙ get_or-set_same one 1 0x57 0 (simp length-set (omega arith)),
        )

    pub blank_long : length plan ≤ plan_room → low_at (blank plan a) plan_length_bytes ≡ length plan
    unfolding blank
    blank_long short =
        let n = filled-length in
        low_same (set (set filled 0 0x47) 1 0x57) plan_length_bytes (length plan) (simp length-set (omega arith)) (omega arith)

    -- the tables, the counts and the counter are zero
    pub blank-zero :
        (j : ℕ) → j < plan_start → (j ≡ 0 → ⊥) → (j ≡ 1 → ⊥) → (j ≡ plan_length_bytes → ⊥) → (j ≡ plan_length_bytes + 1 → ⊥)
        → byte_at (blank plan a) j ≡ 0
    blank-zero j h n0 n1 low high =
        let P : ℕ → Type 0 = λ i. i ≡ j in
        (Same-blank P (λ e. n0 (sym e)) (λ e. n1 (sym e)) (λ e. low (sym e)) (λ e. high (sym e))).at j refl
        ∙ (Same-laid P plan (length plan) _ (λ i l e. omega arith)).at j refl
        ∙ cleared_at area_length a j room (omega arith)

    pub blank-plan : length plan ≤ plan_room → (i : ℕ) → i < length plan → byte_at (blank plan a) (plan_start + i) ≡ byte_at plan i
    blank-plan short i h =
        let n = cleared-length area_length a in
        (Same-blank (λ j. plan_start ≤ j) (λ p. omega arith) (λ p. omega arith) (λ p. omega arith) (λ p. omega arith)).at (plan_start + i) (omega arith)
        ∙ laid_at plan (length plan) (cleared area_length a) i (omega arith) h

    -- and so is what is behind the plan
    pub blank_behind : (j : ℕ) → plan_start + length plan ≤ j → j < area_length → byte_at (blank plan a) j ≡ 0
    blank_behind j low h =
        let P : ℕ → Type 0 = λ i. i ≡ j in
        (Same-blank P (λ e. omega arith) (λ e. omega arith) (λ e. omega arith) (λ e. omega arith)).at j refl
        ∙ (Same-laid P plan (length plan) _ (λ i l e. omega arith)).at j refl
        ∙ cleared_at area_length a j room h

-- ---- where the plan goes no zeros are needed first

module _ (plan a : List ℕ) (short : length plan ≤ plan_room) (room : LongEnough a) where
  abbrev behind : ℕ
  behind = plan_start + length plan

  abbrev between : List ℕ
  between = laid plan (length plan) (zeroed 0 plan_start a)

  abbrev around : List ℕ
  around = zeroed (plan_start + length plan) (plan_room - length plan) between

  between-length : length between ≡ length a
  between-length = laid-length plan (length plan) (zeroed 0 plan_start a) ∙ zeroed-length 0 plan_start a

  abbrev Agree : ℕ → Type 0
  Agree j = byte_at around j ≡ byte_at (filled plan a) j

  -- the bytes before the plan, of the plan, behind it, and past the area
  Agree-before : (j : ℕ) → j < plan_start → Agree j
  Agree-before j h =
      let P : ℕ → Type 0 = λ i. i ≡ j in
      (Same-zeroed P behind (plan_room - length plan) between (λ i l e. omega arith)).at j refl
      ∙ (Same-laid P plan (length plan) (zeroed 0 plan_start a) (λ i l e. omega arith)).at j refl
      ∙ zeroed_at 0 plan_start a j (omega arith) (omega arith) h
      ∙ sym ((Same-laid P plan (length plan) (cleared area_length a) (λ i l e. omega arith)).at j refl ∙ cleared_at area_length a j room (omega arith))

  Agree-plan : (i : ℕ) → i < length plan → Agree (plan_start + i)
  Agree-plan i h =
      let P : ℕ → Type 0 = λ k. k ≡ plan_start + i in
      (Same-zeroed P behind (plan_room - length plan) between (λ k l e. omega arith)).at (plan_start + i) refl
      ∙ laid_at plan (length plan) (zeroed 0 plan_start a) i (omega (arith, zeroed-length 0 plan_start a)) h
      ∙ sym (laid_at plan (length plan) (cleared area_length a) i (omega (arith, cleared-length area_length a)) h)

  Agree-behind : (j : ℕ) → behind ≤ j → j < area_length → Agree j
  Agree-behind j low h =
      let P : ℕ → Type 0 = λ i. i ≡ j in
      zeroed_at behind (plan_room - length plan) between j (omega (arith, between-length)) low (omega arith)
      ∙ sym ((Same-laid P plan (length plan) (cleared area_length a) (λ i l e. omega arith)).at j refl ∙ cleared_at area_length a j room h)

  Agree-past : (j : ℕ) → area_length ≤ j → Agree j
  Agree-past j h =
      let P : ℕ → Type 0 = λ i. i ≡ j in
      (Same-zeroed P behind (plan_room - length plan) between (λ i l e. omega arith)).at j refl
      ∙ (Same-laid P plan (length plan) (zeroed 0 plan_start a) (λ i l e. omega arith)).at j refl
      ∙ (Same-zeroed P 0 plan_start a (λ i l e. omega arith)).at j refl
      ∙ sym ((Same-laid P plan (length plan) (cleared area_length a) (λ i l e. omega arith)).at j refl
      ∙ (Same-cleared P area_length a (λ i l e. omega arith)).at j refl)

  agree : (j : ℕ) → Agree j
  agree j =
      let E : ℕ → Type 0 = λ x. Agree j in
      cases E (ltb j plan_start) 0 0 (λ t. Agree-before j (ltb-true j plan_start t)) (λ t.
      cases E (ltb j behind) 0 0
      (λ u. let low = ltb-false j plan_start t in
      let high = ltb-true j behind u in
      let e : plan_start + (j - plan_start) ≡ j = omega arith in
      rw e at (Agree-plan (j - plan_start) (omega arith)))
      (λ u. cases E (ltb j area_length) 0 0
      (λ v. Agree-behind j (ltb-false j behind u) (ltb-true j area_length v))
      (λ v. Agree-past j (ltb-false j area_length v))))

  zeros_around : around ≡ filled plan a
  zeros_around =
      ext_get_or 0 around (filled plan a) (zeroed-length behind (plan_room - length plan) between ∙ between-length ∙ sym (filled-length plan a)) (λ j h. agree j)

  -- the first zeros, the plan, the last zeros
  pub laid_on_zeros :
      {b c d : List ℕ} → b ≡ zeroed 0 plan_start a → c ≡ laid plan (length plan) b → d ≡ zeroed (plan_start + length plan) (plan_room - length plan) c
      → d ≡ laid plan (length plan) (cleared area_length a)
  laid_on_zeros first laid' last = rw (last, laid', first) zeros_around

-- a blank area is a function of the plan alone
Alike-laid : (plan : List ℕ) (n : ℕ) {a b : List ℕ} → Alike a b → Alike (laid plan n a) (laid plan n b)
unfolding laid
Alike-laid plan zero s = s
Alike-laid plan (suc n) s = Alike-set _ refl (Alike-laid plan n s)

pub Alike-blank : (plan a b : List ℕ) → LongEnough a → LongEnough b → Alike (blank plan a) (blank plan b)
unfolding blank
Alike-blank plan a b first second =
    Alike-set_low plan_length_bytes refl
    (Alike-set 1 refl
    (Alike-set 0 refl
    (Alike-laid plan (length plan)
    (record {
      first = omega (arith, cleared-length area_length a);
      second = omega (arith, cleared-length area_length b);
      at = λ j h. cleared_at area_length a j first h ∙ sym (cleared_at area_length b j second h);
    }))))
