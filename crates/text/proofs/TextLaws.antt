-- Laws of text put into a line, of decimal numbers, and of what is written for each byte.
use mathlib.Core.Path.{◌≡◌, refl, sym, ap, ◌∙◌}
use mathlib.Core.Bool.{false}
use mathlib.Core.Logic.{⊎_elim}
use mathlib.Core.List.{List, [], ◌∷◌, ◌++◌, append_assoc, append-nil}
use Prim.Native.Nat.{ℕ, zero, suc, ◌+◌, ◌/◌, ◌%◌, ◌^◌, ◌≤◌, ◌<◌}
use native.Mathlib.Omega.{arith}
use native.Mathlib.Numerals.{add-one}
use lib.ListN.{length, take, drop, get_or, set, length-append, length-set}
use lib.Seq.{sets, sets-eq, take-suc, take_at}
use lib.Dec.{ltb}
use native.Mathlib.Nat.{pow-suc, eq-zero-or-pos}
use borrow.Author.Tests.{lt-ltb, le-ltb, ltb-false}
use Rattle.std.proofs.Common.{rules}
use Rattle.std.specs.Fmt.{digits, decimal as std_decimal}
use Rattle.std.specs.List.{flat_map}
use Rattle.std.proofs.lemmas.Fmt.{AppendsLastDigit, decimal_from_appends, length-decimal-le_succ, hex_one_digit}
use Rattle.base.specs.Pick.{pick}
use Rattle.base.proofs.Picks.{picks, passes, cases}
use Rattle.text.specs.Text.{glyph, decimal_in, decimal, hex_byte, each, spaced, written, Put}

-- text within the line stands there whole, and nothing else changes
pub written_is : (line : List ℕ) (at : ℕ) (text : List ℕ) → at + length text ≤ length line
    → written line at text ≡ take at line ++ text ++ drop (at + length text) line
unfolding written
written_is line at text h = sets-eq text line at h

sets-sets : (a b line : List ℕ) (at : ℕ) → sets (sets line at a) (at + length a) b ≡ sets line at (a ++ b)
sets-sets [] b line at = let e : at + 0 ≡ at = omega arith in rw e
sets-sets (x ∷ a) b line at = let e : at + suc (length a) ≡ suc at + length a = omega arith in rw e (sets-sets a b (set line at x) (suc at))

-- nothing, a byte, and one text after another
pub Put-none : (line : List ℕ) (at : ℕ) → Put line at [] line at
unfolding written
Put-none line at = record { bytes = refl; ends = omega arith; kept = refl }

pub Put-one : (line : List ℕ) (at b : ℕ) → Put line at (b ∷ []) (set line at b) (at + 1)
unfolding written
Put-one line at b = record { bytes = refl; ends = refl; kept = simp length-set }

pub Put-then : {line mid after a b : List ℕ} {at end past : ℕ} → Put line at a mid end → Put mid end b after past → Put line at (a ++ b) after past
unfolding written
Put-then {line} {mid} {after} {a} {b} {at} {end} {past} p q =
    record {
      bytes = q.bytes ∙ ap (λ (l : List ℕ). sets l end b) p.bytes ∙ ap (λ (k : ℕ). sets (sets line at a) k b) p.ends ∙ sets-sets a b line at;
      ends = let e = q.ends in let d = p.ends in simp length-append (omega arith);
      kept = q.kept ∙ p.kept;
    }

-- so a line that is put at the start can be read off there
pub put_shows : {line text after : List ℕ} {end : ℕ} → Put line 0 text after end → end ≤ length line → take end after ≡ text
put_shows {line} {text} {after} {end} p h =
    let whole : length text ≡ end = omega (arith, p.ends) in
    rw (p.bytes, written_is line 0 text (omega arith)) (take_at text _ end whole)

-- a larger bound writes the same digits
enough : (b c n : ℕ) → n < b → n < c → decimal_in b n ≡ decimal_in c n
unfolding decimal_in
enough zero c n hb hc = absurd (omega arith)
enough (suc b) zero n hb hc = absurd (omega arith)
enough (suc b) (suc c) n hb hc =
    cases (λ (ds : List ℕ). ds ≡ decimal_in (suc c) n) (ltb n 10) _ _
    (λ t. sym (picks _ _ _ t))
    (λ t. let l : 10 ≤ n = ltb-false n 10 t in
    ap (λ (ds : List ℕ). ds ++ (glyph (n % 10) ∷ [])) (enough b c (n / 10) (omega arith) (omega arith)) ∙ sym (passes _ _ _ t))

-- a number below 10 is one digit; another is a tenth of it, and then its last digit
pub decimal_one : (n : ℕ) → n < 10 → decimal n ≡ glyph n ∷ []
unfolding decimal decimal_in
decimal_one n h = picks _ _ _ (lt-ltb n 10 h)

pub decimal_more : (n : ℕ) → 10 ≤ n → decimal n ≡ decimal (n / 10) ++ (glyph (n % 10) ∷ [])
unfolding decimal decimal_in
decimal_more n h =
    passes _ _ _ (le-ltb n 10 h) ∙ ap (λ (ds : List ℕ). ds ++ (glyph (n % 10) ∷ [])) (enough n (suc (n / 10)) (n / 10) (omega arith) (omega arith))

-- std's digits of a number of 64 bits are these
appends : AppendsLastDigit decimal_in
unfolding decimal_in glyph pick
appends = record { one = λ k n h. rw (lt-ltb n 10 h); more = λ k n h. rw (le-ltb n 10 h, lt-ltb (n % 10) 10 (omega arith)) }

pub decimal_is : (n : ℕ) → n < 2 ^ 64 → std_decimal n ≡ decimal n
unfolding decimal
decimal_is n h = sym (decimal_from_appends decimal_in appends (suc n) n h (omega (arith, length-decimal-le_succ n h)))

-- and its hex digits of a byte's halves
hex_glyph : (d : ℕ) → d < 16 → digits 16 false d ≡ glyph d ∷ []
unfolding glyph pick
hex_glyph d h = rw (hex_one_digit false d h) (search rules)

pub hex_is : (b : ℕ) → b < 256 → digits 16 false (b / 16) ++ digits 16 false (b % 16) ≡ hex_byte b
unfolding hex_byte
hex_is b h = rw (hex_glyph (b / 16) (omega arith), hex_glyph (b % 16) (omega arith))

-- a space and std's digits are a space and ours
pub spaced_is : (n : ℕ) → n < 2 ^ 64 → 32 ∷ std_decimal n ≡ spaced n
unfolding spaced
spaced_is n h = rw (decimal_is n h)

-- how many digits there are, by the same two cases
pub length_one : (n : ℕ) → n < 10 → length (decimal n) ≡ 1
length_one n h = rw (decimal_one n h)

pub length_more : (n : ℕ) → 10 ≤ n → length (decimal n) ≡ length (decimal (n / 10)) + 1
length_more n h = rw (decimal_more n h, length-append)

-- a number below 10 ^ suc k has no more than suc k of them
pub decimal-length : (k n : ℕ) → n < 10 ^ suc k → length (decimal n) ≤ suc k
decimal-length zero n h = omega (arith, length_one n h)
decimal-length (suc k) n h =
    ⊎_elim
    (λ (z : n / 10 ≡ 0). omega (arith, length_one n (omega arith)))
    (λ (z : 0 < n / 10). omega (arith, length_more n (omega arith), decimal-length k (n / 10) (omega (arith, pow-suc 10 (suc k)))))
    (eq-zero-or-pos (n / 10))

-- a byte has three digits at the most
pub length_byte : (b : ℕ) → b < 256 → length (spaced b) ≤ 4
unfolding spaced
length_byte b h = omega (arith, decimal-length 2 b (omega arith))

-- what is written for each byte is std's map of a list to the texts of its elements
pub each_is : (f : ℕ → List ℕ) (bytes : List ℕ) → each f bytes ≡ flat_map f bytes
unfolding each
each_is f [] = refl
each_is f (b ∷ bytes) = ap (λ (t : List ℕ). f b ++ t) (each_is f bytes)

-- of two lists, and of one byte more
pub Each-append : (f : ℕ → List ℕ) (a b : List ℕ) → each f (a ++ b) ≡ each f a ++ each f b
unfolding each
Each-append f [] b = refl
Each-append f (x ∷ a) b = rw (Each-append f a b, append_assoc)

pub Each-more : (f : ℕ → List ℕ) (bytes : List ℕ) (i : ℕ) → i < length bytes
    → each f (take (i + 1) bytes) ≡ each f (take i bytes) ++ f (get_or bytes i 0)
unfolding each
Each-more f bytes i h = rw (add-one, take-suc bytes i 0 h, Each-append, append-nil)

-- and so of std's digits of one byte more
pub spaced_more : (bytes : List ℕ) (i : ℕ) → i < length bytes → get_or bytes i 0 < 2 ^ 64
    → each spaced (take (i + 1) bytes) ≡ each spaced (take i bytes) ++ (32 ∷ std_decimal (get_or bytes i 0))
spaced_more bytes i h byte = rw (spaced_is _ byte) (Each-more spaced bytes i h)

-- what a loop over bytes has put after one turn more: the bytes themselves, or what is written for each
module _ {line mid after : List ℕ} {at end past : ℕ} (bytes : List ℕ) (i : ℕ) (h : i < length bytes) where
  pub Put-more : Put line at (take i bytes) mid end → Put mid end (get_or bytes i 0 ∷ []) after past → Put line at (take (i + 1) bytes) after past
  Put-more p q = rw (add-one, take-suc bytes i 0 h) (Put-then p q)

  pub each-put_more : (f : ℕ → List ℕ) → Put line at (each f (take i bytes)) mid end → Put mid end (f (get_or bytes i 0)) after past
      → Put line at (each f (take (i + 1) bytes)) after past
  each-put_more f p q = rw (Each-more f bytes i h) (Put-then p q)
