-- Laws of eight bytes as a number. Bit t of the bytes is one digit of their number, in either order; so is each bit that is taken from them or laid
-- into them.
use mathlib.Core.Path.{◌≡◌, refl, sym, ap, ◌∙◌}
use mathlib.Core.Logic.{◌≢◌}
use mathlib.Core.List.{List, ◌∷◌, ◌++◌}
use Prim.Native.Nat.{ℕ, zero, suc, ◌+◌, ◌-◌, ◌*◌, ◌/◌, ◌%◌, ◌^◌, ◌≤◌, ◌<◌}
use native.Mathlib.Nat.{add-zero, zero-add, suc-add, add-mul, mul_assoc, mul-mod_left, div-eq_of_lt}
use native.Mathlib.Decide.{dec_lt, ℕ_discrete}
use native.Mathlib.Omega.{arith}
use lib.Pow.{shl_lt, ones_lt, ones_split, high, low, pow-add, pow_mono}
use Rattle.std.specs.Int.{from_le_bytes, swap_bytes, w64}
use lib.ListN.{length, take, drop, get_or, get_or-eq_default}
use Rattle.std.proofs.lemmas.List.{get_or-drop, get_or-take, length-drop, length-append}
use Rattle.bits.specs.Digit.{digit}
use Rattle.bits.specs.Payload.{digit_of, bit_at}
use Rattle.bits.specs.Word.{place_of, Bits, low_first, reversed, from_bit, in_bytes, ones_of}
use Rattle.bits.proofs.ShiftLaws.{none_at, digit_past, digit_up, digit_under, digit_down, digit-mod, parts_lt, digit_high, digit_low}
use Rattle.bits.proofs.MaskLaws.{range_in, range_below, ones_in, ones_above}
use Rattle.bits.proofs.PayloadLaws.{Bytes, digit_of-lt}

-- which digit of the number of eight bytes, the first lowest, bit t of them is
abbrev pub in_memory : ℕ → ℕ → ℕ
in_memory order t = 8 * (t / 8) + digit_of order t

-- the same in each byte
pub Same-place : (order at t : ℕ) → digit_of order (8 * at + t) ≡ digit_of order t
unfolding digit_of
Same-place zero at t = let i : (8 * at + t) % 8 ≡ t % 8 = omega arith in rw i
Same-place (suc order) at t = omega arith

-- ---- bytes as a number

module _ (bytes : List ℕ) (b : Bytes bytes) where
  pub low_first-lt : (n at : ℕ) → low_first n bytes at < 2 ^ (8 * n)
  unfolding low_first
  low_first-lt zero at = omega arith
  low_first-lt (suc n) at =
      let i : 8 * suc n ≡ 8 * n + 8 = omega arith in
      rw i (parts_lt (8 * n) 8 (low_first n bytes (at + 1)) (get_or bytes at 0) (low_first-lt n (at + 1)) (b at))

  low_first-digit : (n at j d : ℕ) → j < n → d < 8 → digit (low_first n bytes at) (8 * j + d) ≡ digit (get_or bytes (at + j) 0) d
  unfolding low_first
  low_first-digit zero at j d h l = absurd (omega arith)
  low_first-digit (suc n) at zero d h l = rw (add-zero, zero-add) (digit_low 8 (low_first n bytes (at + 1)) (get_or bytes at 0) d (b at) l)
  low_first-digit (suc n) at (suc j) d h l =
      let i : 8 * suc j + d ≡ 8 + (8 * j + d) = omega arith in
      let k : at + suc j ≡ at + 1 + j = omega arith in
      rw (i, k) (digit_high 8 (low_first n bytes (at + 1)) (get_or bytes at 0) (8 * j + d) (b at) ∙ low_first-digit n (at + 1) j d (omega arith) l)

  -- a bit of the bytes from a place on
  pub low_first_bit : (order at t : ℕ) → t < 64 → digit (low_first 8 bytes at) (in_memory order t) ≡ bit_at order bytes (8 * at + t)
  unfolding bit_at
  low_first_bit order at t h =
      let i : (8 * at + t) / 8 ≡ at + t / 8 = omega arith in
      rw (i, Same-place order at t) (low_first-digit 8 at (t / 8) (digit_of order t) (omega arith) (digit_of-lt order t))

-- ---- turned round

reversed-lt : (n x : ℕ) → reversed n x < 2 ^ (8 * n)
unfolding reversed
reversed-lt zero x = omega arith
reversed-lt (suc n) x =
    let i : 8 * suc n ≡ 8 + 8 * n = omega arith in
    rw i (parts_lt 8 (8 * n) (x % 256) (reversed n (x / 256)) (omega arith) (reversed-lt n (x / 256)))

reversed-digit : (n x j d : ℕ) → j < n → d < 8 → digit (reversed n x) (8 * j + d) ≡ digit x (8 * (n - 1 - j) + d)
unfolding reversed
reversed-digit zero x j d h l = absurd (omega arith)
reversed-digit (suc n) x j d h l = go (ℕ_discrete j n) (λ m. reversed-digit n (x / 256) j d m l)
  where
    go :
        Dec (j ≡ n) → (j < n → digit (reversed n (x / 256)) (8 * j + d) ≡ digit (x / 256) (8 * (n - 1 - j) + d))
        → digit (x % 256 * 2 ^ (8 * n) + reversed n (x / 256)) (8 * j + d) ≡ digit x (8 * (suc n - 1 - j) + d)
    go (yes e) earlier =
        let i : 8 * (suc n - 1 - n) + d ≡ d = omega arith in
        rw (e, i) (digit_high (8 * n) (x % 256) (reversed n (x / 256)) d (reversed-lt n (x / 256)) ∙ digit-mod 8 x d l)
    go (no e) earlier =
        let i : 8 + (8 * (n - 1 - j) + d) ≡ 8 * (suc n - 1 - j) + d = omega arith in
        digit_low (8 * n) (x % 256) (reversed n (x / 256)) (8 * j + d) (reversed-lt n (x / 256)) (omega arith) ∙ earlier (omega arith)
        ∙ digit_down x 8 (8 * (n - 1 - j) + d) ∙ rw i

-- in big order the first bit of eight bytes is then the highest, and the other way about
unround : (x t : ℕ) → t < 64 → digit (reversed 8 x) (63 - t) ≡ digit x (in_memory 0 t)
unfolding digit_of
unround x t h =
    let i : 63 - t ≡ 8 * (7 - t / 8) + (7 - t % 8) = omega arith in
    let k : 8 * (8 - 1 - (7 - t / 8)) + (7 - t % 8) ≡ 8 * (t / 8) + (7 - t % 8) = omega arith in
    rw i (reversed-digit 8 x (7 - t / 8) (7 - t % 8) (omega arith) (omega arith) ∙ rw k)

round : (x t : ℕ) → t < 64 → digit (reversed 8 x) (in_memory 0 t) ≡ digit x (63 - t)
unfolding digit_of
round x t h =
    let k : 8 * (8 - 1 - t / 8) + (7 - t % 8) ≡ 63 - t = omega arith in
    reversed-digit 8 x (t / 8) (7 - t % 8) (omega arith) (omega arith) ∙ rw k

-- ---- the bits from bit p on

module _ (x p k : ℕ) where
  digit-from_bit : (order : ℕ) → p + k < 64 → digit (from_bit order x p) (place_of order k) ≡ digit x (in_memory order (p + k))
  unfolding from_bit place_of digit_of
  digit-from_bit zero h =
      let i : p + (63 - (p + k)) ≡ 63 - k = omega arith in
      digit-mod 64 (reversed 8 x * 2 ^ p) (63 - k) (omega arith) ∙ (rw i at (digit_up (reversed 8 x) p (63 - (p + k)))) ∙ unround x (p + k) h
  digit-from_bit (suc order) h =
      let i : 8 * ((p + k) / 8) + (p + k) % 8 ≡ p + k = omega arith in
      digit_down x p k ∙ rw i

  -- past the eight bytes there is none
  from_past : (order : ℕ) → x < 2 ^ 64 → k < 64 → 64 ≤ p + k → digit (from_bit order x p) (place_of order k) ≡ 0
  unfolding from_bit place_of
  from_past zero l h g = digit-mod 64 (reversed 8 x * 2 ^ p) (63 - k) (omega arith) ∙ digit_under (reversed 8 x) p (63 - k) (omega arith)
  from_past (suc order) l h g = digit_down x p k ∙ digit_past 64 x (p + k) l g

bit_past : (order : ℕ) (payload : List ℕ) (p : ℕ) → 8 * length payload ≤ p → bit_at order payload p ≡ 0
unfolding bit_at
bit_past order payload p h =
    let past : get_or payload (p / 8) 0 ≡ 0 = get_or-eq_default payload 0 (omega arith) in
    rw past (none_at (digit_of order p))

-- of a payload of at most eight bytes
pub signal_bits :
    (order : ℕ) (payload : List ℕ) (p n : ℕ) → Bytes payload → length payload ≤ 8 → Bits order (from_bit order (low_first 8 payload 0) p) payload p n
signal_bits order payload p n b short k h m = at (dec_lt (p + k) 64)
  where
    at : Dec (p + k < 64) → digit (from_bit order (low_first 8 payload 0) p) (place_of order k) ≡ bit_at order payload (p + k)
    at (yes l) = digit-from_bit (low_first 8 payload 0) p k order l ∙ (rw (zero-add) at (low_first_bit payload b order 0 (p + k) l))
    at (no l) =
        from_past (low_first 8 payload 0) p k order (low_first-lt payload b 8 0) h (omega arith)
        ∙ sym (bit_past order payload (p + k) (omega arith))

-- and of the eight bytes that begin with the byte of bit p
pub piece_bits :
    (order : ℕ) (payload : List ℕ) (p n : ℕ) → Bytes payload → p % 8 + n ≤ 64 → Bits order (from_bit order (low_first 8 payload (p / 8)) (p % 8)) payload p n
piece_bits order payload p n b room k h m =
    let i : 8 * (p / 8) + (p % 8 + k) ≡ p + k = omega arith in
    digit-from_bit (low_first 8 payload (p / 8)) (p % 8) k order (omega arith) ∙ (rw i at (low_first_bit payload b order (p / 8) (p % 8 + k) (omega arith)))

-- ---- the bits as bytes again, from bit o of the first byte on

module _ (x o t : ℕ) where
  pub digit-in_bytes : (order : ℕ) → t < 64 → o ≤ t → digit (in_bytes order x o) (in_memory order t) ≡ digit x (place_of order (t - o))
  unfolding in_bytes place_of digit_of
  digit-in_bytes zero h l =
      let i : o + (63 - t) ≡ 63 - (t - o) = omega arith in
      round (x / 2 ^ o) t h ∙ digit_down x o (63 - t) ∙ rw i
  digit-in_bytes (suc order) h l =
      let i : 8 * (t / 8) + t % 8 ≡ t = omega arith in
      let k : o + (t - o) ≡ t = omega arith in
      rw i (digit-mod 64 (x * 2 ^ o) t h ∙ (rw k at (digit_up x o (t - o))))

  pub in_bytes_before : (order : ℕ) → x < 2 ^ 64 → t < 64 → t < o → digit (in_bytes order x o) (in_memory order t) ≡ 0
  unfolding in_bytes digit_of
  in_bytes_before zero s h l = round (x / 2 ^ o) t h ∙ digit_down x o (63 - t) ∙ digit_past 64 x (o + (63 - t)) s (omega arith)
  in_bytes_before (suc order) s h l =
      let i : 8 * (t / 8) + t % 8 ≡ t = omega arith in
      rw i (digit-mod 64 (x * 2 ^ o) t h ∙ digit_under x o t l)

pub in_bytes-lt : (order x o : ℕ) → in_bytes order x o < 2 ^ 64
unfolding in_bytes
in_bytes-lt zero x o = reversed-lt 8 (x / 2 ^ o)
in_bytes-lt (suc order) x o = omega arith

-- ---- a one for each of the first s bits

module _ (s k : ℕ) where
  pub ones_first : (order : ℕ) → s ≤ 64 → k < s → digit (ones_of order s) (place_of order k) ≡ 1
  unfolding ones_of place_of
  ones_first zero h l =
      let i : 64 - s + (s - 1 - k) ≡ 63 - k = omega arith in
      rw i at (range_in s (64 - s) (s - 1 - k) (omega arith))
  ones_first (suc order) h l = ones_in s k l

  pub ones_later : (order : ℕ) → k < 64 → s ≤ k → digit (ones_of order s) (place_of order k) ≡ 0
  unfolding ones_of place_of
  ones_later zero h l = range_below s (64 - s) (63 - k) (omega arith)
  ones_later (suc order) h l = ones_above s k l

pub ones_of-lt : (order s : ℕ) → s ≤ 64 → ones_of order s < 2 ^ 64
unfolding ones_of
ones_of-lt zero s h =
    let i : s + (64 - s) ≡ 64 = omega arith in
    rw i at (shl_lt s (64 - s) (ones_lt s))
ones_of-lt (suc order) s h = omega (arith, ones_lt s, pow_mono h)

-- ---- as code makes them

pub swapped : (number : ℕ) → swap_bytes w64 number ≡ reversed 8 number
unfolding reversed
swapped number = omega arith

-- eight bytes as a sum
pub eight_sum :
    (b : List ℕ) (at : ℕ) → low_first 8 b at
    ≡ ((((((get_or b (at + 7) 0 * 256 + get_or b (at + 6) 0) * 256 + get_or b (at + 5) 0) * 256 + get_or b (at + 4) 0) * 256 + get_or b (at + 3) 0) * 256
    + get_or b (at + 2) 0) * 256 + get_or b (at + 1) 0) * 256 + get_or b at 0
unfolding low_first
eight_sum b at =
    let two : at + 1 + 1 ≡ at + 2 = omega arith in
    let three : at + 2 + 1 ≡ at + 3 = omega arith in
    let four : at + 3 + 1 ≡ at + 4 = omega arith in
    let five : at + 4 + 1 ≡ at + 5 = omega arith in
    let six : at + 5 + 1 ≡ at + 6 = omega arith in
    let seven : at + 6 + 1 ≡ at + 7 = omega arith in
    rw (two, three, four, five, six, seven) (omega arith)

pub eight_each : (bytes eight : List ℕ) (at : ℕ) → eight ≡ take 8 (drop at bytes)
    → (get_or eight 0 0 ≡ get_or bytes at 0)
    × (get_or eight 1 0 ≡ get_or bytes (at + 1) 0)
    × (get_or eight 2 0 ≡ get_or bytes (at + 2) 0)
    × (get_or eight 3 0 ≡ get_or bytes (at + 3) 0)
    × (get_or eight 4 0 ≡ get_or bytes (at + 4) 0)
    × (get_or eight 5 0 ≡ get_or bytes (at + 5) 0)
    × (get_or eight 6 0 ≡ get_or bytes (at + 6) 0)
    × (get_or eight 7 0 ≡ get_or bytes (at + 7) 0)
eight_each bytes eight at e =
    let each : (i : ℕ) → i < 8 → get_or eight i 0 ≡ get_or bytes (at + i) 0 = λ i h. rw e (get_or-take 8 (drop at bytes) i 0 h ∙ get_or-drop at bytes i 0) in
    let here : at + 0 ≡ at = omega arith in (
      rw here at (each 0 (omega arith)),
      each 1 (omega arith),
      each 2 (omega arith),
      each 3 (omega arith),
      each 4 (omega arith),
      each 5 (omega arith),
      each 6 (omega arith),
      each 7 (omega arith),
    )

pub eight_low : (bytes eight : List ℕ) (at : ℕ) → eight ≡ take 8 (drop at bytes) → from_le_bytes w64 eight ≡ low_first 8 bytes at
eight_low bytes eight at e =
    let each = eight_each bytes eight at e in
    rw (eight_sum bytes at) (omega (arith, each.0, each.1, each.2, each.3, each.4, each.5, each.6, each.7))

-- past the end there are only zeros
none_left : (n : ℕ) (b : List ℕ) (at : ℕ) → length b ≤ at → low_first n b at ≡ 0
unfolding low_first
none_left zero b at h = refl
none_left (suc n) b at h =
    let past : get_or b at 0 ≡ 0 = get_or-eq_default b 0 h in
    rw (past, none_left n b (at + 1) (omega arith))

-- and bytes past it count nothing
pub low_first_past : (n m : ℕ) (b : List ℕ) (at : ℕ) → length b ≤ at + n → low_first (n + m) b at ≡ low_first n b at
unfolding low_first
low_first_past zero m b at h = rw zero-add (none_left m b at (omega arith))
low_first_past (suc n) m b at h = rw (suc-add, low_first_past n m b (at + 1) (omega arith))

-- a byte in front of the others
pub Bytes-more : (byte : ℕ) (bytes : List ℕ) → byte < 256 → Bytes bytes → Bytes (byte ∷ bytes)
Bytes-more byte bytes h b zero = h
Bytes-more byte bytes h b (suc k) = b k

pub low_first-more : (n at byte : ℕ) (bytes : List ℕ) → low_first n (byte ∷ bytes) (suc at) ≡ low_first n bytes at
unfolding low_first
low_first-more zero at byte bytes = refl
low_first-more (suc n) at byte bytes =
    let i : suc at + 1 ≡ suc (at + 1) = omega arith in
    rw (i, low_first-more n (at + 1) byte bytes)

low_first-drop : (n at k : ℕ) (bytes : List ℕ) → low_first n (drop at bytes) k ≡ low_first n bytes (at + k)
unfolding low_first
low_first-drop zero at k bytes = refl
low_first-drop (suc n) at k bytes =
    let i : at + (k + 1) ≡ at + k + 1 = omega arith in
    rw (get_or-drop at bytes k 0, low_first-drop n at (k + 1) bytes, i)

-- the last bytes, fewer than eight: where one is left the number has room for it
pub last_room : (left read bytes : List ℕ) (at : ℕ) → Bytes read → 0 < length left → left ++ read ≡ drop at bytes → length bytes < at + 8
    → low_first (length read) read 0 < 2 ^ 48
last_room left read bytes at b one e h =
    let all : length left + length read ≡ length bytes - at = sym (length-append left read) ∙ ap length e ∙ length-drop at bytes in
    let few : 8 * length read ≤ 48 = omega arith in
    omega (arith, low_first-lt read b (length read) 0, pow_mono few)

pub last_low : (bytes rest : List ℕ) (at : ℕ) → rest ≡ drop at bytes → length bytes < at + 8 → low_first (length rest) rest 0 ≡ low_first 8 bytes at
last_low bytes rest at e h =
    let few : length rest ≤ 8 = rw e (rw length-drop (omega arith)) in
    let whole : length rest + (8 - length rest) ≡ 8 = omega arith in
    let here : at + 0 ≡ at = omega arith in
    let on = low_first-drop 8 at 0 bytes in
    sym (rw whole at (low_first_past (length rest) (8 - length rest) rest 0 (omega arith))) ∙ (rw (← e, here) at on)

pub from_none : (order x p : ℕ) → x < 2 ^ 64 → 64 ≤ p → from_bit order x p ≡ 0
unfolding from_bit
from_none zero x p h l =
    let i : p ≡ (p - 64) + 64 = omega arith in
    rw (i, pow-add, ← mul_assoc) (mul-mod_left (reversed 8 x * 2 ^ (p - 64)) (2 ^ 64))
from_none (suc order) x p h l = div-eq_of_lt (omega (arith, pow_mono l))

pub ones_none : (order : ℕ) → ones_of order 0 ≡ 0
unfolding ones_of
ones_none zero = refl
ones_none (suc order) = refl

pub ones_little : (order s : ℕ) → order ≢ 0 → s ≤ 64 → ones_of order s ≡ 18446744073709551615 / 2 ^ (64 - s)
unfolding ones_of
ones_little zero s d h = absurd (d refl)
ones_little (suc order) s d h =
    let e : s + (64 - s) ≡ 64 = omega arith in
    let split : 18446744073709551615 ≡ (2 ^ s - 1) * 2 ^ (64 - s) + (2 ^ (64 - s) - 1) = rw e at (ones_split s (64 - s)) in
    rw split (sym (high (2 ^ s - 1) (64 - s) (ones_lt (64 - s))))

pub ones_big : (s : ℕ) → s ≤ 64 → ones_of 0 s ≡ 18446744073709551615 * 2 ^ (64 - s) % 2 ^ 64
unfolding ones_of
ones_big s h =
    let e : 64 - s + s ≡ 64 = omega arith in
    let split : 18446744073709551615 ≡ (2 ^ (64 - s) - 1) * 2 ^ s + (2 ^ s - 1) = rw e at (ones_split (64 - s) s) in
    let whole : 2 ^ s * 2 ^ (64 - s) ≡ 2 ^ 64 = (let i : s + (64 - s) ≡ 64 = omega arith in rw i at (sym (pow-add 2 s (64 - s)))) in
    rw (split, add-mul, mul_assoc, whole) (sym (low (2 ^ (64 - s) - 1) 64 (unfold ones_of in ones_of-lt 0 s h)))
