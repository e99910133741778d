-- Text as ASCII bytes: words, "numbers decimal, payload lower-case hex", and text put into a line.
use Rattle.std.specs.Prelude.{ℕ, zero, suc, ◌+◌, ◌/◌, ◌%◌, ◌≤◌, ◌≡◌, List, [], ◌∷◌, ◌++◌, length, ltb}
use Prim.Native.Char.{code}
use Prim.Native.String.{String, [] as none, ◌∷◌ as ◌then◌}
use Rattle.std.proofs.lemmas.List.Edits.{sets}
use Rattle.base.specs.Pick.{pick}

-- a word's bytes
abbrev pub ascii : String → List ℕ
ascii none = []
ascii (c then word) = code c ∷ ascii word

-- the digit that stands for a number below 16: 0 to 9, then a to f
unfoldable pub glyph : ℕ → ℕ
glyph d = pick (ltb d 10) (48 + d) (87 + d)

-- the decimal digits of a number; the first argument bounds how many are written
unfoldable pub decimal_in : ℕ → ℕ → List ℕ
decimal_in zero n = []
decimal_in (suc bound) n = pick (ltb n 10) (glyph n ∷ []) (decimal_in bound (n / 10) ++ (glyph (n % 10) ∷ []))

-- a bound that suffices. `decimal_one` and `decimal_more` say of it what a reader expects, and nothing else sees the bound.
unfoldable pub decimal : ℕ → List ℕ
decimal n = decimal_in (suc n) n

-- a byte as two lower-case digits
unfoldable pub hex_byte : ℕ → List ℕ
hex_byte b = glyph (b / 16) ∷ glyph (b % 16) ∷ []

-- what is written for each of some bytes, one after the other
unfoldable pub each : (ℕ → List ℕ) → List ℕ → List ℕ
each f [] = []
each f (b ∷ bytes) = f b ++ each f bytes

-- bytes in hex, nothing between them
abbrev pub hex : List ℕ → List ℕ
hex = each hex_byte

-- a space and a number in decimal
unfoldable pub spaced : ℕ → List ℕ
spaced n = 32 ∷ decimal n

-- a line with text stored from a place on, byte after byte; `written_is` says of it what a reader expects
unfoldable pub written : List ℕ → ℕ → List ℕ → List ℕ
written line at text = sets line at text

-- what a function promises that puts text into a line: every byte of the line, and where the text ends
pub record Put (line : List ℕ) (at : ℕ) (text after : List ℕ) (end : ℕ) : Type 0 where
  pub bytes : after ≡ written line at text
  pub ends : end ≡ at + length text
  pub kept : length after ≡ length line

-- and one that writes a whole line: it stands at the buffer's start, and 2,048 bytes are enough for it
abbrev pub LineIs : List ℕ → List ℕ → List ℕ → ℕ → Type 0
LineIs text buffer after end = (Put buffer 0 text after end) × (end ≤ 2048)
