-- "29-bit identifiers from the bridge" (document 02, Ticket 6): an ID is a number with its format. "ID 32 in one format is not ID 32 in the other."
use Rattle.std.specs.Prelude.{ℕ, ◌+◌, ◌≤◌, ◌<◌, Bool, true, false, ltb, eqb}
use Rattle.base.specs.Numbers.{at_most}
use Rattle.records.specs.declared.record.Id.{Id}
use Rattle.records.specs.declared.record.Id.TheVariants.{Standard, Extended}

-- the number alone, which is the whole ID where there is one format only, as on a LIN node
unfoldable pub plain_id : Id → ℕ
plain_id (Standard n) = n
plain_id (Extended n) = n

-- how many bytes a record has before its fields behind the ID: its kind, its node, and an ID of two bytes, or of four
unfoldable pub behind_id : Id → ℕ
behind_id (Standard n) = 4
behind_id (Extended n) = 6

-- "Within a node 11-bit rows come before 29-bit ones, each in ascending order"
unfoldable pub Before : Id → Id → Type 0
Before (Standard m) (Standard n) = m < n
Before (Standard m) (Extended n) = Unit {0}
Before (Extended m) (Standard n) = ⊥
Before (Extended m) (Extended n) = m < n

-- an ID that a plan can have: "ID 0–2047"; "a four-byte ID, 0 to 536,870,911"
unfoldable pub Possible : Id → Type 0
Possible (Standard n) = n ≤ 2047
Possible (Extended n) = n ≤ 536870911

-- the same as tests: one ID is another, or comes before it
unfoldable pub same_id : Id → Id → Bool
same_id (Standard m) (Standard n) = eqb m n
same_id (Standard m) (Extended n) = false
same_id (Extended m) (Standard n) = false
same_id (Extended m) (Extended n) = eqb m n

unfoldable pub is_before : Id → Id → Bool
is_before (Standard m) (Standard n) = ltb m n
is_before (Standard m) (Extended n) = true
is_before (Extended m) (Standard n) = false
is_before (Extended m) (Extended n) = ltb m n

-- ---- one number for both, by which rows are ordered and searched: the format is its highest bit, as in a SocketCAN identifier

abbrev pub format_bit : ℕ
format_bit = 2147483648

-- the largest number that stands below the format
abbrev pub last_number : ℕ
last_number = 2147483647

-- a number that no ID has, and that would reach the format, stands with the last below it
unfoldable pub key_of : Id → ℕ
key_of (Standard n) = at_most last_number n
key_of (Extended n) = format_bit + at_most last_number n
