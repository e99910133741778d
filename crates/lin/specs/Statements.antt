-- The protected identifier and the checksum by numbers, and what the checksum is worth.
use Rattle.std.specs.Prelude.{◌≡◌, ◌≢◌, ◌↔◌, ◌⊎◌, List, [], ◌∷◌, ◌++◌, ℕ, ◌+◌, ◌/◌, ◌%◌, ◌<◌, ◌≤◌, length}
use Rattle.base.specs.Numbers.{byte_at, Bytes}
use Rattle.lin.specs.Identifier.{protected_of}
use Rattle.lin.specs.Checksum.{folded, inverted, checksum_of}

pub record ParityBits : Type 0 where
  -- a protected identifier is a byte above 0, and its low six bits are the ID's
  pub byte : (id : ℕ) → protected_of id < 256
  pub above : (id : ℕ) → 0 < protected_of id
  pub low : (id : ℕ) → protected_of id % 64 ≡ id % 64
  -- "bit 6 is the exclusive or of ID bits 0, 1, 2 and 4": of these five bits an even number is set
  pub six : (id : ℕ) → (protected_of id / 64 + (id + id / 2 + id / 4 + id / 16)) % 2 ≡ 0
  -- "bit 7 the inverse of that of bits 1, 3, 4 and 5": of these five bits an odd number is set
  pub seven : (id : ℕ) → (protected_of id / 128 + (id / 2 + id / 8 + id / 16 + id / 32)) % 2 ≡ 1

-- the first three IDs, and the two of diagnostic frames
abbrev pub KnownIdentifiers : Type 0
KnownIdentifiers =
    (protected_of 0x00 ≡ 0x80)
    × (protected_of 0x01 ≡ 0xc1)
    × (protected_of 0x02 ≡ 0x42)
    × (protected_of 0x3c ≡ 0x3c)
    × (protected_of 0x3d ≡ 0x7d)

-- "For folding and inverting alone, 4A 55 93 E5 gives E6."; and so where the first of them is the protected identifier
abbrev pub KnownChecksum : Type 0
KnownChecksum = (inverted (folded (0x4a ∷ 0x55 ∷ 0x93 ∷ 0xe5 ∷ [])) ≡ 0xe6) × (checksum_of 0x4a (0x55 ∷ 0x93 ∷ 0xe5 ∷ []) ≡ 0xe6)

-- the sum of bytes with no carry folded
unfoldable pub plain_sum : List ℕ → ℕ
plain_sum [] = 0
plain_sum (byte ∷ bytes) = byte + plain_sum bytes

-- what folding makes of a sum: 0 of 0, and of any other the number from 1 to 255 that leaves the same remainder by 255
abbrev pub Folds : ℕ → ℕ → Type 0
Folds sum n = ((sum ≡ 0) × (n ≡ 0)) ⊎ ((0 < sum) × (0 < n) × (n ≤ 255) × (n % 255 ≡ sum % 255))

-- "the carry-folded byte sum"
abbrev pub FoldedSum : Type 0
FoldedSum = (bytes : List ℕ) → Bytes bytes → (n : ℕ) → (folded bytes ≡ n) ↔ Folds (plain_sum bytes) n

pub record Appended : Type 0 where
  -- the checksum is a byte
  pub byte : (protected : ℕ) (bytes : List ℕ) → checksum_of protected bytes < 256
  -- put behind protected identifier and data, it makes the folded sum FF
  pub sum : (protected : ℕ) (bytes : List ℕ) → protected < 256 → Bytes bytes
      → folded ((protected ∷ bytes) ++ checksum_of protected bytes ∷ []) ≡ 0xff
  -- where the identifier is an ID's, no other byte below FF does
  pub only : (id n : ℕ) (bytes : List ℕ) → Bytes bytes → n < 0xff → folded ((protected_of id ∷ bytes) ++ n ∷ []) ≡ 0xff
      → n ≡ checksum_of (protected_of id) bytes

pub record SameChecksum : Type 0 where
  -- Two data with one identifier have the same checksum exactly if their sums differ by a multiple of 255, and both sums with it are 0 or none.
  pub any : (protected : ℕ) (a b : List ℕ) → protected < 256 → Bytes a → Bytes b
      → (checksum_of protected a ≡ checksum_of protected b)
      ↔ ((plain_sum a % 255 ≡ plain_sum b % 255) × ((protected + plain_sum a ≡ 0) ↔ (protected + plain_sum b ≡ 0)))
  -- With the protected identifier of an ID the sum is never 0,
  pub above : (id : ℕ) (bytes : List ℕ) → Bytes bytes → 0 < folded (protected_of id ∷ bytes)
  -- so they have the same checksum exactly if their sums differ by a multiple of 255.
  pub identified : (id : ℕ) (a b : List ℕ) → Bytes a → Bytes b
      → (checksum_of (protected_of id) a ≡ checksum_of (protected_of id) b) ↔ (plain_sum a % 255 ≡ plain_sum b % 255)

-- A changed byte is found unless it changes the sum by a multiple of 255: two data that are the same but at one place have the same checksum exactly
-- if they are the same there too, or 00 stands against FF.
abbrev pub ChangedByteFound : Type 0
ChangedByteFound =
    (id i : ℕ) (a b : List ℕ) → Bytes a → Bytes b → length a ≡ length b → ((k : ℕ) → k ≢ i → byte_at a k ≡ byte_at b k)
    → (checksum_of (protected_of id) a ≡ checksum_of (protected_of id) b)
    ↔ ((byte_at a i ≡ byte_at b i) ⊎ ((byte_at a i ≡ 0x00) × (byte_at b i ≡ 0xff)) ⊎ ((byte_at a i ≡ 0xff) × (byte_at b i ≡ 0x00)))
