-- The key of an ID, in numbers. "ID 32 in one format is not ID 32 in the other. Within a node 11-bit rows come before 29-bit ones, each in ascending
-- order" (document 02, Ticket 6).
use Rattle.std.specs.Prelude.{◌≡◌, ◌↔◌, ℕ, ◌≤◌, ◌<◌}
use Rattle.records.specs.declared.record.Id.{Id}
use Rattle.records.specs.declared.record.Id.TheVariants.{Standard, Extended}
use Rattle.records.specs.Ids.{key_of}

-- of an ID that a plan can have, and any other that a caller can name
pub record KeysInOrder : Type 0 where
  -- "each in ascending order"
  pub standard : (m n : ℕ) → m ≤ 2047 → (key_of (Standard m) < key_of (Standard n)) ↔ (m < n)
  pub extended : (m n : ℕ) → m ≤ 536870911 → (key_of (Extended m) < key_of (Extended n)) ↔ (m < n)
  -- "11-bit rows come before 29-bit ones"
  pub formats : (m n : ℕ) → key_of (Standard m) < key_of (Extended n)
  -- no other ID has its key
  pub one_standard : (m : ℕ) (other : Id) → m ≤ 2047 → key_of (Standard m) ≡ key_of other → Standard m ≡ other
  pub one_extended : (m : ℕ) (other : Id) → m ≤ 536870911 → key_of (Extended m) ≡ key_of other → Extended m ≡ other
  -- a key has four bytes
  pub four : (id : Id) → key_of id < 4294967296
