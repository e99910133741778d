-- The search by its looks: "the middle row first, and the half that remains is searched by the same rule."
use Rattle.std.specs.Prelude.{◌≡◌, List, ◌⊎◌, ℕ, suc, ◌+◌, ◌^◌, ◌≤◌, ◌<◌}
use Rattle.records.specs.declared.record.Id.{Id}
use Rattle.records.specs.Ids.{key_of}
use Rattle.reception.specs.declared.lookup.Found.TheVariants.{At, Nothing}
use Rattle.area.specs.Layout.{key_at, first_row, row_count}
use Rattle.reception.specs.Lookup.{look_in, looked_up}

-- a row is the middle one if as many stand before it as after it, or one more
abbrev pub Middle : ℕ → ℕ → Type 0
Middle before after = (before ≡ after) ⊎ (before ≡ after + 1)

-- how many of n rows stand before their middle one, and how many after it
pub record Halves (n : ℕ) : Type 0 where
  pub before : ℕ
  pub after : ℕ
  pub all : before + 1 + after ≡ n
  pub middle : Middle before after

-- of a node's rows, which begin at row `first`, so many as `place` says are left behind: one look, at the row behind b more, and then those b rows or the c
-- rows after it, with a look less
pub record Looks (looks : ℕ) (area : List ℕ) (first place b c key : ℕ) : Type 0 where
  pub hit : key_at area (first + place + b) ≡ key → look_in (suc looks) area first place (b + 1 + c) key ≡ At (record { 0 = first + place + b })
  pub below : key < key_at area (first + place + b) → look_in (suc looks) area first place (b + 1 + c) key ≡ look_in looks area first place b key
  pub above : key_at area (first + place + b) < key
      → look_in (suc looks) area first place (b + 1 + c) key ≡ look_in looks area first (place + b + 1) c key

pub record SearchByLooks : Type 0 where
  -- with no look nothing is found, nor where no row remains; the place is how many are left behind
  pub none : (area : List ℕ) (first place n key : ℕ) → look_in 0 area first place n key ≡ Nothing place
  pub empty : (looks : ℕ) (area : List ℕ) (first place key : ℕ) → look_in looks area first place 0 key ≡ Nothing place
  -- any other rows have a middle one
  pub halves : (n : ℕ) → 0 < n → Halves n
  pub half : (looks : ℕ) (area : List ℕ) (first place b c key : ℕ) → Middle b c → Looks looks area first place b c key
  -- k looks suffice for fewer than 2 ^ k rows: more find no more
  pub suffice : (k m : ℕ) (area : List ℕ) (first place n key : ℕ) → n < 2 ^ k → k ≤ m → look_in m area first place n key ≡ look_in k area first place n key
  -- among them as many looks as there are rows, and one
  pub each : (k : ℕ) (area : List ℕ) (first place n key : ℕ) → n < 2 ^ k → look_in (n + 1) area first place n key ≡ look_in k area first place n key
  -- so for a node's rows, of which no area says that they are 512 or more, nine do
  pub nine : (area : List ℕ) (node : ℕ) (id : Id) → looked_up area node id ≡ look_in 9 area (first_row area node) 0 (row_count area node) (key_of id)
