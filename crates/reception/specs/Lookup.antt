-- "Lookup searches that node's rows only, as 001 does: the middle row first, and the half that remains is searched by the same rule." "A lookup that
-- finds nothing should say how many of that node's rows have a smaller ID" (document 02, Ticket 4): those that the search left behind.
use Rattle.std.specs.Prelude.{ℕ, zero, suc, ◌+◌, ◌-◌, ◌/◌, List, Result, Ok, Err, eqb, ltb}
use Rattle.base.specs.Pick.{pick}
use Rattle.records.specs.declared.record.Id.{Id}
use Rattle.records.specs.Ids.{key_of}
use Rattle.area.specs.Layout.{first_row, row_count, key_at}
use Rattle.reception.specs.declared.lookup.Found.{Found}
use Rattle.reception.specs.declared.lookup.Found.TheVariants.{At, Nothing}

-- one look, where of a node's rows, which begin at row `first`, so many as `place` says are left behind and n remain: at the middle of these. `half`
-- goes on with so many left behind, and so many remaining
unfoldable pub look_once : (ℕ → ℕ → Found) → List ℕ → ℕ → ℕ → ℕ → ℕ → Found
look_once half a first place n key =
    pick (eqb n 0) (Nothing place)
    (pick (eqb (key_at a (first + place + n / 2)) key) (At (record { 0 = first + place + n / 2 }))
    (pick (ltb key (key_at a (first + place + n / 2)))
    (half place (n / 2))
    (half (place + n / 2 + 1) (n - n / 2 - 1))))

-- with at most so many looks; as many as there are rows suffice
unfoldable pub look_in : ℕ → List ℕ → ℕ → ℕ → ℕ → ℕ → Found
look_in zero a first place n key = Nothing place
look_in (suc looks) a first place n key = look_once (λ left remaining. look_in looks a first left remaining key) a first place n key

-- "that node's rows only"
unfoldable pub looked_up : List ℕ → ℕ → Id → Found
looked_up a n id = look_in (row_count a n + 1) a (first_row a n) 0 (row_count a n) (key_of id)

-- the row whose number the search answers, or else the place
unfoldable pub found_of : Result ℕ ℕ → Found
found_of (Ok r) = At (record { 0 = r })
found_of (Err place) = Nothing place

unfoldable pub place_in : Found → ℕ
place_in (At x) = 0
place_in (Nothing place) = place
