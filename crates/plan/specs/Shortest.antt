-- How long an area must be for a plan: "10: the plan is good and the area is shorter than 32,768 bytes".
use Rattle.std.specs.Prelude.{ℕ}

-- the shortest area that any good plan can be opened in
abbrev pub shortest_area : ℕ
shortest_area = 32768
