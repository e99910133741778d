-- "Bench program and a full listing": document 01's plan and events as the program reads them, and its thirteen lines.
use Rattle.std.specs.Prelude.{ℕ, ◌≡◌, List, [], ◌∷◌, ◌++◌}
use Rattle.facts.specs.PlanCases.{listing}
use Rattle.text.specs.Text.{ascii}
use Rattle.listing.specs.Output.{model_output}

-- a reception on node 0 that has one data byte or none, 2C
abbrev reception : ℕ → ℕ → ℕ → List ℕ
reception low size byte = 16 ∷ 0 ∷ 0x00 ∷ low ∷ size ∷ byte ∷ 0 ∷ 0 ∷ 0 ∷ 0 ∷ 0 ∷ 0 ∷ 0 ∷ []

abbrev tick : List ℕ
tick = 17 ∷ []

abbrev take : List ℕ
take = 18 ∷ 0 ∷ []

-- "Events: take 0; reception 0, ID 0020, one byte 2C; take 0; tick; tick; tick; take 0; tick; the same reception; take 0; receptions on node 0:
-- ID 0021, one byte 2C; ID 0020, no bytes."
abbrev pub events : List ℕ
events =
    take ++ reception 0x20 1 0x2C ++ take ++ tick ++ tick ++ tick ++ take ++ tick ++ reception 0x20 1 0x2C ++ take ++ reception 0x21 1 0x2C
    ++ reception 0x20 0 0

abbrev pub input : List ℕ
input = 0 ∷ 39 ∷ listing ++ events

abbrev pub text : List ℕ
text =
    ascii "plan ok 1 1 1\n"
    ++ ascii "take none\n"
    ++ ascii "rx 0\n"
    ++ ascii "take 0 256 2 02c0 0\n"
    ++ ascii "tick 0\n"
    ++ ascii "tick 1\n"
    ++ ascii "tick 0\n"
    ++ ascii "take 0 256 2 02c1 0\n"
    ++ ascii "tick 2\n"
    ++ ascii "rx 0\n"
    ++ ascii "take none\n"
    ++ ascii "rx 1 1\n"
    ++ ascii "rx 2\n"

abbrev pub ListingHolds : Type 0
ListingHolds = model_output input ≡ text
