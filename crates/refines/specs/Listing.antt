-- Document 01's listing, answered by the bytes of an area.
use Rattle.std.specs.Prelude.{◌≡◌, List, ℕ, length}
use Rattle.model.specs.Listing.{steps, told}
use Rattle.history.specs.Calls.{replies_in}

-- whatever stood in the area before
abbrev pub ListingOnBytes : Type 0
ListingOnBytes = (a : List ℕ) → length a ≡ 32768 → replies_in a steps ≡ told
