-- Document 01's listing on bytes: the model's, as the area answers as the model does.
use mathlib.Core.Path.{◌≡◌, refl, ap, ◌∙◌}
use mathlib.Core.Bool.{Bool, true, false, false≢true}
use mathlib.Core.List.{List, [], ◌∷◌}
use Prim.Native.Nat.{ℕ, zero, suc, ◌<◌}
use native.Mathlib.Omega.{arith}
use lib.Dec.{ltb}
use lib.ListN.{get_or, drop}
use borrow.Author.Tests.{ltb-true}
use Rattle.std.specs.Prelude.{Ok}
use Rattle.base.specs.Numbers.{Bytes}
use Rattle.base.specs.Pick.{pick}
use Rattle.base.proofs.Picks.{cases}
use Rattle.plan.specs.Shortest.{shortest_area}
use Rattle.facts.specs.Good.{Each}
use Rattle.facts.specs.PlanCases.{listing}
use Rattle.model.specs.Calls.{closed, opening, Reply, opened, the_model, reply_of, replies}
use Rattle.model.specs.Rules.{OfBytes}
use Rattle.model.specs.Listing.{steps}
use Rattle.model.proofs.Listing.{listing_answered}
use Rattle.history.specs.Calls.{reply_in, replies_in, after_in}
use Rattle.refines.specs.Listing.{ListingOnBytes}
use Rattle.refines.proofs.All.{as_the_model}

-- ---- the listing's plan is a list of bytes

unfoldable pub small : List ℕ → Bool
small [] = true
small (x ∷ xs) = pick (ltb x 256) (small xs) false

pub small_bytes : (xs : List ℕ) → small xs ≡ true → Bytes xs
unfolding small
small_bytes [] e i = omega arith
small_bytes (x ∷ xs) e i =
    cases (λ b. b ≡ true → get_or (x ∷ xs) i 0 < 256) (ltb x 256) _ _ (λ l f. go i (ltb-true x 256 l) (small_bytes xs f))
    (λ l f. absurd (false≢true f)) e
  where
    go : (i : ℕ) → x < 256 → Bytes xs → get_or (x ∷ xs) i 0 < 256
    go zero l more = l
    go (suc i) l more = more i

listing_bytes : Bytes listing
listing_bytes = small_bytes listing (unfold small pick in refl)

-- ---- the opening, and then the rest

head_of : List Reply → Reply → Reply
head_of [] d = d
head_of (x ∷ xs) d = x

opens : reply_of (the_model shortest_area) closed (opening listing) ≡ opened (Ok (record { nodes = 1; tx = 1; rx = 1 }))
unfolding replies head_of
opens = ap (λ xs. head_of xs (opened (Ok (record { nodes = 1; tx = 1; rx = 1 })))) listing_answered

calls_bytes : Each OfBytes (drop 1 steps)
unfolding Each OfBytes
calls_bytes = (tt, (tt, (tt, (tt, (tt, (tt, (tt, (tt, (tt, (tt, (tt, (tt, tt))))))))))))

pub listing_on_bytes : ListingOnBytes
unfolding after_in replies_in
listing_on_bytes a e =
    let f : reply_in a (opening listing) ≡ opened (Ok (record { nodes = 1; tx = 1; rx = 1 })) = (rw e at (as_the_model.openings a [] listing closed)) ∙ opens in
    let x = (as_the_model.since a [] listing 1 1 1 f listing_bytes (drop 1 steps) calls_bytes).replies in
    (rw e at x) ∙ listing_answered
