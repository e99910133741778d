-- What event records ask for, wherever they stand, with nothing or a broken record behind them.
use mathlib.Core.Path.{◌≡◌, refl, ap}
use mathlib.Core.Bool.{true}
use mathlib.Core.List.{List, [], ◌∷◌, ◌++◌, append_assoc}
use Prim.Native.Nat.{ℕ, zero, suc, ◌+◌, ◌/◌, ◌%◌, ◌≤◌, ◌<◌}
use native.Mathlib.Omega.{arith}
use lib.ListN.{length, length-append}
use Rattle.facts.specs.Good.{Each}
use Rattle.events.specs.Events.{event_size}
use Rattle.events.proofs.EventLaws.{event_end}
use Rattle.model.specs.Calls as calls
use Rattle.model.specs.Calls.{Step}
use Rattle.listing.specs.Asked.{Asked, nothing, first, asked_by, asked_in}
use Rattle.listing.specs.Input.{Entry, reception, tick, take, response, no_response, reception_of, bytes_of, Whole, all_bytes, Broken, step_of, steps_of}
use Rattle.listing.proofs.EntryLaws.{event_of, entry_read, payload_read, reception_length, reception_payload, broken_read}

abbrev pub bad : Asked
bad = record { steps = []; bad = true }

-- some steps before the rest
abbrev pub then : List Step → Asked → Asked
then steps rest = record { steps = steps ++ rest.steps; bad = rest.bad }

one_asked : (e : Entry) (xs ys : List ℕ) (rx : ℕ) (rest : Asked) → Whole e
    → asked_by (event_of e) (xs ++ (bytes_of e ++ ys)) (length xs) rx rest ≡ then (step_of rx e ∷ []) rest
unfolding asked_by event_of bytes_of step_of Whole
one_asked (reception node id size bytes) xs ys rx rest w =
    ap (λ (p : List ℕ). first (calls.reception node id p) rest) (reception_payload node id size bytes xs ys w)
one_asked tick xs ys rx rest w = refl
one_asked (take node) xs ys rx rest w = refl
one_asked (response node id size bytes sum) xs ys rx rest w =
    rw (append_assoc bytes (sum ∷ []) ys)
    (ap (λ (p : List ℕ). first (calls.response node id p sum) rest) (payload_read (20 ∷ node ∷ id / 256 ∷ id % 256 ∷ []) size bytes xs (sum ∷ ys) w))
one_asked (no_response node id) xs ys rx rest w = refl

-- the next record begins behind this one
moved : (e : Entry) (xs : List ℕ) → Whole e → length xs + event_size (event_of e) ≡ length (xs ++ bytes_of e)
unfolding event_size event_of bytes_of Whole
moved (reception node id size bytes) xs w =
    let front = reception_of node id in
    omega (arith, length-append xs (front ++ size ∷ bytes), length-append front (size ∷ bytes), reception_length node id)
moved tick xs w = omega (arith, length-append xs (17 ∷ []))
moved (take node) xs w = omega (arith, length-append xs (18 ∷ node ∷ []))
moved (response node id size bytes sum) xs w =
    omega (arith, length-append xs (20 ∷ node ∷ id / 256 ∷ id % 256 ∷ size ∷ (bytes ++ sum ∷ [])), length-append bytes (sum ∷ []))
moved (no_response node id) xs w = omega (arith, length-append xs (21 ∷ node ∷ id / 256 ∷ id % 256 ∷ []))

some : (e : Entry) → 0 < length (bytes_of e)
unfolding bytes_of
some (reception node id size bytes) = omega (arith, length-append (reception_of node id) (size ∷ bytes))
some tick = omega arith
some (take node) = omega arith
some (response node id size bytes sum) = omega arith
some (no_response node id) = omega arith

-- what a tail asks for, whatever stands before it
abbrev pub Ends : List ℕ → ℕ → Asked → Type 0
Ends tail rx last = (bound : ℕ) (xs : List ℕ) → length tail ≤ bound → asked_in bound (xs ++ tail) (length xs) rx ≡ last

pub read : (es : List Entry) (bound : ℕ) (xs tail : List ℕ) (rx : ℕ) (last : Asked) → Each Whole es → Ends tail rx last
    → length (all_bytes es ++ tail) ≤ bound → asked_in bound (xs ++ (all_bytes es ++ tail)) (length xs) rx ≡ then (steps_of rx es) last
unfolding all_bytes steps_of Each asked_in
read [] bound xs tail rx last w ends h = ends bound xs h
read (e ∷ es) zero xs tail rx last w ends h =
    absurd (omega (arith, some e, length-append (bytes_of e) (all_bytes es), length-append (bytes_of e ++ all_bytes es) tail))
read (e ∷ es) (suc b) xs tail rx last w ends h =
    let ys = all_bytes es ++ tail in
    let shape : (bytes_of e ++ all_bytes es) ++ tail ≡ bytes_of e ++ ys = append_assoc (bytes_of e) (all_bytes es) tail in
    let shorter : length ys ≤ b = omega (arith, some e, ap (λ (l : List ℕ). length l) shape, length-append (bytes_of e) ys) in
    let more = read es b (xs ++ bytes_of e) tail rx last w.1 ends shorter in
    let again : asked_in b (xs ++ (bytes_of e ++ ys)) (length xs + event_size (event_of e)) rx ≡ then (steps_of rx es) last =
    rw (moved e xs w.0, ← append_assoc xs (bytes_of e) ys) more in
    rw (shape, entry_read e xs ys w.0, again) (one_asked e xs ys rx (then (steps_of rx es) last) w.0)

pub Ends-none : (rx : ℕ) → Ends [] rx nothing
unfolding asked_in asked_by
Ends-none rx zero xs h = refl
Ends-none rx (suc b) xs h = rw (← (event_end (xs ++ []) (length xs) (omega (arith, length-append xs [])))) refl

pub Ends-broken : (tail : List ℕ) (rx : ℕ) → Broken tail → Ends tail rx bad
unfolding asked_in asked_by
Ends-broken tail rx t zero xs h = absurd (omega (arith, ap (λ (l : List ℕ). length l) t.begins))
Ends-broken tail rx t (suc b) xs h =
    rw (t.begins, broken_read t.kind t.rest xs t.reception t.tick t.take t.extended t.response t.no_response) refl
